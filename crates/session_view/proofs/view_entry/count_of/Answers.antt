use Rattle.std.proofs.Common.{arith, ◌+◌, ◌≤◌, length, ◌<◌}
use Rattle.session_view.specs.Views.{last_uid}
use Rattle.session_view.proofs.SyncLemmas.{rising_count}
use Rattle.session_view.proofs.view_entry.count_of.Goals as goal

pub unreachable-requires : goal.unreachable-requires
unreachable-requires c =
    let few : 0 + length c.args.view.now.items ≤ last_uid c.args.view.now.items = rising_count 0 c.args.view.now.items c.requires in
    let last : last_uid c.args.view.now.items < 4294967296 = omega arith in
    c.in-Err.ensures {u = tt} (omega arith)
