use Rattle.std.proofs.Common.{arith, ◌+◌, ◌≤◌, ◌<◌, length}
use Rattle.imap_query.specs.Hits.{last_number}
use Rattle.imap_query.proofs.HitLemmas.{rising_count}
use Rattle.imap_query.proofs.search_command.count_of.Goals as goal

pub unreachable-requires : goal.unreachable-requires
unreachable-requires c =
    let few : 0 + length c.args.hits.now ≤ last_number 0 c.args.hits.now = rising_count 0 c.args.hits.now c.requires in
    let last : last_number 0 c.args.hits.now < 4294967296 = omega (arith, c.last_number-last.ensures) in
    c.in-Err.ensures {u = tt} (omega arith)
