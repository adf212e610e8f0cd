use Rattle.std.proofs.Common.{arith, ◌+◌, ◌≤◌, length}
use Rattle.mailbox_rows.specs.RowViews.{last_uid}
use Rattle.mailbox_rows.proofs.WindowLemmas.{length_of_rising}
use Rattle.mailbox_rows.proofs.listing_rows.Rows.count.Goals as goal

pub unreachable-requires : goal.unreachable-requires
unreachable-requires c =
    let few : 0 + length c.args.self.now ≤ last_uid 0 c.args.self.now = length_of_rising 0 c.args.self.now c.len-len.ensures.rising in
    c.in-Err.ensures {u = tt} (omega (arith, few, c.len-len.ensures.len, c.last_uid-last.ensures, c.last_uid-last.type_inv))
