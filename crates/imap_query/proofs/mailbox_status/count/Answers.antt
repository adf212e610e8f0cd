use Rattle.std.proofs.Common.{arith}
use Rattle.imap_query.specs.Messages.{is_flagged}
use Rattle.imap_query.proofs.CountLemmas.{counted_from}
use Rattle.imap_query.proofs.mailbox_status.count.Goals as goal

pub loop-place-preserved : goal.loop-place-preserved
loop-place-preserved c =
    let e = counted_from (is_flagged c.args.flag c.args.is_set) c.args.rows.now c.loop-place.place in
    let r = c.count_at-count.ensures.counted in
    let b = c.count_at-count.ensures.bound in
    let i = c.loop-place.invariant.1 in
    let l = c.loop-place.invariant.0 in
    (omega arith, omega (arith, e, r, i))
