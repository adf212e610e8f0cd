use Rattle.std.proofs.Common.{◌≤◌, ◌<◌, arith}
use Rattle.std.proofs.lemmas.Bool.Decides.{nat_tests}
use Rattle.uid_projection.proofs.AheadLemmas.{follows_last, last_follows}
use Rattle.uid_projection.proofs.chart_ahead.can_follow.Goals as goal

pub returns : goal.returns
returns c =
    let a = c.if-uid-eq0.false in
    let b = c.if-uid-eq4294967295.false in
    let f = c.ranges.uid.fits in
    let low : 1 ≤ c.args.uid = grind (arith, nat_tests) in
    let high : c.args.uid < 4294967295 = grind (arith, nat_tests) in
    let es = c.args.entries.now.entries in
    let last = c.is_last_below.ensures in (
      λ t. follows_last c.args.uid es c.prove_ascending.ensures low high (last.0 t),
      λ h. last.1 (last_follows c.args.uid es h.0.beyond),
    )
