use Rattle.std.proofs.Common.{◌≤◌, min, ap, ◌∙◌, arith}
use Rattle.uid_projection.specs.UidsAndModSeqs.{highest_modseq_of}
use Rattle.uid_projection.proofs.LaterNumbers.{highest_within}
use Rattle.uid_projection.proofs.charts.Charts.highest_after.Goals as goal

pub returns-clause-after : goal.returns-clause-after
returns-clause-after c = λ list f m a.
    c.modseq_in_64_bits.ensures ∙ ap (λ n. min n 18446744073709551615) (c.highest_after.ensures list a m (c.highest.ensures list f))

pub returns-clause-ready : goal.returns-clause-ready
returns-clause-ready c = λ list f m r.
    let now = c.highest.ensures list f in
    let was : highest_modseq_of c.args.name.now list ≤ 18446744073709551615 = omega (arith, now) in
    let w = highest_within c.args.self.now list c.args.ops.now c.args.name.now f r was in
    returns-clause-after c list f m r.applied ∙ omega (arith, w)
