use Rattle.std.proofs.Common.{ap, ◌∙◌}
use Rattle.merge_laws.proofs.Pairs.{fold_pair, on_ok}
use Rattle.merge_laws.proofs.pair.FirstFollowerFollowerPair.ready.Goals as goal

pub returns-clause-exhausted : goal.returns-clause-exhausted
returns-clause-exhausted g c = λ list h d m.
    let a = g.A.Replicated in
    let b = g.B.Replicated in
    c.ready.ensures.exhausted list h d (ap (λ p. p.0) (m ∙ fold_pair a.effect b.effect a.initial b.initial list))

pub returns-clause-ready : goal.returns-clause-ready
returns-clause-ready g c = on_ok c.ready.result (λ r list h d m.
    let a = g.A.Replicated in
    let b = g.B.Replicated in
    r list h d (ap (λ p. p.0) (m ∙ fold_pair a.effect b.effect a.initial b.initial list))) c.ready.ensures.ready
