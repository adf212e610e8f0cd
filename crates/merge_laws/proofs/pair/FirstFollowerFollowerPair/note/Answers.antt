use Rattle.std.proofs.Common.{◌≡◌, List, [], ◌∷◌, ◌++◌, ap, ◌∙◌}
use Rattle.merge_laws.specs.Orders.{fold_of}
use Rattle.merge_laws.proofs.Pairs.{fold_pair}
use Rattle.merge_laws.proofs.pair.FirstFollowerFollowerPair.note.Goals as goal

pub note-requires : goal.note-requires
note-requires g c =
    let a = g.A.Replicated in
    let b = g.B.Replicated in
    let (list, h, k, d, m) = c.requires in
    (list, h, k, d, ap (λ p. p.0) (m ∙ fold_pair a.effect b.effect a.initial b.initial (list ++ c.args.op.now ∷ [])))

pub returns-clause-follows : goal.returns-clause-follows
returns-clause-follows g c = λ list h k d m.
    let a = g.A.Replicated in
    let b = g.B.Replicated in
    c.note.ensures.follows list h k d (ap (λ p. p.0) (m ∙ fold_pair a.effect b.effect a.initial b.initial (list ++ c.args.op.now ∷ [])))

pub returns-clause-others : goal.returns-clause-others
returns-clause-others g c = λ list rest h k d m.
    let a = g.A.Replicated in
    let b = g.B.Replicated in
    c.note.ensures.others list rest h k d (ap (λ p. p.0) (m ∙ fold_pair a.effect b.effect a.initial b.initial (list ++ c.args.op.now ∷ [])))
