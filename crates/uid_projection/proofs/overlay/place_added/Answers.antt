use Rattle.std.proofs.Common.{inl, inr, arith, subst}
use Rattle.std.proofs.lemmas.List.{take_all}
use Rattle.merge_laws.specs.Orders.{IsIn}
use Rattle.uid_projection.specs.TagChanges.{IsPlaced, IsAdded, tag_data_of}
use Rattle.uid_projection.proofs.IdLemmas.{in_take_next}
use Rattle.uid_projection.proofs.PlaceLemmas.{placed_twice}
use Rattle.uid_projection.proofs.overlay.place_added.Goals as goal

pub loop-id-preserved : goal.loop-id-preserved
loop-id-preserved c =
    placed_twice (tag_data_of c.args.messages.now) c.args.origin.now _ _ _ _ c.loop-id.versions.items _
    (λ i r. elim (in_take_next i c.args.ids.now c.loop-id.id-index c.id-item.result c.loop-id-test.true c.id-item.is r.1) [ inl t ↦ inl (r.0, t) | inr e ↦ inr (r.0, e) ])
    c.loop-id.invariant (c.in_ok-place_one.ensures {u = tt})

pub returns : goal.returns
returns c = subst (λ ids. IsPlaced (tag_data_of c.args.messages.now) c.args.origin.now (λ i. IsAdded c.args.messages.now c.args.origin.now i × IsIn i ids) c.args.versions.now.items c.loop-id.versions.items) (take_all c.loop-id.id-index c.args.ids.now (omega arith)) c.loop-id.invariant
