use Rattle.std.proofs.Common.{ap, sym, subst, ◌∙◌}
use Rattle.std.specs.Option.{option_map}
use Rattle.merge_laws.specs.Orders.{IsIn}
use Rattle.uid_projection.specs.TagChanges.{IsPlaced, IsAdded, tag_data_of, ids_listed}
use Rattle.uid_projection.proofs.IdLemmas.{on_ok_with}
use Rattle.uid_projection.proofs.overlay.place_listed.Goals as goal

pub returns-in-Some : goal.returns-in-Some
returns-in-Some c =
    on_ok_with c.place_added.result
    (subst (λ ids. IsPlaced (tag_data_of c.args.messages.now) c.args.origin.now (λ i. IsAdded c.args.messages.now c.args.origin.now i × IsIn i ids) c.args.versions.now.items c.place_added.new.versions.items)
    (c.deref.ensures.value ∙ ap (λ x. ids_listed (option_map (λ ids. ids.now) x)) (sym c.in-Some.is)))
    c.place_added.ensures
