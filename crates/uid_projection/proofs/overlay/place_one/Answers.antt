use Rattle.uid_projection.specs.TagChanges.{tag_data_of}
use Rattle.uid_projection.proofs.IdLemmas.{on_ok_with}
use Rattle.uid_projection.proofs.PlaceLemmas.{placed_one, right_with}
use Rattle.uid_projection.proofs.overlay.place_one.Goals as goal

pub returns-in_ok-flags-in-Some : goal.returns-in_ok-flags-in-Some
returns-in_ok-flags-in-Some c = on_ok_with c.place.result (λ e. placed_one (tag_data_of c.args.messages.now) c.args.origin.now _ (record { id = c.args.id.now; flags = c.in_ok-flags-in-Some.flags }) _ _ e (right_with _ _ _ _ (c.in-Some.ensures {u = tt}) (c.in_ok-flags-in-Some.ensures {u = tt})) (λ i p. p.1)) c.place.ensures
