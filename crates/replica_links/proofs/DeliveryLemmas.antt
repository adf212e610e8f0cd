use Rattle.std.proofs.Common.{◌≡◌, Bool, true, false, ◌||◌, List, [], ◌∷◌, ◌++◌, refl, sym, ap, ◌∙◌, subst}
use Rattle.std.proofs.lemmas.List.{map-append}
use Rattle.crdt_ops.specs.declared.op.Op.{Op}
use Rattle.replica_links.specs.Links.{Delivery, AreDeliveries, HasTakenOps, total_intake, joined_intake, complete_intake}
use Rattle.replica_links.specs.declared.took.Took.{Took}

or_false : (a : Bool) → (a || false) ≡ a
or_false true = refl
or_false false = refl

or_assoc : (a b c : Bool) → ((a || b) || c) ≡ (a || (b || c))
or_assoc true b c = refl
or_assoc false b c = refl

-- joining a complete intake to another changes nothing
joined_intake_complete : (one : Took) → joined_intake one complete_intake ≡ one
joined_intake_complete one = λ i. record { lacking = or_false one.lacking i; stalled = or_false one.stalled i }

joined_intake_assoc : (one two three : Took) → joined_intake (joined_intake one two) three ≡ joined_intake one (joined_intake two three)
joined_intake_assoc one two three = λ i. record { lacking = or_assoc one.lacking two.lacking three.lacking i; stalled = or_assoc one.stalled two.stalled three.stalled i }

complete_joined_intake : (one : Took) → joined_intake complete_intake one ≡ one
complete_joined_intake one = refl

total_intake_append : (deliveries : List Delivery) (g : Delivery) → total_intake (deliveries ++ g ∷ []) ≡ joined_intake (total_intake deliveries) g.took
total_intake_append [] g = joined_intake_complete g.took
total_intake_append (f ∷ deliveries) g = ap (joined_intake f.took) (total_intake_append deliveries g) ∙ sym (joined_intake_assoc f.took (total_intake deliveries) g.took)

deliveries_append : {S : Type 0} (takes : S → Op → Took → S → Type 0) (s : S) (deliveries : List Delivery) (q t : S) (g : Delivery) → AreDeliveries takes s deliveries q → takes q g.op g.took t → AreDeliveries takes s (deliveries ++ g ∷ []) t
deliveries_append {S} takes s [] q t g h step = (t, subst (λ (x : S). takes x g.op g.took t) (sym h) step, refl)
deliveries_append {S} takes s (f ∷ deliveries) q t g h step = (h.0, h.1, deliveries_append takes h.0 deliveries q t g h.2 step)

-- nothing was delivered yet
pub takes_none : {S : Type 0} (takes : S → Op → Took → S → Type 0) (s : S) → HasTakenOps takes s [] complete_intake s
takes_none takes s = record { deliveries = []; steps = refl; in_order = refl; total = refl }

-- one further operation was delivered
pub takes_append : {S : Type 0} (takes : S → Op → Took → S → Type 0) (s : S) (ops : List Op) (total : Took) (q : S) (op : Op) (took : Took) (t : S) → HasTakenOps takes s ops total q → takes q op took t → HasTakenOps takes s (ops ++ op ∷ []) (joined_intake total took) t
takes_append {S} takes s ops total q op took t h step =
    let g : Delivery = record { op = op; took = took } in
    record {
      deliveries = h.deliveries ++ g ∷ [];
      steps = deliveries_append takes s h.deliveries q t g h.steps step;
      in_order = map-append (λ (x : Delivery). x.op) h.deliveries (g ∷ []) ∙ ap (λ (x : List Op). x ++ op ∷ []) h.in_order;
      total = ap (λ (x : Took). joined_intake x took) h.total ∙ sym (total_intake_append h.deliveries g);
    }
