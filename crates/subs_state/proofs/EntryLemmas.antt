use Rattle.std.proofs.Common.{◌≡◌, ◌==◌, ◌||◌, ℕ, Bool, true, false, cond, Option, None, Some, List, [], ◌∷◌, length, inl, inr, refl, sym, ap, ◌∙◌, subst, if◌then◌else◌}
use Rattle.std.specs.Global.{Vec}
use Rattle.std.specs.List.{IsDistinct, AllByRecursion, filter_map, list_any}
use Rattle.std.specs.Map.{keys_of}
use Rattle.std.specs.Str.{bytes_eq}
use Rattle.std.proofs.Math.Dec.{eqb-suc-zero}
use Rattle.std.proofs.lemmas.Bool.{cases_Bool, false≢true}
use Rattle.std.proofs.lemmas.Slice.Eq.{bytes_eq-Decides}
use Rattle.imap_types.specs.Ascending.{octet_order}
use Rattle.tags_clocks.specs.declared.id.OpId.{OpId}
use Rattle.tags_clocks.proofs.Decide.{ids_decide}
use Rattle.merge_laws.specs.Orders.{AreSound, IsCausal, IsIn, fold_of}
use Rattle.crdt_ops.specs.declared.op.Op.{Op}
use Rattle.crdt_ops.specs.SortedSets.{IsListOf, id_order, sorted_set, same_id}
use Rattle.crdt_ops.specs.Sets.{subscribed_name, subscribed_names_of, subscription_id, subscription_tags_of}
use Rattle.crdt_ops.specs.Sound.{IsSound}
use Rattle.crdt_ops.specs.Tags.{SubscriptionTag, present_tags}
use Rattle.crdt_ops.proofs.Members.{any_in, in_filter_map}
use Rattle.crdt_ops.proofs.OrderLemmas.{id_order_same, id_order_total, listed_in_order, is_list_of_sorted, names_same, names_total}
use Rattle.crdt_ops.proofs.Presence.{changed, clock_of, id_of, present_after}
use Rattle.crdt_ops.proofs.SetLemmas.{subscribed_in, subscription_tags_in}
use Rattle.subs_state.specs.declared.subs_table.NameTags.{NameTags}
use Rattle.subs_state.specs.Entries.{ids_entry, ids_in, name_with_ids, tag_in}
use Rattle.subs_state.specs.Subscriptions.{IsMadeBy, IsSubscribed, Subscriptions, effect_of, no_subscriptions, subscriptions_by}

abbrev Named : Type 0
Named = Vec ℕ × NameTags

abbrev same_key : Vec ℕ → Vec ℕ → Bool
same_key x y = bytes_eq x.items y.items

-- The look-up of an entry's name gives the entry, since no other has the name.
entry_by_name : (tags : List Named) → IsDistinct same_key (keys_of tags) → (e : Named) → IsIn e tags → ids_entry e.0.items tags ≡ Some e.1
unfolding IsDistinct
entry_by_name [] d e h = absurd h
entry_by_name (x ∷ xs) d e (inl k) =
    ap (λ t. cond t (Some x.1) (ids_entry e.0.items xs)) ((bytes_eq-Decides e.0.items x.0.items).1 (sym (ap (λ (y : Named). y.0.items) k))) ∙ ap (λ (y : Named). Some y.1) k
entry_by_name (x ∷ xs) d e (inr k) =
    ap (λ t. cond t (Some x.1) (ids_entry e.0.items xs)) (other_name xs d.0 k) ∙ entry_by_name xs d.1 e k
  where
    other_name : (ys : List Named) → AllByRecursion (λ (y : Vec ℕ). same_key x.0 y ≡ false) (keys_of ys) → IsIn e ys → bytes_eq e.0.items x.0.items ≡ false
    other_name [] a h = absurd h
    other_name (y ∷ ys) a (inr h) = other_name ys a.1 h
    other_name (y ∷ ys) a (inl h) =
        elim (cases_Bool (bytes_eq e.0.items x.0.items)) [
          | inl t ↦ absurd (false≢true (sym a.0 ∙ (bytes_eq-Decides x.0.items y.0.items).1 (sym ((bytes_eq-Decides e.0.items x.0.items).0 t) ∙ sym (ap (λ (z : Named). z.0.items) h))))
          | inr f ↦ f
        ]

-- A tag is in the entry of its name.
entry_of : (tags : List Named) (n : List ℕ) (i : OpId) → tag_in tags n i ≡ true → (e : Named) × IsIn e tags × (e.0.items ≡ n) × (list_any (same_id i) e.1.ids.keys ≡ true)
entry_of [] n i h = absurd (false≢true h)
entry_of (x ∷ xs) n i h =
    elim (cases_Bool (bytes_eq n x.0.items)) [
      | inl t ↦ (x, inl refl, sym ((bytes_eq-Decides n x.0.items).0 t), sym (ap (λ s. list_any (same_id i) (ids_in (cond s (Some x.1) (ids_entry n xs)))) t) ∙ h)
      | inr f ↦
          let w = entry_of xs n i (sym (ap (λ s. list_any (same_id i) (ids_in (cond s (Some x.1) (ids_entry n xs)))) f) ∙ h) in
          (w.0, inr w.1, w.2, w.3)
    ]

some_ids : (i : OpId) (ids : List OpId) (name : List ℕ) → list_any (same_id i) ids ≡ true → ◌≡◌ {A = Option (List ℕ)} (if length ids == 0 then None else Some name) (Some name)
some_ids i [] name h = absurd (false≢true h)
some_ids i (j ∷ ids) name h = ap (λ t. if t then None else Some name) (eqb-suc-zero (length ids))

id_of_some : (ids : List OpId) (name n : List ℕ) → (if length ids == 0 then None else Some name) ≡ Some n → (name ≡ n) × ((i : OpId) × (list_any (same_id i) ids ≡ true))
id_of_some [] name n h = absurd cc
id_of_some (j ∷ ids) name n h = (let e : Some name ≡ Some n = sym (ap (λ t. if t then None else Some name) (eqb-suc-zero (length ids))) ∙ h in cc, (j, ap (λ t. t || list_any (same_id j) ids) ((ids_decide j j).1 (λ k. j))))

-- the names of the tags
pub names_by_entries : (tags : List Named) (names : List (List ℕ)) → IsDistinct same_key (keys_of tags) → names ≡ sorted_set octet_order (filter_map name_with_ids tags) → IsListOf octet_order (IsSubscribed (tag_in tags)) names
names_by_entries tags names d e =
    is_list_of_sorted names_total names_same (IsSubscribed (tag_in tags)) names (filter_map name_with_ids tags) e (λ n.
    let at = in_filter_map name_with_ids tags n in (
      λ h. let w = entry_of tags n h.0 h.1 in at.1 (w.0, w.1, some_ids h.0 w.0.1.ids.keys w.0.0.items w.3 ∙ ap (λ z. Some z) w.2),
      λ h. let w = at.0 h in
          let s = id_of_some w.0.1.ids.keys w.0.0.items n w.2 in
          (s.1.0, subst (λ (m : List ℕ). tag_in tags m s.1.0 ≡ true) s.0 (ap (λ o. list_any (same_id s.1.0) (ids_in o)) (entry_by_name tags d w.0 w.1) ∙ s.1.1)),
    ))

-- the ids of a name's tags
pub tags_by_entries : (tags : List Named) (n : List ℕ) (ids : List OpId) → ids ≡ sorted_set id_order (ids_in (ids_entry n tags)) → IsListOf id_order (λ i. tag_in tags n i ≡ true) ids
tags_by_entries tags n ids e =
    is_list_of_sorted id_order_total id_order_same (λ i. tag_in tags n i ≡ true) ids (ids_in (ids_entry n tags)) e (λ i.
    let any = any_in (same_id i) (ids_in (ids_entry n tags)) in (
      λ h. let w = any.0 h in subst (λ (j : OpId). IsIn j (ids_in (ids_entry n tags))) (sym ((ids_decide i w.0).0 w.2)) w.1,
      λ h. any.1 (i, h, (ids_decide i i).1 (λ k. i)),
    ))

-- ---- subscriptions by a set of operations

fold_at : (n : List ℕ) (i : OpId) (os : List Op) (v : Subscriptions) → fold_of effect_of v os n i ≡ fold_of (changed (SubscriptionTag n i)) (v n i) os
fold_at n i [] v = refl
fold_at n i (o ∷ os) v = fold_at n i os (effect_of v o)

pub subscriptions_after : (os : List Op) → AreSound IsSound os → IsCausal id_of clock_of os → fold_of effect_of no_subscriptions os ≡ subscriptions_by os
subscriptions_after os s c = λ k n i. (fold_at n i os no_subscriptions ∙ present_after (SubscriptionTag n i) os s c) k

made : (v : Subscriptions) (os : List Op) → IsMadeBy v os → v ≡ subscriptions_by os
made v os m = m.made ∙ subscriptions_after os m.sound m.causal

pub names_by_set : (v : Subscriptions) (ops : List Op) (names : List (List ℕ)) → IsMadeBy v ops → IsListOf octet_order (IsSubscribed v) names → names ≡ subscribed_names_of ops
names_by_set v ops names m h =
    listed_in_order names_total names_same (IsSubscribed (subscriptions_by ops)) names (filter_map subscribed_name (present_tags ops))
    (subst (λ (w : Subscriptions). IsListOf octet_order (IsSubscribed w) names) (made v ops m) h)
    (λ n. let e = subscribed_in ops n in (e.1, e.0))

pub tags_by_set : (v : Subscriptions) (ops : List Op) (n : List ℕ) (ids : List OpId) → IsMadeBy v ops → IsListOf id_order (λ i. v n i ≡ true) ids → ids ≡ subscription_tags_of ops n
tags_by_set v ops n ids m h =
    listed_in_order id_order_total id_order_same (λ i. subscriptions_by ops n i ≡ true) ids (filter_map (subscription_id n) (present_tags ops))
    (subst (λ (w : Subscriptions). IsListOf id_order (λ i. w n i ≡ true) ids) (made v ops m) h)
    (λ i. let e = subscription_tags_in ops n i in (e.1, e.0))
