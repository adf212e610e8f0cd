-- Versions in their places.
use Rattle.std.proofs.Common.{◌≡◌, ◌⊎◌, inl, inr, ℕ, ◌+◌, ◌<◌, Option, None, Some, IsSome, List, [], ◌∷◌, get_or, length, take, refl, sym, ap, ◌∙◌, subst}
use Rattle.std.specs.Ordering.{match_ordering}
use Rattle.std.specs.Option.{option_map}
use Rattle.std.specs.declared.cmp.Ordering.{Ordering}
use Rattle.std.specs.declared.cmp.Ordering.TheVariants.{Less, Equal, Greater}
use Rattle.imap_types.specs.declared.flags.Flags.{Flags}
use Rattle.tags_clocks.specs.declared.id.OpId.{OpId}
use Rattle.merge_laws.specs.Orders.{IsIn}
use Rattle.crdt_ops.specs.SortedSets.{IsAscending, id_order, insert_ordered}
use Rattle.crdt_ops.specs.Sets.{MessageTagData}
use Rattle.crdt_ops.proofs.Members.{in_map}
use Rattle.crdt_ops.proofs.OrderLemmas.{ascending-placed, id_order_same, id_order_total}
use Rattle.imap_types.specs.declared.version.Version.{Version}
use Rattle.imap_types.specs.Unions.{version_ids}
use Rattle.folder_state.specs.FolderTables.{tag_data_in}
use Rattle.uid_projection.specs.declared.tag_changes.TagChange.{TagChange}
use Rattle.uid_projection.specs.declared.messages_ahead.MessagesAhead.{MessagesAhead}
use Rattle.uid_projection.specs.TagChanges.{AreAll, IsUnchanged, IsPlaced, IsAdded, IsWhole, tag_data_of, change_data, by_id, change_of, after_change, ids_listed, stored_of, list_of}
use Rattle.uid_projection.proofs.TagChangesLemmas.{version_source}
use Rattle.uid_projection.proofs.IdLemmas.{in_take_next}

ids_placed : (v : Version) (vs : List Version) → version_ids (insert_ordered by_id v vs) ≡ insert_ordered id_order v.id (version_ids vs)
ids_placed v [] = refl
ids_placed v (w ∷ ws) = at (id_order v.id w.id) (ids_placed v ws)
  where
    at : (o : Ordering) → version_ids (insert_ordered by_id v ws) ≡ insert_ordered id_order v.id (version_ids ws) → version_ids (match_ordering o (v ∷ w ∷ ws) (w ∷ ws) (w ∷ insert_ordered by_id v ws)) ≡ match_ordering o (v.id ∷ w.id ∷ version_ids ws) (w.id ∷ version_ids ws) (w.id ∷ insert_ordered id_order v.id (version_ids ws))
    at Less h = refl
    at Equal h = refl
    at Greater h = λ k. w.id ∷ h k

placed_own : (i : OpId) (is : List OpId) → IsIn i (insert_ordered id_order i is)
placed_own i [] = inl refl
placed_own i (j ∷ js) = at (id_order i j) refl (placed_own i js)
  where
    at : (o : Ordering) → id_order i j ≡ o → IsIn i (insert_ordered id_order i js) → IsIn i (match_ordering o (i ∷ j ∷ js) (j ∷ js) (j ∷ insert_ordered id_order i js))
    at Less e h = inl refl
    at Equal e h = inl (sym (id_order_same i j e))
    at Greater e h = inr h

in_inserted : (i k : OpId) (is : List OpId) → IsIn k is → IsIn k (insert_ordered id_order i is)
in_inserted i k [] h = absurd h
in_inserted i k (j ∷ js) h = at (id_order i j) h (in_inserted i k js)
  where
    at : (o : Ordering) → IsIn k (j ∷ js) → (IsIn k js → IsIn k (insert_ordered id_order i js)) → IsIn k (match_ordering o (i ∷ j ∷ js) (j ∷ js) (j ∷ insert_ordered id_order i js))
    at Less h more = inr h
    at Equal h more = h
    at Greater h more = elim h [ inl e ↦ inl e | inr t ↦ inr (more t) ]

placed_in : (v w : Version) (vs : List Version) → IsIn w (insert_ordered by_id v vs) → (v ≡ w) ⊎ IsIn w vs
placed_in v w [] h = h
placed_in v w (x ∷ xs) h = at (by_id v x) h (placed_in v w xs)
  where
    at : (o : Ordering) → IsIn w (match_ordering o (v ∷ x ∷ xs) (x ∷ xs) (x ∷ insert_ordered by_id v xs)) → (IsIn w (insert_ordered by_id v xs) → (v ≡ w) ⊎ IsIn w xs) → (v ≡ w) ⊎ IsIn w (x ∷ xs)
    at Less h more = h
    at Equal h more = inr h
    at Greater h more = elim h [ inl e ↦ inr (inl e) | inr t ↦ elim (more t) [ inl e ↦ inl e | inr u ↦ inr (inr u) ] ]

module _ (tag_data : OpId → Option MessageTagData) (origin : OpId) where
  pub placed_none : (P : OpId → Type 0) (vs : List Version) → ((i : OpId) → P i → ⊥) → IsPlaced tag_data origin P vs vs
  placed_none P vs none = record { some = λ h. h; stored = λ i h. h; all = λ i p. absurd (none i p) }

  -- a version of the origin in its place
  pub placed_one : (P : OpId → Type 0) (v : Version) (old new : List Version) → new ≡ insert_ordered by_id v old → tag_data v.id ≡ Some (record { flags = v.flags; origin = origin }) → ((i : OpId) → P i → i ≡ v.id) → IsPlaced tag_data origin P old new
  placed_one P v old new e right only =
      let ids : version_ids new ≡ insert_ordered id_order v.id (version_ids old) = ap version_ids e ∙ ids_placed v old in
      record {
        some = λ h. record {
          ascending = subst (IsAscending id_order) (sym ids) (ascending-placed id_order_total v.id (version_ids old) h.ascending);
          carried = λ w t. elim (placed_in v w old (subst (IsIn w) e t)) [
            | inl k ↦ subst (λ (z : Version). tag_data z.id ≡ Some (record { flags = z.flags; origin = origin })) k right
            | inr u ↦ h.carried w u
          ];
        };
        stored = λ i h. subst (IsIn i) (sym ids) (in_inserted v.id i (version_ids old) h);
        all = λ i p. subst (IsIn i) (sym ids) (subst (λ j. IsIn j (insert_ordered id_order v.id (version_ids old))) (sym (only i p)) (placed_own v.id (version_ids old)));
      }

  -- one step after another
  pub placed_twice : (P Q R : OpId → Type 0) (old mid new : List Version) → ((i : OpId) → R i → P i ⊎ Q i) → IsPlaced tag_data origin P old mid → IsPlaced tag_data origin Q mid new → IsPlaced tag_data origin R old new
  placed_twice P Q R old mid new either a b = record {
    some = λ h. b.some (a.some h);
    stored = λ i h. b.stored i (a.stored i h);
    all = λ i r. elim (either i r) [ inl p ↦ b.stored i (a.all i p) | inr q ↦ b.all i q ];
  }

-- the ids of one further version
pub in_more_ids : (i : OpId) (vs : List Version) (k : ℕ) (v : Version) → k < length vs → v ≡ get_or vs k v → IsIn i (version_ids (take (k + 1) vs)) → IsIn i (version_ids (take k vs)) ⊎ (i ≡ v.id)
in_more_ids i vs k v l e h =
    let w = (in_map (λ (v : Version). v.id) (take (k + 1) vs) i).0 h in
    elim (in_take_next w.0 vs k v l e w.1) [
      | inl t ↦ inl ((in_map (λ (v : Version). v.id) (take k vs) i).1 (w.0, t, w.2))
      | inr q ↦ inr (sym w.2 ∙ ap (λ (v : Version). v.id) q)
    ]

-- a stored tag that isn't changed carries what it did
pub left_body : (m : MessagesAhead) (i : OpId) (x : Option MessageTagData) → change_of m i ≡ None → tag_data_in (stored_of m) i ≡ x → tag_data_of m i ≡ x
left_body m i x n e = ap (λ (c : Option TagChange). after_change (tag_data_in (stored_of m) i) (option_map change_data c)) n ∙ e

-- one further stored version: it is in its place, or it is changed
pub left_take_next : (m : MessagesAhead) (o : OpId) (vs : List Version) (k : ℕ) (v : Version) (old mid new : List Version) → k < length vs → v ≡ get_or vs k v
    → IsPlaced (tag_data_of m) o (λ i. IsUnchanged m o i × IsIn i (version_ids (take k vs))) old mid
    → IsPlaced (tag_data_of m) o (λ i. IsUnchanged m o i × (i ≡ v.id)) mid new
    → IsPlaced (tag_data_of m) o (λ i. IsUnchanged m o i × IsIn i (version_ids (take (k + 1) vs))) old new
left_take_next m o vs k v old mid new l e a b =
    placed_twice (tag_data_of m) o _ _ _ old mid new (λ i r. elim (in_more_ids i vs k v l e r.1) [ inl t ↦ inl (r.0, t) | inr q ↦ inr (r.0, q) ]) a b

-- a version that isn't changed in its place
pub left_one : (m : MessagesAhead) (o : OpId) (v : Version) (old new : List Version) → new ≡ insert_ordered by_id v old → change_of m v.id ≡ None → tag_data_in (stored_of m) v.id ≡ Some (record { flags = v.flags; origin = o }) → IsPlaced (tag_data_of m) o (λ i. IsUnchanged m o i × (i ≡ v.id)) old new
left_one m o v old new e none stored = placed_one (tag_data_of m) o _ v old new e (left_body m v.id _ none stored) (λ i p. p.1)

-- a version that is changed
pub left_none : (m : MessagesAhead) (o : OpId) (v : Version) (old : List Version) → IsSome (change_of m v.id) → IsPlaced (tag_data_of m) o (λ i. IsUnchanged m o i × (i ≡ v.id)) old old
left_none m o v old some = placed_none (tag_data_of m) o _ old (λ i p. absurd (cc (p.0.0, subst (λ j. IsSome (change_of m j)) (sym p.1) some)))

pub right_with : (body : Option MessageTagData) (a b : Flags) (origin : OpId) → body ≡ Some (record { flags = a; origin = origin }) → b ≡ a → body ≡ Some (record { flags = b; origin = origin })
right_with body a b origin e f = e ∙ ap (λ (flags : Flags). Some (record { flags = flags; origin = origin })) (sym f)

-- all versions of an origin, the stored and the added ones
pub all_placed : (m : MessagesAhead) (o : OpId) (mid new : List Version) → IsWhole m → IsPlaced (tag_data_of m) o (IsUnchanged m o) [] mid → IsPlaced (tag_data_of m) o (λ i. IsAdded m o i × IsIn i (ids_listed (list_of m o))) mid new → AreAll (tag_data_of m) o new
all_placed m o mid new whole a b = record {
  some = b.some (a.some (record { ascending = tt; carried = λ v t. absurd t }));
  all = λ i h. elim (version_source m o i whole h (change_of m i) refl) [
    | inl p ↦ b.stored i (a.all i p)
    | inr p ↦ b.all i ((p.0, p.1, p.2), p.3)
  ];
}
