-- Lists of versions: their ids and flags, without one version and with a further one.
use Rattle.std.proofs.Common.{◌≡◌, ◌↔◌, ◌⊎◌, inl, inr, ◌+◌, ◌≤◌, ◌<◌, arith, Bool, true, false, cond, not, None, Some, List, [], ◌∷◌, ◌++◌, length, map, refl, sym, ap, ◌∙◌, subst}
use Rattle.std.specs.List.{filter}
use Rattle.std.specs.Option.{option_or}
use Rattle.std.specs.Ordering.{match_ordering}
use Rattle.std.specs.declared.cmp.Ordering.{Ordering}
use Rattle.std.specs.declared.cmp.Ordering.TheVariants.{Less, Equal, Greater}
use Rattle.std.proofs.lemmas.Bool.{cases_Bool, false≢true, false_from_ne_true}
use Rattle.std.proofs.lemmas.Cmp.{tied_itself}
use Rattle.imap_types.specs.declared.flags.Flags.{Flags}
use Rattle.tags_clocks.specs.declared.id.OpId.{OpId}
use Rattle.tags_clocks.proofs.Decide.{ids_decide}
use Rattle.merge_laws.specs.Orders.{IsIn}
use Rattle.merge_laws.proofs.Lists.{in_middle}
use Rattle.crdt_ops.specs.SortedSets.{IsAscending, id_order, insert_ordered, same_id}
use Rattle.crdt_ops.proofs.Members.{in_filter, in_map}
use Rattle.crdt_ops.proofs.OrderLemmas.{ascending-placed, ascending_filtered, id_order_same, id_order_total}
use Rattle.imap_types.specs.declared.version.Version.{Version}
use Rattle.imap_types.specs.Unions.{version_ids}
use Rattle.folder_state.specs.FolderTables.{by_id, flags_among, without_version}

pub own_id : (i : OpId) → same_id i i ≡ true
own_id i = (ids_decide i i).1 refl

pub id_is : (i j : OpId) → same_id i j ≡ true → i ≡ j
id_is i j h = (ids_decide i j).0 h

pub id_not : (i j : OpId) → (i ≡ j → ⊥) → same_id i j ≡ false
id_not i j h = false_from_ne_true (same_id i j) (λ t. h (id_is i j t))

pub not_id : (i j : OpId) → same_id i j ≡ false → i ≡ j → ⊥
not_id i j f e = false≢true (sym f ∙ (ids_decide i j).1 e)

before_all : (i j : OpId) (is : List OpId) → IsAscending id_order (i ∷ is) → IsIn j is → id_order i j ≡ Less
before_all i j [] h t = absurd t
before_all i j (k ∷ is) h t =
    elim t [
      | inl e ↦ subst (λ z. id_order i z ≡ Less) e h.0
      | inr u ↦ id_order_total.trans i k j h.0 (before_all k j is h.1 u)
    ]

not_before_itself : (i : OpId) → id_order i i ≡ Less → ⊥
not_before_itself i e = let k : Less ≡ Equal = sym e ∙ tied_itself id_order_total i in cc

pub id_in : (v : Version) (vs : List Version) → IsIn v vs → IsIn v.id (version_ids vs)
id_in v vs h = (in_map (λ (v : Version). v.id) vs v.id).1 (v, h, refl)

-- The look-up of a version's id gives its flags.
pub flags_own : (vs : List Version) (v : Version) → IsAscending id_order (version_ids vs) → IsIn v vs → flags_among vs v.id ≡ Some v.flags
flags_own [] v h i = absurd i
flags_own (w ∷ ws) v h i =
    elim i [
      | inl e ↦
          ap (λ (z : Version). option_or (cond (same_id z.id w.id) (Some w.flags) None) (flags_among ws z.id)) (sym e)
          ∙ ap (λ b. option_or (cond b (Some w.flags) None) (flags_among ws w.id)) (own_id w.id)
          ∙ ap (λ (z : Version). Some z.flags) e
      | inr t ↦
          let apart : same_id v.id w.id ≡ false =
          false_from_ne_true (same_id v.id w.id) (λ a. not_before_itself w.id (subst (λ z. id_order w.id z ≡ Less) (id_is v.id w.id a) (before_all w.id v.id (version_ids ws) h (id_in v ws t)))) in
          ap (λ b. option_or (cond b (Some w.flags) None) (flags_among ws v.id)) apart
          ∙ flags_own ws v h.1 t
    ]

pub flags_some : (vs : List Version) (i : OpId) → IsIn i (version_ids vs) → (f : Flags) × (flags_among vs i ≡ Some f)
flags_some [] i h = absurd h
flags_some (w ∷ ws) i h =
    elim (cases_Bool (same_id i w.id)) [
      | inl t ↦ (w.flags, ap (λ b. option_or (cond b (Some w.flags) None) (flags_among ws i)) t)
      | inr f ↦
          let rest : IsIn i (version_ids ws) = elim h [ inl e ↦ absurd (not_id i w.id f (sym e)) | inr t ↦ t ] in
          let looked_up = flags_some ws i rest in
          (looked_up.0, ap (λ b. option_or (cond b (Some w.flags) None) (flags_among ws i)) f ∙ looked_up.1)
    ]

-- ---- without one version

flags_first : (b : Bool) (i : OpId) (w : Version) (ws : List Version) → flags_among (cond b (w ∷ ws) ws) i ≡ cond b (option_or (cond (same_id i w.id) (Some w.flags) None) (flags_among ws i)) (flags_among ws i)
flags_first true i w ws = refl
flags_first false i w ws = refl

pub flags_without : (id i : OpId) → same_id i id ≡ false → (vs : List Version) → flags_among (without_version id vs) i ≡ flags_among vs i
flags_without id i f [] = refl
flags_without id i f (w ∷ ws) =
    flags_first (not (same_id id w.id)) i w (without_version id ws)
    ∙ elim (cases_Bool (same_id id w.id)) [
      | inl t ↦
          let apart : same_id i w.id ≡ false = subst (λ z. same_id i z ≡ false) (id_is id w.id t) f in
          (λ k. cond (not (t k)) (option_or (cond (same_id i w.id) (Some w.flags) None) (flags_among (without_version id ws) i)) (flags_among (without_version id ws) i))
          ∙ flags_without id i f ws
          ∙ sym (ap (λ b. option_or (cond b (Some w.flags) None) (flags_among ws i)) apart)
      | inr g ↦
          (λ k. cond (not (g k)) (option_or (cond (same_id i w.id) (Some w.flags) None) (flags_among (without_version id ws) i)) (flags_among (without_version id ws) i))
          ∙ ap (option_or (cond (same_id i w.id) (Some w.flags) None)) (flags_without id i f ws)
    ]

not-true : (b : Bool) → not b ≡ true → b ≡ false
not-true true h = absurd (false≢true h)
not-true false h = refl

pub ids_without : (id : OpId) (vs : List Version) (i : OpId) → IsIn i (version_ids (without_version id vs)) ↔ (IsIn i (version_ids vs) × (same_id i id ≡ false))
ids_without id vs i = (
  λ h.
      let w = (in_map (λ (v : Version). v.id) (without_version id vs) i).0 h in
      let p = (in_filter (λ (v : Version). not (same_id id v.id)) vs w.0).0 w.1 in
      let apart : same_id id w.0.id ≡ false = not-true (same_id id w.0.id) p.1 in
      ((in_map (λ (v : Version). v.id) vs i).1 (w.0, p.0, w.2), id_not i id (λ e. not_id id w.0.id apart (sym (w.2 ∙ e)))),
  λ h.
      let w = (in_map (λ (v : Version). v.id) vs i).0 h.0 in
      let apart : same_id id w.0.id ≡ false = id_not id w.0.id (λ e. not_id i id h.1 (sym (e ∙ w.2))) in
      (in_map (λ (v : Version). v.id) (without_version id vs) i).1 (w.0, (in_filter (λ (v : Version). not (same_id id v.id)) vs w.0).1 (w.1, ap not apart), w.2),
)

filter_mapped : {X Y : Type 0} (g : X → Y) (p : X → Bool) (q : Y → Bool) → ((x : X) → q (g x) ≡ p x) → (xs : List X) → map g (filter p xs) ≡ filter q (map g xs)
filter_mapped g p q h [] = refl
filter_mapped g p q h (x ∷ xs) =
    at (p x) g x (filter p xs)
    ∙ (λ k. cond (sym (h x) k) (g x ∷ filter_mapped g p q h xs k) (filter_mapped g p q h xs k))
  where
    at : {X Y : Type 0} (b : Bool) (g : X → Y) (x : X) (zs : List X) → map g (cond b (x ∷ zs) zs) ≡ cond b (g x ∷ map g zs) (map g zs)
    at true g x zs = refl
    at false g x zs = refl

pub ascending_without : (id : OpId) (vs : List Version) → IsAscending id_order (version_ids vs) → IsAscending id_order (version_ids (without_version id vs))
ascending_without id vs h =
    subst (IsAscending id_order) (sym (filter_mapped (λ (v : Version). v.id) (λ (v : Version). not (same_id id v.id)) (λ i. not (same_id id i)) (λ v. refl) vs))
    (ascending_filtered id_order_total id_order_same (λ i. not (same_id id i)) (version_ids vs) h)

pub shorter_without : (id : OpId) (vs : List Version) → length (without_version id vs) ≤ length vs
shorter_without id [] = omega arith
shorter_without id (x ∷ xs) = at (not (same_id id x.id)) (without_version id xs) (shorter_without id xs)
  where
    at : (b : Bool) (zs : List Version) → length zs ≤ length xs → length (cond b (x ∷ zs) zs) ≤ length (x ∷ xs)
    at true zs h = omega (arith, h)
    at false zs h = omega (arith, h)

-- ---- with a further version

pub ids_placed : (v : Version) (vs : List Version) → version_ids (insert_ordered by_id v vs) ≡ insert_ordered id_order v.id (version_ids vs)
ids_placed v [] = refl
ids_placed v (w ∷ ws) = at (id_order v.id w.id) (ids_placed v ws)
  where
    at : (o : Ordering) → version_ids (insert_ordered by_id v ws) ≡ insert_ordered id_order v.id (version_ids ws) → version_ids (match_ordering o (v ∷ w ∷ ws) (w ∷ ws) (w ∷ insert_ordered by_id v ws)) ≡ match_ordering o (v.id ∷ w.id ∷ version_ids ws) (w.id ∷ version_ids ws) (w.id ∷ insert_ordered id_order v.id (version_ids ws))
    at Less h = refl
    at Equal h = refl
    at Greater h = ap (λ is. w.id ∷ is) h

pub ascending_with : (v : Version) (vs : List Version) → IsAscending id_order (version_ids vs) → IsAscending id_order (version_ids (insert_ordered by_id v vs))
ascending_with v vs h = subst (IsAscending id_order) (sym (ids_placed v vs)) (ascending-placed id_order_total v.id (version_ids vs) h)

pub placed_long : (v : Version) (vs : List Version) → (0 < length (insert_ordered by_id v vs)) × (length (insert_ordered by_id v vs) ≤ length vs + 1)
placed_long v [] = (omega arith, omega arith)
placed_long v (w ∷ ws) = at (id_order v.id w.id) (placed_long v ws).1
  where
    at : (o : Ordering) → length (insert_ordered by_id v ws) ≤ length ws + 1 → (0 < length (match_ordering o (v ∷ w ∷ ws) (w ∷ ws) (w ∷ insert_ordered by_id v ws))) × (length (match_ordering o (v ∷ w ∷ ws) (w ∷ ws) (w ∷ insert_ordered by_id v ws)) ≤ length (w ∷ ws) + 1)
    at Less h = (omega arith, omega arith)
    at Equal h = (omega arith, omega arith)
    at Greater h = (omega arith, omega (arith, h))

-- A new version is placed between two parts of the others.
pub placed_among : (v : Version) (vs : List Version) → (IsIn v.id (version_ids vs) → ⊥) → (front : List Version) × (back : List Version) × (vs ≡ front ++ back) × (insert_ordered by_id v vs ≡ front ++ v ∷ back)
placed_among v [] h = ([], [], refl, refl)
placed_among v (w ∷ ws) h = at (id_order v.id w.id) refl (placed_among v ws (λ i. h (inr i)))
  where
    at : (o : Ordering) → id_order v.id w.id ≡ o → (front : List Version) × (back : List Version) × (ws ≡ front ++ back) × (insert_ordered by_id v ws ≡ front ++ v ∷ back) → (front : List Version) × (back : List Version) × (w ∷ ws ≡ front ++ back) × (match_ordering o (v ∷ w ∷ ws) (w ∷ ws) (w ∷ insert_ordered by_id v ws) ≡ front ++ v ∷ back)
    at Less e r = ([], w ∷ ws, refl, refl)
    at Equal e r = absurd (h (inl (sym (id_order_same v.id w.id e))))
    at Greater e r = (w ∷ r.0, r.1, ap (λ xs. w ∷ xs) r.2, ap (λ xs. w ∷ xs) r.3)

ids_cons : (front back : List Version) (v : Version) (i : OpId) → IsIn i (version_ids (front ++ v ∷ back)) ↔ ((v.id ≡ i) ⊎ IsIn i (version_ids (front ++ back)))
ids_cons [] back v i = (λ h. h, λ h. h)
ids_cons (w ∷ front) back v i =
    let rest = ids_cons front back v i in (
      λ h. elim h [ inl e ↦ inr (inl e) | inr t ↦ elim (rest.0 t) [ inl e ↦ inl e | inr u ↦ inr (inr u) ] ],
      λ h. elim h [ inl e ↦ inr (rest.1 (inl e)) | inr t ↦ elim t [ inl e ↦ inl e | inr u ↦ inr (rest.1 (inr u)) ] ],
    )

pub ids_with : (v : Version) (vs : List Version) → (IsIn v.id (version_ids vs) → ⊥) → (i : OpId) → IsIn i (version_ids (insert_ordered by_id v vs)) ↔ ((v.id ≡ i) ⊎ IsIn i (version_ids vs))
ids_with v vs n i =
    let p = placed_among v vs n in
    subst (λ (x : List Version × List Version). IsIn i (version_ids x.0) ↔ ((v.id ≡ i) ⊎ IsIn i (version_ids x.1))) (λ k. (sym p.3 k, sym p.2 k)) (ids_cons p.0 p.1 v i)

pub own_placed : (v : Version) (vs : List Version) → (IsIn v.id (version_ids vs) → ⊥) → IsIn v (insert_ordered by_id v vs)
own_placed v vs n = let p = placed_among v vs n in subst (IsIn v) (sym p.3) (in_middle v p.0 p.1)

flags_passed : (front back : List Version) (v : Version) (i : OpId) → same_id i v.id ≡ false → flags_among (front ++ v ∷ back) i ≡ flags_among (front ++ back) i
flags_passed [] back v i f = ap (λ b. option_or (cond b (Some v.flags) None) (flags_among back i)) f
flags_passed (w ∷ front) back v i f = ap (option_or (cond (same_id i w.id) (Some w.flags) None)) (flags_passed front back v i f)

pub flags_with : (v : Version) (vs : List Version) → (IsIn v.id (version_ids vs) → ⊥) → (i : OpId) → same_id i v.id ≡ false → flags_among (insert_ordered by_id v vs) i ≡ flags_among vs i
flags_with v vs n i f =
    let p = placed_among v vs n in
    ap (λ xs. flags_among xs i) p.3 ∙ flags_passed p.0 p.1 v i f ∙ ap (λ xs. flags_among xs i) (sym p.2)
