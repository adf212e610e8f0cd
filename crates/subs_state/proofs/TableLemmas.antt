-- The table after a change of one name's tags.
use Rattle.std.specs.Result.{is_err}
use Rattle.std.proofs.Common.{Result, Ok, Err, OnOk, ◌≡◌, inl, inr, ℕ, ◌+◌, ◌≤◌, Bool, true, false, cond, not, ◌&&◌, ◌||◌, Option, None, Some, List, [], ◌∷◌, length, refl, sym, ap, subst, ◌∙◌, arith, if◌then◌else◌}
use Rattle.std.specs.Global.{Vec}
use Rattle.std.specs.List.{filter, list_any}
use Rattle.std.specs.Map.{KeepsOthers}
use Rattle.std.specs.Str.{bytes_eq}
use Rattle.std.proofs.lemmas.Bool.{cases_Bool, false≢true}
use Rattle.std.proofs.lemmas.Slice.Eq.{bytes_eq-Decides}
use Rattle.indexmap.specs.IndexSet.{spare}
use Rattle.tags_clocks.specs.declared.id.OpId.{OpId}
use Rattle.tags_clocks.proofs.Decide.{ids_decide}
use Rattle.crdt_ops.specs.SortedSets.{same_id}
use Rattle.subs_state.specs.declared.subs_table.NameTags.{NameTags}
use Rattle.crdt_ops.specs.declared.op.Op.{Op}
use Rattle.subs_state.specs.Entries.{ids_entry, ids_in, room_in, room_of, subscribes, tag_in}
use Rattle.subs_state.specs.Keys.{is_among, is_at}

abbrev Named : Type 0
Named = Vec ℕ × NameTags

abbrev same_key : Vec ℕ → Vec ℕ → Bool
same_key x y = bytes_eq x.items y.items

abbrev has_name : List ℕ → Vec ℕ → Bool
has_name name key = bytes_eq name key.items

same_name : (xs ys : List ℕ) → bytes_eq xs ys ≡ true → xs ≡ ys
same_name xs ys e = (bytes_eq-Decides xs ys).0 e

itself : (name : List ℕ) → bytes_eq name name ≡ true
itself name = (bytes_eq-Decides name name).1 (λ k. name)

-- Another name's tags stay.
other_entry : (name : List ℕ) (old new : List Named) → KeepsOthers same_key (has_name name) old new → (other : List ℕ) → bytes_eq other name ≡ false → ids_entry other new ≡ ids_entry other old
unfolding KeepsOthers
other_entry name old new keeps other d =
    keeps (has_name other)
    (λ x y t. ap (λ (n : List ℕ). bytes_eq n y.items) (same_name other x.items t))
    (λ k t. ap (bytes_eq other) (sym (same_name name k.items t)) ∙ d)

-- If a relation is true of one name's tags before and after, and of unchanged tags, it is true of
-- each name's tags.
one_changed : (P : List ℕ → Option NameTags → Option NameTags → Type 0) (name : List ℕ) (old new : List Named) (a b : Option NameTags) → KeepsOthers same_key (has_name name) old new → ids_entry name old ≡ a → ids_entry name new ≡ b → P name a b → ((other : List ℕ) → bytes_eq other name ≡ false → (name_tags : Option NameTags) → P other name_tags name_tags) → (n : List ℕ) → P n (ids_entry n old) (ids_entry n new)
one_changed P name old new a b keeps was is here others n =
    elim (cases_Bool (bytes_eq n name)) [
      | inl t ↦
          subst (λ (m : List ℕ). P m (ids_entry m old) (ids_entry m new)) (sym (same_name n name t))
          (subst (λ (o : Option NameTags). P name o (ids_entry name new)) (sym was) (subst (P name a) (sym is) here))
      | inr d ↦ subst (P n (ids_entry n old)) (sym (other_entry name old new keeps n d)) (others n d (ids_entry n old))
    ]

-- The tags after one is added to a name.
pub tag_in_after_put : (name : List ℕ) (id : OpId) (old new : List Named) (a b : NameTags) → KeepsOthers same_key (has_name name) old new → ids_entry name old ≡ Some a → ids_entry name new ≡ Some b → ((i : OpId) → list_any (same_id i) b.ids.keys ≡ (same_id i id || list_any (same_id i) a.ids.keys)) → (n : List ℕ) (i : OpId) → tag_in new n i ≡ (is_at n i name id || tag_in old n i)
tag_in_after_put name id old new a b keeps was is post n i =
    one_changed (λ m o p. list_any (same_id i) (ids_in p) ≡ (is_at m i name id || list_any (same_id i) (ids_in o))) name old new (Some a) (Some b) keeps was is
    (post i ∙ ap (λ t. (t && same_id i id) || list_any (same_id i) a.ids.keys) (sym (itself name)))
    (λ other d name_tags. ap (λ t. (t && same_id i id) || list_any (same_id i) (ids_in name_tags)) (sym d)) n

pub put_room : (name : List ℕ) (old new : List Named) (a b : NameTags) → KeepsOthers same_key (has_name name) old new → ids_entry name old ≡ Some a → ids_entry name new ≡ Some b → spare a.ids ≤ spare b.ids + 1 → (n : List ℕ) → room_of n old ≤ room_of n new + (if bytes_eq n name then 1 else 0)
put_room name old new a b keeps was is post =
    one_changed (λ m o p. room_in o ≤ room_in p + (if bytes_eq m name then 1 else 0)) name old new (Some a) (Some b) keeps was is
    (subst (λ t. spare a.ids ≤ spare b.ids + (if t then 1 else 0)) (sym (itself name)) post)
    (λ other d name_tags. omega arith)

-- The tags after some of a name are taken out.
pub tag_in_after_removal : (name : List ℕ) (ids : List OpId) (old new : List Named) (a b : Option NameTags) → KeepsOthers same_key (has_name name) old new → ids_entry name old ≡ a → ids_entry name new ≡ b → ((i : OpId) → list_any (same_id i) (ids_in b) ≡ (not (list_any (same_id i) ids) && list_any (same_id i) (ids_in a))) → (n : List ℕ) (i : OpId) → tag_in new n i ≡ (not (is_among n i name ids) && tag_in old n i)
tag_in_after_removal name ids old new a b keeps was is post n i =
    one_changed (λ m o p. list_any (same_id i) (ids_in p) ≡ (not (is_among m i name ids) && list_any (same_id i) (ids_in o))) name old new a b keeps was is
    (post i ∙ ap (λ t. not (t && list_any (same_id i) ids) && list_any (same_id i) (ids_in a)) (sym (itself name)))
    (λ other d name_tags. ap (λ t. not (t && list_any (same_id i) ids) && list_any (same_id i) (ids_in name_tags)) (sym d)) n

none_left : (b : Bool) → false ≡ (not b && false)
none_left true = refl
none_left false = refl

-- If a name has no tags, taking some out changes nothing.
pub tags_absent : (name : List ℕ) (ids : List OpId) (tags : List Named) → ids_entry name tags ≡ None → (n : List ℕ) (i : OpId) → tag_in tags n i ≡ (not (is_among n i name ids) && tag_in tags n i)
tags_absent name ids tags was n i =
    elim (cases_Bool (bytes_eq n name)) [
      | inl t ↦
          subst (λ (m : List ℕ). tag_in tags m i ≡ (not (is_among m i name ids) && tag_in tags m i)) (sym (same_name n name t))
          (subst (λ (o : Option NameTags). list_any (same_id i) (ids_in o) ≡ (not (is_among name i name ids) && list_any (same_id i) (ids_in o))) (sym was) (none_left (is_among name i name ids)))
      | inr d ↦ ap (λ t. not (t && list_any (same_id i) ids) && tag_in tags n i) (sym d)
    ]

-- If only the room of a name's tags changes, the tags are the same.
pub tags_same : (name : List ℕ) (old new : List Named) (a b : Option NameTags) → KeepsOthers same_key (has_name name) old new → ids_entry name old ≡ a → ids_entry name new ≡ b → ids_in b ≡ ids_in a → (n : List ℕ) (i : OpId) → tag_in new n i ≡ tag_in old n i
tags_same name old new a b keeps was is same n i =
    one_changed (λ m o p. list_any (same_id i) (ids_in p) ≡ list_any (same_id i) (ids_in o)) name old new a b keeps was is (ap (list_any (same_id i)) same) (λ other d name_tags. refl) n

pub room_preserved : (name : List ℕ) (old new : List Named) (a b : Option NameTags) → KeepsOthers same_key (has_name name) old new → ids_entry name old ≡ a → ids_entry name new ≡ b → room_in a ≤ room_in b → (n : List ℕ) → room_of n old ≤ room_of n new
room_preserved name old new a b keeps was is less =
    one_changed (λ m o p. room_in o ≤ room_in p) name old new a b keeps was is less (λ other d name_tags. omega arith)

same_back : (i j : OpId) → same_id i j ≡ same_id j i
same_back i j =
    elim (cases_Bool (same_id i j)) [
      | inl t ↦ t ∙ sym ((ids_decide j i).1 (sym ((ids_decide i j).0 t)))
      | inr f ↦ elim (cases_Bool (same_id j i)) [
        | inl t ↦ absurd (false≢true (sym f ∙ (ids_decide i j).1 (sym ((ids_decide j i).0 t))))
        | inr g ↦ f ∙ sym g
      ]
    ]

and_not_either : (s a n : Bool) → (not a && cond s false n) ≡ (not (s || a) && n)
and_not_either true true n = refl
and_not_either true false n = refl
and_not_either false true n = refl
and_not_either false false n = refl

-- Taking out one id, and then the remaining ones.
pub tags_after_one_removal : (id i : OpId) (tail now new : List OpId) → list_any (same_id i) new ≡ cond (same_id id i) false (list_any (same_id i) now) → (not (list_any (same_id i) tail) && list_any (same_id i) new) ≡ (not (same_id i id || list_any (same_id i) tail) && list_any (same_id i) now)
tags_after_one_removal id i tail now new e =
    ap (λ t. not (list_any (same_id i) tail) && t) (e ∙ ap (λ s. cond s false (list_any (same_id i) now)) (same_back id i))
    ∙ and_not_either (same_id i id) (list_any (same_id i) tail) (list_any (same_id i) now)

none_filtered : {X : Type 0} (p : X → Bool) (xs : List X) → list_any p xs ≡ false → length (filter p xs) ≡ 0
none_filtered p [] e = refl
none_filtered p (x ∷ xs) e =
    elim (cases_Bool (p x)) [
      | inl t ↦ absurd (false≢true (sym e ∙ ap (λ s. s || list_any p xs) t))
      | inr f ↦ ap (λ s. length (cond s (x ∷ filter p xs) (filter p xs))) f ∙ none_filtered p xs (sym (ap (λ s. s || list_any p xs) f) ∙ e)
    ]

-- There is room for all elements that pass a test, if there is whenever one passes.
pub room_for_all : {X : Type 0} (p : X → Bool) (xs : List X) (room : ℕ) → (list_any p xs ≡ true → length (filter p xs) ≤ room) → length (filter p xs) ≤ room
room_for_all p xs room h =
    elim (cases_Bool (list_any p xs)) [
      | inl t ↦ h t
      | inr f ↦ let e = none_filtered p xs f in omega (arith, e)
    ]

length_of_cons_if : {X : Type 0} (b : Bool) (x : X) (xs : List X) → length (cond b (x ∷ xs) xs) ≡ length xs + (if b then 1 else 0)
length_of_cons_if true x xs = omega arith
length_of_cons_if false x xs = omega arith

-- Once an operation was applied, there is room for those after it.
pub room_after : (n : List ℕ) (o applied : Op) (rest : List Op) (old mid new : ℕ) → applied ≡ o → length (filter (subscribes n) (o ∷ rest)) ≤ old → old ≤ mid → mid ≤ new + (if subscribes n applied then 1 else 0) → length (filter (subscribes n) rest) ≤ new
room_after n o applied rest old mid new e h k l =
    let all : length (filter (subscribes n) (o ∷ rest)) ≡ length (filter (subscribes n) rest) + (if subscribes n o then 1 else 0) = length_of_cons_if (subscribes n o) o (filter (subscribes n) rest) in
    let used : mid ≤ new + (if subscribes n o then 1 else 0) = subst (λ (p : Op). mid ≤ new + (if subscribes n p then 1 else 0)) e l in
    omega (arith, all, h, k, used)

pub on_ok : {A B : Type 0} {P : Type 0} (r : Result A B) → is_err r ≡ false → OnOk r P → P
on_ok (Ok v) e h = h
on_ok (Err v) e h = absurd (cc e)
