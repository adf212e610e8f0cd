use Rattle.std.specs.List.{list_any}
use Rattle.std.specs.Option.{option_map, option_or}
use Rattle.tags_clocks.specs.Clock.{IsCause}
use Rattle.std.proofs.Common.{◌≡◌, ◌↔◌, ◌⊎◌, inl, inr, ℕ, Bool, true, false, cond, not, ◌&&◌, ◌||◌, List, [], ◌∷◌, ◌++◌, Option, Some, None, IsSome, refl, sym, ap, ◌∙◌, subst, append_assoc}
use Rattle.std.proofs.lemmas.Bool.{and_parts, cases_Bool, false≢true, false_from_ne_true, or_parts}
use Rattle.tags_clocks.specs.declared.id.OpId.{OpId}
use Rattle.tags_clocks.proofs.Decide.{ids_decide}
use Rattle.merge_laws.specs.Orders.{IsIn}
use Rattle.merge_laws.proofs.Lists.{id_in_front, id_of_element, split_at}
use Rattle.crdt_ops.specs.declared.kind.Kind.{Kind}
use Rattle.crdt_ops.specs.declared.kind.Kind.TheVariants.{Create, Delete, Append, Expunge, Store, Subscribe, Unsubscribe}
use Rattle.crdt_ops.specs.declared.op.Op.{Op}
use Rattle.crdt_ops.specs.Meanings.{IsVersion}
use Rattle.crdt_ops.specs.SortedSets.{same_id}
use Rattle.crdt_ops.specs.Sets.{MessageTagData, tag_data_by, tag_data_from, first_some, dated_text_by, dated_text_from, dated_text_of, origin_of, origins_of, versions_of}
use Rattle.crdt_ops.specs.Sound.{CoversReferenced}
use Rattle.crdt_ops.specs.Tags.{MessageTag, tag_added_by, adds, is_present, is_some_tag, removes}
use Rattle.crdt_ops.specs.TagLaws.{adds_own, same_id_is}
use Rattle.crdt_ops.proofs.Members.{any_in, first_some_in}
use Rattle.crdt_ops.proofs.OrderLemmas.{id_order_same, id_order_total, one_ascending}
use Rattle.crdt_ops.proofs.Presence.{Has, id_of}
use Rattle.crdt_ops.proofs.VersionLemmas.{origins_listed, versions_listed}
use Rattle.uid_projection.specs.Applied.{IsApplied}
use Rattle.uid_projection.specs.UidsAndModSeqs.{begins_line, begins_line_of_origin, changes_versions, kind_names_folder, has_version, holds_of_some, origin_added, same_ids}
use Rattle.uid_projection.proofs.Presence.{added_once, adds_about, presence_step, removed_about}
use Rattle.uid_projection.proofs.Steps.{first_some_append}

-- an operation that adds a message tag gives it data
carries : (f : List ℕ) (i id : OpId) (kind : Kind) → is_some_tag (MessageTag f i) (tag_added_by id kind) ≡ true → IsSome (tag_data_by id kind)
carries f i id (Create folder) h = absurd (false≢true h)
carries f i id (Delete folder seen) h = absurd (false≢true h)
carries f i id (Append folder flags date text) h = refl
carries f i id (Expunge folder old_ids) h = absurd (false≢true h)
carries f i id (Store folder flags old_ids origin) h = refl
carries f i id (Subscribe name) h = absurd (false≢true h)
carries f i id (Unsubscribe name seen) h = absurd (false≢true h)

-- ---- the data of a tag stays

pub first_some_more : {X Y : Type 0} (f : X → Option Y) (xs ys : List X) (y : Y) → first_some f xs ≡ Some y → first_some f (xs ++ ys) ≡ Some y
first_some_more f xs ys y h = first_some_append f xs ys ∙ ap (λ o. option_or o (first_some f ys)) h

-- operations appended to the list leave the date and text of an id in it unchanged
pub dated_text_later : (id : OpId) (ops more : List Op) → IsApplied (ops ++ more) → Has ops id → dated_text_of (ops ++ more) id ≡ dated_text_of ops id
dated_text_later id ops more a h =
    first_some_append (dated_text_from id) ops more ∙ ap (option_or (dated_text_of ops id)) (none_later more (λ o i.
    let s = split_at o more i in
    let w : ops ++ more ≡ (ops ++ s.0) ++ o ∷ s.1 = ap (λ xs. ops ++ xs) s.2 ∙ sym (append_assoc ops s.0 (o ∷ s.1)) in
    false_from_ne_true (same_id id o.id) (λ t. (a.causal (ops ++ s.0) o s.1 w).1 (id_in_front id_of o.id ops s.0 (subst (Has ops) (same_id_is id o.id t) h)))))
    ∙ or-none (dated_text_of ops id)
  where
    none_later : (xs : List Op) → ((o : Op) → IsIn o xs → same_id id o.id ≡ false) → dated_text_of xs id ≡ None
    none_later [] k = refl
    none_later (x ∷ xs) k = λ j. option_or (cond (k x (inl refl) j) (dated_text_by x.kind) None) (none_later xs (λ o i. k o (inr i)) j)

    or-none : {Y : Type 0} (x : Option Y) → option_or x None ≡ x
    or-none None = refl
    or-none (Some y) = refl

-- the data of a tag in the list in which it was first added
carried_of : (folder : List ℕ) (ops : List Op) (o : Op) → IsApplied (ops ++ o ∷ []) → adds (MessageTag folder o.id) o ≡ true → first_some (tag_data_from folder o.id) (ops ++ o ∷ []) ≡ tag_data_by o.id o.kind
carried_of folder ops o a t =
    first_some_append (tag_data_from folder o.id) ops (o ∷ [])
    ∙ (λ k. option_or (none_given folder o.id ops (added_once ops o (MessageTag folder o.id) a t) k) (option_or (cond (t k) (tag_data_by o.id o.kind) None) None))
    ∙ or-none (tag_data_by o.id o.kind)
  where
    or-none : {Y : Type 0} (x : Option Y) → option_or x None ≡ x
    or-none None = refl
    or-none (Some y) = refl

    none_given : (f : List ℕ) (i : OpId) (os : List Op) → list_any (adds (MessageTag f i)) os ≡ false → first_some (tag_data_from f i) os ≡ None
    none_given f i [] h = refl
    none_given f i (o ∷ os) h =
        let p = or_parts (adds (MessageTag f i) o) (list_any (adds (MessageTag f i)) os) h in
        (λ k. option_or (cond (p.0 k) (tag_data_by o.id o.kind) None) (first_some (tag_data_from f i) os)) ∙ none_given f i os p.1

some_of : {Y : Type 0} (o : Option Y) → IsSome o → (y : Y) × (o ≡ Some y)
some_of None h = absurd (false≢true h)
some_of (Some y) h = (y, refl)

-- a present tag has data
pub present_carries : (folder : List ℕ) (ops : List Op) (id : OpId) → is_present ops (MessageTag folder id) ≡ true → (b : MessageTagData) × (first_some (tag_data_from folder id) ops ≡ Some b)
present_carries folder ops id p =
    let w = (any_in (adds (MessageTag folder id)) ops).0 (and_parts (list_any (adds (MessageTag folder id)) ops) (not (list_any (removes (MessageTag folder id)) ops)) p).0 in
    let here : IsSome (tag_data_from folder id w.0) = subst (λ (b : Bool). IsSome (cond b (tag_data_by w.0.id w.0.kind) None)) (sym w.2) (carries folder id w.0.id w.0.kind w.2) in
    some_of (first_some (tag_data_from folder id) ops) ((first_some_in (tag_data_from folder id) ops).1 (w.0, w.1, here))

one_some : {Y : Type 0} (o : Option Y) (x y : Y) → o ≡ Some x → o ≡ Some y → x ≡ y
one_some o x y h k = cc

-- ---- origins are ids of applied operations

first_some_step : {X Y : Type 0} (f : X → Option Y) (x : X) (xs : List X) (y : Y) (o : Option Y) → o ≡ f x → option_or o (first_some f xs) ≡ Some y → (first_some f xs ≡ Some y → (z : X) × IsIn z xs × (f z ≡ Some y)) → (z : X) × IsIn z (x ∷ xs) × (f z ≡ Some y)
first_some_step f x xs y None e h k = let w = k h in (w.0, inr w.1, w.2)
first_some_step f x xs y (Some v) e h k = (x, inl refl, sym e ∙ h)

pub first_some_by : {X Y : Type 0} (f : X → Option Y) (xs : List X) (y : Y) → first_some f xs ≡ Some y → (x : X) × IsIn x xs × (f x ≡ Some y)
first_some_by f [] y h = absurd cc
first_some_by f (x ∷ xs) y h = first_some_step f x xs y (f x) refl h (first_some_by f xs y)

pub tag_data_chosen : (b : Bool) (o : Option MessageTagData) (y : MessageTagData) → cond b o None ≡ Some y → o ≡ Some y
tag_data_chosen true o y h = h
tag_data_chosen false o y h = absurd cc

-- the origin in a tag's data is the id of an earlier operation, or the tag's own id
origin_by : (ops : List Op) (id : OpId) (kind : Kind) (clock : List (ℕ × ℕ)) (b : MessageTagData) → CoversReferenced clock kind → ((i : OpId) → IsCause clock i → Has ops i) → Has ops id → tag_data_by id kind ≡ Some b → Has ops b.origin
origin_by ops id (Create folder) clock b c h i e = absurd cc
origin_by ops id (Delete folder seen) clock b c h i e = absurd cc
origin_by ops id (Append folder flags date text) clock b c h i e = let k : record { flags = flags; origin = id } ≡ b = cc in subst (λ (x : MessageTagData). Has ops x.origin) k i
origin_by ops id (Expunge folder old_ids) clock b c h i e = absurd cc
origin_by ops id (Store folder flags old_ids origin) clock b c h i e = let k : record { flags = flags; origin = origin } ≡ b = cc in subst (λ (x : MessageTagData). Has ops x.origin) k (h origin c.1)
origin_by ops id (Subscribe folder) clock b c h i e = absurd cc
origin_by ops id (Unsubscribe folder seen) clock b c h i e = absurd cc

pub data_origin_applied : (folder : List ℕ) (ops : List Op) (id : OpId) (b : MessageTagData) → IsApplied ops → first_some (tag_data_from folder id) ops ≡ Some b → Has ops b.origin
data_origin_applied folder ops id b a h =
    let w = first_some_by (tag_data_from folder id) ops b h in
    let s = split_at w.0 ops w.1 in
    let ripe = a.causal s.0 w.0 s.1 s.2 in
    origin_by ops w.0.id w.0.kind w.0.clock b (a.sound w.0 w.1).covered
    (λ i c. subst (λ xs. Has xs i) (sym s.2) (id_in_front id_of i s.0 (w.0 ∷ s.1) (ripe.0 i c)))
    (id_of_element id_of w.0 ops w.1)
    (tag_data_chosen (adds (MessageTag folder id) w.0) (tag_data_by w.0.id w.0.kind) b w.2)

-- ---- an origin has a version

pub version_in : (folder : List ℕ) (ops : List Op) (g : OpId) → (has_version folder g ops ≡ true) ↔ ((i : OpId) × IsVersion ops folder g i)
version_in folder ops g =
    let l = (origins_listed ops folder).1 g in (
      λ h. let w = (any_in (same_id g) (origins_of ops folder)).0 h in l.0 (subst (λ (j : OpId). IsIn j (origins_of ops folder)) (sym (same_id_is g w.0 w.2)) w.1),
      λ h. (any_in (same_id g) (origins_of ops folder)).1 (g, l.1 h, (ids_decide g g).1 refl),
    )

-- an origin with a version is an applied operation's id
pub origin_applied : (folder : List ℕ) (ops : List Op) (g : OpId) → IsApplied ops → has_version folder g ops ≡ true → Has ops g
origin_applied folder ops g a h =
    let v = (version_in folder ops g).0 h in
    let b = present_carries folder ops v.0 v.1.0 in
    let e : ◌≡◌ {A = Option OpId} (Some b.0.origin) (Some g) = sym (ap (option_map (λ (x : MessageTagData). x.origin)) b.1) ∙ v.1.1 in
    let k : b.0.origin ≡ g = cc in
    subst (Has ops) k (data_origin_applied folder ops v.0 b.0 a b.1)

same_bool : (a b : Bool) → (a ≡ true → b ≡ true) → (b ≡ true → a ≡ true) → a ≡ b
same_bool true b h k = sym (h refl)
same_bool false true h k = k refl
same_bool false false h k = refl

-- ---- versions after one further operation

present_parts : (a r b : Bool) → (a || (not r && b)) ≡ true → (a ≡ true) ⊎ ((b ≡ true) × (r ≡ false))
present_parts true r b h = inl refl
present_parts false true b h = absurd (false≢true h)
present_parts false false b h = inr (h, refl)

was_present : (a r b : Bool) → r ≡ false → b ≡ true → (a || (not r && b)) ≡ true
was_present true r b h k = refl
was_present false r b h k = (λ i. not (h i) && k i)

module _ (folder : List ℕ) (ops : List Op) (o : Op) (a : IsApplied (ops ++ o ∷ [])) where
  -- a tag that was present has the same origin
  origin_unchanged : (i : OpId) → is_present ops (MessageTag folder i) ≡ true → origin_of (ops ++ o ∷ []) folder i ≡ origin_of ops folder i
  origin_unchanged i p =
      let b = present_carries folder ops i p in
      ap (option_map (λ (x : MessageTagData). x.origin)) (first_some_more (tag_data_from folder i) ops (o ∷ []) b.0 b.1 ∙ sym b.1)

  -- the tag that the operation adds has the operation's origin
  pub origin_new : adds (MessageTag folder o.id) o ≡ true → origin_of (ops ++ o ∷ []) folder o.id ≡ origin_added folder o
  origin_new t = ap (option_map (λ (x : MessageTagData). x.origin)) (carried_of folder ops o a t ∙ (λ k. cond (sym t k) (tag_data_by o.id o.kind) None))

  pub version_remains : (g i : OpId) → IsVersion ops folder g i → removes (MessageTag folder i) o ≡ false → IsVersion (ops ++ o ∷ []) folder g i
  version_remains g i v r = (
    presence_step ops o (MessageTag folder i) a ∙ was_present (adds (MessageTag folder i) o) (removes (MessageTag folder i) o) (is_present ops (MessageTag folder i)) r v.0,
    origin_unchanged i v.0 ∙ v.1,
  )

  -- a version was one before and isn't removed, or is added
  pub version_cases : (g i : OpId) → IsVersion (ops ++ o ∷ []) folder g i → (IsVersion ops folder g i × (removes (MessageTag folder i) o ≡ false)) ⊎ ((adds (MessageTag folder i) o ≡ true) × (origin_added folder o ≡ Some g))
  version_cases g i v =
      elim (present_parts (adds (MessageTag folder i) o) (removes (MessageTag folder i) o) (is_present ops (MessageTag folder i)) (sym (presence_step ops o (MessageTag folder i) a) ∙ v.0)) [
        | inl t ↦
            let is : i ≡ o.id = adds_own (MessageTag folder i) o t in
            let u : adds (MessageTag folder o.id) o ≡ true = subst (λ (j : OpId). adds (MessageTag folder j) o ≡ true) is t in
            inr (t, sym (origin_new u) ∙ sym (ap (origin_of (ops ++ o ∷ []) folder) is) ∙ v.1)
        | inr p ↦ inl ((p.0, sym (origin_unchanged i p.0) ∙ v.1), p.1)
      ]

  -- an origin's first version is added by the operation
  pub starts_added : (g : OpId) → begins_line_of_origin folder g ops o ≡ true → origin_added folder o ≡ Some g
  starts_added g h =
      let p = and_parts (has_version folder g (ops ++ o ∷ [])) (not (has_version folder g ops)) h in
      let v = (version_in folder (ops ++ o ∷ []) g).0 p.0 in
      elim (version_cases g v.0 v.1) [
        | inl w ↦ absurd (not_both (has_version folder g ops) p.1 ((version_in folder ops g).1 (v.0, w.0)))
        | inr w ↦ w.1
      ]
    where
      not_both : (b : Bool) → not b ≡ true → b ≡ true → ⊥
      not_both true h k = false≢true h
      not_both false h k = false≢true k

  pub line_starts : (g : OpId) → begins_line_of_origin folder g ops o ≡ true → begins_line folder ops o ≡ true
  line_starts g h = ap (holds_of_some (λ origin. begins_line_of_origin folder origin ops o)) (starts_added g h) ∙ h

  -- an operation about another folder leaves the versions unchanged
  pub versions_other : (g : OpId) → kind_names_folder folder o.kind ≡ false → versions_of (ops ++ o ∷ []) folder g ≡ versions_of ops folder g
  versions_other g f =
      let l = versions_listed (ops ++ o ∷ []) folder g in
      let m = versions_listed ops folder g in
      one_ascending id_order_total id_order_same (versions_of (ops ++ o ∷ []) folder g) (versions_of ops folder g) l.0 m.0 (λ i. (
        λ h. (m.1 i).1 (elim (version_cases g i ((l.1 i).0 h)) [
          | inl w ↦ w.0
          | inr w ↦ absurd (false≢true (sym f ∙ adds_about folder i o.id o.kind (inr w.0)))
        ]),
        λ h. (l.1 i).1 (version_remains g i ((m.1 i).0 h) (false_from_ne_true (removes (MessageTag folder i) o) (λ r. false≢true (sym f ∙ removed_about folder i o.kind (inr r))))),
      ))

pub same_itself : (is : List OpId) → same_ids is is ≡ true
same_itself [] = refl
same_itself (i ∷ is) = (λ k. (ids_decide i i).1 refl k && same_itself is k)

same_are : (is js : List OpId) → same_ids is js ≡ true → is ≡ js
same_are [] [] h = refl
same_are [] (j ∷ js) h = absurd (false≢true h)
same_are (i ∷ is) [] h = absurd (false≢true h)
same_are (i ∷ is) (j ∷ js) h =
    let p = and_parts (same_id i j) (same_ids is js) h in
    λ k. same_id_is i j p.0 k ∷ same_are is js p.1 k

not_false : (b : Bool) → not b ≡ false → b ≡ true
not_false true h = refl
not_false false h = absurd (false≢true (sym h))

module _ (folder : List ℕ) (ops : List Op) (o : Op) where
  pub unchanged : (g : OpId) → changes_versions folder g ops o ≡ false → versions_of ops folder g ≡ versions_of (ops ++ o ∷ []) folder g
  unchanged g h = same_are (versions_of ops folder g) (versions_of (ops ++ o ∷ []) folder g) (not_false (same_ids (versions_of ops folder g) (versions_of (ops ++ o ∷ []) folder g)) h)

  -- an operation that changes a message's versions is about its folder
  pub changed_about : (g : OpId) → IsApplied (ops ++ o ∷ []) → changes_versions folder g ops o ≡ true → kind_names_folder folder o.kind ≡ true
  changed_about g a h =
      elim (cases_Bool (kind_names_folder folder o.kind)) [
        | inl t ↦ t
        | inr f ↦ absurd (false≢true (sym (ap not (ap (same_ids (versions_of ops folder g)) (versions_other folder ops o a g f) ∙ same_itself (versions_of ops folder g))) ∙ h))
      ]

  -- an operation with which a line begins changes them
  pub starts_changed : (g : OpId) → begins_line_of_origin folder g ops o ≡ true → changes_versions folder g ops o ≡ true
  starts_changed g h =
      elim (cases_Bool (changes_versions folder g ops o)) [
        | inl t ↦ t
        | inr f ↦
            let p = and_parts (has_version folder g (ops ++ o ∷ [])) (not (has_version folder g ops)) h in
            let v = (version_in folder (ops ++ o ∷ []) g).0 p.0 in
            let i : IsIn v.0 (versions_of ops folder g) = subst (IsIn v.0) (sym (unchanged g f)) (((versions_listed (ops ++ o ∷ []) folder g).1 v.0).1 v.1) in
            let b : has_version folder g ops ≡ true = (version_in folder ops g).1 (v.0, ((versions_listed ops folder g).1 v.0).0 i) in
            absurd (false≢true (sym (ap not b) ∙ p.1))
      ]
