use Rattle.std.specs.List.{list_any}
use Rattle.std.specs.Option.{option_map}
use Rattle.std.proofs.Common.{◌≡◌, inl, inr, ℕ, true, false, cond, not, ◌&&◌, ◌||◌, List, [], ◌∷◌, ◌++◌, Option, Some, None, refl, sym, ap, ◌∙◌, subst}
use Rattle.std.proofs.lemmas.Bool.{and_parts, cases_Bool, false≢true, false_from_ne_true, or_cases, or_parts}
use Rattle.tags_clocks.specs.declared.id.OpId.{OpId}
use Rattle.tags_clocks.proofs.Decide.{ids_decide}
use Rattle.merge_laws.specs.Orders.{IsIn}
use Rattle.crdt_ops.specs.declared.kind.Kind.{Kind}
use Rattle.crdt_ops.specs.declared.kind.Kind.TheVariants.{Create, Delete, Append, Expunge, Store, Subscribe, Unsubscribe}
use Rattle.crdt_ops.specs.declared.op.Op.{Op}
use Rattle.crdt_ops.specs.Meanings.{IsVersion}
use Rattle.crdt_ops.specs.SortedSets.{is_some_id, same_id}
use Rattle.crdt_ops.specs.Sets.{MessageTagData, tag_data_by, versions_of}
use Rattle.crdt_ops.specs.Tags.{MessageTag, tag_added_by, adds, is_present, is_some_tag, tags_removed_by, removed_ids, removes, same_tag}
use Rattle.crdt_ops.specs.TagLaws.{adds_own, delete_removes_message_tags, old_ids_remove_message_tags, same_id_is}
use Rattle.crdt_ops.proofs.Members.{any_in}
use Rattle.crdt_ops.proofs.OrderLemmas.{id_order_same, id_order_total, one_ascending}
use Rattle.crdt_ops.proofs.VersionLemmas.{some_id, versions_listed}
use Rattle.mailbox_rows.specs.declared.entry.ListingEntry.{ListingEntry}
use Rattle.uid_projection.specs.declared.first_numbers.Counters.{Counters}
use Rattle.uid_projection.specs.Applied.{IsApplied}
use Rattle.uid_projection.specs.Chart.{AreEntries, AreVersions}
use Rattle.uid_projection.specs.UidsAndModSeqs.{begins_line, begins_line_of_origin, changes_versions, kind_names_folder, has_version, holds_of_some, modseq_of, origin_added, same_ids, uid_of}
use Rattle.uid_projection.specs.EntryMoves.{added_origin, has_entry, loses, origins_with, origins_without}
use Rattle.uid_projection.proofs.Presence.{added_once, adds_about, presence_step, same_bool}
use Rattle.uid_projection.proofs.Versions.{origin_new, same_itself, unchanged, version_cases, version_in, version_remains}

own_id : (i : OpId) → same_id i i ≡ true
own_id i = (ids_decide i i).1 refl

pub same_origin : (g h : OpId) → ◌≡◌ {A = Option OpId} (Some g) (Some h) → g ≡ h
same_origin g h e = cc

pub no_origin : (g : OpId) → ◌≡◌ {A = Option OpId} None (Some g) → ⊥
no_origin g e = cc

-- ---- the tags that an operation about a folder adds and removes

origin_by : (folder : List ℕ) (id : OpId) (kind : Kind) → kind_names_folder folder kind ≡ true → option_map (λ (b : MessageTagData). b.origin) (cond (is_some_tag (MessageTag folder id) (tag_added_by id kind)) (tag_data_by id kind) None) ≡ option_map (λ (b : MessageTagData). b.origin) (tag_data_by id kind)
origin_by folder id (Create name) h = refl
origin_by folder id (Delete name seen) h = refl
origin_by folder id (Append name flags date text) h = λ k. option_map (λ (b : MessageTagData). b.origin) (cond (h k && own_id id k) (tag_data_by id (Append name flags date text)) None)
origin_by folder id (Expunge name old_ids) h = refl
origin_by folder id (Store name flags old_ids origin) h = λ k. option_map (λ (b : MessageTagData). b.origin) (cond (h k && own_id id k) (tag_data_by id (Store name flags old_ids origin)) None)
origin_by folder id (Subscribe name) h = absurd (false≢true h)
origin_by folder id (Unsubscribe name seen) h = absurd (false≢true h)

-- the origin of the tag that an operation about the folder adds
pub origin_here : (folder : List ℕ) (o : Op) → kind_names_folder folder o.kind ≡ true → origin_added folder o ≡ added_origin o
origin_here folder o h = origin_by folder o.id o.kind h

removed_by_kind : (folder : List ℕ) (i : OpId) (kind : Kind) → kind_names_folder folder kind ≡ true → list_any (same_tag (MessageTag folder i)) (tags_removed_by kind) ≡ list_any (same_id i) (removed_ids kind)
removed_by_kind folder i (Create name) h = refl
removed_by_kind folder i (Delete name seen) h = delete_removes_message_tags folder name i seen ∙ ap (λ b. b && list_any (same_id i) seen) h
removed_by_kind folder i (Append name flags date text) h = refl
removed_by_kind folder i (Expunge name old_ids) h = old_ids_remove_message_tags folder name i old_ids ∙ ap (λ b. b && list_any (same_id i) old_ids) h
removed_by_kind folder i (Store name flags old_ids origin) h = old_ids_remove_message_tags folder name i old_ids ∙ ap (λ b. b && list_any (same_id i) old_ids) h
removed_by_kind folder i (Subscribe name) h = absurd (false≢true h)
removed_by_kind folder i (Unsubscribe name seen) h = absurd (false≢true h)

-- the message tags that it removes
pub removed_here : (folder : List ℕ) (o : Op) → kind_names_folder folder o.kind ≡ true → (i : OpId) → removes (MessageTag folder i) o ≡ list_any (same_id i) (removed_ids o.kind)
removed_here folder o h i = removed_by_kind folder i o.kind h

-- a line begins by an operation about its folder
pub line_about : (folder : List ℕ) (ops : List Op) (o : Op) → begins_line folder ops o ≡ true → kind_names_folder folder o.kind ≡ true
line_about folder ops o h =
    elim (cases_Bool (adds (MessageTag folder o.id) o)) [
      | inl t ↦ adds_about folder o.id o.id o.kind (inr t)
      | inr f ↦ absurd (false≢true (sym (ap (λ b. holds_of_some (λ g. begins_line_of_origin folder g ops o) (option_map (λ (x : MessageTagData). x.origin) (cond b (tag_data_by o.id o.kind) None))) f) ∙ h))
    ]

-- ---- one further operation

module _ (folder : List ℕ) (ops : List Op) (o : Op) (a : IsApplied (ops ++ o ∷ [])) where
  -- an operation that adds an origin adds a tag
  tag_added : (g : OpId) → origin_added folder o ≡ Some g → adds (MessageTag folder o.id) o ≡ true
  tag_added g h =
      elim (cases_Bool (adds (MessageTag folder o.id) o)) [
        | inl t ↦ t
        | inr f ↦ absurd (no_origin g (sym (ap (λ b. option_map (λ (x : MessageTagData). x.origin) (cond b (tag_data_by o.id o.kind) None)) f) ∙ h))
      ]

  -- the tag is a version of the origin
  pub version_added : (g : OpId) → origin_added folder o ≡ Some g → IsVersion (ops ++ o ∷ []) folder g o.id
  version_added g h =
      let t = tag_added g h in (
        presence_step ops o (MessageTag folder o.id) a ∙ (λ i. t i || (not (removes (MessageTag folder o.id) o) && is_present ops (MessageTag folder o.id))),
        origin_new folder ops o a t ∙ h,
      )

  -- a version isn't added again
  old_version : (g i : OpId) → IsVersion ops folder g i → adds (MessageTag folder i) o ≡ false
  old_version g i v =
      false_from_ne_true (adds (MessageTag folder i) o) (λ t.
      false≢true (sym (added_once ops o (MessageTag folder i) a t) ∙ (and_parts (list_any (adds (MessageTag folder i)) ops) (not (list_any (removes (MessageTag folder i)) ops)) v.0).0))

  -- a removed version isn't one afterwards
  version_removed : (g h i : OpId) → IsVersion ops folder g i → removes (MessageTag folder i) o ≡ true → IsVersion (ops ++ o ∷ []) folder h i → ⊥
  version_removed g h i v r w =
      false≢true (sym (presence_step ops o (MessageTag folder i) a ∙ (λ k. old_version g i v k || (not (r k) && is_present ops (MessageTag folder i)))) ∙ w.0)

  -- the added version wasn't one before
  version_new : (g h : OpId) → origin_added folder o ≡ Some g → IsVersion ops folder h o.id → ⊥
  version_new g h e v = false≢true (sym (old_version h o.id v) ∙ tag_added g e)

  changed_removed : (g i : OpId) → IsVersion ops folder g i → removes (MessageTag folder i) o ≡ true → changes_versions folder g ops o ≡ true
  changed_removed g i v r =
      elim (cases_Bool (changes_versions folder g ops o)) [
        | inl t ↦ t
        | inr f ↦
            let w = ((versions_listed (ops ++ o ∷ []) folder g).1 i).0 (subst (IsIn i) (unchanged folder ops o g f) (((versions_listed ops folder g).1 i).1 v)) in
            absurd (version_removed g g i v r w)
      ]

  changed_added : (g : OpId) → origin_added folder o ≡ Some g → changes_versions folder g ops o ≡ true
  changed_added g e =
      elim (cases_Bool (changes_versions folder g ops o)) [
        | inl t ↦ t
        | inr f ↦
            let w = ((versions_listed ops folder g).1 o.id).0 (subst (IsIn o.id) (sym (unchanged folder ops o g f)) (((versions_listed (ops ++ o ∷ []) folder g).1 o.id).1 (version_added g e))) in
            absurd (version_new g g e w)
      ]

  -- versions stay if none is removed and none is added
  pub unchanged_by : (g : OpId) → ((i : OpId) → IsVersion ops folder g i → removes (MessageTag folder i) o ≡ false) → (origin_added folder o ≡ Some g → ⊥) → changes_versions folder g ops o ≡ false
  unchanged_by g not_removed none =
      let l = versions_listed (ops ++ o ∷ []) folder g in
      let m = versions_listed ops folder g in
      let same : versions_of ops folder g ≡ versions_of (ops ++ o ∷ []) folder g = one_ascending id_order_total id_order_same (versions_of ops folder g) (versions_of (ops ++ o ∷ []) folder g) m.0 l.0 (λ i. (
        λ h. let v = (m.1 i).0 h in (l.1 i).1 (version_remains folder ops o a g i v (not_removed i v)),
        λ h. (m.1 i).1 (elim (version_cases folder ops o a g i ((l.1 i).0 h)) [ inl w ↦ w.0 | inr w ↦ absurd (none w.1) ]),
      )) in
      ap not (ap (same_ids (versions_of ops folder g)) (sym same) ∙ same_itself (versions_of ops folder g))

  -- if they stay, the origin still has one
  pub has_version_still : (g : OpId) → changes_versions folder g ops o ≡ false → has_version folder g ops ≡ true → has_version folder g (ops ++ o ∷ []) ≡ true
  has_version_still g n h =
      let v = (version_in folder ops g).0 h in
      let i = subst (IsIn v.0) (unchanged folder ops o g n) (((versions_listed ops folder g).1 v.0).1 v.1) in
      (version_in folder (ops ++ o ∷ []) g).1 (v.0, ((versions_listed (ops ++ o ∷ []) folder g).1 v.0).0 i)

  -- ---- the table of versions

  module _ (removed : List OpId) (takes : (i : OpId) → removes (MessageTag folder i) o ≡ list_any (same_id i) removed) (added : Option OpId) (own : added ≡ origin_added folder o) (f : OpId → Option OpId) (l : AreVersions folder ops f) where
    lost_none : (g : OpId) → loses f removed g ≡ false → (i : OpId) → IsVersion ops folder g i → removes (MessageTag folder i) o ≡ false
    lost_none g none i v =
        takes i ∙ false_from_ne_true (list_any (same_id i) removed) (λ r.
        let w = (any_in (same_id i) removed).0 r in
        let t : is_some_id g (f w.0) ≡ true = subst (λ (j : OpId). is_some_id g (f j) ≡ true) (same_id_is i w.0 w.2) ((some_id g (f i)).1 ((l i g).1 v)) in
        false≢true (sym none ∙ (any_in (λ (j : OpId). is_some_id g (f j)) removed).1 (w.0, w.1, t)))

    lost_one : (g : OpId) → loses f removed g ≡ true → changes_versions folder g ops o ≡ true
    lost_one g t =
        let w = (any_in (λ (j : OpId). is_some_id g (f j)) removed).0 t in
        let v : IsVersion ops folder g w.0 = (l w.0 g).0 ((some_id g (f w.0)).0 w.2) in
        changed_removed g w.0 v (takes w.0 ∙ (any_in (same_id w.0) removed).1 (w.0, w.1, own_id w.0))

    -- an origin that loses or gets a version is one whose versions change
    pub changed_is : (g : OpId) → (loses f removed g || is_some_id g added) ≡ changes_versions folder g ops o
    changed_is g =
        elim (cases_Bool (loses f removed g || is_some_id g added)) [
          | inl t ↦ t ∙ sym (elim (or_cases (loses f removed g) (is_some_id g added) t) [
            | inl x ↦ lost_one g x
            | inr x ↦ changed_added g (sym own ∙ (some_id g added).0 x)
          ])
          | inr n ↦
              let p = or_parts (loses f removed g) (is_some_id g added) n in
              n ∙ sym (unchanged_by g (lost_none g p.0) (λ e. false≢true (sym p.1 ∙ (some_id g added).1 (own ∙ e))))
        ]

    old_left : (i g : OpId) → origins_without f removed i ≡ Some g → IsVersion (ops ++ o ∷ []) folder g i
    old_left i g h =
        elim (cases_Bool (list_any (same_id i) removed)) [
          | inl t ↦ absurd (no_origin g (sym (ap (λ b. cond b None (f i)) t) ∙ h))
          | inr n ↦ version_remains folder ops o a g i ((l i g).0 (sym (ap (λ b. cond b None (f i)) n) ∙ h)) (takes i ∙ n)
        ]

    left_old : (i g : OpId) → IsVersion ops folder g i → removes (MessageTag folder i) o ≡ false → origins_without f removed i ≡ Some g
    left_old i g x r = ap (λ b. cond b None (f i)) (sym (takes i) ∙ r) ∙ (l i g).1 x

    -- after an operation that adds none
    pub versions_left : origin_added folder o ≡ None → AreVersions folder (ops ++ o ∷ []) (origins_without f removed)
    versions_left none i g = (
      old_left i g,
      λ x. elim (version_cases folder ops o a g i x) [
        | inl w ↦ left_old i g w.0 w.1
        | inr w ↦ absurd (no_origin g (sym none ∙ w.1))
      ],
    )

    -- after an operation that adds a version
    pub versions_of_append : (g : OpId) → origin_added folder o ≡ Some g → AreVersions folder (ops ++ o ∷ []) (origins_with (origins_without f removed) o.id g)
    versions_of_append g e i h =
        elim (cases_Bool (same_id o.id i)) [
          | inl t ↦
              let is : o.id ≡ i = same_id_is o.id i t in
              let here : origins_with (origins_without f removed) o.id g i ≡ Some g = ap (λ b. cond b (Some g) (origins_without f removed i)) t in (
                λ x. let same : g ≡ h = same_origin g h (sym here ∙ x) in subst (λ (j : OpId). IsVersion (ops ++ o ∷ []) folder h j) is (subst (λ (k : OpId). IsVersion (ops ++ o ∷ []) folder k o.id) same (version_added g e)),
                λ x. here ∙ elim (version_cases folder ops o a h i x) [
                  | inl w ↦ absurd (version_new g h e (subst (λ (j : OpId). IsVersion ops folder h j) (sym is) w.0))
                  | inr w ↦ sym e ∙ w.1
                ],
              )
          | inr n ↦
              let past : origins_with (origins_without f removed) o.id g i ≡ origins_without f removed i = ap (λ b. cond b (Some g) (origins_without f removed i)) n in (
                λ x. old_left i h (sym past ∙ x),
                λ x. past ∙ elim (version_cases folder ops o a h i x) [
                  | inl w ↦ left_old i h w.0 w.1
                  | inr w ↦ absurd (false≢true (sym n ∙ subst (λ (j : OpId). same_id o.id j ≡ true) (sym (adds_own (MessageTag folder i) o w.0)) (own_id o.id)))
                ],
              )
        ]

-- an origin with an entry has a version
pub held_is : (start : Counters) (folder : List ℕ) (ops : List Op) (es : List ListingEntry) → AreEntries start folder ops es → (g : OpId) → has_entry es g ≡ has_version folder g ops
held_is start folder ops es l g =
    same_bool (has_entry es g) (has_version folder g ops)
    (λ h.
    let w = (any_in (λ (e : ListingEntry). same_id g e.origin) es).0 h in
    subst (λ (x : OpId). has_version folder x ops ≡ true) (sym (same_id_is g w.0.origin w.2)) ((l w.0).0 w.1).present)
    (λ h.
    let x : ListingEntry = record { origin = g; uid = uid_of start folder ops g; modseq = modseq_of folder ops g } in
    (any_in (λ (e : ListingEntry). same_id g e.origin) es).1 (x, (l x).1 (record { present = h; uid = refl; modseq = refl }), own_id g))
