use Rattle.std.proofs.Common.{◌≡◌, ◌↔◌, ◌⊎◌, inl, inr, ℕ, ◌+◌, ◌<◌, add-one, Bool, true, false, cond, not, ◌&&◌, ◌||◌, Option, None, Some, IsSome, List, [], ◌∷◌, ◌++◌, get_or, length, take, refl, sym, ap, ◌∙◌, subst}
use Rattle.std.specs.List.{list_any}
use Rattle.std.specs.Option.{option_map}
use Rattle.std.proofs.Math.Seq.{take-suc}
use Rattle.std.proofs.lemmas.Bool.{and_from, and_parts, cases_Bool, false≢true, or_cases, or_left, or_right}
use Rattle.tags_clocks.specs.declared.id.OpId.{OpId}
use Rattle.merge_laws.specs.Orders.{AreSound, IsCausal, IsIn}
use Rattle.crdt_ops.specs.declared.op.Op.{Op}
use Rattle.crdt_ops.specs.SortedSets.{is_some_id}
use Rattle.crdt_ops.specs.Sets.{MessageTagData, tag_data_by}
use Rattle.crdt_ops.specs.Sound.{IsSound}
use Rattle.crdt_ops.specs.Tags.{FolderTag, MessageTag, adds, removes}
use Rattle.crdt_ops.specs.TagLaws.{adds_own}
use Rattle.crdt_ops.proofs.Members.{any_in, in_map}
use Rattle.crdt_ops.proofs.VersionLemmas.{some_id}
use Rattle.imap_types.specs.declared.version.Version.{Version}
use Rattle.imap_types.specs.Unions.{version_ids}
use Rattle.folder_state.specs.Contents.{Contents, HasTag, HasVersion, IsMadeBy, effect_of, no_contents, origin_in}
use Rattle.folder_state.specs.FolderTables.{HasTagIn, FolderTables, tag_data_in, has_tag_in, folder_tag_data}
use Rattle.folder_state.specs.AfterOps.{contents_after, contents_of_folder, has_tag_data, has_tag_after, op_adds_lasting_version, is_some, is_version}
use Rattle.folder_state.specs.OpRoom.{origin_of_op}
use Rattle.folder_state.proofs.VersionLemmas.{data_source, cond_some, origin_some}
use Rattle.crdt_ops.specs.Ops.{clock_of, id_of}

fold_append : (v : Contents) (xs ys : List Op) → contents_after v (xs ++ ys) ≡ contents_after (contents_after v xs) ys
fold_append v [] ys = refl
fold_append v (x ∷ xs) ys = fold_append (effect_of v x) xs ys

some_is : {X : Type 0} (o : Option X) → IsSome o ↔ (is_some o ≡ true)
some_is None = (λ h. absurd (false≢true h), λ h. absurd (false≢true h))
some_is (Some x) = (λ h. refl, λ h. refl)

-- a tag of either kind, by its test
pub has_tag_by_test : (c : Contents) (ops : List Op) (n : List ℕ) (i : OpId) → HasTag (contents_after c ops) n i ↔ (has_tag_after c ops n i ≡ true)
has_tag_by_test c ops n i =
    let a = (contents_after c ops).tags n i in
    let b = has_tag_data (contents_after c ops) n i in
    let s = some_is ((contents_after c ops).tag_data n i) in (
      λ h. elim h [ inl t ↦ or_left a b t | inr t ↦ or_right a b (s.0 t) ],
      λ h. elim (or_cases a b h) [ inl t ↦ inl t | inr t ↦ inr (s.1 t) ],
    )

remaining_tag : (a r b : Bool) → (a || (not r && b)) ≡ true → a ≡ false → b ≡ true
remaining_tag true r b h k = absurd (false≢true (sym k))
remaining_tag false true b h k = absurd (false≢true h)
remaining_tag false false b h k = h

remaining_data : {X : Type 0} (a r : Bool) (x y : Option X) → IsSome (cond a x (cond r None y)) → a ≡ false → IsSome y
remaining_data {X} true r x y h k = absurd (false≢true (sym k))
remaining_data {X} false true x y h k = absurd (false≢true ((some_is {X = X} None).0 h))
remaining_data {X} false false x y h k = h

own_id : (n : List ℕ) (i : OpId) (o : Op) → (adds (FolderTag n i) o ≡ true) ⊎ (adds (MessageTag n i) o ≡ true) → i ≡ o.id
own_id n i o h = elim h [ inl t ↦ adds_own (FolderTag n i) o t | inr t ↦ adds_own (MessageTag n i) o t ]

-- a tag that is present after the operations was present before, or one of the operations has its
-- id
after_from : (ops : List Op) (c : Contents) (n : List ℕ) (i : OpId) → HasTag (contents_after c ops) n i → HasTag c n i ⊎ ((o : Op) × IsIn o ops × (i ≡ o.id))
after_from [] c n i h = inl h
after_from (o ∷ ops) c n i h =
    elim (after_from ops (effect_of c o) n i h) [
      | inr w ↦ inr (w.0, inr w.1, w.2)
      | inl t ↦ elim (cases_Bool (adds (FolderTag n i) o)) [
        | inl a ↦ inr (o, inl refl, own_id n i o (inl a))
        | inr f ↦ elim (cases_Bool (adds (MessageTag n i) o)) [
          | inl a ↦ inr (o, inl refl, own_id n i o (inr a))
          | inr g ↦ inl (elim t [
            | inl k ↦ inl (remaining_tag (adds (FolderTag n i) o) (removes (FolderTag n i) o) (c.tags n i) k f)
            | inr k ↦ inr (remaining_data (adds (MessageTag n i) o) (removes (MessageTag n i) o) (tag_data_by o.id o.kind) (c.tag_data n i) k g)
          ])
        ]
      ]
    ]

-- ---- only one folder

-- whether a tag is present afterwards depends only on whether it was before
tag_alike : (c d : Contents) (ops : List Op) (n : List ℕ) (i : OpId) → c.tags n i ≡ d.tags n i → (contents_after c ops).tags n i ≡ (contents_after d ops).tags n i
tag_alike c d [] n i e = e
tag_alike c d (o ∷ ops) n i e = tag_alike (effect_of c o) (effect_of d o) ops n i (λ k. adds (FolderTag n i) o || (not (removes (FolderTag n i) o) && e k))

data_alike : (c d : Contents) (ops : List Op) (n : List ℕ) (i : OpId) → c.tag_data n i ≡ d.tag_data n i → (contents_after c ops).tag_data n i ≡ (contents_after d ops).tag_data n i
data_alike c d [] n i e = e
data_alike c d (o ∷ ops) n i e = data_alike (effect_of c o) (effect_of d o) ops n i (λ k. cond (adds (MessageTag n i) o) (tag_data_by o.id o.kind) (cond (removes (MessageTag n i) o) None (e k)))

module _ (c : Contents) (n : List ℕ) (table : Option FolderTables) (tags : (i : OpId) → c.tags n i ≡ has_tag_in table i) (tag_data : (i : OpId) → c.tag_data n i ≡ tag_data_in table i) (ops : List Op) where
  alike : (i : OpId) → has_tag_after c ops n i ≡ has_tag_after (contents_of_folder table) ops n i
  alike i = λ k. tag_alike c (contents_of_folder table) ops n i (tags i) k || is_some (data_alike c (contents_of_folder table) ops n i (tag_data i) k)

  -- whether a tag remains
  pub tag_left : (ids : List OpId) → ((i : OpId) → IsIn i ids ↔ HasTagIn (folder_tag_data table) i) → (r : Bool) → r ≡ (list_any (λ i. has_tag_after (contents_of_folder table) ops n i) ids || list_any (λ o. has_tag_after (contents_of_folder table) ops n o.id) ops) → (r ≡ true) ↔ ((i : OpId) × HasTag (contents_after c ops) n i)
  tag_left ids listed r e =
      let a = list_any (λ (i : OpId). has_tag_after (contents_of_folder table) ops n i) ids in
      let b = list_any (λ (o : Op). has_tag_after (contents_of_folder table) ops n o.id) ops in
      let present = λ (i : OpId) (t : has_tag_after (contents_of_folder table) ops n i ≡ true). (has_tag_by_test c ops n i).1 (alike i ∙ t) in (
        λ t. elim (or_cases a b (sym e ∙ t)) [
          | inl k ↦ let w = (any_in (λ (i : OpId). has_tag_after (contents_of_folder table) ops n i) ids).0 k in (w.0, present w.0 w.2)
          | inr k ↦ let w = (any_in (λ (o : Op). has_tag_after (contents_of_folder table) ops n o.id) ops).0 k in (w.0.id, present w.0.id w.2)
        ],
        λ w.
            let here : has_tag_after (contents_of_folder table) ops n w.0 ≡ true = sym (alike w.0) ∙ (has_tag_by_test c ops n w.0).0 w.1 in
            e ∙ elim (after_from ops c n w.0 w.1) [
              | inl u ↦
                  let own : HasTagIn (folder_tag_data table) w.0 = elim u [ inl t ↦ inl (sym (tags w.0) ∙ t) | inr t ↦ inr (subst IsSome (tag_data w.0) t) ] in
                  or_left a b ((any_in (λ (i : OpId). has_tag_after (contents_of_folder table) ops n i) ids).1 (w.0, (listed w.0).1 own, here))
              | inr u ↦ or_right a b ((any_in (λ (o : Op). has_tag_after (contents_of_folder table) ops n o.id) ops).1 (u.0, u.1, subst (λ j. has_tag_after (contents_of_folder table) ops n j ≡ true) u.2 here))
            ],
      )

  -- whether a version remains
  pub version_left : (o : OpId) (vs : List Version) → ((i : OpId) → IsIn i (version_ids vs) ↔ (option_map (λ (b : MessageTagData). b.origin) (tag_data_in table i) ≡ Some o)) → (r : Bool) → r ≡ (list_any (λ v. is_version (contents_after (contents_of_folder table) ops) n o v.id) vs || list_any (op_adds_lasting_version table ops n o) ops) → (r ≡ true) ↔ HasVersion (contents_after c ops) n o
  version_left o vs listed r e =
      let a = list_any (λ (v : Version). is_version (contents_after (contents_of_folder table) ops) n o v.id) vs in
      let b = list_any (op_adds_lasting_version table ops n o) ops in
      let same = λ (i : OpId). data_alike c (contents_of_folder table) ops n i (tag_data i) in
      let present = λ (i : OpId) (t : is_version (contents_after (contents_of_folder table) ops) n o i ≡ true). ap (option_map (λ (b : MessageTagData). b.origin)) (same i) ∙ (some_id o (origin_in (contents_after (contents_of_folder table) ops) n i)).0 t in (
        λ t. elim (or_cases a b (sym e ∙ t)) [
          | inl k ↦ let w = (any_in (λ (v : Version). is_version (contents_after (contents_of_folder table) ops) n o v.id) vs).0 k in (w.0.id, present w.0.id w.2)
          | inr k ↦
              let w = (any_in (op_adds_lasting_version table ops n o) ops).0 k in
              (w.0.id, present w.0.id (and_parts (is_some_id o (origin_of_op w.0.id w.0.kind)) (is_version (contents_after (contents_of_folder table) ops) n o w.0.id) w.2).1)
        ],
        λ h.
            let f = origin_some ((contents_after c ops).tag_data n h.0) o h.1 in
            let here : is_version (contents_after (contents_of_folder table) ops) n o h.0 ≡ true = (some_id o (origin_in (contents_after (contents_of_folder table) ops) n h.0)).1 (ap (option_map (λ (b : MessageTagData). b.origin)) (sym (same h.0)) ∙ h.1) in
            e ∙ elim (data_source ops c n h.0 f.0 f.1) [
              | inl k ↦
                  let own = (listed h.0).1 (ap (option_map (λ (b : MessageTagData). b.origin)) (sym (tag_data h.0) ∙ k) ∙ ap (λ (j : OpId). Some j) f.2) in
                  let v = (in_map (λ (v : Version). v.id) vs h.0).0 own in
                  or_left a b ((any_in (λ (v : Version). is_version (contents_after (contents_of_folder table) ops) n o v.id) vs).1 (v.0, v.1, subst (λ j. is_version (contents_after (contents_of_folder table) ops) n o j ≡ true) (sym v.2) here))
              | inr k ↦
                  let adds_it = cond_some (adds (MessageTag n h.0) k.0) (tag_data_by k.0.id k.0.kind) f.0 k.2 in
                  let own : h.0 ≡ k.0.id = adds_own (MessageTag n h.0) k.0 adds_it in
                  let by : tag_data_by k.0.id k.0.kind ≡ Some f.0 = (λ j. cond (sym adds_it j) (tag_data_by k.0.id k.0.kind) None) ∙ k.2 in
                  let origin : origin_of_op k.0.id k.0.kind ≡ Some o = ap (option_map (λ (b : MessageTagData). b.origin)) by ∙ ap (λ (j : OpId). Some j) f.2 in
                  or_right a b ((any_in (op_adds_lasting_version table ops n o) ops).1 (
                    k.0,
                    k.1,
                    and_from (is_some_id o (origin_of_op k.0.id k.0.kind)) (is_version (contents_after (contents_of_folder table) ops) n o k.0.id)
                        ((some_id o (origin_of_op k.0.id k.0.kind)).1 origin) (subst (λ j. is_version (contents_after (contents_of_folder table) ops) n o j ≡ true) own here),
                  ))
            ],
      )

-- ---- a further operation

pub contents_after_take_next : (c : Contents) (ops : List Op) (m : ℕ) (o : Op) → m < length ops → o ≡ get_or ops m o → contents_after c (take (m + 1) ops) ≡ effect_of (contents_after c (take m ops)) o
contents_after_take_next c ops m o l e =
    ap (λ j. contents_after c (take j ops)) (add-one m) ∙ ap (contents_after c) (take-suc ops m o l) ∙ fold_append c (take m ops) (get_or ops m o ∷ [])
    ∙ ap (effect_of (contents_after c (take m ops))) (sym e)

pub origin_more : (a r : Bool) (x y : Option MessageTagData) → option_map (λ (b : MessageTagData). b.origin) (cond a x (cond r None y)) ≡ cond a (option_map (λ (b : MessageTagData). b.origin) x) (cond r None (option_map (λ (b : MessageTagData). b.origin) y))
origin_more true r x y = refl
origin_more false true x y = refl
origin_more false false x y = refl

-- the contents after further operations are those after all operations
pub made_after : (c : Contents) (list ops : List Op) → IsMadeBy c list → AreSound IsSound (list ++ ops) → IsCausal id_of clock_of (list ++ ops) → IsMadeBy (contents_after c ops) (list ++ ops)
made_after c list ops m s d = record { sound = s; causal = d; made = ap (λ v. contents_after v ops) m.made ∙ sym (fold_append no_contents list ops) }
