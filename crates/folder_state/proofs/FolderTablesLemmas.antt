-- Versions by origin, and origins by id: that they agree, and the data that they give each tag.
use Rattle.std.proofs.Common.{◌≡◌, ◌↔◌, ◌⊎◌, inl, inr, ◌<◌, ◌==◌, eqb-true, arith, Bool, true, false, cond, not, Option, None, Some, IsSome, IsTrue, List, [], ◌∷◌, ◌++◌, length, refl, sym, ap, ◌∙◌, subst}
use Rattle.std.specs.Bool.{MatchBool}
use Rattle.std.specs.Global.{Vec}
use Rattle.std.specs.List.{list_any}
use Rattle.std.specs.Map.{keys_of, lookup}
use Rattle.std.specs.Option.{option_map}
use Rattle.std.proofs.lemmas.Bool.{cases_Bool, false≢true, false_from_ne_true}
use Rattle.imap_types.specs.declared.flags.Flags.{Flags}
use Rattle.tags_clocks.specs.declared.id.OpId.{OpId}
use Rattle.merge_laws.specs.Orders.{IsIn}
use Rattle.merge_laws.proofs.Lists.{in_front, in_back, in_parts}
use Rattle.crdt_ops.specs.SortedSets.{IsAscending, id_order, insert_ordered, same_id}
use Rattle.crdt_ops.specs.Sets.{MessageTagData}
use Rattle.crdt_ops.proofs.Members.{any_in}
use Rattle.imap_types.specs.declared.version.Version.{Version}
use Rattle.imap_types.specs.Unions.{version_ids}
use Rattle.folder_state.specs.FolderTables.{AreIndexed, AreVersionsOf, HasTagIn, FolderContents, IsPutIn, IsTakenOut, FolderTables, tag_data_at, by_id, flags_among, folder_contents, folder_ids, has_ids, versions_or_none, versions_at, without_version}
use Rattle.folder_state.proofs.Versions.{ascending_with, ascending_without, flags_own, flags_some, flags_with, flags_without, id_is, id_not, ids_with, ids_without, not_id, own_id, own_placed, placed_long}

-- ---- lookups

pub key_iff_lookup : {X : Type 0} (es : List (OpId × X)) (i : OpId) → IsIn i (keys_of es) ↔ IsSome (lookup (same_id i) es)
key_iff_lookup [] i = (λ h. absurd h, λ h. absurd (false≢true h))
key_iff_lookup (e ∷ es) i =
    let rest = key_iff_lookup es i in (
      λ h. elim (cases_Bool (same_id i e.0)) [
        | inl t ↦ subst (λ b. IsSome (cond b (Some e.1) (lookup (same_id i) es))) (sym t) refl
        | inr f ↦ subst (λ b. IsSome (cond b (Some e.1) (lookup (same_id i) es))) (sym f) (elim h [ inl k ↦ absurd (not_id i e.0 f (sym k)) | inr t ↦ rest.0 t ])
      ],
      λ h. elim (cases_Bool (same_id i e.0)) [
        | inl t ↦ inl (sym (id_is i e.0 t))
        | inr f ↦ inr (rest.1 (subst (λ b. IsSome (cond b (Some e.1) (lookup (same_id i) es))) f h))
      ],
    )

pub some_mapped : {X Y : Type 0} (g : X → Y) (x : Option X) → IsSome (option_map g x) ↔ IsSome x
some_mapped g None = (λ h. absurd (false≢true h), λ h. absurd (false≢true h))
some_mapped g (Some x) = (λ h. refl, λ h. refl)

-- The data of a version, with the origin of its message.
abbrev pub message_tag_data : OpId → Flags → MessageTagData
message_tag_data origin flags = record { flags = flags; origin = origin }

-- ---- the data of tags

module _ (messages : List (OpId × Vec Version)) (origins : List (OpId × OpId)) (indexed : AreIndexed messages origins) where
  -- the origin of a tag is that in its data
  pub origin_is : (i : OpId) → option_map (λ (b : MessageTagData). b.origin) (tag_data_at messages i (lookup (same_id i) origins)) ≡ lookup (same_id i) origins
  origin_is i = at (lookup (same_id i) origins) refl
    where
      at : (x : Option OpId) → lookup (same_id i) origins ≡ x → option_map (λ (b : MessageTagData). b.origin) (tag_data_at messages i x) ≡ x
      at None e = refl
      at (Some o) e =
          let w = flags_some (versions_at messages o) i ((indexed.both i o).0 e) in
          ap (λ (x : Option Flags). option_map (λ (b : MessageTagData). b.origin) (option_map (message_tag_data o) x)) w.1

  pub data_some : (i : OpId) → IsSome (tag_data_at messages i (lookup (same_id i) origins)) ↔ IsSome (lookup (same_id i) origins)
  data_some i =
      let content = tag_data_at messages i (lookup (same_id i) origins) in
      let m = some_mapped (λ (b : MessageTagData). b.origin) content in (
        λ h. subst IsSome (origin_is i) (m.1 h),
        λ h. m.0 (subst IsSome (sym (origin_is i)) h),
      )

  -- the origin has exactly these versions
  pub versions_by : (o i : OpId) → IsIn i (version_ids (versions_at messages o)) ↔ (option_map (λ (b : MessageTagData). b.origin) (tag_data_at messages i (lookup (same_id i) origins)) ≡ Some o)
  versions_by o i = (λ t. origin_is i ∙ (indexed.both i o).1 t, λ t. (indexed.both i o).0 (sym (origin_is i) ∙ t))

  -- each version has its flags
  pub carried_by : (o : OpId) (v : Version) → IsIn v (versions_at messages o) → tag_data_at messages v.id (lookup (same_id v.id) origins) ≡ Some (message_tag_data o v.flags)
  carried_by o v t =
      ap (tag_data_at messages v.id) ((indexed.both v.id o).1 ((versions_id v (versions_at messages o)) t))
      ∙ ap (option_map (message_tag_data o)) (flags_own (versions_at messages o) v (indexed.ascending o) t)
    where
      versions_id : (v : Version) (vs : List Version) → IsIn v vs → IsIn v.id (version_ids vs)
      versions_id v [] h = absurd h
      versions_id v (w ∷ ws) h = elim h [ inl e ↦ inl (ap (λ (z : Version). z.id) e) | inr t ↦ inr (versions_id v ws t) ]

pub versions_are : (k : FolderTables) (o : OpId) (vs : Vec Version) → AreIndexed k.messages k.origins → lookup (same_id o) k.messages ≡ Some vs → AreVersionsOf (folder_contents k) o vs.items
versions_are k o vs indexed e =
    let same : versions_at k.messages o ≡ vs.items = ap versions_or_none e in
    record {
      some = indexed.some o vs e;
      ascending = subst (λ xs. IsAscending id_order (version_ids xs)) same (indexed.ascending o);
      listed = λ i. subst (λ xs. IsIn i (version_ids xs) ↔ (option_map (λ (b : MessageTagData). b.origin) ((folder_contents k).tag_data i) ≡ Some o)) same (versions_by k.messages k.origins indexed o i);
      carried = λ v t. carried_by k.messages k.origins indexed o v (subst (IsIn v) (sym same) t);
    }

pub no_versions : (k : FolderTables) (o : OpId) → AreIndexed k.messages k.origins → lookup (same_id o) k.messages ≡ None → (i : OpId) → option_map (λ (b : MessageTagData). b.origin) ((folder_contents k).tag_data i) ≡ Some o → ⊥
no_versions k o indexed e i h = subst (λ xs. IsIn i (version_ids xs)) (ap versions_or_none e) ((versions_by k.messages k.origins indexed o i).1 h)

-- the ids of all tags
pub tag_listed : (keys : List OpId) (i : OpId) → IsIn i keys ↔ (list_any (same_id i) keys ≡ true)
tag_listed keys i =
    let at = any_in (same_id i) keys in (
      λ h. at.1 (i, h, own_id i),
      λ h. let w = at.0 h in subst (λ j. IsIn j keys) (sym (id_is i w.0 w.2)) w.1,
    )

pub ids_are : (k : FolderTables) → AreIndexed k.messages k.origins → (i : OpId) → IsIn i (folder_ids k) ↔ HasTagIn (folder_contents k) i
ids_are k indexed i =
    let tag = tag_listed k.tags i in
    let key = key_iff_lookup k.origins i in
    let content = data_some k.messages k.origins indexed i in (
      λ h. elim (in_parts i k.tags (keys_of k.origins) h) [ inl t ↦ inl (tag.0 t) | inr t ↦ inr (content.1 (key.0 t)) ],
      λ h. elim h [ inl t ↦ in_front i k.tags (keys_of k.origins) (tag.1 t) | inr t ↦ in_back i k.tags (keys_of k.origins) (key.1 (content.0 t)) ],
    )

-- ---- without one version

split_at : (new old : List (OpId × Vec Version)) (o : OpId) (changed : List Version → List Version) → versions_at new o ≡ changed (versions_at old o) → ((p : OpId) → same_id p o ≡ false → lookup (same_id p) new ≡ lookup (same_id p) old) → (p : OpId) → versions_at new p ≡ cond (same_id p o) (changed (versions_at old p)) (versions_at old p)
split_at new old o changed here others p =
    elim (cases_Bool (same_id p o)) [
      | inl t ↦ subst (λ q. versions_at new q ≡ changed (versions_at old q)) (sym (id_is p o t)) here ∙ (λ k. cond (sym t k) (changed (versions_at old p)) (versions_at old p))
      | inr f ↦ ap versions_or_none (others p f) ∙ (λ k. cond (sym f k) (changed (versions_at old p)) (versions_at old p))
    ]

cond_none : {Y : Type 0} (b : Bool) (x : Option Y) (y : Y) → cond b None x ≡ Some y → (b ≡ false) × (x ≡ Some y)
cond_none true x y h = absurd (let k = h in cc)
cond_none false x y h = (refl, h)

module _ (o id : OpId) (old new : List (OpId × Vec Version)) (taken : IsTakenOut o id old new) where
  taken_at : (p : OpId) → versions_at new p ≡ cond (same_id p o) (without_version id (versions_at old p)) (versions_at old p)
  taken_at p = split_at new old o (without_version id) taken.here taken.others p

  taken_ids : (p i : OpId) → IsIn i (version_ids (versions_at new p)) ↔ (IsIn i (version_ids (versions_at old p)) × (same_id p o ≡ true → same_id i id ≡ false))
  taken_ids p i = subst (λ xs. IsIn i (version_ids xs) ↔ (IsIn i (version_ids (versions_at old p)) × (same_id p o ≡ true → same_id i id ≡ false))) (sym (taken_at p)) (at (same_id p o))
    where
      at : (b : Bool) → IsIn i (version_ids (cond b (without_version id (versions_at old p)) (versions_at old p))) ↔ (IsIn i (version_ids (versions_at old p)) × (b ≡ true → same_id i id ≡ false))
      at true = let w = ids_without id (versions_at old p) i in (λ h. let k = w.0 h in (k.0, λ t. k.1), λ h. w.1 (h.0, h.1 refl))
      at false = (λ h. (h, λ t. absurd (false≢true t)), λ h. h.0)

  taken_flags : (p i : OpId) → same_id i id ≡ false → flags_among (versions_at new p) i ≡ flags_among (versions_at old p) i
  taken_flags p i f = ap (λ xs. flags_among xs i) (taken_at p) ∙ at (same_id p o)
    where
      at : (b : Bool) → flags_among (cond b (without_version id (versions_at old p)) (versions_at old p)) i ≡ flags_among (versions_at old p) i
      at true = flags_without id i f (versions_at old p)
      at false = refl

  module _ (before after : List (OpId × OpId)) (indexed : AreIndexed old before) (was : lookup (same_id id) before ≡ Some o) (updated : (i : OpId) → lookup (same_id i) after ≡ cond (same_id i id) None (lookup (same_id i) before)) where
    pub filed_taken : AreIndexed new after
    filed_taken = record {
      some = λ p vs e. elim (cases_Bool (same_id p o)) [
        | inl t ↦ taken.some vs (subst (λ q. lookup (same_id q) new ≡ Some vs) (id_is p o t) e)
        | inr f ↦ indexed.some p vs (sym (taken.others p f) ∙ e)
      ];
      ascending = λ p. subst (λ xs. IsAscending id_order (version_ids xs)) (sym (taken_at p)) (at p (same_id p o));
      both = λ i p. (
        λ h.
            let k = cond_none (same_id i id) (lookup (same_id i) before) p (sym (updated i) ∙ h) in
            (taken_ids p i).1 ((indexed.both i p).0 k.1, λ t. k.0),
        λ h.
            let k = (taken_ids p i).0 h in
            let looked_up = (indexed.both i p).1 k.0 in
            let apart : same_id i id ≡ false = id_not i id (λ e.
            let same : p ≡ o = let s : Some p ≡ Some o = sym looked_up ∙ ap (λ j. lookup (same_id j) before) e ∙ was in cc in
            not_id i id (k.1 (subst (λ q. same_id q o ≡ true) (sym same) (own_id o))) e) in
            updated i ∙ ap (λ b. cond b None (lookup (same_id i) before)) apart ∙ looked_up,
      );
    }
      where
        at : (p : OpId) (b : Bool) → IsAscending id_order (version_ids (cond b (without_version id (versions_at old p)) (versions_at old p)))
        at p true = ascending_without id (versions_at old p) (indexed.ascending p)
        at p false = indexed.ascending p

    pub bodies_taken : (i : OpId) → tag_data_at new i (lookup (same_id i) after) ≡ cond (same_id i id) None (tag_data_at old i (lookup (same_id i) before))
    bodies_taken i =
        ap (tag_data_at new i) (updated i)
        ∙ elim (cases_Bool (same_id i id)) [
          | inl t ↦ (λ k. tag_data_at new i (cond (t k) None (lookup (same_id i) before))) ∙ (λ k. cond (sym t k) None (tag_data_at old i (lookup (same_id i) before)))
          | inr f ↦
              (λ k. tag_data_at new i (cond (f k) None (lookup (same_id i) before)))
              ∙ each (lookup (same_id i) before) i f
              ∙ (λ k. cond (sym f k) None (tag_data_at old i (lookup (same_id i) before)))
        ]
      where
        each : (x : Option OpId) (i : OpId) → same_id i id ≡ false → tag_data_at new i x ≡ tag_data_at old i x
        each None i f = refl
        each (Some p) i f = ap (option_map (message_tag_data p)) (taken_flags p i f)

-- ---- with one further version

cond_some : {Y : Type 0} (b : Bool) (x y : Y) (z : Option Y) → cond b (Some x) z ≡ Some y → ((b ≡ true) × (x ≡ y)) ⊎ ((b ≡ false) × (z ≡ Some y))
cond_some true x y z h = inl (refl, cc)
cond_some false x y z h = inr (refl, h)

module _ (o : OpId) (v : Version) (old new : List (OpId × Vec Version)) (put : IsPutIn o v old new) where
  put_at : (p : OpId) → versions_at new p ≡ cond (same_id p o) (insert_ordered by_id v (versions_at old p)) (versions_at old p)
  put_at p = split_at new old o (insert_ordered by_id v) put.here put.others p

  module _ (before after : List (OpId × OpId)) (indexed : AreIndexed old before) (was : lookup (same_id v.id) before ≡ None) (updated : (i : OpId) → lookup (same_id i) after ≡ cond (same_id i v.id) (Some o) (lookup (same_id i) before)) where
    absent : (p : OpId) → IsIn v.id (version_ids (versions_at old p)) → ⊥
    absent p h = let k : ◌≡◌ {A = Option OpId} None (Some p) = sym was ∙ (indexed.both v.id p).1 h in cc

    put_ids : (p i : OpId) → IsIn i (version_ids (versions_at new p)) ↔ (((same_id p o ≡ true) × (v.id ≡ i)) ⊎ IsIn i (version_ids (versions_at old p)))
    put_ids p i = subst (λ xs. IsIn i (version_ids xs) ↔ (((same_id p o ≡ true) × (v.id ≡ i)) ⊎ IsIn i (version_ids (versions_at old p)))) (sym (put_at p)) (at (same_id p o))
      where
        at : (b : Bool) → IsIn i (version_ids (cond b (insert_ordered by_id v (versions_at old p)) (versions_at old p))) ↔ (((b ≡ true) × (v.id ≡ i)) ⊎ IsIn i (version_ids (versions_at old p)))
        at true = let w = ids_with v (versions_at old p) (absent p) i in (λ h. elim (w.0 h) [ inl e ↦ inl (refl, e) | inr t ↦ inr t ], λ h. w.1 (elim h [ inl e ↦ inl e.1 | inr t ↦ inr t ]))
        at false = (λ h. inr h, λ h. elim h [ inl e ↦ absurd (false≢true e.0) | inr t ↦ t ])

    put_flags : (p i : OpId) → same_id i v.id ≡ false → flags_among (versions_at new p) i ≡ flags_among (versions_at old p) i
    put_flags p i f = ap (λ xs. flags_among xs i) (put_at p) ∙ at (same_id p o)
      where
        at : (b : Bool) → flags_among (cond b (insert_ordered by_id v (versions_at old p)) (versions_at old p)) i ≡ flags_among (versions_at old p) i
        at true = flags_with v (versions_at old p) (absent p) i f
        at false = refl

    put_ascending : (p : OpId) → IsAscending id_order (version_ids (versions_at new p))
    put_ascending p = subst (λ xs. IsAscending id_order (version_ids xs)) (sym (put_at p)) (at (same_id p o))
      where
        at : (b : Bool) → IsAscending id_order (version_ids (cond b (insert_ordered by_id v (versions_at old p)) (versions_at old p)))
        at true = ascending_with v (versions_at old p) (indexed.ascending p)
        at false = indexed.ascending p

    pub filed_put : AreIndexed new after
    filed_put = record {
      some = λ p vs e. elim (cases_Bool (same_id p o)) [
        | inl t ↦
            let same : vs.items ≡ insert_ordered by_id v (versions_at old o) = sym (ap versions_or_none (subst (λ q. lookup (same_id q) new ≡ Some vs) (id_is p o t) e)) ∙ put.here in
            subst (λ xs. 0 < length xs) (sym same) (placed_long v (versions_at old o)).0
        | inr f ↦ indexed.some p vs (sym (put.others p f) ∙ e)
      ];
      ascending = put_ascending;
      both = λ i p. (
        λ h. elim (cond_some (same_id i v.id) o p (lookup (same_id i) before) (sym (updated i) ∙ h)) [
          | inl k ↦ (put_ids p i).1 (inl (subst (λ q. same_id q o ≡ true) k.1 (own_id o), sym (id_is i v.id k.0)))
          | inr k ↦ (put_ids p i).1 (inr ((indexed.both i p).0 k.1))
        ],
        λ h. updated i ∙ elim ((put_ids p i).0 h) [
          | inl k ↦
              (λ j. cond (same_id (sym k.1 j) v.id) (Some o) (lookup (same_id i) before))
              ∙ (λ j. cond (own_id v.id j) (Some o) (lookup (same_id i) before))
              ∙ ap (λ (q : OpId). Some q) (sym (id_is p o k.0))
          | inr t ↦
              let looked_up = (indexed.both i p).1 t in
              let apart : same_id i v.id ≡ false = id_not i v.id (λ e. let k : ◌≡◌ {A = Option OpId} None (Some p) = sym was ∙ ap (λ j. lookup (same_id j) before) (sym e) ∙ looked_up in cc) in
              ap (λ b. cond b (Some o) (lookup (same_id i) before)) apart ∙ looked_up
        ],
      );
    }

    pub bodies_put : (i : OpId) → tag_data_at new i (lookup (same_id i) after) ≡ cond (same_id i v.id) (Some (message_tag_data o v.flags)) (tag_data_at old i (lookup (same_id i) before))
    bodies_put i =
        ap (tag_data_at new i) (updated i)
        ∙ elim (cases_Bool (same_id i v.id)) [
          | inl t ↦
              (λ k. tag_data_at new i (cond (t k) (Some o) (lookup (same_id i) before)))
              ∙ ap (λ j. tag_data_at new j (Some o)) (id_is i v.id t)
              ∙ ap (option_map (message_tag_data o)) (flags_own (versions_at new o) v (put_ascending o) (subst (IsIn v) (sym put.here) (own_placed v (versions_at old o) (absent o))))
              ∙ (λ k. cond (sym t k) (Some (message_tag_data o v.flags)) (tag_data_at old i (lookup (same_id i) before)))
          | inr f ↦
              (λ k. tag_data_at new i (cond (f k) (Some o) (lookup (same_id i) before)))
              ∙ each (lookup (same_id i) before) i f
              ∙ (λ k. cond (sym f k) (Some (message_tag_data o v.flags)) (tag_data_at old i (lookup (same_id i) before)))
        ]
      where
        each : (x : Option OpId) (i : OpId) → same_id i v.id ≡ false → tag_data_at new i x ≡ tag_data_at old i x
        each None i f = refl
        each (Some p) i f = ap (option_map (message_tag_data p)) (put_flags p i f)

-- ---- whether there are any tags

no_ids : (ids : List OpId) → not (not (length ids == 0)) ≡ true → ids ≡ []
no_ids [] h = refl
no_ids (i ∷ is) h = let k : length (i ∷ is) ≡ 0 = eqb-true (length (i ∷ is)) 0 (not-not (length (i ∷ is) == 0) h) in absurd (omega (arith, k))
  where
    not-not : (b : Bool) → not (not b) ≡ true → b ≡ true
    not-not true h = refl
    not-not false h = h

some_id : (ids : List OpId) → not (not (length ids == 0)) ≡ false → (i : OpId) × IsIn i ids
some_id [] h = absurd (false≢true (sym h))
some_id (i ∷ is) h = (i, inl refl)

pub is_empty_by_tables : (k : FolderTables) → AreIndexed k.messages k.origins → (b : Bool) → b ≡ not (has_ids k) → MatchBool b ((i : OpId) → HasTagIn (folder_contents k) i → ⊥) ((i : OpId) × HasTagIn (folder_contents k) i)
is_empty_by_tables k indexed true e = λ i h. let none : folder_ids k ≡ [] = no_ids (folder_ids k) (sym e) in subst (IsIn i) none ((ids_are k indexed i).1 h)
is_empty_by_tables k indexed false e = let w = some_id (folder_ids k) (sym e) in (w.0, (ids_are k indexed w.0).0 w.1)

more_than_none : {X : Type 0} (x : X) (xs : List X) → (length (x ∷ xs) == 0) ≡ false
more_than_none x xs = false_from_ne_true (length (x ∷ xs) == 0) (λ h. let k : length (x ∷ xs) ≡ 0 = eqb-true (length (x ∷ xs)) 0 h in absurd (omega (arith, k)))

pub emptied : (k : FolderTables) (b : Bool) → length k.tags ≡ 0 → IsTrue b ↔ (length k.origins ≡ 0) → b ≡ not (has_ids k)
emptied k b e h = at k.tags k.origins b e h
  where
    at : (tags : List OpId) (origins : List (OpId × OpId)) (b : Bool) → length tags ≡ 0 → IsTrue b ↔ (length origins ≡ 0) → b ≡ not (not (length (tags ++ keys_of origins) == 0))
    at [] [] true e h = refl
    at [] [] false e h = absurd (false≢true (h.1 refl))
    at [] (o ∷ os) true e h = let k : length (o ∷ os) ≡ 0 = h.0 refl in absurd (omega (arith, k))
    at [] (o ∷ os) false e h = sym (ap (λ c. not (not c)) (more_than_none o.0 (keys_of os)))
    at (t ∷ ts) os b e h = absurd (omega (arith, e))

pub tagged : (k : FolderTables) → (length k.tags ≡ 0 → ⊥) → false ≡ not (has_ids k)
tagged k h = at k.tags h
  where
    at : (tags : List OpId) → (length tags ≡ 0 → ⊥) → false ≡ not (not (length (tags ++ keys_of k.origins) == 0))
    at [] h = absurd (h refl)
    at (t ∷ ts) h = sym (ap (λ c. not (not c)) (more_than_none t (ts ++ keys_of k.origins)))

pub none_left : (vs : List Version) → (length vs == 0) ≡ true → vs ≡ []
none_left [] h = refl
none_left (v ∷ vs) h = absurd (false≢true (sym (more_than_none v vs) ∙ h))

pub some_left : (vs : List Version) → (length vs == 0) ≡ false → 0 < length vs
some_left [] h = absurd (false≢true (sym h))
some_left (v ∷ vs) h = omega arith

pub data_cond : (messages : List (OpId × Vec Version)) (i : OpId) (b : Bool) (x : Option OpId) → tag_data_at messages i (cond b None x) ≡ cond b None (tag_data_at messages i x)
data_cond messages i true x = refl
data_cond messages i false x = refl

pub in_place_of : {X : Type 0} (b : Bool) (x y : Option X) → cond b x (cond b None y) ≡ cond b x y
in_place_of true x y = refl
in_place_of false x y = refl

pub version_exists : (f : FolderContents) (o : OpId) (vs : List Version) → AreVersionsOf f o vs → (i : OpId) × (option_map (λ (b : MessageTagData). b.origin) (f.tag_data i) ≡ Some o)
version_exists f o [] h = absurd (let k = h.some in omega (arith, k))
version_exists f o (v ∷ vs) h = (v.id, (h.listed v.id).0 (inl refl))
