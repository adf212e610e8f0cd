use Rattle.std.proofs.Common.{◌≡◌, ◌↔◌, inl, inr, ℕ, ◌==◌, eqb-true, arith, length, Bool, true, false, cond, not, Option, None, Some, IsSome, List, [], ◌∷◌, refl, sym, ap, ◌∙◌, subst}
use Rattle.std.specs.Bool.{MatchBool}
use Rattle.std.specs.Global.{Vec}
use Rattle.std.specs.Map.{keys_of, lookup}
use Rattle.std.specs.List.{cons_option, filter_map, list_any}
use Rattle.std.specs.Str.{bytes_eq}
use Rattle.std.proofs.lemmas.Bool.{and_parts, cases_Bool, false≢true, false_from_ne_true}
use Rattle.std.proofs.lemmas.Slice.Eq.{bytes_eq-Decides}
use Rattle.imap_types.specs.Ascending.{octet_order}
use Rattle.imap_types.specs.Names.{inbox}
use Rattle.tags_clocks.specs.declared.id.OpId.{OpId}
use Rattle.merge_laws.specs.Orders.{IsIn}
use Rattle.merge_laws.proofs.Lists.{in_back, in_front}
use Rattle.crdt_ops.specs.declared.op.Op.{Op}
use Rattle.crdt_ops.specs.SortedSets.{IsListOf, id_order, sorted_set, same_id}
use Rattle.crdt_ops.specs.Sets.{tag_data_by, tag_data_from, delete_set_of, first_some, folder_of_tag, folder_tag_or_message_tag_id, folder_tag_id, folder_tags_of, folders_of}
use Rattle.crdt_ops.specs.Tags.{MessageTag, adds, is_present, present_tags, removes}
use Rattle.crdt_ops.proofs.Members.{any_in, first_some_in, in_filter_map}
use Rattle.crdt_ops.proofs.OrderLemmas.{id_order_same, id_order_total, in_order_lists, listed_in_order, is_list_of_sorted, names_same, names_total}
use Rattle.crdt_ops.proofs.SetLemmas.{delete_set_in, folder_tags_in, folders_in}
use Rattle.folder_state.specs.Contents.{Contents, HasTag, IsFolder, IsMadeBy, contents_by}
use Rattle.folder_state.specs.FolderTables.{HasTagIn, IsIndexedFolder, FolderTables, tag_data_at, tag_data_in, folder_contents, folder_ids, name_if_tagged, has_ids, has_tag_in, folder_tag_data}
use Rattle.folder_state.proofs.FolderTablesLemmas.{ids_are, key_iff_lookup, tag_listed}
use Rattle.folder_state.proofs.Lenses.{named, some_is}
use Rattle.folder_state.proofs.SetLemmas.{carries, contents_made}

-- ---- the contents of one folder

module _ (c : Contents) (n : List ℕ) (table : Option FolderTables) (tags : (i : OpId) → c.tags n i ≡ has_tag_in table i) (tag_data : (i : OpId) → c.tag_data n i ≡ tag_data_in table i) where
  pub has_tag_by_tables : (i : OpId) → HasTagIn (folder_tag_data table) i ↔ HasTag c n i
  has_tag_by_tables i = (
    λ h. elim h [ inl t ↦ inl (tags i ∙ t) | inr t ↦ inr (subst IsSome (sym (tag_data i)) t) ],
    λ h. elim h [ inl t ↦ inl (sym (tags i) ∙ t) | inr t ↦ inr (subst IsSome (tag_data i) t) ],
  )

  pub exists_by_tables : (b : Bool) → MatchBool b ((i : OpId) × HasTagIn (folder_tag_data table) i) ((i : OpId) → HasTagIn (folder_tag_data table) i → ⊥) → (b ≡ true) ↔ ((i : OpId) × HasTag c n i)
  exists_by_tables true h = (λ t. (h.0, (has_tag_by_tables h.0).0 h.1), λ t. refl)
  exists_by_tables false h = (λ t. absurd (false≢true t), λ w. absurd (h w.0 ((has_tag_by_tables w.0).1 w.1)))

-- INBOX always exists
pub inbox_exists : (c : Contents) (n : List ℕ) (b : Bool) → b ≡ bytes_eq n inbox → b ≡ true → (b ≡ true) ↔ IsFolder c n
inbox_exists c n b e t = (λ h. inl ((bytes_eq-Decides n inbox).0 (sym e ∙ t)), λ h. t)

pub other_exists : (c : Contents) (n : List ℕ) (b r : Bool) → b ≡ bytes_eq n inbox → b ≡ false → (r ≡ true) ↔ ((i : OpId) × HasTag c n i) → (r ≡ true) ↔ IsFolder c n
other_exists c n b r e f h = (λ t. inr (h.0 t), λ k. elim k [ inl is ↦ absurd (false≢true (sym f ∙ e ∙ (bytes_eq-Decides n inbox).1 is)) | inr w ↦ h.1 w ])

-- ---- the contents that a set of operations defines

given : {Y : Type 0} (b : Bool) (x : Option Y) → IsSome x → IsSome (cond b x None) ↔ (b ≡ true)
given true x h = (λ t. refl, λ t. h)
given false x h = (λ t. absurd (false≢true t), λ t. absurd (false≢true t))

some_given : {Y : Type 0} (b : Bool) (x : Option Y) → IsSome (cond b x None) → b ≡ true
some_given true x h = refl
some_given false x h = absurd (false≢true h)

-- a present message tag has data
pub present_data : (ops : List Op) (n : List ℕ) (i : OpId) → IsSome ((contents_by ops).tag_data n i) ↔ (is_present ops (MessageTag n i) ≡ true)
present_data ops n i = (
  some_given (is_present ops (MessageTag n i)) (first_some (tag_data_from n i) ops),
  λ h.
      let w = (any_in (adds (MessageTag n i)) ops).0 (and_parts (list_any (adds (MessageTag n i)) ops) (not (list_any (removes (MessageTag n i)) ops)) h).0 in
      let here : IsSome (tag_data_from n i w.0) =
      subst (λ (b : Bool). IsSome (cond b (tag_data_by w.0.id w.0.kind) None)) (sym w.2) (carries n i w.0.id w.0.kind w.2) in
      (given (is_present ops (MessageTag n i)) (first_some (tag_data_from n i) ops) ((first_some_in (tag_data_from n i) ops).1 (w.0, w.1, here))).1 h,
)

folders_of_set : (ops : List Op) (n : List ℕ) → IsFolder (contents_by ops) n ↔ IsIn n (inbox ∷ filter_map folder_of_tag (present_tags ops))
folders_of_set ops n =
    let at = folders_in ops n in (
      λ h. elim h [
        | inl k ↦ inl (sym k)
        | inr w ↦ inr (at.1 (w.0, elim w.1 [ inl k ↦ inl k | inr k ↦ inr ((present_data ops n w.0).0 k) ]))
      ],
      λ h. elim h [
        | inl k ↦ inl (sym k)
        | inr t ↦ let w = at.0 t in inr (w.0, elim w.1 [ inl k ↦ inl k | inr k ↦ inr ((present_data ops n w.0).1 k) ])
      ],
    )

pub exists_by_set : (v : Contents) (ops : List Op) (n : List ℕ) (result : Bool) → IsMadeBy v ops → (result ≡ true) ↔ IsFolder v n → (result ≡ true) ↔ IsIn n (folders_of ops)
exists_by_set v ops n result m h =
    let k = subst (λ (w : Contents). (result ≡ true) ↔ IsFolder w n) (contents_made v ops m) h in
    let o = (in_order_lists names_total names_same (inbox ∷ filter_map folder_of_tag (present_tags ops))).1 n in
    let e = folders_of_set ops n in
    (λ t. o.1 (e.0 (k.0 t)), λ t. k.1 (e.1 (o.0 t)))

pub names_by_set : (v : Contents) (ops : List Op) (names : List (List ℕ)) → IsMadeBy v ops → IsListOf octet_order (IsFolder v) names → names ≡ folders_of ops
names_by_set v ops names m h =
    listed_in_order names_total names_same (IsFolder (contents_by ops)) names (inbox ∷ filter_map folder_of_tag (present_tags ops))
    (subst (λ (w : Contents). IsListOf octet_order (IsFolder w) names) (contents_made v ops m) h) (folders_of_set ops)

pub tags_by_set : (v : Contents) (ops : List Op) (n : List ℕ) (ids : List OpId) → IsMadeBy v ops → IsListOf id_order (λ i. v.tags n i ≡ true) ids → ids ≡ folder_tags_of ops n
tags_by_set v ops n ids m h =
    listed_in_order id_order_total id_order_same (λ i. (contents_by ops).tags n i ≡ true) ids (filter_map (folder_tag_id n) (present_tags ops))
    (subst (λ (w : Contents). IsListOf id_order (λ i. w.tags n i ≡ true) ids) (contents_made v ops m) h)
    (λ i. let e = folder_tags_in ops n i in (e.1, e.0))

pub delete_set_by_set : (v : Contents) (ops : List Op) (n : List ℕ) (ids : List OpId) → IsMadeBy v ops → IsListOf id_order (HasTag v n) ids → ids ≡ delete_set_of ops n
delete_set_by_set v ops n ids m h =
    listed_in_order id_order_total id_order_same (HasTag (contents_by ops) n) ids (filter_map (folder_tag_or_message_tag_id n) (present_tags ops))
    (subst (λ (w : Contents). IsListOf id_order (HasTag w n) ids) (contents_made v ops m) h)
    (λ i. let e = delete_set_in ops n i in (
      λ t. e.1 (elim t [ inl k ↦ inl k | inr k ↦ inr ((present_data ops n i).0 k) ]),
      λ t. elim (e.0 t) [ inl k ↦ inl k | inr k ↦ inr ((present_data ops n i).1 k) ],
    ))

-- ---- the messages

-- functions that agree on a list's elements map it to the same list
pub filter_map_same : {X Y : Type 0} (f g : X → Option Y) (xs : List X) → ((x : X) → IsIn x xs → f x ≡ g x) → filter_map f xs ≡ filter_map g xs
filter_map_same f g [] h = refl
filter_map_same f g (x ∷ xs) h = λ k. cons_option (h x (inl refl) k) (filter_map_same f g xs (λ y t. h y (inr t)) k)

-- ---- the names of the folders

tag_ids_some : (k : FolderTables) (i : OpId) → HasTagIn (folder_contents k) i → IsIn i (folder_ids k)
tag_ids_some k i h =
    elim h [
      | inl t ↦ in_front i k.tags (keys_of k.origins) ((tag_listed k.tags i).1 t)
      | inr t ↦ in_back i k.tags (keys_of k.origins) ((key_iff_lookup k.origins i).1 (at (lookup (same_id i) k.origins) t))
    ]
  where
    at : (x : Option OpId) → IsSome (tag_data_at k.messages i x) → IsSome x
    at None s = s
    at (Some o) s = refl

some_ids : (ids : List OpId) (i : OpId) → IsIn i ids → not (length ids == 0) ≡ true
some_ids [] i h = absurd h
some_ids (x ∷ xs) i h = ap not (false_from_ne_true (length (x ∷ xs) == 0) (λ e. let k : length (x ∷ xs) ≡ 0 = eqb-true (length (x ∷ xs)) 0 e in absurd (omega (arith, k))))

entry_named : (es : List (Vec ℕ × FolderTables)) (n : List ℕ) (k : FolderTables) → named n es ≡ Some k → (e : Vec ℕ × FolderTables) × IsIn e es × (e.0.items ≡ n) × (e.1 ≡ k)
entry_named [] n k h = absurd (let z = h in cc)
entry_named (e ∷ es) n k h =
    elim (cases_Bool (bytes_eq n e.0.items)) [
      | inl t ↦ (e, inl refl, sym ((bytes_eq-Decides n e.0.items).0 t), some_is e.1 k (sym (ap (λ b. cond b (Some e.1) (named n es)) t) ∙ h))
      | inr f ↦ let w = entry_named es n k (sym (ap (λ b. cond b (Some e.1) (named n es)) f) ∙ h) in (w.0, inr w.1, w.2, w.3)
    ]

chosen_name : (b : Bool) (x y : List ℕ) → ◌≡◌ {A = Option (List ℕ)} (cond b (Some x) None) (Some y) → (b ≡ true) × (x ≡ y)
chosen_name true x y h = (refl, some_is x y h)
chosen_name false x y h = absurd (let k : ◌≡◌ {A = Option (List ℕ)} None (Some y) = h in cc)

module _ (c : Contents) (es : List (Vec ℕ × FolderTables)) (tags : (n : List ℕ) (i : OpId) → c.tags n i ≡ has_tag_in (named n es) i) (tag_data : (n : List ℕ) (i : OpId) → c.tag_data n i ≡ tag_data_in (named n es) i) (indexed : (e : Vec ℕ × FolderTables) → IsIn e es → IsIndexedFolder es e) where
  has_tag_iff_named : (n : List ℕ) → ((i : OpId) × HasTag c n i) ↔ IsIn n (filter_map name_if_tagged es)
  has_tag_iff_named n =
      let at = in_filter_map name_if_tagged es n in (
        λ h. to (named n es) refl h.0 ((has_tag_by_tables c n (named n es) (tags n) (tag_data n) h.0).1 h.1),
        λ h.
            let w = at.0 h in
            let p = chosen_name (has_ids w.0.1) w.0.0.items n w.2 in
            let k = indexed w.0 w.1 in
            let i = first_id (folder_ids w.0.1) p.0 in
            let looked_up : named n es ≡ Some w.0.1 = subst (λ m. named m es ≡ Some w.0.1) p.1 k.0 in
            (i.0, (has_tag_by_tables c n (named n es) (tags n) (tag_data n) i.0).0 (subst (λ (o : Option FolderTables). HasTagIn (folder_tag_data o) i.0) (sym looked_up) ((ids_are w.0.1 k.1 i.0).0 i.1))),
      )
    where
      first_id : (ids : List OpId) → not (length ids == 0) ≡ true → (i : OpId) × IsIn i ids
      first_id [] h = absurd (false≢true h)
      first_id (i ∷ is) h = (i, inl refl)

      to : (o : Option FolderTables) → named n es ≡ o → (i : OpId) → HasTagIn (folder_tag_data o) i → IsIn n (filter_map name_if_tagged es)
      to None e i h = absurd (elim h [ inl t ↦ false≢true t | inr t ↦ false≢true t ])
      to (Some k) e i h =
          let w = entry_named es n k e in
          let some : has_ids w.0.1 ≡ true = some_ids (folder_ids w.0.1) i (tag_ids_some w.0.1 i (subst (λ z. HasTagIn (folder_contents z) i) (sym w.3) h)) in
          (in_filter_map name_if_tagged es n).1 (w.0, w.1, ap (λ b. cond b (Some w.0.0.items) None) some ∙ ap (λ (m : List ℕ). Some m) w.2)

  pub names_by_tables : (names : List (List ℕ)) → names ≡ sorted_set octet_order (inbox ∷ filter_map name_if_tagged es) → IsListOf octet_order (IsFolder c) names
  names_by_tables names e =
      is_list_of_sorted names_total names_same (IsFolder c) names (inbox ∷ filter_map name_if_tagged es) e (λ n. (
        λ h. elim h [ inl k ↦ inl (sym k) | inr w ↦ inr ((has_tag_iff_named n).0 w) ],
        λ h. elim h [ inl k ↦ inl (sym k) | inr t ↦ inr ((has_tag_iff_named n).1 t) ],
      ))
