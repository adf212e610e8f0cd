-- An operation on another folder doesn't change what a listing shows.
use Rattle.std.specs.List.{cons_option, filter_map}
use Rattle.std.specs.Option.{option_map}
use Rattle.std.specs.Str.{bytes_eq}
use Rattle.std.proofs.Common.{◌≡◌, inl, inr, ℕ, Bool, true, false, List, [], ◌∷◌, ◌++◌, Option, Some, None, refl, sym, ap, ◌∙◌, subst, append_assoc, append-nil}
use Rattle.std.specs.Prelude.{if◌then◌else◌, ◌+◌, ◌*◌, nat_eq}
use Rattle.std.proofs.lemmas.Bool.{cases_Bool}
use Rattle.tags_clocks.specs.declared.id.OpId.{OpId}
use Rattle.merge_laws.specs.Orders.{IsIn}
use Rattle.mailbox_rows.specs.declared.entry.ListingEntry.{ListingEntry}
use Rattle.crdt_ops.specs.declared.op.Op.{Op}
use Rattle.crdt_ops.specs.Sets.{MessageTagData, tag_data_from, tag_flags_of, versions_of, message_of}
use Rattle.crdt_ops.specs.Unions.{union_of}
use Rattle.crdt_ops.proofs.VersionLemmas.{versions_listed}
use Rattle.imap_types.specs.Names.{inbox}
use Rattle.imap_types.specs.declared.flags.Flags.{Flags}
use Rattle.mailbox_rows.specs.ListedMessage.{ListedMessage}
use Rattle.session_view.specs.ViewState.{rows_under}
use Rattle.session_view.specs.Views.{entries_of, entry_of}
use Rattle.session_view.specs.declared.view_entry.ViewEntry.{ViewEntry}
use Rattle.uid_projection.specs.declared.first_numbers.Counters.{Counters}
use Rattle.uid_projection.specs.Applied.{IsApplied}
use Rattle.uid_projection.specs.Incarnations.{folder_exists, k_of, uidvalidity_of}
use Rattle.uid_projection.specs.UidsAndModSeqs.{kind_names_folder, has_version}
use Rattle.uid_projection.specs.Listing.{listing}
use Rattle.uid_projection.specs.ChartRows.{row_by}
use Rattle.uid_projection.proofs.ChartOf.{charted}
use Rattle.uid_projection.proofs.Presence.{applied_front, other_exists, same_bool}
use Rattle.uid_projection.proofs.RowLemmas.{rows_by_entries}
use Rattle.uid_projection.proofs.Steps.{k_here}
use Rattle.uid_projection.proofs.Tables.{chart_of_other}
use Rattle.uid_projection.proofs.Versions.{first_some_more, present_carries, version_in, versions_other}

filter_map_ext : {X Y : Type 0} (f g : X → Option Y) (xs : List X) → ((x : X) → IsIn x xs → f x ≡ g x) → filter_map f xs ≡ filter_map g xs
filter_map_ext f g [] h = refl
filter_map_ext f g (x ∷ xs) h = λ k. cons_option (h x (inl refl) k) (filter_map_ext f g xs (λ y t. h y (inr t)) k)

-- versions carry the same flags after further operations
flags_after : (folder : List ℕ) (ops more : List Op) (g : OpId) → filter_map (tag_flags_of ops folder) (versions_of ops folder g) ≡ filter_map (tag_flags_of (ops ++ more) folder) (versions_of ops folder g)
flags_after folder ops more g =
    filter_map_ext (tag_flags_of ops folder) (tag_flags_of (ops ++ more) folder) (versions_of ops folder g) (λ i t.
    let b = present_carries folder ops i (((versions_listed ops folder g).1 i).0 t).0 in
    ap (option_map (λ (x : MessageTagData). x.flags)) (b.1 ∙ sym (first_some_more (tag_data_from folder i) ops more b.0 b.1)))

-- a message with the same versions has the same flags after further operations
pub flags_unchanged : (folder : List ℕ) (ops more : List Op) (g : OpId) → versions_of (ops ++ more) folder g ≡ versions_of ops folder g → (message_of (ops ++ more) folder g).flags ≡ (message_of ops folder g).flags
flags_unchanged folder ops more g e = ap (λ (is : List OpId). union_of (filter_map (tag_flags_of (ops ++ more) folder) is)) e ∙ ap union_of (sym (flags_after folder ops more g))

entries_of_filter_map : (f : ListingEntry → Option ListedMessage) (es : List ListingEntry) → entries_of (filter_map f es) ≡ filter_map (λ e. option_map entry_of (f e)) es
entries_of_filter_map f [] = refl
entries_of_filter_map f (e ∷ es) = entries_cons (f e) (filter_map f es) (filter_map (λ x. option_map entry_of (f x)) es) (entries_of_filter_map f es)
  where
    entries_cons : (o : Option ListedMessage) (rows : List ListedMessage) (es : List ViewEntry) → entries_of rows ≡ es → entries_of (cons_option o rows) ≡ cons_option (option_map entry_of o) es
    entries_cons None rows es h = h
    entries_cons (Some row) rows es h = ap (λ (more : List ViewEntry). entry_of row ∷ more) h

-- the view entry of a message, if it exists
abbrev entry_if_present : Bool → ℕ → Flags → Option ViewEntry
entry_if_present true uid flags = Some (record { uid = uid; flags = flags })
entry_if_present false uid flags = None

entry_of_row_by : (ops : List Op) (folder : List ℕ) (e : ListingEntry) → option_map entry_of (row_by ops folder e) ≡ entry_if_present (has_version folder e.origin ops) e.uid (message_of ops folder e.origin).flags
entry_of_row_by ops folder e = elim (cases_Bool (has_version folder e.origin ops)) [ inl t ↦ rw t refl | inr f ↦ rw f refl ]

module _ (start : Counters) (folder : List ℕ) (ops : List Op) (o : Op) (a : IsApplied (ops ++ o ∷ [])) (other : kind_names_folder folder o.kind ≡ false) where
  has_version_other : (g : OpId) → has_version folder g (ops ++ o ∷ []) ≡ has_version folder g ops
  has_version_other g =
      let l = version_in folder (ops ++ o ∷ []) g in
      let m = version_in folder ops g in
      let e = versions_other folder ops o a g other in
      let p = versions_listed (ops ++ o ∷ []) folder g in
      let q = versions_listed ops folder g in
      same_bool (has_version folder g (ops ++ o ∷ [])) (has_version folder g ops)
      (λ h. let v = l.0 h in m.1 (v.0, (q.1 v.0).0 (subst (IsIn v.0) e ((p.1 v.0).1 v.1))))
      (λ h. let v = m.0 h in l.1 (v.0, (p.1 v.0).0 (subst (IsIn v.0) (sym e) ((q.1 v.0).1 v.1))))

  row_other : (e : ListingEntry) → option_map entry_of (row_by (ops ++ o ∷ []) folder e) ≡ option_map entry_of (row_by ops folder e)
  row_other e =
      entry_of_row_by (ops ++ o ∷ []) folder e
      ∙ (λ i. entry_if_present (has_version_other e.origin i) e.uid (flags_unchanged folder ops (o ∷ []) e.origin (versions_other folder ops o a e.origin other) i))
      ∙ sym (entry_of_row_by ops folder e)

  pub listing_other : entries_of (listing start folder (ops ++ o ∷ [])) ≡ entries_of (listing start folder ops)
  listing_other =
      let (u, h, es, c) = charted start folder ops (applied_front ops (o ∷ []) a) in
      let d = chart_of_other start folder ops o a other u h es c in
      ap entries_of (sym (rows_by_entries start folder (ops ++ o ∷ []) u h es d))
      ∙ entries_of_filter_map (row_by (ops ++ o ∷ []) folder) es
      ∙ filter_map_ext (λ e. option_map entry_of (row_by (ops ++ o ∷ []) folder e)) (λ e. option_map entry_of (row_by ops folder e)) es (λ e i. row_other e)
      ∙ sym (entries_of_filter_map (row_by ops folder) es)
      ∙ ap entries_of (rows_by_entries start folder ops u h es c)

  abbrev uidvalidity_by : Bool → Bool → ℕ → Option ℕ
  uidvalidity_by true exists k = Some start.replica
  uidvalidity_by false true k = Some (65536 * k + start.replica)
  uidvalidity_by false false k = None

  uidvalidity_is : (list : List Op) → uidvalidity_of start folder list ≡ uidvalidity_by (bytes_eq folder inbox) (folder_exists folder list) (k_of start folder list)
  uidvalidity_is list =
      elim (cases_Bool (bytes_eq folder inbox)) [
        | inl t ↦ rw t refl
        | inr f ↦ elim (cases_Bool (folder_exists folder list)) [ inl t ↦ rw (f, t) refl | inr g ↦ rw (f, g) refl ]
      ]

  pub uidvalidity_other : uidvalidity_of start folder (ops ++ o ∷ []) ≡ uidvalidity_of start folder ops
  uidvalidity_other =
      let e = other_exists folder ops o a other in
      uidvalidity_is (ops ++ o ∷ [])
      ∙ elim (cases_Bool (folder_exists folder (ops ++ o ∷ []))) [
        | inl t ↦ λ i. uidvalidity_by (bytes_eq folder inbox) (e i) (k_here start folder ops o t i)
        | inr f ↦ (λ i. uidvalidity_by (bytes_eq folder inbox) (f i) (k_of start folder (ops ++ o ∷ []))) ∙ no_number (bytes_eq folder inbox) ∙ sym (ap (λ (b : Bool). uidvalidity_by (bytes_eq folder inbox) b (k_of start folder ops)) (sym e ∙ f))
      ]
      ∙ sym (uidvalidity_is ops)
    where
      no_number : (b : Bool) → uidvalidity_by b false (k_of start folder (ops ++ o ∷ [])) ≡ uidvalidity_by b false (k_of start folder ops)
      no_number true = refl
      no_number false = refl

-- rows that a view shows alike are shown alike under a UIDVALIDITY
shown_under : (uidvalidity : ℕ) (n m : Option ℕ) (rows others : List ListedMessage) → n ≡ m → entries_of rows ≡ entries_of others → entries_of (rows_under uidvalidity n rows) ≡ entries_of (rows_under uidvalidity m others)
shown_under uidvalidity n None rows others e h = ap (λ (k : Option ℕ). entries_of (rows_under uidvalidity k rows)) e
shown_under uidvalidity n (Some m) rows others e h =
    ap (λ (k : Option ℕ). entries_of (rows_under uidvalidity k rows)) e ∙ if_entries (nat_eq m uidvalidity)
  where
    if_entries : (b : Bool) → entries_of (if b then rows else []) ≡ entries_of (if b then others else [])
    if_entries true = h
    if_entries false = refl

-- operations on other folders don't change what a view shows
pub listings_other : (start : Counters) (folder : List ℕ) (more ops : List Op) → IsApplied (ops ++ more) → ((o : Op) → IsIn o more → kind_names_folder folder o.kind ≡ false) → (uidvalidity : ℕ)
    → entries_of (rows_under uidvalidity (uidvalidity_of start folder (ops ++ more)) (listing start folder (ops ++ more))) ≡ entries_of (rows_under uidvalidity (uidvalidity_of start folder ops) (listing start folder ops))
listings_other start folder [] ops a f uidvalidity =
    ap (λ (list : List Op). entries_of (rows_under uidvalidity (uidvalidity_of start folder list) (listing start folder list))) (append-nil ops)
listings_other start folder (o ∷ more) ops a f uidvalidity =
    let whole : (ops ++ o ∷ []) ++ more ≡ ops ++ o ∷ more = append_assoc ops (o ∷ []) more in
    let b : IsApplied ((ops ++ o ∷ []) ++ more) = subst IsApplied (sym whole) a in
    let c = applied_front (ops ++ o ∷ []) more b in
    ap (λ (list : List Op). entries_of (rows_under uidvalidity (uidvalidity_of start folder list) (listing start folder list))) (sym whole)
    ∙ listings_other start folder more (ops ++ o ∷ []) b (λ p i. f p (inr i)) uidvalidity
    ∙ shown_under uidvalidity _ _ _ _ (uidvalidity_other start folder ops o c (f o (inl refl))) (listing_other start folder ops o c (f o (inl refl)))
