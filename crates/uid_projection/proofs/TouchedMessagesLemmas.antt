use Rattle.std.specs.List.{filter_map, list_any}
use Rattle.std.specs.Str.{bytes_eq}
use Rattle.std.proofs.Common.{◌≡◌, ◌⊎◌, inl, inr, ℕ, ◌+◌, ◌*◌, ◌≤◌, Bool, true, false, cond, not, ◌&&◌, ◌||◌, List, [], ◌∷◌, ◌++◌, Option, Some, None, refl, sym, ap, ◌∙◌, subst, append_assoc, append-nil, arith}
use Rattle.std.proofs.lemmas.Bool.{cases_Bool, false≢true, false_from_ne_true, or_parts}
use Rattle.imap_types.specs.Names.{inbox}
use Rattle.tags_clocks.specs.declared.id.OpId.{OpId}
use Rattle.merge_laws.specs.Orders.{IsIn}
use Rattle.mailbox_rows.specs.declared.entry.ListingEntry.{ListingEntry}
use Rattle.crdt_ops.specs.declared.op.Op.{Op}
use Rattle.crdt_ops.specs.Meanings.{IsVersion}
use Rattle.crdt_ops.specs.SortedSets.{is_some_id, same_id}
use Rattle.crdt_ops.specs.Sets.{dated_text_of, message_of, message_with, tag_flags_of, versions_of}
use Rattle.crdt_ops.specs.Tags.{MessageTag, removed_ids, removes}
use Rattle.crdt_ops.specs.TagLaws.{same_id_is}
use Rattle.crdt_ops.proofs.Members.{any_in}
use Rattle.crdt_ops.proofs.VersionLemmas.{some_id}
use Rattle.mailbox_rows.specs.ListedMessage.{ListedMessage}
use Rattle.mailbox_rows.specs.RowViews.{row_of}
use Rattle.uid_projection.specs.declared.first_numbers.Counters.{Counters}
use Rattle.uid_projection.specs.Applied.{IsApplied}
use Rattle.uid_projection.specs.Chart.{AreVersions, IsChart}
use Rattle.uid_projection.specs.Incarnations.{folder_exists, k_of, uidvalidity_of}
use Rattle.uid_projection.specs.UidsAndModSeqs.{begins_line_of_origin, changes_versions, kind_names_folder, has_version, modseq_of, origin_added, same_ids, uid_of, uidnext_of}
use Rattle.uid_projection.specs.Listing.{listed_message_of, listing, listed_message_with}
use Rattle.uid_projection.specs.EntryMoves.{added_origin, loses}
use Rattle.uid_projection.specs.TouchedMessages.{AddsUids, EndsAtUidnext, RowsStayExcept, names_message}
use Rattle.uid_projection.proofs.MovedEntryLemmas.{apart_chart}
use Rattle.uid_projection.proofs.ChartSteps.{none_without_folder}
use Rattle.uid_projection.proofs.ForGoodLemmas.{flags_later, has_grown, has_grown_first, uids_apart}
use Rattle.uid_projection.proofs.CounterLemmas.{Stays, stays_by_uidvalidity}
use Rattle.uid_projection.proofs.SortedRowLemmas.{row_from, row_in}
use Rattle.uid_projection.proofs.NamedLemmas.{row_cases, row_of_some, row_here, row_none}
use Rattle.uid_projection.proofs.Presence.{adds_about, applied_front}
use Rattle.uid_projection.proofs.Steps.{modseq_unchanged, uid_unchanged}
use Rattle.uid_projection.proofs.TouchedLineLemmas.{origin_here, removed_here, has_version_still, unchanged_by}
use Rattle.uid_projection.proofs.Versions.{dated_text_later, origin_applied, same_itself, unchanged, version_cases, versions_other}

-- ---- a message whose versions operations leave has the same row

module _ (folder : List ℕ) (list : List Op) (o : Op) (a : IsApplied (list ++ o ∷ [])) where
  -- its flags, date and text
  pub message_unchanged : (g : OpId) → changes_versions folder g list o ≡ false → has_version folder g list ≡ true → message_of (list ++ o ∷ []) folder g ≡ message_of list folder g
  message_unchanged g n h =
      let v : versions_of (list ++ o ∷ []) folder g ≡ versions_of list folder g = sym (unchanged folder list o g n) in
      let f : filter_map (tag_flags_of (list ++ o ∷ []) folder) (versions_of (list ++ o ∷ []) folder g) ≡ filter_map (tag_flags_of list folder) (versions_of list folder g) = ap (filter_map (tag_flags_of (list ++ o ∷ []) folder)) v ∙ sym (flags_later folder list (o ∷ []) g) in
      let l : dated_text_of (list ++ o ∷ []) g ≡ dated_text_of list g = dated_text_later g list (o ∷ []) a (origin_applied folder list g (applied_front list (o ∷ []) a) h) in
      λ k. message_with g (v k) (f k) (λ i. l k)

  pub row_unchanged : (start : Counters) (g : OpId) → folder_exists folder (list ++ o ∷ []) ≡ true → changes_versions folder g list o ≡ false → has_version folder g list ≡ true → listed_message_of start folder (list ++ o ∷ []) g ≡ listed_message_of start folder list g
  row_unchanged start g t n h =
      let s = has_version_still folder list o a g n h in
      let starts : begins_line_of_origin folder g list o ≡ false = λ j. s j && not (h j) in
      let u = uid_unchanged start folder list o g t starts in
      let m = modseq_unchanged folder g list o t n in
      let w = message_unchanged g n h in
      λ k. listed_message_with (u k) (m k) (w k)

-- no operation changes the origin's versions
abbrev pub AreUnchanged : List ℕ → OpId → List Op → List Op → Type 0
AreUnchanged folder g list [] = Unit {0}
AreUnchanged folder g list (o ∷ ops) = (changes_versions folder g list o ≡ false) × AreUnchanged folder g (list ++ o ∷ []) ops

stays_first : (start : Counters) (folder : List ℕ) (ops list : List Op) → Stays start folder list ops → folder_exists folder list ≡ true
stays_first start folder [] list s = s
stays_first start folder (o ∷ ops) list s = s.0

rows_unchanged : (start : Counters) (folder : List ℕ) (g : OpId) (ops list : List Op) → IsApplied (list ++ ops) → Stays start folder list ops → AreUnchanged folder g list ops → has_version folder g list ≡ true → (has_version folder g (list ++ ops) ≡ true) × (listed_message_of start folder (list ++ ops) g ≡ listed_message_of start folder list g)
rows_unchanged start folder g [] list a s u h =
    (subst (λ (xs : List Op). has_version folder g xs ≡ true) (sym (append-nil list)) h, ap (λ (xs : List Op). listed_message_of start folder xs g) (append-nil list))
rows_unchanged start folder g (o ∷ ops) list a s u h =
    let whole : (list ++ o ∷ []) ++ ops ≡ list ++ o ∷ ops = append_assoc list (o ∷ []) ops in
    let b : IsApplied ((list ++ o ∷ []) ++ ops) = subst IsApplied (sym whole) a in
    let c : IsApplied (list ++ o ∷ []) = applied_front (list ++ o ∷ []) ops b in
    let w = rows_unchanged start folder g ops (list ++ o ∷ []) b s.1 u.1 (has_version_still folder list o c g u.0 h) in (
      subst (λ (xs : List Op). has_version folder g xs ≡ true) whole w.0,
      sym (ap (λ (xs : List Op). listed_message_of start folder xs g) whole) ∙ w.1 ∙ row_unchanged folder list o c start g (stays_first start folder ops (list ++ o ∷ []) s.1) u.0 h,
    )

-- ---- operations that don't name a message leave its versions unchanged

-- an operation about another folder leaves them unchanged
pub other_unchanged : (folder : List ℕ) (list : List Op) (o : Op) (a : IsApplied (list ++ o ∷ [])) (g : OpId) → kind_names_folder folder o.kind ≡ false → changes_versions folder g list o ≡ false
other_unchanged folder list o a g other = ap not (ap (same_ids (versions_of list folder g)) (versions_other folder list o a g other) ∙ same_itself (versions_of list folder g))

module _ (folder : List ℕ) (f : OpId → Option OpId) (g : OpId) where
  -- the function has the origin of each version
  abbrev AreOriginsOf : List Op → Type 0
  AreOriginsOf list = (i : OpId) → IsVersion list folder g i → f i ≡ Some g

  passed : (list : List Op) (o : Op) → IsApplied (list ++ o ∷ []) → names_message f folder g o ≡ false → AreOriginsOf list → (changes_versions folder g list o ≡ false) × AreOriginsOf (list ++ o ∷ [])
  passed list o a n are_origins =
      elim (cases_Bool (kind_names_folder folder o.kind)) [
        | inr other ↦ (
          other_unchanged folder list o a g other,
          λ i v. elim (version_cases folder list o a g i v) [
            | inl w ↦ are_origins i w.0
            | inr w ↦ absurd (false≢true (sym other ∙ adds_about folder i o.id o.kind (inr w.0)))
          ],
        )
        | inl about ↦
            let p = or_parts (loses f (removed_ids o.kind) g) (is_some_id g (added_origin o)) (sym (ap (λ b. b && (loses f (removed_ids o.kind) g || is_some_id g (added_origin o))) about) ∙ n) in
            let not_removed : (i : OpId) → IsVersion list folder g i → removes (MessageTag folder i) o ≡ false = λ i v.
            removed_here folder o about i ∙ false_from_ne_true (list_any (same_id i) (removed_ids o.kind)) (λ r.
            let w = (any_in (same_id i) (removed_ids o.kind)).0 r in
            let t : is_some_id g (f w.0) ≡ true = subst (λ (j : OpId). is_some_id g (f j) ≡ true) (same_id_is i w.0 w.2) ((some_id g (f i)).1 (are_origins i v)) in
            false≢true (sym p.0 ∙ (any_in (λ (j : OpId). is_some_id g (f j)) (removed_ids o.kind)).1 (w.0, w.1, t))) in
            let none : origin_added folder o ≡ Some g → ⊥ = λ e. false≢true (sym p.1 ∙ (some_id g (added_origin o)).1 (sym (origin_here folder o about) ∙ e)) in (
              unchanged_by folder list o a g not_removed none,
              λ i v. elim (version_cases folder list o a g i v) [ inl w ↦ are_origins i w.0 | inr w ↦ absurd (none w.1) ],
            )
      ]

  all_passed : (ops list : List Op) → IsApplied (list ++ ops) → list_any (names_message f folder g) ops ≡ false → AreOriginsOf list → AreUnchanged folder g list ops
  all_passed [] list a n are_origins = tt
  all_passed (o ∷ ops) list a n are_origins =
      let b : IsApplied ((list ++ o ∷ []) ++ ops) = subst IsApplied (sym (append_assoc list (o ∷ []) ops)) a in
      let p = or_parts (names_message f folder g o) (list_any (names_message f folder g) ops) n in
      let w = passed list o (applied_front (list ++ o ∷ []) ops b) p.0 are_origins in
      (w.0, all_passed ops (list ++ o ∷ []) b p.1 w.1)

-- ---- what operations leave unchanged in a listing

number_cases : (o : Option ℕ) → (o ≡ None) ⊎ ((n : ℕ) × (o ≡ Some n))
number_cases None = inl refl
number_cases (Some n) = inr (n, refl)

no_number : (b present : Bool) (r k : ℕ) → ◌≡◌ {A = Option ℕ} (cond b (Some r) (cond present (Some k) None)) None → present ≡ false
no_number true present r k h = absurd cc
no_number false true r k h = absurd cc
no_number false false r k h = refl

none_some : (r : ListedMessage) → ◌≡◌ {A = Option ListedMessage} None (Some r) → ⊥
none_some r h = cc

-- without a UIDVALIDITY, nothing is listed
absent_row : (start : Counters) (folder : List ℕ) (list : List Op) (uid : ℕ) → uidvalidity_of start folder list ≡ None → row_of uid (listing start folder list) ≡ None
absent_row start folder list uid n =
    let absent = no_number (bytes_eq folder inbox) (folder_exists folder list) start.replica (65536 * k_of start folder list + start.replica) n in
    row_none uid (listing start folder list) (λ x i e. let w = row_in start folder list x i in none_without_folder start folder list absent w.0 w.1)

-- the row with a UID is that of the listing's only message with it
row_of_listed : (start : Counters) (folder : List ℕ) (list : List Op) → IsApplied list → (uid : ℕ) (r : ListedMessage) → IsIn r (listing start folder list) → r.uid ≡ uid → row_of uid (listing start folder list) ≡ Some r
row_of_listed start folder list a uid r i e = row_here uid (listing start folder list) r i e (λ x j u. (uids_apart start folder list x r a j i).1 (u ∙ sym e))

module _ (start : Counters) (folder : List ℕ) (list ops : List Op) (a : IsApplied (list ++ ops)) (u h : ℕ) (es : List ListingEntry) (c : IsChart start folder list u h es) (f : OpId → Option OpId) (l : AreVersions folder list f) (uids : List ℕ) (adds : AddsUids (λ g. list_any (names_message f folder g) ops) es [] uids) where
  module _ (s : Stays start folder list ops) where
    stays_some : (uid : ℕ) (r : ListedMessage) → row_of uid (listing start folder list) ≡ Some r → IsIn uid uids ⊎ (row_of uid (listing start folder (list ++ ops)) ≡ Some r)
    stays_some uid r h =
        let p = row_of_some uid (listing start folder list) r h in
        let w = row_in start folder list r p.0 in
        let g = w.0 in
        elim (cases_Bool (list_any (names_message f folder g) ops)) [
          | inl y ↦
              let e : ListingEntry = record { origin = g; uid = uid_of start folder list g; modseq = modseq_of folder list g } in
              let i : IsIn e es = (c.are_entries e).1 (record { present = w.1; uid = refl; modseq = refl }) in
              let is : uid_of start folder list g ≡ uid = ap (λ (x : ListedMessage). x.uid) w.2 ∙ p.1 in
              inl (subst (λ (n : ℕ). IsIn n uids) is (adds.named (apart_chart start folder list _ _ es c) e i y))
          | inr n ↦
              let k = rows_unchanged start folder g ops list a s (all_passed folder f g ops list a n (λ i v. (l i g).1 v)) w.1 in
              let j : IsIn r (listing start folder (list ++ ops)) = subst (λ (x : ListedMessage). IsIn x (listing start folder (list ++ ops))) (k.1 ∙ w.2) (row_from start folder (list ++ ops) g k.0) in
              inr (row_of_listed start folder (list ++ ops) a uid r j p.1)
        ]

    stays_none : (uid : ℕ) → row_of uid (listing start folder list) ≡ None → (uidnext_of start folder list ≤ uid) ⊎ (row_of uid (listing start folder (list ++ ops)) ≡ None)
    stays_none uid none =
        elim (row_cases (row_of uid (listing start folder (list ++ ops)))) [
          | inl n ↦ inr n
          | inr w ↦
              let p = row_of_some uid (listing start folder (list ++ ops)) w.0 w.1 in
              let q = row_in start folder (list ++ ops) w.0 p.0 in
              let is : uid_of start folder (list ++ ops) q.0 ≡ uid = ap (λ (x : ListedMessage). x.uid) q.2 ∙ p.1 in
              elim ((has_grown start folder list ops list a s (has_grown_first start folder list)).messages q.0 q.1) [
                | inl old ↦ absurd (none_some (listed_message_of start folder list q.0) (sym none ∙ row_of_listed start folder list (applied_front list ops a) uid (listed_message_of start folder list q.0) (row_from start folder list q.0 old.present) (sym old.uid ∙ is)))
                | inr new ↦ let z = new.0 in inl (omega (arith, z, is))
              ]
        ]

  pub stays_but : uidvalidity_of start folder (list ++ ops) ≡ uidvalidity_of start folder list → RowsStayExcept uids (uidnext_of start folder list) (listing start folder list) (listing start folder (list ++ ops))
  stays_but same uid =
      elim (number_cases (uidvalidity_of start folder list)) [
        | inl n ↦ inr (inr (absent_row start folder (list ++ ops) uid (same ∙ n) ∙ sym (absent_row start folder list uid n)))
        | inr w ↦
            let s = stays_by_uidvalidity start folder list ops w.0 a w.1 (same ∙ w.1) in
            elim (row_cases (row_of uid (listing start folder list))) [
              | inl n ↦ elim (stays_none s uid n) [ inl le ↦ inr (inl le) | inr m ↦ inr (inr (m ∙ sym n)) ]
              | inr r ↦ elim (stays_some s uid r.0 r.1) [ inl i ↦ inl i | inr e ↦ inr (inr (e ∙ sym r.1)) ]
            ]
      ]

-- ---- a listing ends at UIDNEXT

pub ends_at_uidnext : (start : Counters) → EndsAtUidnext start
ends_at_uidnext start folder list uid a l =
    row_none uid (listing start folder list) (λ x i e. let b = (uids_apart start folder list x x a i i).0 in omega (arith, b, e, l))
