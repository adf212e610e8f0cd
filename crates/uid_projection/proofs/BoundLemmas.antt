use Rattle.std.specs.Str.{bytes_eq}
use Rattle.std.specs.List.{filter, filter_map, flat_map}
use Rattle.std.specs.Option.{unwrap_or}
use Rattle.std.proofs.Common.{◌≡◌, inl, inr, ℕ, ◌+◌, ◌*◌, ◌<◌, ◌≤◌, ◌^◌, Bool, true, false, cond, ◌&&◌, List, [], ◌∷◌, ◌++◌, length, Option, Some, None, nat_lt, refl, sym, ap, ◌∙◌, subst, append_assoc, arith, rules, codes}
use Rattle.std.proofs.lemmas.Bool.{cases_Bool, false≢true}
use Rattle.std.proofs.lemmas.Slice.Eq.{bytes_eq-Decides}
use Rattle.imap_types.specs.declared.flags.Flags.{Flags}
use Rattle.imap_types.specs.Keywords.{is_lower_case}
use Rattle.imap_types.specs.DateTimes.{IsDateTime, date_time_picture}
use Rattle.imap_types.specs.Names.{inbox}
use Rattle.imap_types.proofs.Pictures.{pictured_by}
use Rattle.mailbox_rows.specs.ListedMessage.{ListedMessage}
use Rattle.mailbox_rows.specs.RowViews.{AreRisingRows}
use Rattle.merge_laws.specs.Orders.{IsIn}
use Rattle.tags_clocks.specs.declared.id.OpId.{OpId}
use Rattle.crdt_ops.specs.declared.kind.Kind.{Kind}
use Rattle.crdt_ops.specs.declared.kind.Kind.TheVariants.{Create, Delete, Append, Expunge, Store, Subscribe, Unsubscribe}
use Rattle.crdt_ops.specs.declared.op.Op.{Op}
use Rattle.crdt_ops.specs.Form.{HasFields, HasWords, IsDated, is_word}
use Rattle.crdt_ops.specs.SortedSets.{same_id}
use Rattle.crdt_ops.specs.Sets.{MessageTagData, DatedText, tag_data_by, dated_text_by, dated_text_from, dated_text_of, message_of, no_dated_text, tag_flags_of, versions_of}
use Rattle.imap_types.proofs.WordLemmas.{ascending_folded}
use Rattle.uid_projection.specs.declared.first_numbers.Counters.{Counters}
use Rattle.uid_projection.specs.Applied.{IsApplied}
use Rattle.uid_projection.specs.Bounds.{AreWritable, HasBounds, IsCountable, IsLasting, IsLawfulStart, IsRowWithin, IsWritableRow}
use Rattle.uid_projection.specs.Exhaustion.{Exhausts, IsExhausted}
use Rattle.uid_projection.specs.Counting.{Split, splits_from, splits_of, has_held_since}
use Rattle.uid_projection.specs.Incarnations.{folder_exists, k_of, uidvalidity_of}
use Rattle.uid_projection.specs.UidsAndModSeqs.{names_folder, first_uid, highest_modseq_of, modseq_of, last_change_of, uid_of, uidnext_of}
use Rattle.uid_projection.specs.Listing.{listing}
use Rattle.uid_projection.proofs.ChartOf.{charted}
use Rattle.uid_projection.proofs.ForGoodLemmas.{apart}
use Rattle.uid_projection.proofs.CounterLemmas.{starts}
use Rattle.uid_projection.proofs.Numbers.{k_begins}
use Rattle.uid_projection.proofs.LaterNumbers.{uidnext_within}
use Rattle.uid_projection.proofs.SortedRowLemmas.{row_in}
use Rattle.uid_projection.proofs.ListingLemmas.{flags_from_op, keywords_have}
use Rattle.uid_projection.proofs.NextOpLemmas.{validity_none, validity_inbox, validity_present}
use Rattle.uid_projection.proofs.Presence.{applied_front, exists_tags}
use Rattle.uid_projection.proofs.RowLemmas.{rising_chart, rows_listed}
use Rattle.uid_projection.proofs.Steps.{by_last, k_here, k_none}
use Rattle.uid_projection.proofs.Versions.{first_some_by}

-- ---- counts

fewer : {X : Type 0} (test : X → Bool) (xs : List X) → length (filter test xs) ≤ length xs
fewer test [] = omega arith
fewer test (x ∷ xs) =
    let more = fewer test xs in
    elim (cases_Bool (test x)) [ inl t ↦ rw t (omega (arith, more)) | inr f ↦ rw f (omega (arith, more)) ]

cut_count : (front ops : List Op) → length (splits_from front ops) ≡ length ops
cut_count front [] = refl
cut_count front (op ∷ ops) = let e = cut_count (front ++ op ∷ []) ops in omega (arith, e)

count_bound : (test : Split Op → Bool) (ops : List Op) → length (filter test (splits_of ops)) ≤ length ops
count_bound test ops = let f = fewer test (splits_of ops) in let e = cut_count [] ops in omega (arith, f, e)

modseq_bound : (folder : List ℕ) (ops : List Op) (id : OpId) → modseq_of folder ops id ≤ 1 + length ops
modseq_bound folder ops id =
    let f = count_bound (λ (cut : Split Op). (names_folder folder cut.front cut.op && nat_lt (length cut.front) (last_change_of folder ops id)) && has_held_since (folder_exists folder) cut) ops in
    omega (arith, f)

highest_bound : (folder : List ℕ) (ops : List Op) → highest_modseq_of folder ops ≤ 1 + length ops
highest_bound folder ops = let f = count_bound (λ (cut : Split Op). names_folder folder cut.front cut.op && has_held_since (folder_exists folder) cut) ops in omega (arith, f)

-- ---- UIDVALIDITY

front_lasts : (start : Counters) (ops : List Op) (o : Op) → (Exhausts start [] (ops ++ o ∷ []) → ⊥) → Exhausts start [] ops → ⊥
front_lasts start ops o not_exhausted (front, p, back, k, h) = not_exhausted (front, p, back ++ o ∷ [], ap (λ xs. xs ++ o ∷ []) k ∙ append_assoc front (p ∷ back) (o ∷ []), h)

last_lasts : (start : Counters) (ops : List Op) (o : Op) → (Exhausts start [] (ops ++ o ∷ []) → ⊥) → IsExhausted start ops o → ⊥
last_lasts start ops o not_exhausted h = not_exhausted (ops, o, [], refl, h)

-- the k of an existing folder other than INBOX
k_small : (start : Counters) (folder : List ℕ) → (folder ≡ inbox → ⊥) → (ops : List Op) → IsApplied ops → (Exhausts start [] ops → ⊥) → folder_exists folder ops ≡ true → k_of start folder ops ≤ 65535
k_small start folder n = by_last (λ (ops : List Op). IsApplied ops → (Exhausts start [] ops → ⊥) → folder_exists folder ops ≡ true → k_of start folder ops ≤ 65535)
    (λ a l t. elim ((exists_tags folder []).0 t) [ inl e ↦ absurd (n e) | inr w ↦ elim w.1 [ inl e ↦ absurd (false≢true e) | inr e ↦ absurd (false≢true e) ] ])
    (λ ops o ih a l t.
    let e = k_here start folder ops o t in
    elim (cases_Bool (folder_exists folder ops)) [
      | inl u ↦ let h = ih (applied_front ops (o ∷ []) a) (front_lasts start ops o l) u in omega (arith, e, h)
      | inr f ↦
          let k = k_none start folder ops f in
          let b = k_begins start ops o (k_of start folder ops) (last_lasts start ops o l) k (starts start folder ops o a f t) in
          omega (arith, e, b)
    ])

some_same : (a b : ℕ) → ◌≡◌ {A = Option ℕ} (Some a) (Some b) → a ≡ b
some_same a b e = cc

none_some : (b : ℕ) → ◌≡◌ {A = Option ℕ} None (Some b) → ⊥
none_some b e = cc

not_inbox : (folder : List ℕ) → bytes_eq folder inbox ≡ false → folder ≡ inbox → ⊥
not_inbox folder f e = false≢true (sym f ∙ (bytes_eq-Decides folder inbox).1 e)

validity_within : (start : Counters) (folder : List ℕ) (ops : List Op) (uidvalidity : ℕ) → IsLawfulStart start → IsLasting start ops → uidvalidity_of start folder ops ≡ Some uidvalidity → (1 ≤ uidvalidity) × (uidvalidity ≤ 4294967295)
validity_within start folder ops uidvalidity s l e =
    let r = s.named in
    let q = s.replica in
    elim (cases_Bool (bytes_eq folder inbox)) [
      | inl t ↦ let n = some_same start.replica uidvalidity (validity_inbox start ops folder t ∙ e) in (omega (arith, r, n), omega (arith, q, n))
      | inr f ↦ elim (cases_Bool (folder_exists folder ops)) [
        | inl present ↦
            let k = k_small start folder (not_inbox folder f) ops l.applied l.not_exhausted present in
            let n = some_same (65536 * k_of start folder ops + start.replica) uidvalidity (validity_present start ops folder f present (k_of start folder ops) refl ∙ e) in
            (omega (arith, r, n), omega (arith, q, n, k))
        | inr absent ↦ absurd (none_some uidvalidity (validity_none start ops folder f absent ∙ e))
      ]
    ]

-- ---- UIDs and mod-sequences

first_within : (start : Counters) (folder : List ℕ) → IsLawfulStart start → (1 ≤ first_uid start folder) × (first_uid start folder ≤ 4294967295)
first_within start folder s = by (bytes_eq folder inbox)
  where
    by : (b : Bool) → (1 ≤ cond b start.uid 1) × (cond b start.uid 1 ≤ 4294967295)
    by true = (s.first, s.uid)
    by false = (omega arith, omega arith)

listing_rising : (start : Counters) (folder : List ℕ) (ops : List Op) → 1 ≤ start.uid → IsApplied ops → AreRisingRows 1 (listing start folder ops)
listing_rising start folder ops l a =
    let c = charted start folder ops a in
    subst (AreRisingRows 1) (rows_listed start folder ops c.2 c.3.are_entries c.3.ascending) (rising_chart start folder ops c.0 c.1 c.2 l c.3)

row_within : (start : Counters) (folder : List ℕ) (ops : List Op) (row : ListedMessage) → IsLawfulStart start → IsApplied ops → IsIn row (listing start folder ops) → IsRowWithin (uidnext_of start folder ops) (length ops) row
row_within start folder ops row s a i =
    let w = row_in start folder ops row i in
    let f = (first_within start folder s).0 in
    let u : row.uid ≡ uid_of start folder ops w.0 = ap (λ (r : ListedMessage). r.uid) (sym w.2) in
    let m : row.modseq ≡ modseq_of folder ops w.0 = ap (λ (r : ListedMessage). r.modseq) (sym w.2) in
    let below = (apart start folder ops a).below w.0 w.1 in
    let few = modseq_bound folder ops w.0 in
    record {
      uid_from = omega (arith, u, f);
      uid = omega (arith, u, below);
      modseq_from = omega (arith, m);
      modseq = omega (arith, m, few);
    }

pub bounds : (start : Counters) (folder : List ℕ) (ops : List Op) → IsLawfulStart start → IsLasting start ops → HasBounds start folder ops
bounds start folder ops s l =
    let f = first_within start folder s in
    record {
      uidnext_from = let first = f.0 in omega (arith, first);
      uidnext = uidnext_within start folder ops [] (let last = f.1 in omega (arith, last)) f.1 l.not_exhausted;
      highest_from = omega arith;
      highest = highest_bound folder ops;
      validity_from = λ u e. (validity_within start folder ops u s l e).0;
      validity = λ u e. (validity_within start folder ops u s l e).1;
      rising = listing_rising start folder ops s.first l.applied;
      rows = λ row i. row_within start folder ops row s l.applied i;
    }

-- ---- what rows show

words_by : (id : OpId) (kind : Kind) (b : MessageTagData) → HasFields kind → tag_data_by id kind ≡ Some b → HasWords b.flags
words_by id (Create folder) b h e = absurd cc
words_by id (Delete folder seen) b h e = absurd cc
words_by id (Append folder flags date text) b h e = let k : record { flags = flags; origin = id } ≡ b = cc in subst (λ (x : MessageTagData). HasWords x.flags) k h.1
words_by id (Expunge folder old) b h e = absurd cc
words_by id (Store folder flags old origin) b h e = let k : record { flags = flags; origin = origin } ≡ b = cc in subst (λ (x : MessageTagData). HasWords x.flags) k h.1
words_by id (Subscribe name) b h e = absurd cc
words_by id (Unsubscribe name seen) b h e = absurd cc

abbrev IsDatedText : DatedText → Type 0
IsDatedText dated = IsDateTime dated.date × (length dated.text < 2 ^ 64)

dated_text_by_kind : (kind : Kind) (l : DatedText) → IsDated kind → IsCountable kind → dated_text_by kind ≡ Some l → IsDatedText l
dated_text_by_kind (Create folder) l d c e = absurd cc
dated_text_by_kind (Delete folder seen) l d c e = absurd cc
dated_text_by_kind (Append folder flags date text) l d c e = let k : record { date = date; text = text } ≡ l = cc in subst IsDatedText k (d, c)
dated_text_by_kind (Expunge folder old) l d c e = absurd cc
dated_text_by_kind (Store folder flags old origin) l d c e = absurd cc
dated_text_by_kind (Subscribe name) l d c e = absurd cc
dated_text_by_kind (Unsubscribe name seen) l d c e = absurd cc

dated_text_chosen : (b : Bool) (o : Option DatedText) (y : DatedText) → cond b o None ≡ Some y → o ≡ Some y
dated_text_chosen true o y h = h
dated_text_chosen false o y h = absurd cc

epoch_date : IsDateTime (codes "\"01-Jan-1970 00:00:00 +0000\"")
epoch_date = record {
  form = pictured_by date_time_picture (codes "\"01-Jan-1970 00:00:00 +0000\"") refl;
  date = search rules;
  time = record { hour = omega arith; minute = omega arith; second = omega arith; zone_hour = omega arith; zone_minute = omega arith };
}

dated_text_or_none : (o : Option DatedText) → ((l : DatedText) → o ≡ Some l → IsDatedText l) → IsDatedText (unwrap_or o no_dated_text)
dated_text_or_none None h = (epoch_date, omega arith)
dated_text_or_none (Some l) h = h l refl

dated_text_written : (ops : List Op) (id : OpId) → AreWritable ops → IsDatedText (unwrap_or (dated_text_of ops id) no_dated_text)
dated_text_written ops id w =
    dated_text_or_none (dated_text_of ops id) (λ l e.
    let v = first_some_by (dated_text_from id) ops l e in
    dated_text_by_kind v.0.kind l (w v.0 v.1).0.date (w v.0 v.1).1 (dated_text_chosen (same_id id v.0.id) (dated_text_by v.0.kind) l v.2))

-- each version's flags can be written
carried_words : (ops : List Op) (folder : List ℕ) (g : OpId) (flags : Flags) → AreWritable ops → IsIn flags (filter_map (tag_flags_of ops folder) (versions_of ops folder g)) → HasWords flags
carried_words ops folder g flags w i =
    let v = flags_from_op ops folder g flags i in
    subst HasWords v.4 (words_by v.0.id v.0.kind v.1 (w v.0 v.2).0.parts.fields v.3)

-- the union of the flags can be written too
words_written : (ops : List Op) (folder : List ℕ) (g : OpId) → AreWritable ops → HasWords (message_of ops folder g).flags
words_written ops folder g w = (
  (
    keywords_have is_lower_case ops folder g (λ flags i. (carried_words ops folder g flags w i).0.0),
    ascending_folded [] (flat_map (λ (f : Flags). f.keywords) (filter_map (tag_flags_of ops folder) (versions_of ops folder g))) tt,
  ),
  keywords_have is_word ops folder g (λ flags i. (carried_words ops folder g flags w i).1),
)

pub rows_written : (start : Counters) (folder : List ℕ) (ops : List Op) (row : ListedMessage) → AreWritable ops → IsIn row (listing start folder ops) → IsWritableRow row
rows_written start folder ops row w i =
    let r = row_in start folder ops row i in
    let dated = dated_text_written ops r.0 w in
    record {
      flags = subst (λ (x : ListedMessage). HasWords x.flags) r.2 (words_written ops folder r.0 w);
      date = subst (λ (x : ListedMessage). IsDateTime x.date) r.2 dated.0;
      text = subst (λ (x : ListedMessage). length x.text < 2 ^ 64) r.2 dated.1;
    }
