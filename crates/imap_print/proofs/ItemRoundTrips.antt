use Rattle.std.proofs.Common.{◌≡◌, ℕ, zero, suc, ◌+◌, ◌<◌, ◌≤◌, ◌^◌, Bool, true, false, ◌&&◌, eqb, cond, List, [], ◌∷◌, ◌++◌, length, map, codes, Option, None, Some, refl, ap, sym, ◌∙◌, append_assoc, arith}
use Rattle.std.proofs.lemmas.Bool.{and_from}
use Rattle.std.proofs.lemmas.Grind.{flat_map-append}
use Rattle.std.proofs.lemmas.List.{length-append, length-map}
use Rattle.std.specs.Fmt.{decimal}
use Rattle.std.specs.List.{list_all}
use Rattle.imap_types.specs.DateTimeTests.{is_date_time}
use Rattle.imap_types.specs.DateTimes.{IsDateTime}
use Rattle.imap_types.specs.declared.date_time.DateTime.{DateTime}
use Rattle.imap_types.specs.declared.flags.Flags.{Flags}
use Rattle.imap_types.specs.declared.section.Section.{Section}
use Rattle.imap_types.specs.declared.section.Section.TheVariants as section
use Rattle.imap_types.proofs.DateTimeLemmas.{test_from_date_time}
use Rattle.imap_print.specs.Appending.{has_none, spaced}
use Rattle.imap_answers.specs.Printable.{AreFetchItems, AreFlags, AreHits, AreResults, AreStatusItems, Each, IsModSeq, IsNonzero, IsPart, IsSection, IsSmall, IsWide, IfPresent}
use Rattle.imap_answers.specs.AnswerText.{all_text, body_text, date_item, fetch_texts, flags_item, flags_text, modseq_item, origin_text, results_text, section_text, status_texts}
use Rattle.imap_print.specs.Reading.{◌>>=◌, ListReading, after, octets_at, field_at, is_in, item_at, lead, literal_at, number_from, capped_at_32_bits, span, with_prefix, map_value}
use Rattle.imap_print.specs.ReadingAnswers.{all_or, bodies_at, bodies_after, body_at, data_at, date_at, date_or, fetch_items_at, fields_at, fields_after, flags_or, modseq_or, origin_or, results_at, section_at, small_option, status_items_at}
use Rattle.imap_answers.specs.Strings.{field_text, item, labelled_number, literal_text, separated_by, set_text}
use Rattle.imap_answers.specs.declared.fetch_items.FetchItems.{FetchItems}
use Rattle.imap_answers.specs.declared.fetch_items.SectionData.{SectionData}
use Rattle.imap_answers.specs.declared.mailbox.SearchResults.{SearchResults}
use Rattle.imap_answers.specs.declared.mailbox.StatusItems.{StatusItems}
use Rattle.imap_print.specs.declared.scanner.ScanClass.TheVariants.{Astring}
use Rattle.imap_print.proofs.RoundTrips.{EndsSet, after-apart, apart, apart-more, octets_at-round_trip, field-round_trip, field-filled, field_apart, literal-round_trip, none_after_lead, number-round_trip, set-round_trip, capped_at_32_bits-round_trip, spaced-front}
use Rattle.imap_print.proofs.ListRoundTrips.{flags-round_trip, item-round_trip, lead-round_trip, lead-open, lead-parts, not_first, still_first}

append_none : {X : Type 0} (xs : List X) → xs ++ [] ≡ xs
append_none [] = refl
append_none (x ∷ xs) = ap (λ ys. x ∷ ys) (append_none xs)

widened : (n : Option ℕ) → IfPresent IsSmall n → IfPresent IsWide n
widened None h = tt
widened (Some n) h = omega arith

unzeroed : (n : Option ℕ) → IfPresent IsNonzero n → IfPresent IsSmall n
unzeroed None h = tt
unzeroed (Some n) h = h.1

modseq_wide : (n : Option ℕ) → IfPresent IsModSeq n → IfPresent IsWide n
modseq_wide None h = tt
modseq_wide (Some n) h = h.1

small_same : (n : Option ℕ) → IfPresent IsSmall n → small_option n ≡ n
small_same None h = refl
small_same (Some n) h = ap (λ k. Some k) (capped_at_32_bits-round_trip n h)

apart_item : (l label : List ℕ) (n : Option ℕ) (ts : List (List ℕ)) → apart l label ≡ true → list_all (apart l) ts ≡ true → list_all (apart l) (item label n ++ ts) ≡ true
apart_item l label None ts h a = a
apart_item l label (Some n) ts h a = and_from (apart l (label ++ decimal n)) (list_all (apart l) ts) (apart-more l label (decimal n) h) a

-- a parenthesis ends a list
closes : (f : Bool) (c : ℕ) (label rest : List ℕ) → eqb 41 c ≡ false → after (lead f (c ∷ label)) (41 ∷ rest) ≡ None
closes true c label rest h = ap (λ b. cond b (after label rest) None) h
closes false c label rest h = refl

spaced_none : (g : Bool) (end : List ℕ) → spaced g [] ++ end ≡ end
spaced_none true end = refl
spaced_none false end = refl

pub status-items-round_trip : (items : StatusItems) (rest : List ℕ) → AreStatusItems items → status_items_at (spaced true (status_texts items) ++ (41 ∷ rest)) ≡ (items, 41 ∷ rest)
unfolding status_items_at
status-items-round_trip items rest h =
    let end = 41 ∷ rest in
    let a1 = item (codes "MESSAGES ") items.messages in
    let a2 = item (codes "UIDNEXT ") items.uidnext in
    let a3 = item (codes "UIDVALIDITY ") items.uidvalidity in
    let a4 = item (codes "UNSEEN ") items.unseen in
    let a5 = item (codes "DELETED ") items.deleted in
    let a6 = item (codes "SIZE ") items.size in
    let a7 = item (codes "HIGHESTMODSEQ ") items.highest_modseq in
    let r6 = a7 ++ [] in
    let r5 = a6 ++ r6 in
    let r4 = a5 ++ r5 in
    let r3 = a4 ++ r4 in
    let r2 = a3 ++ r3 in
    let r1 = a2 ++ r2 in
    let nested : status_texts items ≡ a1 ++ r1 = simp (append_assoc, append_none) in
    let f1 = true && has_none a1 in
    let f2 = f1 && has_none a2 in
    let f3 = f2 && has_none a3 in
    let f4 = f3 && has_none a4 in
    let f5 = f4 && has_none a5 in
    let f6 = f5 && has_none a6 in
    let l1 : list_all (apart (codes "MESSAGES ")) r1 ≡ true = apart_item (codes "MESSAGES ") (codes "UIDNEXT ") items.uidnext r2 refl (apart_item (codes "MESSAGES ") (codes "UIDVALIDITY ") items.uidvalidity r3 refl (apart_item (codes "MESSAGES ") (codes "UNSEEN ") items.unseen r4 refl (apart_item (codes "MESSAGES ") (codes "DELETED ") items.deleted r5 refl (apart_item (codes "MESSAGES ") (codes "SIZE ") items.size r6 refl (apart_item (codes "MESSAGES ") (codes "HIGHESTMODSEQ ") items.highest_modseq [] refl refl))))) in
    let l2 : list_all (apart (codes "UIDNEXT ")) r2 ≡ true = apart_item (codes "UIDNEXT ") (codes "UIDVALIDITY ") items.uidvalidity r3 refl (apart_item (codes "UIDNEXT ") (codes "UNSEEN ") items.unseen r4 refl (apart_item (codes "UIDNEXT ") (codes "DELETED ") items.deleted r5 refl (apart_item (codes "UIDNEXT ") (codes "SIZE ") items.size r6 refl (apart_item (codes "UIDNEXT ") (codes "HIGHESTMODSEQ ") items.highest_modseq [] refl refl)))) in
    let l3 : list_all (apart (codes "UIDVALIDITY ")) r3 ≡ true = apart_item (codes "UIDVALIDITY ") (codes "UNSEEN ") items.unseen r4 refl (apart_item (codes "UIDVALIDITY ") (codes "DELETED ") items.deleted r5 refl (apart_item (codes "UIDVALIDITY ") (codes "SIZE ") items.size r6 refl (apart_item (codes "UIDVALIDITY ") (codes "HIGHESTMODSEQ ") items.highest_modseq [] refl refl))) in
    let l4 : list_all (apart (codes "UNSEEN ")) r4 ≡ true = apart_item (codes "UNSEEN ") (codes "DELETED ") items.deleted r5 refl (apart_item (codes "UNSEEN ") (codes "SIZE ") items.size r6 refl (apart_item (codes "UNSEEN ") (codes "HIGHESTMODSEQ ") items.highest_modseq [] refl refl)) in
    let l5 : list_all (apart (codes "DELETED ")) r5 ≡ true = apart_item (codes "DELETED ") (codes "SIZE ") items.size r6 refl (apart_item (codes "DELETED ") (codes "HIGHESTMODSEQ ") items.highest_modseq [] refl refl) in
    let l6 : list_all (apart (codes "SIZE ")) r6 ≡ true = apart_item (codes "SIZE ") (codes "HIGHESTMODSEQ ") items.highest_modseq [] refl refl in
    let p1 = ap (λ (ts : List (List ℕ)). item_at true (codes "MESSAGES ") (spaced true ts ++ end)) nested ∙ item-round_trip true (codes "MESSAGES ") items.messages r1 end (widened items.messages h.messages) l1 (closes true 77 (codes "ESSAGES ") rest refl) (λ n. refl) in
    let p2 = ap (λ (x : ListReading (Option ℕ)). item_at x.1 (codes "UIDNEXT ") x.2) p1 ∙ item-round_trip f1 (codes "UIDNEXT ") items.uidnext r2 end (widened items.uidnext (unzeroed items.uidnext h.uidnext)) l2 (closes f1 85 (codes "IDNEXT ") rest refl) (λ n. refl) in
    let p3 = ap (λ (x : ListReading (Option ℕ)). item_at x.1 (codes "UIDVALIDITY ") x.2) p2 ∙ item-round_trip f2 (codes "UIDVALIDITY ") items.uidvalidity r3 end (widened items.uidvalidity (unzeroed items.uidvalidity h.uidvalidity)) l3 (closes f2 85 (codes "IDVALIDITY ") rest refl) (λ n. refl) in
    let p4 = ap (λ (x : ListReading (Option ℕ)). item_at x.1 (codes "UNSEEN ") x.2) p3 ∙ item-round_trip f3 (codes "UNSEEN ") items.unseen r4 end (widened items.unseen h.unseen) l4 (closes f3 85 (codes "NSEEN ") rest refl) (λ n. refl) in
    let p5 = ap (λ (x : ListReading (Option ℕ)). item_at x.1 (codes "DELETED ") x.2) p4 ∙ item-round_trip f4 (codes "DELETED ") items.deleted r5 end (widened items.deleted h.deleted) l5 (closes f4 68 (codes "ELETED ") rest refl) (λ n. refl) in
    let p6 = ap (λ (x : ListReading (Option ℕ)). item_at x.1 (codes "SIZE ") x.2) p5 ∙ item-round_trip f5 (codes "SIZE ") items.size r6 end h.size l6 (closes f5 83 (codes "IZE ") rest refl) (λ n. refl) in
    let p7 = ap (λ (x : ListReading (Option ℕ)). item_at x.1 (codes "HIGHESTMODSEQ ") x.2) p6 ∙ item-round_trip f6 (codes "HIGHESTMODSEQ ") items.highest_modseq [] end (modseq_wide items.highest_modseq h.highest_modseq) refl (closes f6 72 (codes "IGHESTMODSEQ ") rest refl) (λ n. refl) in
    let done : (g : Bool) → spaced g [] ++ end ≡ end = λ g. spaced_none g end in
    (λ k. (record { messages = (ap (λ (x : ListReading (Option ℕ)). small_option x.0) p1 ∙ small_same items.messages h.messages) k; uidnext = (ap (λ (x : ListReading (Option ℕ)). small_option x.0) p2 ∙ small_same items.uidnext (unzeroed items.uidnext h.uidnext)) k; uidvalidity = (ap (λ (x : ListReading (Option ℕ)). small_option x.0) p3 ∙ small_same items.uidvalidity (unzeroed items.uidvalidity h.uidvalidity)) k; unseen = (ap (λ (x : ListReading (Option ℕ)). small_option x.0) p4 ∙ small_same items.unseen h.unseen) k; deleted = (ap (λ (x : ListReading (Option ℕ)). small_option x.0) p5 ∙ small_same items.deleted h.deleted) k; size = (p6 k).0; highest_modseq = (p7 k).0 }, (ap (λ (x : ListReading (Option ℕ)). x.2) p7 ∙ done (f6 && has_none a7)) k))

-- n nonempty texts of a list have at least n octets
lead_fits : (f : Bool) (t rest : List ℕ) → 0 < length t → suc (length rest) ≤ length (lead f t ++ rest)
lead_fits true t rest w = omega (arith, length-append t rest)
lead_fits false t rest w = omega (arith, length-append t rest)

texts_fit : (f : Bool) (ts : List (List ℕ)) (end : List ℕ) → Each (λ (t : List ℕ). 0 < length t) ts → length ts ≤ length (spaced f ts ++ end)
texts_fit f [] end w = omega arith
texts_fit f (t ∷ ts) end w =
    let front : length (spaced f (t ∷ ts) ++ end) ≡ length (lead f t ++ (spaced false ts ++ end)) = ap length (spaced-front f t ts end) in
    omega (arith, front, lead_fits f t (spaced false ts ++ end) w.0, texts_fit false ts end w.1)

-- the names of header fields
ends_string : (ts : List (List ℕ)) (rest : List ℕ) → span (is_in Astring) (spaced false ts ++ (41 ∷ rest)) ≡ ([], spaced false ts ++ (41 ∷ rest))
ends_string [] rest = refl
ends_string (t ∷ ts) rest = refl

not_closed_by : (f : Bool) (name rest : List ℕ) → after (41 ∷ []) (lead f (field_text name) ++ rest) ≡ None
not_closed_by true name rest = after-apart (41 ∷ []) (field_text name) rest (field_apart name)
not_closed_by false name rest = refl

fields-round_trip : (fuel : ℕ) (f : Bool) (names : List (List ℕ)) (rest : List ℕ) → Each (λ (name : List ℕ). IsWide (length name)) names → length names < fuel → fields_at fuel f (spaced f (map field_text names) ++ (41 ∷ rest)) ≡ Some (names, rest)
fields-round_trip zero f names rest w l = absurd (omega arith)
fields-round_trip (suc fuel) true [] rest w l = refl
fields-round_trip (suc fuel) false [] rest w l = refl
fields-round_trip (suc fuel) f (name ∷ names) rest w l =
    let more = spaced false (map field_text names) ++ (41 ∷ rest) in
    let bytes = lead f (field_text name) ++ more in
    ap (fields_at (suc fuel) f) (spaced-front f (field_text name) (map field_text names) (41 ∷ rest))
    ∙ ap (λ o. fields_after f o bytes (fields_at fuel false)) (not_closed_by f name more)
    ∙ ap (λ o. (o >>= field_at) >>= λ x. with_prefix (x.0 ∷ []) (fields_at fuel false x.1)) (lead-open f (field_text name) more)
    ∙ ap (λ o. o >>= λ x. with_prefix (x.0 ∷ []) (fields_at fuel false x.1)) (field-round_trip name more w.0 (ends_string (map field_text names) rest))
    ∙ ap (with_prefix (name ∷ [])) (fields-round_trip fuel false names rest w.1 (omega arith))

fields_filled : (names : List (List ℕ)) → Each (λ (t : List ℕ). 0 < length t) (map field_text names)
fields_filled [] = tt
fields_filled (name ∷ names) = (field-filled name, fields_filled names)

fields_listed : (names : List (List ℕ)) (rest : List ℕ) → Each (λ (name : List ℕ). IsWide (length name)) names → fields_at (length ((separated_by 32 (map field_text names) ++ (41 ∷ [])) ++ rest) + 1) true ((separated_by 32 (map field_text names) ++ (41 ∷ [])) ++ rest) ≡ Some (names, rest)
fields_listed names rest w =
    let whole : (separated_by 32 (map field_text names) ++ (41 ∷ [])) ++ rest ≡ spaced true (map field_text names) ++ (41 ∷ rest) = append_assoc (separated_by 32 (map field_text names)) (41 ∷ []) rest in
    let fits : length names < length ((separated_by 32 (map field_text names) ++ (41 ∷ [])) ++ rest) + 1 = omega (arith, ap length whole, texts_fit true (map field_text names) (41 ∷ rest) (fields_filled names), length-map names field_text) in
    ap (fields_at (length ((separated_by 32 (map field_text names) ++ (41 ∷ [])) ++ rest) + 1) true) whole ∙ fields-round_trip _ true names rest w fits

-- a section, up to its bracket
section-round_trip : (s : Section) (rest : List ℕ) → IsSection s → section_at (section_text s ++ (93 ∷ rest)) ≡ Some (s, 93 ∷ rest)
unfolding section_at
section-round_trip section.Whole rest h = refl
section-round_trip section.Header rest h = refl
section-round_trip section.Text rest h = refl
section-round_trip (section.Fields names) rest h = ap (map_value (λ n. section.Fields n)) (fields_listed names (93 ∷ rest) h.1)
section-round_trip (section.FieldsNot names) rest h = ap (map_value (λ n. section.FieldsNot n)) (fields_listed names (93 ∷ rest) h.1)

-- the octet at which a partial begins
origin-round_trip : (origin : Option ℕ) (rest : List ℕ) → IfPresent IsSmall origin → origin_or (after (codes "<") (origin_text origin ++ (32 ∷ rest))) (origin_text origin ++ (32 ∷ rest)) ≡ Some (origin, 32 ∷ rest)
origin-round_trip None rest h = refl
origin-round_trip (Some n) rest h =
    let whole : (decimal n ++ (62 ∷ [])) ++ (32 ∷ rest) ≡ decimal n ++ (62 ∷ 32 ∷ rest) = append_assoc (decimal n) (62 ∷ []) (32 ∷ rest) in
    let widen : n < 2 ^ 64 = omega arith in
    let read : number_from 0 ((decimal n ++ (62 ∷ [])) ++ (32 ∷ rest)) ≡ (n, 62 ∷ 32 ∷ rest) = ap (number_from 0) whole ∙ number-round_trip n (62 ∷ 32 ∷ rest) widen in
    ap (λ (x : ℕ × List ℕ). after (codes ">") x.1 >>= λ rest. Some (Some (capped_at_32_bits x.0), rest)) read
    ∙ ap (λ k. Some (Some k, 32 ∷ rest)) (capped_at_32_bits-round_trip n h)

-- what follows the name of a section
data-round_trip : (origin : Option ℕ) (octets rest : List ℕ) → IfPresent IsSmall origin → IsWide (length octets) → data_at (93 ∷ (origin_text origin ++ (32 ∷ (literal_text octets ++ rest)))) ≡ Some ((origin, octets), rest)
unfolding data_at
data-round_trip origin octets rest h l =
    ap (λ o. o >>= λ origin. (after (codes " ") origin.1 >>= λ between. (literal_at between >>= λ octets. Some ((origin.0, octets.0), octets.1)))) (origin-round_trip origin (literal_text octets ++ rest) h)
    ∙ ap (λ o. o >>= λ octets. Some ((origin, octets.0), octets.1)) (literal-round_trip octets rest l)

-- a section with its octets
body-round_trip : (part : SectionData) (rest : List ℕ) → IsPart part → body_at (section_text part.section ++ (93 ∷ (origin_text part.origin ++ (32 ∷ (literal_text part.octets ++ rest))))) ≡ Some (part, rest)
unfolding body_at
body-round_trip part rest h =
    ap (λ o. o >>= λ s. (data_at s.1 >>= λ parsed. Some (record { section = s.0; origin = parsed.0.0; octets = parsed.0.1 }, parsed.1))) (section-round_trip part.section (origin_text part.origin ++ (32 ∷ (literal_text part.octets ++ rest))) h.section)
    ∙ ap (λ o. o >>= λ parsed. Some (record { section = part.section; origin = parsed.0.0; octets = parsed.0.1 }, parsed.1)) (data-round_trip part.origin part.octets rest h.origin h.octets)

body_whole : (f : Bool) (part : SectionData) (rest : List ℕ) → lead f (body_text part) ++ rest ≡ lead f (codes "BODY[") ++ (section_text part.section ++ (93 ∷ (origin_text part.origin ++ (32 ∷ (literal_text part.octets ++ rest)))))
body_whole f part rest =
    let s = section_text part.section in
    let o = origin_text part.origin in
    let l = literal_text part.octets in
    ap (λ (x : List ℕ). lead f x ++ rest) (append_assoc (codes "BODY[" ++ s ++ codes "]" ++ o) (codes " ") l ∙ append_assoc (codes "BODY[" ++ s ++ codes "]") o (32 ∷ l) ∙ append_assoc (codes "BODY[" ++ s) (93 ∷ []) (o ++ (32 ∷ l)))
    ∙ lead-parts f (codes "BODY[") (s ++ (93 ∷ (o ++ (32 ∷ l)))) rest
    ∙ ap (λ (x : List ℕ). lead f (codes "BODY[") ++ x) (append_assoc s (93 ∷ (o ++ (32 ∷ l))) rest ∙ ap (λ (x : List ℕ). s ++ (93 ∷ x)) (append_assoc o (32 ∷ l) rest))

pub bodies-round_trip : (fuel : ℕ) (f : Bool) (parts : List SectionData) (rest : List ℕ) → Each IsPart parts → length parts < fuel → bodies_at fuel f (spaced f (map body_text parts) ++ (41 ∷ rest)) ≡ Some (parts, 41 ∷ rest)
bodies-round_trip zero f parts rest w l = absurd (omega arith)
bodies-round_trip (suc fuel) true [] rest w l = refl
bodies-round_trip (suc fuel) false [] rest w l = refl
bodies-round_trip (suc fuel) f (part ∷ parts) rest w l =
    let more = spaced false (map body_text parts) ++ (41 ∷ rest) in
    let inner = section_text part.section ++ (93 ∷ (origin_text part.origin ++ (32 ∷ (literal_text part.octets ++ more)))) in
    ap (bodies_at (suc fuel) f) (spaced-front f (body_text part) (map body_text parts) (41 ∷ rest) ∙ body_whole f part more)
    ∙ ap (λ o. bodies_after o (lead f (codes "BODY[") ++ inner) (bodies_at fuel false)) (lead-round_trip f (codes "BODY[") inner)
    ∙ ap (λ o. o >>= λ x. with_prefix (x.0 ∷ []) (bodies_at fuel false x.1)) (body-round_trip part more w.0)
    ∙ ap (with_prefix (part ∷ [])) (bodies-round_trip fuel false parts rest w.1 (omega arith))

pub bodies_filled : (parts : List SectionData) → Each (λ (t : List ℕ). 0 < length t) (map body_text parts)
bodies_filled [] = tt
bodies_filled (part ∷ parts) = (omega arith, bodies_filled parts)

-- a label and each text of FETCH differ before either ends
pub apart_flags : (l : List ℕ) (flags : Option Flags) (ts : List (List ℕ)) → ((x : List ℕ) → apart l (codes "FLAGS " ++ x) ≡ true) → list_all (apart l) ts ≡ true → list_all (apart l) (flags_item flags ++ ts) ≡ true
apart_flags l None ts h a = a
apart_flags l (Some flags) ts h a = and_from _ (list_all (apart l) ts) (h _) a

pub apart_date : (l : List ℕ) (date : Option DateTime) (ts : List (List ℕ)) → ((x : List ℕ) → apart l (codes "INTERNALDATE " ++ x) ≡ true) → list_all (apart l) ts ≡ true → list_all (apart l) (date_item date ++ ts) ≡ true
apart_date l None ts h a = a
apart_date l (Some date) ts h a = and_from _ (list_all (apart l) ts) (h date) a

pub apart_modseq : (l : List ℕ) (modseq : Option ℕ) (ts : List (List ℕ)) → ((x : List ℕ) → apart l (codes "MODSEQ (" ++ x) ≡ true) → list_all (apart l) ts ≡ true → list_all (apart l) (modseq_item modseq ++ ts) ≡ true
apart_modseq l None ts h a = a
apart_modseq l (Some n) ts h a = and_from _ (list_all (apart l) ts) (h (decimal n ++ codes ")")) a

pub apart_bodies : (l : List ℕ) (parts : List SectionData) → ((x : List ℕ) → apart l (codes "BODY[" ++ x) ≡ true) → list_all (apart l) (map body_text parts) ≡ true
apart_bodies l [] h = refl
apart_bodies l (part ∷ parts) h = and_from _ (list_all (apart l) (map body_text parts)) (h _) (apart_bodies l parts h)

-- the flags of a message
pub flags-item-round_trip : (f : Bool) (flags : Option Flags) (ts : List (List ℕ)) (end : List ℕ) → IfPresent AreFlags flags → list_all (apart (codes "FLAGS ")) ts ≡ true → after (lead f (codes "FLAGS ")) end ≡ None → flags_or f (after (lead f (codes "FLAGS ")) (spaced f (flags_item flags ++ ts) ++ end)) (spaced f (flags_item flags ++ ts) ++ end) ≡ Some (flags, f && has_none (flags_item flags), spaced (f && has_none (flags_item flags)) ts ++ end)
flags-item-round_trip f None ts end h a n =
    ap (λ o. flags_or f o (spaced f ts ++ end)) (none_after_lead f (codes "FLAGS ") ts end a n)
    ∙ (λ k. Some (None, sym (still_first f) k, spaced (sym (still_first f) k) ts ++ end))
flags-item-round_trip f (Some flags) ts end h a n =
    let rest = spaced false ts ++ end in
    let text = flags_text flags in
    ap (λ (x : List ℕ). flags_or f (after (lead f (codes "FLAGS ")) x) x) (spaced-front f (codes "FLAGS " ++ text) ts end ∙ lead-parts f (codes "FLAGS ") text rest)
    ∙ ap (λ o. flags_or f o (lead f (codes "FLAGS ") ++ (text ++ rest))) (lead-round_trip f (codes "FLAGS ") (text ++ rest))
    ∙ ap (λ o. o >>= λ x. Some (Some x.0, false, x.1)) (flags-round_trip flags rest h)
    ∙ (λ k. Some (Some flags, sym (not_first f) k, spaced (sym (not_first f) k) ts ++ end))

-- the date of a message
date-round_trip : (date rest : List ℕ) → IsDateTime date → date_at (date ++ rest) ≡ Some (date, rest)
unfolding date_at
date-round_trip date rest h =
    let size : length date ≡ 28 = h.form.0 in
    ap (λ n. octets_at n (date ++ rest) >>= λ d. cond (is_date_time d.0) (Some d) None) (sym size)
    ∙ ap (λ o. o >>= λ d. cond (is_date_time d.0) (Some d) None) (octets_at-round_trip date rest)
    ∙ ap (λ b. cond b (Some (date, rest)) None) (test_from_date_time date h)

pub date-item-round_trip : (f : Bool) (date : Option DateTime) (ts : List (List ℕ)) (end : List ℕ) → IfPresent IsDateTime date → list_all (apart (codes "INTERNALDATE ")) ts ≡ true → after (lead f (codes "INTERNALDATE ")) end ≡ None → date_or f (after (lead f (codes "INTERNALDATE ")) (spaced f (date_item date ++ ts) ++ end)) (spaced f (date_item date ++ ts) ++ end) ≡ Some (date, f && has_none (date_item date), spaced (f && has_none (date_item date)) ts ++ end)
date-item-round_trip f None ts end h a n =
    ap (λ o. date_or f o (spaced f ts ++ end)) (none_after_lead f (codes "INTERNALDATE ") ts end a n)
    ∙ (λ k. Some (None, sym (still_first f) k, spaced (sym (still_first f) k) ts ++ end))
date-item-round_trip f (Some date) ts end h a n =
    let rest = spaced false ts ++ end in
    ap (λ (x : List ℕ). date_or f (after (lead f (codes "INTERNALDATE ")) x) x) (spaced-front f (codes "INTERNALDATE " ++ date) ts end ∙ lead-parts f (codes "INTERNALDATE ") date rest)
    ∙ ap (λ o. date_or f o (lead f (codes "INTERNALDATE ") ++ (date ++ rest))) (lead-round_trip f (codes "INTERNALDATE ") (date ++ rest))
    ∙ ap (λ o. o >>= λ x. Some (Some x.0, false, x.1)) (date-round_trip date rest h)
    ∙ (λ k. Some (Some date, sym (not_first f) k, spaced (sym (not_first f) k) ts ++ end))

-- the mod-sequence of a message
pub modseq-item-round_trip : (f : Bool) (modseq : Option ℕ) (ts : List (List ℕ)) (end : List ℕ) → IfPresent IsWide modseq → list_all (apart (codes "MODSEQ (")) ts ≡ true → after (lead f (codes "MODSEQ (")) end ≡ None → modseq_or f (after (lead f (codes "MODSEQ (")) (spaced f (modseq_item modseq ++ ts) ++ end)) (spaced f (modseq_item modseq ++ ts) ++ end) ≡ Some (modseq, f && has_none (modseq_item modseq), spaced (f && has_none (modseq_item modseq)) ts ++ end)
modseq-item-round_trip f None ts end h a n =
    ap (λ o. modseq_or f o (spaced f ts ++ end)) (none_after_lead f (codes "MODSEQ (") ts end a n)
    ∙ (λ k. Some (None, sym (still_first f) k, spaced (sym (still_first f) k) ts ++ end))
modseq-item-round_trip f (Some m) ts end h a n =
    let rest = spaced false ts ++ end in
    let inner : (decimal m ++ codes ")") ++ rest ≡ decimal m ++ (41 ∷ rest) = append_assoc (decimal m) (codes ")") rest in
    let whole : lead f (codes "MODSEQ (" ++ (decimal m ++ codes ")")) ++ rest ≡ lead f (codes "MODSEQ (") ++ (decimal m ++ (41 ∷ rest)) =
    lead-parts f (codes "MODSEQ (") (decimal m ++ codes ")") rest ∙ ap (λ (x : List ℕ). lead f (codes "MODSEQ (") ++ x) inner in
    ap (λ (x : List ℕ). modseq_or f (after (lead f (codes "MODSEQ (")) x) x) (spaced-front f (codes "MODSEQ (" ++ decimal m ++ codes ")") ts end ∙ whole)
    ∙ ap (λ o. modseq_or f o (lead f (codes "MODSEQ (") ++ (decimal m ++ (41 ∷ rest)))) (lead-round_trip f (codes "MODSEQ (") (decimal m ++ (41 ∷ rest)))
    ∙ ap (λ (x : ℕ × List ℕ). after (codes ")") x.1 >>= λ rest. Some (Some x.0, false, rest)) (number-round_trip m (41 ∷ rest) h)
    ∙ (λ k. Some (Some m, sym (not_first f) k, spaced (sym (not_first f) k) ts ++ end))

-- the items of FETCH
pub fetch-items-round_trip : (items : FetchItems) (rest : List ℕ) → AreFetchItems items → fetch_items_at (spaced true (fetch_texts items) ++ (41 ∷ rest)) ≡ Some (items, 41 ∷ rest)
unfolding fetch_items_at
fetch-items-round_trip items rest h =
    let end = 41 ∷ rest in
    let a1 = item (codes "UID ") items.uid in
    let a2 = flags_item items.flags in
    let a3 = date_item items.date in
    let a4 = item (codes "RFC822.SIZE ") items.size in
    let a5 = modseq_item items.modseq in
    let a6 = map body_text items.sections in
    let r4 = a5 ++ a6 in
    let r3 = a4 ++ r4 in
    let r2 = a3 ++ r3 in
    let r1 = a2 ++ r2 in
    let nested : fetch_texts items ≡ a1 ++ r1 = simp append_assoc in
    let f1 = true && has_none a1 in
    let f2 = f1 && has_none a2 in
    let f3 = f2 && has_none a3 in
    let f4 = f3 && has_none a4 in
    let f5 = f4 && has_none a5 in
    let l1 : list_all (apart (codes "UID ")) r1 ≡ true = apart_flags (codes "UID ") items.flags r2 (λ x. refl) (apart_date (codes "UID ") items.date r3 (λ x. refl) (apart_item (codes "UID ") (codes "RFC822.SIZE ") items.size r4 refl (apart_modseq (codes "UID ") items.modseq a6 (λ x. refl) (apart_bodies (codes "UID ") items.sections (λ x. refl))))) in
    let l2 : list_all (apart (codes "FLAGS ")) r2 ≡ true = apart_date (codes "FLAGS ") items.date r3 (λ x. refl) (apart_item (codes "FLAGS ") (codes "RFC822.SIZE ") items.size r4 refl (apart_modseq (codes "FLAGS ") items.modseq a6 (λ x. refl) (apart_bodies (codes "FLAGS ") items.sections (λ x. refl)))) in
    let l3 : list_all (apart (codes "INTERNALDATE ")) r3 ≡ true = apart_item (codes "INTERNALDATE ") (codes "RFC822.SIZE ") items.size r4 refl (apart_modseq (codes "INTERNALDATE ") items.modseq a6 (λ x. refl) (apart_bodies (codes "INTERNALDATE ") items.sections (λ x. refl))) in
    let l4 : list_all (apart (codes "RFC822.SIZE ")) r4 ≡ true = apart_modseq (codes "RFC822.SIZE ") items.modseq a6 (λ x. refl) (apart_bodies (codes "RFC822.SIZE ") items.sections (λ x. refl)) in
    let l5 : list_all (apart (codes "MODSEQ (")) a6 ≡ true = apart_bodies (codes "MODSEQ (") items.sections (λ x. refl) in
    let p1 = ap (λ (ts : List (List ℕ)). item_at true (codes "UID ") (spaced true ts ++ end)) nested ∙ item-round_trip true (codes "UID ") items.uid r1 end (widened items.uid (unzeroed items.uid h.uid)) l1 (closes true 85 (codes "ID ") rest refl) (λ n. refl) in
    let p2 = flags-item-round_trip f1 items.flags r2 end h.flags l2 (closes f1 70 (codes "LAGS ") rest refl) in
    let p3 = date-item-round_trip f2 items.date r3 end h.date l3 (closes f2 73 (codes "NTERNALDATE ") rest refl) in
    let p4 = item-round_trip f3 (codes "RFC822.SIZE ") items.size r4 end h.size l4 (closes f3 82 (codes "FC822.SIZE ") rest refl) (λ n. refl) in
    let p5 = modseq-item-round_trip f4 items.modseq a6 end (modseq_wide items.modseq h.modseq) l5 (closes f4 77 (codes "ODSEQ (") rest refl) in
    let bytes5 = spaced f5 a6 ++ end in
    let fits : length items.sections < length bytes5 + 1 = omega (arith, texts_fit f5 a6 end (bodies_filled items.sections), length-map items.sections body_text) in
    let p6 = bodies-round_trip (length bytes5 + 1) f5 items.sections rest h.sections fits in
    let from_size : ListReading (Option ℕ) → Option (FetchItems × List ℕ) = λ size.
    (modseq_or size.1 (after (lead size.1 (codes "MODSEQ (")) size.2) size.2 >>= λ modseq.
    bodies_at (length modseq.2 + 1) modseq.1 modseq.2 >>= λ parts.
    Some (record { uid = small_option items.uid; flags = items.flags; date = items.date; size = size.0; modseq = modseq.0; sections = parts.0 }, parts.1)) in
    ap (λ (uid : ListReading (Option ℕ)).
    flags_or uid.1 (after (lead uid.1 (codes "FLAGS ")) uid.2) uid.2 >>= λ flags.
    date_or flags.1 (after (lead flags.1 (codes "INTERNALDATE ")) flags.2) flags.2 >>= λ date.
    (modseq_or (item_at date.1 (codes "RFC822.SIZE ") date.2).1 (after (lead (item_at date.1 (codes "RFC822.SIZE ") date.2).1 (codes "MODSEQ (")) (item_at date.1 (codes "RFC822.SIZE ") date.2).2) (item_at date.1 (codes "RFC822.SIZE ") date.2).2 >>= λ modseq.
    bodies_at (length modseq.2 + 1) modseq.1 modseq.2 >>= λ parts.
    Some (record { uid = small_option uid.0; flags = flags.0; date = date.0; size = (item_at date.1 (codes "RFC822.SIZE ") date.2).0; modseq = modseq.0; sections = parts.0 }, parts.1))) p1
    ∙ ap (λ o. o >>= λ flags.
    date_or flags.1 (after (lead flags.1 (codes "INTERNALDATE ")) flags.2) flags.2 >>= λ date.
    (modseq_or (item_at date.1 (codes "RFC822.SIZE ") date.2).1 (after (lead (item_at date.1 (codes "RFC822.SIZE ") date.2).1 (codes "MODSEQ (")) (item_at date.1 (codes "RFC822.SIZE ") date.2).2) (item_at date.1 (codes "RFC822.SIZE ") date.2).2 >>= λ modseq.
    bodies_at (length modseq.2 + 1) modseq.1 modseq.2 >>= λ parts.
    Some (record { uid = small_option items.uid; flags = flags.0; date = date.0; size = (item_at date.1 (codes "RFC822.SIZE ") date.2).0; modseq = modseq.0; sections = parts.0 }, parts.1))) p2
    ∙ ap (λ o. o >>= λ date.
    (modseq_or (item_at date.1 (codes "RFC822.SIZE ") date.2).1 (after (lead (item_at date.1 (codes "RFC822.SIZE ") date.2).1 (codes "MODSEQ (")) (item_at date.1 (codes "RFC822.SIZE ") date.2).2) (item_at date.1 (codes "RFC822.SIZE ") date.2).2 >>= λ modseq.
    bodies_at (length modseq.2 + 1) modseq.1 modseq.2 >>= λ parts.
    Some (record { uid = small_option items.uid; flags = items.flags; date = date.0; size = (item_at date.1 (codes "RFC822.SIZE ") date.2).0; modseq = modseq.0; sections = parts.0 }, parts.1))) p3
    ∙ ap from_size p4
    ∙ ap (λ o. o >>= λ modseq. bodies_at (length modseq.2 + 1) modseq.1 modseq.2 >>= λ parts.
    Some (record { uid = small_option items.uid; flags = items.flags; date = items.date; size = items.size; modseq = modseq.0; sections = parts.0 }, parts.1)) p5
    ∙ ap (λ o. o >>= λ parts. Some (record { uid = small_option items.uid; flags = items.flags; date = items.date; size = items.size; modseq = items.modseq; sections = parts.0 }, parts.1)) p6
    ∙ ap (λ u. Some (record { uid = u; flags = items.flags; date = items.date; size = items.size; modseq = items.modseq; sections = items.sections }, end)) (small_same items.uid (unzeroed items.uid h.uid))

-- a set of numbers ends at the end of a line, at a space or at a bracket
line_ends : (rest : List ℕ) → EndsSet (13 ∷ rest)
line_ends rest = record { number = λ n. refl; colon = refl; comma = refl }

pub space_ends : (rest : List ℕ) → EndsSet (32 ∷ rest)
space_ends rest = record { number = λ n. refl; colon = refl; comma = refl }

pub bracket_ends : (rest : List ℕ) → EndsSet (93 ∷ rest)
bracket_ends rest = record { number = λ n. refl; colon = refl; comma = refl }

-- all hits of a search, as a text of a list
all_item : List ℕ → List (List ℕ)
all_item [] = []
all_item (hit ∷ hits) = (codes "ALL " ++ set_text (hit ∷ hits)) ∷ []

labelled_item : (label : List ℕ) (n : Option ℕ) → labelled_number (32 ∷ label) n ≡ spaced false (item label n)
labelled_item label None = refl
labelled_item label (Some n) = sym (append_none (32 ∷ (label ++ decimal n)))

all_listed : (hits : List ℕ) → all_text hits ≡ spaced false (all_item hits)
unfolding all_item
all_listed [] = refl
all_listed (hit ∷ hits) = sym (append_none (codes " ALL " ++ set_text (hit ∷ hits)))

apart_all : (l hits : List ℕ) (ts : List (List ℕ)) → ((x : List ℕ) → apart l (codes "ALL " ++ x) ≡ true) → list_all (apart l) ts ≡ true → list_all (apart l) (all_item hits ++ ts) ≡ true
unfolding all_item
apart_all l [] ts h a = a
apart_all l (hit ∷ hits) ts h a = and_from _ (list_all (apart l) ts) (h _) a

list_ends : (ts : List (List ℕ)) (rest : List ℕ) → EndsSet (spaced false ts ++ (13 ∷ rest))
list_ends [] rest = line_ends rest
list_ends (t ∷ ts) rest = space_ends _

all-round_trip : (hits : List ℕ) (ts : List (List ℕ)) (rest : List ℕ) → AreHits hits → list_all (apart (codes "ALL ")) ts ≡ true → all_or (after (codes " ALL ") (spaced false (all_item hits ++ ts) ++ (13 ∷ rest))) (spaced false (all_item hits ++ ts) ++ (13 ∷ rest)) ≡ Some (hits, spaced false ts ++ (13 ∷ rest))
unfolding all_item
all-round_trip [] ts rest h a = ap (λ o. all_or o (spaced false ts ++ (13 ∷ rest))) (none_after_lead false (codes "ALL ") ts (13 ∷ rest) a refl)
all-round_trip (hit ∷ hits) ts rest h a =
    let more = spaced false ts ++ (13 ∷ rest) in
    let text = set_text (hit ∷ hits) in
    ap (λ (x : List ℕ). all_or (after (codes " ALL ") x) x) (spaced-front false (codes "ALL " ++ text) ts (13 ∷ rest) ∙ lead-parts false (codes "ALL ") text more)
    ∙ set-round_trip (hit ∷ hits) more h (list_ends ts rest)

-- the results of a search, as texts of a list
result_texts : SearchResults → List (List ℕ)
result_texts results =
    item (codes "MIN ") results.min ++ (item (codes "MAX ") results.max ++ (all_item results.all ++ (item (codes "COUNT ") results.count ++ (item (codes "MODSEQ ") results.modseq ++ []))))

results_listed : (results : SearchResults) → results_text results ≡ spaced false (result_texts results)
unfolding result_texts
results_listed results =
    let a1 = item (codes "MIN ") results.min in
    let a2 = item (codes "MAX ") results.max in
    let a3 = all_item results.all in
    let a4 = item (codes "COUNT ") results.count in
    let a5 = item (codes "MODSEQ ") results.modseq in
    let r4 = a5 ++ [] in
    let r3 = a4 ++ r4 in
    let r2 = a3 ++ r3 in
    let r1 = a2 ++ r2 in
    let parts : results_text results ≡ spaced false a1 ++ spaced false a2 ++ spaced false a3 ++ spaced false a4 ++ spaced false a5 =
    (λ k. labelled_item (codes "MIN ") results.min k ++ labelled_item (codes "MAX ") results.max k ++ all_listed results.all k ++ labelled_item (codes "COUNT ") results.count k ++ labelled_item (codes "MODSEQ ") results.modseq k) in
    let joined : spaced false (a1 ++ r1) ≡ spaced false a1 ++ spaced false a2 ++ spaced false a3 ++ spaced false a4 ++ spaced false a5 =
    flat_map-append (λ next. 32 ∷ next) a1 r1
    ∙ ap (λ (x : List ℕ). spaced false a1 ++ x) (flat_map-append (λ next. 32 ∷ next) a2 r2
    ∙ ap (λ (x : List ℕ). spaced false a2 ++ x) (flat_map-append (λ next. 32 ∷ next) a3 r3
    ∙ ap (λ (x : List ℕ). spaced false a3 ++ x) (flat_map-append (λ next. 32 ∷ next) a4 r4
    ∙ ap (λ (x : List (List ℕ)). spaced false a4 ++ spaced false x) (append_none a5))))
    ∙ sym (append_assoc (spaced false a1 ++ spaced false a2 ++ spaced false a3) (spaced false a4) (spaced false a5)
    ∙ append_assoc (spaced false a1 ++ spaced false a2) (spaced false a3) (spaced false a4 ++ spaced false a5)
    ∙ append_assoc (spaced false a1) (spaced false a2) (spaced false a3 ++ (spaced false a4 ++ spaced false a5))) in
    parts ∙ sym joined

-- no results begin with the word UID
pub not_by_uid : (results : SearchResults) (rest : List ℕ) → after (codes " UID") (results_text results ++ (13 ∷ rest)) ≡ None
unfolding result_texts
not_by_uid results rest =
    let ts = result_texts results in
    let l : list_all (apart (codes "UID")) ts ≡ true =
    apart_item (codes "UID") (codes "MIN ") results.min _ refl (apart_item (codes "UID") (codes "MAX ") results.max _ refl (apart_all (codes "UID") results.all _ (λ x. refl) (apart_item (codes "UID") (codes "COUNT ") results.count _ refl (apart_item (codes "UID") (codes "MODSEQ ") results.modseq [] refl refl)))) in
    ap (λ (x : List ℕ). after (codes " UID") (x ++ (13 ∷ rest))) (results_listed results) ∙ none_after_lead false (codes "UID") ts (13 ∷ rest) l refl

pub results-round_trip : (results : SearchResults) (rest : List ℕ) → AreResults results → results_at (results_text results ++ (13 ∷ rest)) ≡ Some (results, 13 ∷ rest)
unfolding results_at result_texts
results-round_trip results rest h =
    let end = 13 ∷ rest in
    let a1 = item (codes "MIN ") results.min in
    let a2 = item (codes "MAX ") results.max in
    let a3 = all_item results.all in
    let a4 = item (codes "COUNT ") results.count in
    let a5 = item (codes "MODSEQ ") results.modseq in
    let r4 = a5 ++ [] in
    let r3 = a4 ++ r4 in
    let r2 = a3 ++ r3 in
    let r1 = a2 ++ r2 in
    let l1 : list_all (apart (codes "MIN ")) r1 ≡ true = apart_item (codes "MIN ") (codes "MAX ") results.max r2 refl (apart_all (codes "MIN ") results.all r3 (λ x. refl) (apart_item (codes "MIN ") (codes "COUNT ") results.count r4 refl (apart_item (codes "MIN ") (codes "MODSEQ ") results.modseq [] refl refl))) in
    let l2 : list_all (apart (codes "MAX ")) r2 ≡ true = apart_all (codes "MAX ") results.all r3 (λ x. refl) (apart_item (codes "MAX ") (codes "COUNT ") results.count r4 refl (apart_item (codes "MAX ") (codes "MODSEQ ") results.modseq [] refl refl)) in
    let l3 : list_all (apart (codes "ALL ")) r3 ≡ true = apart_item (codes "ALL ") (codes "COUNT ") results.count r4 refl (apart_item (codes "ALL ") (codes "MODSEQ ") results.modseq [] refl refl) in
    let l4 : list_all (apart (codes "COUNT ")) r4 ≡ true = apart_item (codes "COUNT ") (codes "MODSEQ ") results.modseq [] refl refl in
    let p1 = ap (λ (x : List ℕ). item_at false (codes "MIN ") (x ++ end)) (results_listed results) ∙ item-round_trip false (codes "MIN ") results.min r1 end (widened results.min (unzeroed results.min h.min)) l1 refl (λ n. refl) in
    let p2 = ap (λ (x : ListReading (Option ℕ)). item_at false (codes "MAX ") x.2) p1 ∙ item-round_trip false (codes "MAX ") results.max r2 end (widened results.max (unzeroed results.max h.max)) l2 refl (λ n. refl) in
    let p3 = all-round_trip results.all r3 rest h.all l3 in
    let p4 = item-round_trip false (codes "COUNT ") results.count r4 end (widened results.count h.count) l4 refl (λ n. refl) in
    let p5 = ap (λ (x : ListReading (Option ℕ)). item_at false (codes "MODSEQ ") x.2) p4 ∙ item-round_trip false (codes "MODSEQ ") results.modseq [] end (modseq_wide results.modseq h.modseq) refl refl (λ n. refl) in
    (λ k. all_or (after (codes " ALL ") (p2 k).2) (p2 k).2 >>= λ all.
    Some (record { min = small_option (p1 k).0; max = small_option (p2 k).0; all = all.0; count = small_option (item_at false (codes "COUNT ") all.1).0; modseq = (item_at false (codes "MODSEQ ") (item_at false (codes "COUNT ") all.1).2).0 }, (item_at false (codes "MODSEQ ") (item_at false (codes "COUNT ") all.1).2).2))
    ∙ ap (λ o. o >>= λ all.
    Some (record { min = small_option results.min; max = small_option results.max; all = all.0; count = small_option (item_at false (codes "COUNT ") all.1).0; modseq = (item_at false (codes "MODSEQ ") (item_at false (codes "COUNT ") all.1).2).0 }, (item_at false (codes "MODSEQ ") (item_at false (codes "COUNT ") all.1).2).2)) p3
    ∙ (λ k. Some (record { min = small_same results.min (unzeroed results.min h.min) k; max = small_same results.max (unzeroed results.max h.max) k; all = results.all; count = (ap (λ (x : ListReading (Option ℕ)). small_option x.0) p4 ∙ small_same results.count h.count) k; modseq = (p5 k).0 }, (p5 k).2))
