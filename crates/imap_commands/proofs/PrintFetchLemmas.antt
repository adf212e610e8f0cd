use Rattle.std.proofs.Common.{◌≡◌, ap, refl, arith, ℕ, zero, suc, ◌+◌, ◌≤◌, ◌<◌, ◌⊎◌, inl, inr, Bool, true, false, not, ◌||◌, List, [], ◌∷◌, ◌++◌, length, length-append, take, drop, Option, Some, None, nat_eq, flat_map, map}
use Rattle.std.specs.Prelude.{is_some}
use Rattle.std.specs.List.{concat}
use Rattle.std.proofs.Math.Dec.{eqb-suc-zero}
use Rattle.std.proofs.lemmas.Bool.{cases_Bool, false≢true}
use Rattle.imap_answers.specs.declared.fetch_items.FetchItems.{FetchItems}
use Rattle.imap_answers.specs.Printable.{AreFetchItems, AreFlags, Each, IsCode, IsModSeq, IsNonzero, IsPart, IsPrintable, IsSmall, IsWide, IfPresent, has_message_item}
use Rattle.imap_syntax.specs.declared.fetch.FetchItem.{FetchItem}
use Rattle.imap_syntax.specs.declared.fetch.FetchItem.TheVariants as item
use Rattle.imap_syntax.specs.declared.fetch.Partial.{Partial}
use Rattle.imap_query.specs.FetchCommand.{answer_of, sections_of_items, partial_octets, is_above_changed_since, items_of, origin_of, section_of, section_part, reports_flags, reports_modseq, if_reported}
use Rattle.imap_query.specs.declared.fetch_command.FetchMode.{FetchMode}
use Rattle.imap_query.specs.declared.viewed_message.ViewedMessage.{ViewedMessage}
use Rattle.imap_types.specs.DateTimes.{IsDateTime}
use Rattle.imap_types.specs.declared.section.Section.{Section}
use Rattle.imap_types.specs.declared.section.Section.TheVariants as section
use Rattle.mailbox_rows.specs.ListedMessage.{ListedMessage}
use Rattle.mailbox_rows.specs.RowViews.{row_of}
use Rattle.mail_text.specs.HeaderFields.{asked_fields_in, empty_line, field_lines, fields_in, fields_of, first_asked, is_continuation}
use Rattle.mail_text.specs.HeaderFields.{is_requested_field as asks_field}
use Rattle.mail_text.specs.TextLines.{body_lines, header_lines, in_first, is_empty_line, lines_of}
use Rattle.mail_text.proofs.LineLemmas.{lines-joined}
use Rattle.session_view.specs.Sets.{numbers_in_set}
use Rattle.session_view.specs.declared.view_entry.ViewEntry.{ViewEntry}
use Rattle.imap_commands.specs.Arguments.{OpenMailbox}
use Rattle.imap_commands.specs.FetchCommand.{fetch_report, mode_of, viewed_message_at, viewed_messages_at}
use Rattle.imap_commands.specs.Printing.{AreShowable, AreAnswerableItems, IsNumbered, IsPrintableReport, IsShowable, IsAnswerableItem}
use Rattle.imap_commands.specs.Report.{are_some_gone, entry_at, gone_code}
use Rattle.imap_commands.proofs.PrintSelectLemmas.{each_append}
use Rattle.imap_commands.proofs.PrintViews.{numbers_nonzero, row_showable}
use Rattle.imap_syntax.specs.declared.arguments.Fetch.{Fetch}

-- ---- each item of joined lists

pub each_flat : {X Y : Type 0} (Q : X → Type 0) (P : Y → Type 0) (f : X → List Y) (xs : List X) → ((x : X) → Q x → Each P (f x)) → Each Q xs → Each P (flat_map f xs)
each_flat Q P f [] g h = tt
each_flat Q P f (x ∷ xs) g h = each_append P (f x) (flat_map f xs) (g x h.0) (each_flat Q P f xs g h.1)

pub present_if_reported : {X : Type 0} (P : X → Type 0) (reported : Bool) (x : X) → P x → IfPresent P (if_reported reported x)
present_if_reported P true x h = h
present_if_reported P false x h = tt

some_if_reported : {X : Type 0} (reported : Bool) (x : X) → reported ≡ true → is_some (if_reported reported x) ≡ true
some_if_reported true x h = refl
some_if_reported false x h = absurd (false≢true h)

pub or_right : (a b : Bool) → b ≡ true → (a || b) ≡ true
or_right true b h = refl
or_right false b h = h

abbrev pub IsOne : Bool → Bool → Bool → Bool → Bool → Bool → Type 0
IsOne a b c d e f = (a ≡ true) ⊎ ((b ≡ true) ⊎ ((c ≡ true) ⊎ ((d ≡ true) ⊎ ((e ≡ true) ⊎ (f ≡ true)))))

pub any_of_six : (a b c d e f : Bool) → IsOne a b c d e f → (a || b || c || d || e || f) ≡ true
any_of_six true b c d e f h = refl
any_of_six false true c d e f h = refl
any_of_six false false true d e f h = refl
any_of_six false false false true e f h = refl
any_of_six false false false false true f h = refl
any_of_six false false false false false true h = refl
any_of_six false false false false false false h =
    elim h [
      | inl x ↦ absurd (false≢true x)
      | inr s ↦ elim s [
        | inl x ↦ absurd (false≢true x)
        | inr t ↦ elim t [
          | inl x ↦ absurd (false≢true x)
          | inr u ↦ elim u [
            | inl x ↦ absurd (false≢true x)
            | inr v ↦ elim v [ inl x ↦ absurd (false≢true x) | inr x ↦ absurd (false≢true x) ]
          ]
        ]
      ]
    ]

-- the code for messages that are gone
pub gone_printable : (rows : List ListedMessage) (view : List ViewEntry) (numbers : List ℕ) → IfPresent IsCode (gone_code rows view numbers)
gone_printable rows view numbers =
    elim (cases_Bool (are_some_gone rows view numbers)) [
      | inl t ↦ rw t tt
      | inr f ↦ rw f tt
    ]

-- ---- the length of a section

header_short : (lines : List (List ℕ)) → length (concat (header_lines lines)) ≤ length (concat lines)
header_short [] = omega arith
header_short (line ∷ lines) =
    let more = header_short lines in
    let whole = length-append line (concat lines) in
    elim (cases_Bool (is_empty_line line)) [
      | inl t ↦ rw t (let one = length-append line [] in omega (arith, whole, one))
      | inr f ↦ rw f (let one = length-append line (concat (header_lines lines)) in omega (arith, whole, one, more))
    ]

body_short : (lines : List (List ℕ)) → length (concat (body_lines lines)) ≤ length (concat lines)
body_short [] = omega arith
body_short (line ∷ lines) =
    let more = body_short lines in
    let whole = length-append line (concat lines) in
    elim (cases_Bool (is_empty_line line)) [
      | inl t ↦ rw t (omega (arith, whole))
      | inr f ↦ rw f (omega (arith, whole, more))
    ]

joined_first : (line : List ℕ) (fields : List (List (List ℕ))) → length (concat (map concat (in_first line fields))) ≡ length line + length (concat (map concat fields))
joined_first line [] = let a = length-append (line ++ []) [] in let b = length-append line [] in omega (arith, a, b)
joined_first line (field ∷ fields) =
    let a = length-append (line ++ concat field) (concat (map concat fields)) in
    let b = length-append line (concat field) in
    let c = length-append (concat field) (concat (map concat fields)) in
    omega (arith, a, b, c)

joined_fields : (lines : List (List ℕ)) → length (concat (map concat (fields_in lines))) ≡ length (concat lines)
joined_fields [] = refl
joined_fields (line ∷ []) = let a = length-append (line ++ []) [] in omega (arith, a)
joined_fields (line ∷ next ∷ lines) =
    let more = joined_fields (next ∷ lines) in
    let whole = length-append line (concat (next ∷ lines)) in
    elim (cases_Bool (is_continuation next)) [
      | inl t ↦ rw t (let one = joined_first line (fields_in (next ∷ lines)) in omega (arith, more, whole, one))
      | inr f ↦ rw f (
          let a = length-append (line ++ []) (concat (map concat (fields_in (next ∷ lines)))) in
          let b = length-append line [] in
          omega (arith, more, whole, a, b))
    ]

asked_short : (request : List ℕ → Bool) (fields : List (List (List ℕ))) → length (asked_fields_in request fields) ≤ length (concat (map concat fields))
asked_short request [] = omega arith
asked_short request (field ∷ fields) =
    let more = asked_short request fields in
    let whole = length-append (concat field) (concat (map concat fields)) in
    elim (cases_Bool (first_asked request field)) [
      | inl t ↦ rw t (let one = length-append (concat field) (asked_fields_in request fields) in omega (arith, more, whole, one))
      | inr f ↦ rw f (omega (arith, more, whole))
    ]

parts_short : (lines : List (List ℕ)) → length (concat (field_lines lines)) + length (empty_line lines) ≤ length (concat lines)
parts_short [] = omega arith
parts_short (line ∷ lines) =
    let more = parts_short lines in
    let whole = length-append line (concat lines) in
    elim (cases_Bool (is_empty_line line)) [
      | inl t ↦ rw t (omega (arith, whole))
      | inr f ↦ rw f (let one = length-append line (concat (field_lines lines)) in omega (arith, more, whole, one))
    ]

fields_short : (named : Bool) (names : List (List ℕ)) (text : List ℕ) → length (fields_of named names text) ≤ length text
fields_short named names text =
    let lines = lines_of text in
    let fields = fields_in (field_lines lines) in
    let a = length-append (asked_fields_in (asks_field named names) fields) (empty_line lines) in
    let b = asked_short (asks_field named names) fields in
    let c = joined_fields (field_lines lines) in
    let d = parts_short lines in
    let w = ap length (lines-joined text) in
    omega (arith, a, b, c, d, w)

section_short : (this : Section) (text : List ℕ) → length (section_of this text) ≤ length text
section_short section.Whole text = omega arith
section_short section.Header text = let h = header_short (lines_of text) in let w = ap length (lines-joined text) in omega (arith, h, w)
section_short section.Text text = let h = body_short (lines_of text) in let w = ap length (lines-joined text) in omega (arith, h, w)
section_short (section.Fields names) text = fields_short true names text
section_short (section.FieldsNot names) text = fields_short false names text

take_short : (n : ℕ) (octets : List ℕ) → length (take n octets) ≤ length octets
take_short zero octets = omega arith
take_short (suc n) [] = omega arith
take_short (suc n) (octet ∷ octets) = let t = take_short n octets in omega (arith, t)

drop_short : (n : ℕ) (octets : List ℕ) → length (drop n octets) ≤ length octets
drop_short zero octets = omega arith
drop_short (suc n) [] = omega arith
drop_short (suc n) (octet ∷ octets) = let t = drop_short n octets in omega (arith, t)

cut_short : (partial : Option Partial) (octets : List ℕ) → length (partial_octets partial octets) ≤ length octets
cut_short None octets = omega arith
cut_short (Some range) octets = let t = take_short range.count (drop range.start octets) in let d = drop_short range.start octets in omega (arith, t, d)

-- ---- the answer of FETCH for one message

origin_small : (partial : Option Partial) → IfPresent (λ (range : Partial). IsSmall range.start) partial → IfPresent IsSmall (origin_of partial)
origin_small None h = tt
origin_small (Some range) h = h

part_is : (text : List ℕ) (one : FetchItem) → IsWide (length text) → IsAnswerableItem one → Each IsPart (section_part text one)
part_is text item.Uid w h = tt
part_is text item.Flags w h = tt
part_is text item.InternalDate w h = tt
part_is text item.Size w h = tt
part_is text item.ModSeq w h = tt
part_is text (item.Body peek this partial) w h =
    let c = cut_short partial (section_of this text) in
    let s = section_short this text in
    (record { section = h.0; origin = origin_small partial h.1; octets = omega (arith, w, c, s) }, tt)

abbrev pub HasSomeItem : FetchItems → Type 0
HasSomeItem reported = IsOne (is_some reported.uid) (is_some reported.flags) (is_some reported.date) (is_some reported.size) (is_some reported.modseq) (not (nat_eq (length reported.sections) 0))

pub has_some_item : (reported : FetchItems) → HasSomeItem reported → has_message_item reported ≡ true
has_some_item reported h = any_of_six (is_some reported.uid) (is_some reported.flags) (is_some reported.date) (is_some reported.size) (is_some reported.modseq) (not (nat_eq (length reported.sections) 0)) h

one_item : (one : FetchItem) (items : List FetchItem) (mode : FetchMode) (old row : ListedMessage) → has_message_item (items_of (one ∷ items) mode old row) ≡ true
one_item item.Uid items mode old row = has_some_item (items_of (item.Uid ∷ items) mode old row) (inl (some_if_reported (mode.by_uid || true) row.uid (or_right mode.by_uid true refl)))
one_item item.Flags items mode old row = has_some_item (items_of (item.Flags ∷ items) mode old row) (inr (inl (some_if_reported (reports_flags (item.Flags ∷ items) mode old) row.flags refl)))
one_item item.InternalDate items mode old row = has_some_item (items_of (item.InternalDate ∷ items) mode old row) (inr (inr (inl (some_if_reported true row.date refl))))
one_item item.Size items mode old row = has_some_item (items_of (item.Size ∷ items) mode old row) (inr (inr (inr (inl (some_if_reported true (length row.text) refl)))))
one_item item.ModSeq items mode old row = has_some_item (items_of (item.ModSeq ∷ items) mode old row) (inr (inr (inr (inr (inl (some_if_reported true row.modseq refl))))))
one_item (item.Body peek this partial) items mode old row = has_some_item (items_of (item.Body peek this partial ∷ items) mode old row) (inr (inr (inr (inr (inr (ap not (eqb-suc-zero (length (sections_of_items row.text items)))))))))

some_item : (items : List FetchItem) (mode : FetchMode) (old row : ListedMessage) → 0 < length items → has_message_item (items_of items mode old row) ≡ true
some_item [] mode old row l = absurd (omega (arith, l))
some_item (one ∷ items) mode old row l = one_item one items mode old row

items_printable : (items : List FetchItem) (mode : FetchMode) (old row : ListedMessage) → AreAnswerableItems items → IsShowable row → AreFetchItems (items_of items mode old row)
items_printable items mode old row t h = record {
  some = some_item items mode old row t.some;
  uid = present_if_reported IsNonzero _ row.uid h.uid;
  flags = present_if_reported AreFlags (reports_flags items mode old) row.flags h.flags;
  date = present_if_reported IsDateTime _ row.date h.date;
  size = present_if_reported IsWide _ (length row.text) h.text;
  modseq = present_if_reported IsModSeq (reports_modseq items mode (reports_flags items mode old)) row.modseq h.modseq;
  sections = each_flat IsAnswerableItem IsPart (section_part row.text) items (λ one k. part_is row.text one h.text k) t.each;
}

answer_printable : (items : List FetchItem) (mode : FetchMode) (shown : ViewedMessage) (old row : Option ListedMessage) → AreAnswerableItems items → IsNonzero shown.number → IfPresent IsShowable row → Each IsPrintable (answer_of items mode shown old row)
answer_printable items mode shown None row t n h = tt
answer_printable items mode shown (Some old) None t n h = tt
answer_printable items mode shown (Some old) (Some row) t n h =
    elim (cases_Bool (is_above_changed_since mode.changed_since old)) [
      | inl k ↦ rw k ((n, items_printable items mode old row t h), tt)
      | inr f ↦ rw f tt
    ]

-- ---- FETCH

abbrev IsNumberNonzero : ViewedMessage → Type 0
IsNumberNonzero shown = IsNonzero shown.number

shown_nonzero : (n : ℕ) (e : Option ViewEntry) → IsNonzero n → Each IsNumberNonzero (viewed_message_at n e)
shown_nonzero n None h = tt
shown_nonzero n (Some e) h = (h, tt)

pub fetch_printable : (mailbox : OpenMailbox) (after : List ListedMessage) (condstore : Bool) (request : Fetch) → AreShowable after → IsNumbered mailbox.view → AreAnswerableItems request.items
    → IsPrintableReport (fetch_report mailbox after condstore request)
fetch_printable mailbox after condstore request r v t =
    let before = mailbox.rows in
    let view = mailbox.view in
    let by_uid = request.by_uid in
    let set = request.messages in
    let items = request.items in
    let numbers = numbers_in_set by_uid set view in
    let mode = mode_of mailbox condstore request in
    record {
      own =
          each_flat IsNumberNonzero IsPrintable (λ shown. answer_of items mode shown (row_of shown.uid before) (row_of shown.uid after)) (viewed_messages_at view numbers)
          (λ shown n. answer_printable items mode shown (row_of shown.uid before) (row_of shown.uid after) t n (row_showable shown.uid after r.each))
          (each_flat IsNonzero IsNumberNonzero (λ n. viewed_message_at n (entry_at view n)) numbers (λ n h. shown_nonzero n (entry_at view n) h) (numbers_nonzero by_uid set view v));
      code = gone_printable before view numbers;
    }
