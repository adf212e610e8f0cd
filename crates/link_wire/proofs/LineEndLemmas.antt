use Rattle.std.proofs.Common.{◌≡◌, inl, inr, ℕ, zero, suc, ◌/◌, ◌%◌, ◌<◌, Bool, true, false, not, cond, ◌&&◌, eqb, List, [], ◌∷◌, ◌++◌, map, length, take, drop, refl, sym, subst, arith, codes}
use Rattle.std.proofs.lemmas.Bool.{and_parts, and_from, cases_Bool, false≢true}
use Rattle.std.proofs.lemmas.Bool.Decides.{nat_tests}
use Rattle.std.proofs.lemmas.Int.{ints}
use Rattle.std.proofs.lemmas.Slice.Eq.{bytes_eq-Decides}
use Rattle.std.specs.Char.{to_ascii_lowercase}
use Rattle.std.specs.List.{list_all}
use Rattle.hex.specs.Hex.{encode_lower, lower_digits}
use Rattle.imap_types.specs.declared.escape.Escape.{Escape}
use Rattle.imap_types.specs.declared.escape.Escape.TheVariants.{Field, Text}
use Rattle.imap_types.specs.declared.flags.Flags.{Flags}
use Rattle.imap_types.specs.DateTimes.{IsDateTime, are_letters_of, fits_symbol, month_at, month_of}
use Rattle.imap_types.specs.DateTimeTests.{is_date_time, matches_picture}
use Rattle.imap_types.specs.Escape.{escape_octet, escape_text, hex_digit, is_plain}
use Rattle.imap_types.specs.Flags.{flag_texts, text_if_set}
use Rattle.imap_types.specs.Keywords.{is_atom_octet}
use Rattle.imap_types.proofs.DateTimeLemmas.{test_from_date_time}
use Rattle.tags_clocks.specs.declared.id.OpId.{OpId}
use Rattle.crdt_ops.specs.declared.kind.Kind.{Kind}
use Rattle.crdt_ops.specs.declared.kind.Kind.TheVariants.{Create, Delete, Append, Expunge, Store, Subscribe, Unsubscribe}
use Rattle.crdt_ops.specs.declared.op.Op.{Op as Operation}
use Rattle.crdt_ops.specs.declared.sound_op.Unsound.{Unsound as Rule}
use Rattle.crdt_ops.specs.declared.sound_op.Unsound.TheVariants.{OwnClockEntry, UncoveredId, UnlawfulName, UnlawfulFlags, DeleteOfInbox, Count}
use Rattle.crdt_ops.specs.Form.{AreIds, Each, HasFields, HasWords, IsDated, IsEntry, IsId, IsInForm as IsOpInForm, is_word}
use Rattle.crdt_ops.specs.Text.{clock_text, entry_text, flags_text, id_text, ids_text, join_by_commas, join_fields, kind_text, name_text, op_text, text_field}
use Rattle.text_fields.proofs.FieldLemmas.{all_of, both, decimal_lacks, entry_lacks, id_lacks, lacks}
use Rattle.crdt_ops.proofs.FlagLemmas.{every, joins}
use Rattle.crdt_ops.proofs.ListLemmas.{each_lacks, joined_lacks}
use Rattle.link_wire.specs.declared.wire_message.ByeReason.{ByeReason}
use Rattle.link_wire.specs.declared.wire_message.ByeReason.TheVariants.{Hello, Version, Name, Secret, Frame, Torn, Line, Unsound as Broken, Fork, Behind, Memory, Busy}
use Rattle.link_wire.specs.declared.wire_message.WireMessage.{WireMessage}
use Rattle.link_wire.specs.declared.wire_message.WireMessage.TheVariants.{Op, Have, Want, Ping, Bye}
use Rattle.link_wire.specs.MessageForm.{IsInForm, IsReasonInForm}
use Rattle.link_wire.specs.MessageTexts.{message_text, reason_text, rule_text}
use Rattle.link_wire.proofs.TagLemmas.{encoded_no_lf}

-- No text of a message has the end of a line (10) in it.

-- ---- names and texts in the escape

hex_lacks : (n : ℕ) → not (eqb (hex_digit n) 10) ≡ true
hex_lacks n = grind (arith, nat_tests)

plain_lacks : (escape : Escape) (octet : ℕ) → is_plain escape octet ≡ true → not (eqb octet 10) ≡ true
plain_lacks Field octet h = grind (arith, nat_tests)
plain_lacks Text octet h = grind (arith, nat_tests)

octet_lacks : (escape : Escape) (b : ℕ) → lacks 10 (escape_octet escape b) ≡ true
octet_lacks escape b =
    elim (cases_Bool (is_plain escape b)) [
      | inl t ↦ rw t (and_from (not (eqb b 10)) true (plain_lacks escape b t) refl)
      | inr f ↦ rw f (and_from (not (eqb (hex_digit (b / 16)) 10)) (not (eqb (hex_digit (b % 16)) 10) && true) (hex_lacks (b / 16)) (and_from (not (eqb (hex_digit (b % 16)) 10)) true (hex_lacks (b % 16)) refl))
    ]

escaped_lacks : (escape : Escape) (octets : List ℕ) → lacks 10 (escape_text escape octets) ≡ true
escaped_lacks escape [] = refl
escaped_lacks escape (b ∷ octets) = both (λ octet. not (eqb octet 10)) (escape_octet escape b) (escape_text escape octets) (octet_lacks escape b) (escaped_lacks escape octets)

-- ---- ids, clocks and flags

listed_lacks : (fields : List (List ℕ)) → list_all (lacks 10) fields ≡ true → lacks 10 (join_by_commas fields) ≡ true
listed_lacks [] h = refl
listed_lacks (field ∷ fields) h = joined_lacks 10 44 (field ∷ fields) refl h

clock_lacks : (clock : List (ℕ × ℕ)) → Each IsEntry clock → lacks 10 (clock_text clock) ≡ true
clock_lacks clock w = listed_lacks (map entry_text clock) (each_lacks IsEntry 10 entry_text (λ e k. entry_lacks 10 e refl refl k) clock w)

ids_lacks : (ids : List OpId) → AreIds ids → lacks 10 (ids_text ids) ≡ true
ids_lacks ids w = listed_lacks (map id_text ids) (each_lacks IsId 10 id_text (λ i k. id_lacks 10 i refl refl k) ids w.0)

atom_lacks : (octet : ℕ) → is_atom_octet octet ≡ true → not (eqb octet 10) ≡ true
atom_lacks octet h = grind (arith, nat_tests)

word_lacks : (word : List ℕ) → is_word word ≡ true → lacks 10 word ≡ true
word_lacks word h =
    let p = and_parts (not (eqb (length word) 0)) (list_all is_atom_octet word) h in
    all_of is_atom_octet (λ octet. not (eqb octet 10)) atom_lacks word p.1

text_if_set_lacks : (b : Bool) (text : List ℕ) → lacks 10 text ≡ true → list_all (lacks 10) (text_if_set b text) ≡ true
text_if_set_lacks true text h = and_from (lacks 10 text) true h refl
text_if_set_lacks false text h = refl

flags_lacks : (flags : Flags) → HasWords flags → lacks 10 (flags_text flags) ≡ true
flags_lacks flags w =
    let answered = text_if_set flags.answered (codes "\\Answered") in
    let flagged = text_if_set flags.flagged (codes "\\Flagged") in
    let deleted = text_if_set flags.deleted (codes "\\Deleted") in
    let seen = text_if_set flags.seen (codes "\\Seen") in
    let draft = text_if_set flags.draft (codes "\\Draft") in
    let words : list_all (lacks 10) (flag_texts flags) ≡ true =
    joins (lacks 10) ((((answered ++ flagged) ++ deleted) ++ seen) ++ draft) flags.keywords
    (joins (lacks 10) (((answered ++ flagged) ++ deleted) ++ seen) draft
    (joins (lacks 10) ((answered ++ flagged) ++ deleted) seen
    (joins (lacks 10) (answered ++ flagged) deleted
    (joins (lacks 10) answered flagged (text_if_set_lacks flags.answered (codes "\\Answered") refl) (text_if_set_lacks flags.flagged (codes "\\Flagged") refl))
    (text_if_set_lacks flags.deleted (codes "\\Deleted") refl))
    (text_if_set_lacks flags.seen (codes "\\Seen") refl))
    (text_if_set_lacks flags.draft (codes "\\Draft") refl))
    (every is_word (lacks 10) word_lacks flags.keywords w.1) in
    both (λ octet. not (eqb octet 10)) (join_fields 32 (flag_texts flags)) (41 ∷ []) (joined_lacks 10 32 (flag_texts flags) refl words) refl

-- ---- date-times

-- whether a mark fits no LF
abbrev is_mark : ℕ → Bool
is_mark mark = not (eqb mark 109) && not (eqb mark 10)

mark_lacks : (mark octet : ℕ) → is_mark mark ≡ true → fits_symbol mark octet ≡ true → not (eqb octet 10) ≡ true
mark_lacks mark octet h k = grind (arith, nat_tests)

pictured_lacks : (marks octets : List ℕ) → list_all is_mark marks ≡ true → matches_picture marks octets ≡ true → lacks 10 octets ≡ true
pictured_lacks [] [] h k = refl
pictured_lacks [] (octet ∷ octets) h k = absurd (false≢true k)
pictured_lacks (mark ∷ marks) [] h k = refl
pictured_lacks (mark ∷ marks) (octet ∷ octets) h k =
    let p = and_parts (is_mark mark) (list_all is_mark marks) h in
    let q = and_parts (fits_symbol mark octet) (matches_picture marks octets) k in
    and_from (not (eqb octet 10)) (lacks 10 octets) (mark_lacks mark octet p.0 q.0) (pictured_lacks marks octets p.1 q.1)

-- the octets at the front of a picture and those after it
pictured_parts : (front back octets : List ℕ) → matches_picture (front ++ back) octets ≡ true → (matches_picture front (take (length front) octets) ≡ true) × (matches_picture back (drop (length front) octets) ≡ true)
pictured_parts [] back octets h = (refl, h)
pictured_parts (mark ∷ front) back [] h = absurd (false≢true h)
pictured_parts (mark ∷ front) back (octet ∷ octets) h =
    let p = and_parts (fits_symbol mark octet) (matches_picture (front ++ back) octets) h in
    let r = pictured_parts front back octets p.1 in
    (and_from (fits_symbol mark octet) (matches_picture front (take (length front) octets)) p.0 r.0, r.1)

parted_lacks : (n : ℕ) (octets : List ℕ) → lacks 10 (take n octets) ≡ true → lacks 10 (drop n octets) ≡ true → lacks 10 octets ≡ true
parted_lacks zero octets h k = k
parted_lacks (suc n) [] h k = refl
parted_lacks (suc n) (octet ∷ octets) h k =
    let p = and_parts (not (eqb octet 10)) (lacks 10 (take n octets)) h in
    and_from (not (eqb octet 10)) (lacks 10 octets) p.0 (parted_lacks n octets p.1 k)

lowered_lacks : (letters name : List ℕ) → map to_ascii_lowercase letters ≡ name → lacks 10 name ≡ true → lacks 10 letters ≡ true
lowered_lacks letters name e h = inside letters (subst (λ (text : List ℕ). lacks 10 text ≡ true) (sym e) h)
  where
    one : (octet : ℕ) → not (eqb (to_ascii_lowercase octet) 10) ≡ true → not (eqb octet 10) ≡ true
    one octet h = grind (arith, nat_tests)

    inside : (letters : List ℕ) → lacks 10 (map to_ascii_lowercase letters) ≡ true → lacks 10 letters ≡ true
    inside [] h = refl
    inside (octet ∷ letters) h =
        let p = and_parts (not (eqb (to_ascii_lowercase octet) 10)) (lacks 10 (map to_ascii_lowercase letters)) h in
        and_from (not (eqb octet 10)) (lacks 10 letters) (one octet p.0) (inside letters p.1)

-- the letters of a month, by one name more
month_step : (name letters : List ℕ) (n next : ℕ) → lacks 10 (map to_ascii_lowercase name) ≡ true → (0 < next → lacks 10 letters ≡ true) → 0 < cond (are_letters_of name letters) n next → lacks 10 letters ≡ true
month_step name letters n next l k h =
    elim (cases_Bool (are_letters_of name letters)) [
      | inl t ↦ lowered_lacks letters (map to_ascii_lowercase name) ((bytes_eq-Decides (map to_ascii_lowercase letters) (map to_ascii_lowercase name)).0 t) l
      | inr f ↦ k (rw f at h)
    ]

month_lacks : (letters : List ℕ) → 0 < month_of letters → lacks 10 letters ≡ true
month_lacks letters =
    month_step (codes "jan") letters 1 _ refl
    (month_step (codes "feb") letters 2 _ refl
    (month_step (codes "mar") letters 3 _ refl
    (month_step (codes "apr") letters 4 _ refl
    (month_step (codes "may") letters 5 _ refl
    (month_step (codes "jun") letters 6 _ refl
    (month_step (codes "jul") letters 7 _ refl
    (month_step (codes "aug") letters 8 _ refl
    (month_step (codes "sep") letters 9 _ refl
    (month_step (codes "oct") letters 10 _ refl
    (month_step (codes "nov") letters 11 _ refl
    (month_step (codes "dec") letters 12 0 refl (λ h. absurd (omega arith)))))))))))))

date_lacks : (text : List ℕ) → IsDateTime text → lacks 10 text ≡ true
unfolding is_date_time
date_lacks text d =
    let p = and_parts _ _ (and_parts _ _ (test_from_date_time text d)).0 in
    let a = pictured_parts (codes "\"99-") (codes "mmm-9999 99:99:99 +9999\"") text p.0 in
    let b = pictured_parts (codes "mmm") (codes "-9999 99:99:99 +9999\"") (drop 4 text) a.1 in
    let month : 0 < month_at text = omega (arith, ints, d.date.1.0) in
    parted_lacks 4 text (pictured_lacks (codes "\"99-") (take 4 text) refl a.0)
    (parted_lacks 3 (drop 4 text) (month_lacks (take 3 (drop 4 text)) month) (pictured_lacks (codes "-9999 99:99:99 +9999\"") (drop 3 (drop 4 text)) refl b.1))

-- ---- operations

-- fields with a space between them
spaced_lacks : (front back : List ℕ) → lacks 10 front ≡ true → lacks 10 back ≡ true → lacks 10 (front ++ 32 ∷ back) ≡ true
spaced_lacks front back h k = both (λ octet. not (eqb octet 10)) front (32 ∷ back) h k

kind_lacks : (kind : Kind) → HasFields kind → IsDated kind → lacks 10 (kind_text kind) ≡ true
kind_lacks (Create folder) w d = escaped_lacks Field folder
kind_lacks (Delete folder seen) w d = spaced_lacks (name_text folder) (ids_text seen) (escaped_lacks Field folder) (ids_lacks seen w.1)
kind_lacks (Append folder flags date text) w d =
    spaced_lacks (name_text folder) (flags_text flags ++ 32 ∷ (date ++ 32 ∷ text_field text)) (escaped_lacks Field folder)
    (spaced_lacks (flags_text flags) (date ++ 32 ∷ text_field text) (flags_lacks flags w.1)
    (spaced_lacks date (text_field text) (date_lacks date d) (escaped_lacks Text text)))
kind_lacks (Expunge folder olds) w d = spaced_lacks (name_text folder) (ids_text olds) (escaped_lacks Field folder) (ids_lacks olds w.1)
kind_lacks (Store folder flags olds origin) w d =
    spaced_lacks (name_text folder) (flags_text flags ++ 32 ∷ (ids_text olds ++ 32 ∷ id_text origin)) (escaped_lacks Field folder)
    (spaced_lacks (flags_text flags) (ids_text olds ++ 32 ∷ id_text origin) (flags_lacks flags w.1)
    (spaced_lacks (ids_text olds) (id_text origin) (ids_lacks olds w.2) (id_lacks 10 origin refl refl w.3)))
kind_lacks (Subscribe name) w d = escaped_lacks Field name
kind_lacks (Unsubscribe name seen) w d = spaced_lacks (name_text name) (ids_text seen) (escaped_lacks Field name) (ids_lacks seen w.1)

op_lacks : (op : Operation) → IsOpInForm op → lacks 10 (op_text op) ≡ true
op_lacks op w =
    spaced_lacks (id_text op.id) (clock_text op.clock ++ 32 ∷ kind_text op.kind) (id_lacks 10 op.id refl refl w.parts.id)
    (spaced_lacks (clock_text op.clock) (kind_text op.kind) (clock_lacks op.clock w.parts.entries) (kind_lacks op.kind w.parts.fields w.date))

-- ---- messages

rule_lacks : (rule : Rule) → lacks 10 (rule_text rule) ≡ true
rule_lacks OwnClockEntry = refl
rule_lacks UncoveredId = refl
rule_lacks UnlawfulName = refl
rule_lacks UnlawfulFlags = refl
rule_lacks DeleteOfInbox = refl
rule_lacks Count = refl

reason_lacks : (reason : ByeReason) → IsReasonInForm reason → lacks 10 (reason_text reason) ≡ true
reason_lacks Hello w = refl
reason_lacks Version w = refl
reason_lacks Name w = refl
reason_lacks Secret w = refl
reason_lacks Frame w = refl
reason_lacks Torn w = refl
reason_lacks Line w = refl
reason_lacks (Broken rule) w = rule_lacks rule
reason_lacks (Fork replica) w = decimal_lacks 10 replica refl (omega arith)
reason_lacks (Behind replica) w = decimal_lacks 10 replica refl (omega arith)
reason_lacks Memory w = refl
reason_lacks Busy w = refl

pub message_lacks : (message : WireMessage) → IsInForm message → lacks 10 (message_text message) ≡ true
message_lacks (Op op) w = op_lacks op w
message_lacks (Have clock chains) w = spaced_lacks (clock_text clock) (encode_lower chains) (clock_lacks clock w.0.1) (encoded_no_lf lower_digits chains refl)
message_lacks (Want clock) w = clock_lacks clock w.1
message_lacks Ping w = refl
message_lacks (Bye reason) w = reason_lacks reason w
