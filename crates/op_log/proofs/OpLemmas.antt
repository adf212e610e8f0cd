use Rattle.std.proofs.Common.{◌≡◌, inl, inr, ℕ, ◌+◌, ◌-◌, ◌/◌, ◌%◌, ◌<◌, ◌≤◌, Bool, true, false, not, cond, ◌&&◌, ◌||◌, eqb, eqb-true, eq-eqb, leb, ltb, List, [], ◌∷◌, ◌++◌, map, length, take, drop, get_or, refl, sym, ap, ◌∙◌, subst, arith, codes}
use Rattle.std.proofs.lemmas.Bool.{agree_below_at, and_from, and_parts, cases_Bool, false≢true, leb-true, ltb-true, or_cases}
use Rattle.std.proofs.lemmas.Bool.Decides.{nat_tests}
use Rattle.std.proofs.lemmas.Int.{ints}
use Rattle.std.proofs.lemmas.List.{get_or-drop, get_or-take, length-drop, length-take}
use Rattle.std.proofs.lemmas.List.Recursion.{and_at, and_from_places}
use Rattle.std.proofs.lemmas.Slice.Eq.{bytes_eq-Decides}
use Rattle.std.specs.Char.{to_ascii_lowercase}
use Rattle.std.specs.List.{list_all}
use Rattle.imap_types.specs.DateTimes.{IsDateTime, are_letters_of, date_time_picture, fits_symbol, month_of}
use Rattle.imap_types.specs.declared.escape.Escape.{Escape}
use Rattle.imap_types.specs.declared.escape.Escape.TheVariants.{Field, Text}
use Rattle.imap_types.specs.declared.flags.Flags.{Flags}
use Rattle.imap_types.specs.Escape.{escape_text, escape_octet, hex_digit, is_plain}
use Rattle.imap_types.specs.Flags.{flag_texts, text_if_set}
use Rattle.imap_types.specs.Keywords.{is_atom_octet}
use Rattle.tags_clocks.specs.declared.id.OpId.{OpId}
use Rattle.crdt_ops.specs.declared.kind.Kind.{Kind}
use Rattle.crdt_ops.specs.declared.kind.Kind.TheVariants.{Create, Delete, Append, Expunge, Store, Subscribe, Unsubscribe}
use Rattle.crdt_ops.specs.declared.op.Op.{Op}
use Rattle.crdt_ops.specs.Form.{AreIds, Each, HasFields, HasWords, IsDated, IsEntry, IsId, IsInForm, is_word}
use Rattle.crdt_ops.specs.Text.{clock_text, entry_text, flags_text, id_text, ids_text, join_fields, kind_text, text_field, join_by_commas, name_text, op_text}
use Rattle.crdt_ops.proofs.FlagLemmas.{every, joins}
use Rattle.crdt_ops.proofs.ListLemmas.{each_lacks, joined_lacks}
use Rattle.text_fields.proofs.FieldLemmas.{all_of, both, entry_lacks, id_lacks, lacks}
use Rattle.op_log.proofs.LineLemmas.{is_inner}

-- No octet of an operation's text is a line end.

-- ---- lists of fields

list_inner : (fields : List (List ℕ)) → list_all (lacks 10) fields ≡ true → lacks 10 (join_by_commas fields) ≡ true
list_inner [] h = refl
list_inner (field ∷ fields) h = joined_lacks 10 44 (field ∷ fields) refl h

ids_inner : (ids : List OpId) → AreIds ids → lacks 10 (ids_text ids) ≡ true
ids_inner ids w = list_inner (map id_text ids) (each_lacks IsId 10 id_text (λ i k. id_lacks 10 i refl refl k) ids w.0)

clock_inner : (clock : List (ℕ × ℕ)) → Each IsEntry clock → lacks 10 (clock_text clock) ≡ true
clock_inner clock w = list_inner (map entry_text clock) (each_lacks IsEntry 10 entry_text (λ e k. entry_lacks 10 e refl refl k) clock w)

-- ---- the escape

hex_inner : (n : ℕ) → not (eqb (hex_digit n) 10) ≡ true
hex_inner n = grind (arith, nat_tests)

plain_inner : (escape : Escape) (b : ℕ) → is_plain escape b ≡ true → not (eqb b 10) ≡ true
plain_inner Field b h = at_field b h
  where
    at_field : (b : ℕ) → is_plain Field b ≡ true → not (eqb b 10) ≡ true
    at_field b h = grind (arith, nat_tests)
plain_inner Text b h = at_text b h
  where
    at_text : (b : ℕ) → is_plain Text b ≡ true → not (eqb b 10) ≡ true
    at_text b h = grind (arith, nat_tests)

octet_inner : (escape : Escape) (b : ℕ) → lacks 10 (escape_octet escape b) ≡ true
octet_inner escape b =
    elim (cases_Bool (is_plain escape b)) [
      | inl t ↦ rw t (and_from (not (eqb b 10)) true (plain_inner escape b t) refl)
      | inr f ↦ rw f (and_from (not (eqb (hex_digit (b / 16)) 10)) (not (eqb (hex_digit (b % 16)) 10) && true) (hex_inner (b / 16)) (and_from (not (eqb (hex_digit (b % 16)) 10)) true (hex_inner (b % 16)) refl))
    ]

escaped_inner : (escape : Escape) (octets : List ℕ) → lacks 10 (escape_text escape octets) ≡ true
escaped_inner escape [] = refl
escaped_inner escape (b ∷ octets) = both is_inner (escape_octet escape b) (escape_text escape octets) (octet_inner escape b) (escaped_inner escape octets)

-- ---- flags

atom_inner : (octet : ℕ) → is_atom_octet octet ≡ true → not (eqb octet 10) ≡ true
atom_inner octet h = grind (arith, nat_tests)

word_inner : (word : List ℕ) → is_word word ≡ true → lacks 10 word ≡ true
word_inner word h = all_of is_atom_octet is_inner atom_inner word (and_parts (not (eqb (length word) 0)) (list_all is_atom_octet word) h).1

there_inner : (b : Bool) (text : List ℕ) → lacks 10 text ≡ true → list_all (lacks 10) (text_if_set b text) ≡ true
there_inner true text h = and_from (lacks 10 text) true h refl
there_inner false text h = refl

flags_inner : (flags : Flags) → HasWords flags → lacks 10 (flags_text flags) ≡ true
flags_inner flags w =
    let answered = text_if_set flags.answered (codes "\\Answered") in
    let flagged = text_if_set flags.flagged (codes "\\Flagged") in
    let deleted = text_if_set flags.deleted (codes "\\Deleted") in
    let seen = text_if_set flags.seen (codes "\\Seen") in
    let draft = text_if_set flags.draft (codes "\\Draft") in
    let all : list_all (lacks 10) (flag_texts flags) ≡ true =
    joins (lacks 10) ((((answered ++ flagged) ++ deleted) ++ seen) ++ draft) flags.keywords
    (joins (lacks 10) (((answered ++ flagged) ++ deleted) ++ seen) draft
    (joins (lacks 10) ((answered ++ flagged) ++ deleted) seen
    (joins (lacks 10) (answered ++ flagged) deleted
    (joins (lacks 10) answered flagged (there_inner flags.answered (codes "\\Answered") refl) (there_inner flags.flagged (codes "\\Flagged") refl))
    (there_inner flags.deleted (codes "\\Deleted") refl))
    (there_inner flags.seen (codes "\\Seen") refl))
    (there_inner flags.draft (codes "\\Draft") refl))
    (every is_word (lacks 10) word_inner flags.keywords w.1) in
    and_from true (lacks 10 (join_fields 32 (flag_texts flags) ++ 41 ∷ [])) refl
    (both is_inner (join_fields 32 (flag_texts flags)) (41 ∷ []) (joined_lacks 10 32 (flag_texts flags) refl all) refl)

-- ---- date-times

lower_inner : (octet : ℕ) → not (eqb (to_ascii_lowercase octet) 10) ≡ true → not (eqb octet 10) ≡ true
lower_inner octet h =
    elim (cases_Bool (eqb octet 10)) [
      | inl t ↦
          let same : to_ascii_lowercase octet ≡ 10 = ap to_ascii_lowercase (eqb-true octet 10 t) in
          absurd (false≢true (sym (ap not (eq-eqb (to_ascii_lowercase octet) 10 same)) ∙ h))
      | inr f ↦ ap not f
    ]

lowered_inner : (octets : List ℕ) → lacks 10 (map to_ascii_lowercase octets) ≡ true → lacks 10 octets ≡ true
lowered_inner [] h = refl
lowered_inner (octet ∷ octets) h =
    let p = and_parts (not (eqb (to_ascii_lowercase octet) 10)) (lacks 10 (map to_ascii_lowercase octets)) h in
    and_from (not (eqb octet 10)) (lacks 10 octets) (lower_inner octet p.0) (lowered_inner octets p.1)

letters_inner : (name letters : List ℕ) → lacks 10 (map to_ascii_lowercase name) ≡ true → are_letters_of name letters ≡ true → lacks 10 letters ≡ true
letters_inner name letters h t =
    let same = (bytes_eq-Decides (map to_ascii_lowercase letters) (map to_ascii_lowercase name)).0 t in
    lowered_inner letters (ap (lacks 10) same ∙ h)

month_case : (name letters : List ℕ) (n rest : ℕ) → lacks 10 (map to_ascii_lowercase name) ≡ true → (1 ≤ rest → lacks 10 letters ≡ true) → 1 ≤ cond (are_letters_of name letters) n rest → lacks 10 letters ≡ true
month_case name letters n rest plain more h =
    elim (cases_Bool (are_letters_of name letters)) [
      | inl t ↦ letters_inner name letters plain t
      | inr f ↦ more (subst (λ (b : Bool). 1 ≤ cond b n rest) f h)
    ]

month_inner : (letters : List ℕ) → 1 ≤ month_of letters → lacks 10 letters ≡ true
month_inner letters h =
    let r12 = cond (are_letters_of (codes "dec") letters) 12 0 in
    let r11 = cond (are_letters_of (codes "nov") letters) 11 r12 in
    let r10 = cond (are_letters_of (codes "oct") letters) 10 r11 in
    let r9 = cond (are_letters_of (codes "sep") letters) 9 r10 in
    let r8 = cond (are_letters_of (codes "aug") letters) 8 r9 in
    let r7 = cond (are_letters_of (codes "jul") letters) 7 r8 in
    let r6 = cond (are_letters_of (codes "jun") letters) 6 r7 in
    let r5 = cond (are_letters_of (codes "may") letters) 5 r6 in
    let r4 = cond (are_letters_of (codes "apr") letters) 4 r5 in
    let r3 = cond (are_letters_of (codes "mar") letters) 3 r4 in
    let r2 = cond (are_letters_of (codes "feb") letters) 2 r3 in
    month_case (codes "jan") letters 1 r2 refl
    (month_case (codes "feb") letters 2 r3 refl
    (month_case (codes "mar") letters 3 r4 refl
    (month_case (codes "apr") letters 4 r5 refl
    (month_case (codes "may") letters 5 r6 refl
    (month_case (codes "jun") letters 6 r7 refl
    (month_case (codes "jul") letters 7 r8 refl
    (month_case (codes "aug") letters 8 r9 refl
    (month_case (codes "sep") letters 9 r10 refl
    (month_case (codes "oct") letters 10 r11 refl
    (month_case (codes "nov") letters 11 r12 refl
    (month_case (codes "dec") letters 12 0 refl (λ z. absurd (omega arith)))))))))))))
    h

-- letters of the picture are those of a month
has_letter : ℕ → Bool
has_letter k = (leb 4 k && ltb k 7) || not (eqb (get_or date_time_picture k 0) 109)

lettered : (k : ℕ) → k < 28 → has_letter k ≡ true
unfolding has_letter
lettered k l = agree_below_at has_letter (λ (k : ℕ). true) 28 k refl l

mark_inner : ℕ → Bool
mark_inner k = not (eqb (get_or date_time_picture k 0) 10)

marked : (k : ℕ) → k < 28 → mark_inner k ≡ true
unfolding mark_inner
marked k l = agree_below_at mark_inner (λ (k : ℕ). true) 28 k refl l

pictured_inner : (mark octet : ℕ) → not (eqb mark 10) ≡ true → not (eqb mark 109) ≡ true → fits_symbol mark octet ≡ true → not (eqb octet 10) ≡ true
pictured_inner mark octet h k p = grind (arith, nat_tests)

date_inner : (date : List ℕ) → IsDateTime date → lacks 10 date ≡ true
unfolding has_letter mark_inner
date_inner date d =
    let long : length date ≡ 28 = d.form.0 in
    let letters = take 3 (drop 4 date) in
    let month : 1 ≤ month_of letters = omega (arith, ints, d.date.1.0) in
    let month_is = month_inner letters month in
    let three : length letters ≡ 3 = omega (arith, length-take 3 (drop 4 date), length-drop 4 date) in
    and_from_places (λ (xs : List ℕ). lacks 10 xs) is_inner refl (λ x xs. refl) date 0 (λ k l.
    elim (or_cases (leb 4 k && ltb k 7) (not (eqb (get_or date_time_picture k 0) 109)) (lettered k (omega arith))) [
      | inl t ↦ at_letter date k three month_is (within k t)
      | inr f ↦ pictured_inner (get_or date_time_picture k 0) (get_or date k 0) (marked k (omega arith)) f (d.form.1 k (omega arith))
    ])
  where
    within : (k : ℕ) → (leb 4 k && ltb k 7) ≡ true → (4 ≤ k) × (k < 7)
    within k t = let p = and_parts (leb 4 k) (ltb k 7) t in (leb-true 4 k p.0, ltb-true k 7 p.1)

    at_letter : (date : List ℕ) (k : ℕ) → length (take 3 (drop 4 date)) ≡ 3 → lacks 10 (take 3 (drop 4 date)) ≡ true → (4 ≤ k) × (k < 7) → not (eqb (get_or date k 0) 10) ≡ true
    at_letter date k three h b =
        let place : 4 + (k - 4) ≡ k = omega arith in
        let here : get_or (take 3 (drop 4 date)) (k - 4) 0 ≡ get_or date k 0 =
        get_or-take 3 (drop 4 date) (k - 4) 0 (omega arith) ∙ get_or-drop 4 date (k - 4) 0 ∙ ap (λ (n : ℕ). get_or date n 0) place in
        let found : is_inner (get_or (take 3 (drop 4 date)) (k - 4) 0) ≡ true =
        and_at (λ (xs : List ℕ). lacks 10 xs) is_inner refl (λ x xs. refl) (take 3 (drop 4 date)) (k - 4) 0 (omega arith) h in
        ap is_inner (sym here) ∙ found

-- ---- whole operations

spaced : (front back : List ℕ) → lacks 10 front ≡ true → lacks 10 back ≡ true → lacks 10 (front ++ 32 ∷ back) ≡ true
spaced front back h k = both is_inner front (32 ∷ back) h (and_from true (lacks 10 back) refl k)

kind_inner : (kind : Kind) → HasFields kind → IsDated kind → lacks 10 (kind_text kind) ≡ true
kind_inner (Create folder) w d = both is_inner (codes "create ") (name_text folder) refl (escaped_inner Field folder)
kind_inner (Delete folder seen) w d = spaced (codes "delete " ++ name_text folder) (ids_text seen) (both is_inner (codes "delete ") (name_text folder) refl (escaped_inner Field folder)) (ids_inner seen w.1)
kind_inner (Append folder flags date text) w d =
    spaced (codes "append " ++ name_text folder) (flags_text flags ++ 32 ∷ (date ++ 32 ∷ text_field text)) (both is_inner (codes "append ") (name_text folder) refl (escaped_inner Field folder))
    (spaced (flags_text flags) (date ++ 32 ∷ text_field text) (flags_inner flags w.1)
    (spaced date (text_field text) (date_inner date d) (and_from true (lacks 10 (escape_text Text text)) refl (escaped_inner Text text))))
kind_inner (Expunge folder olds) w d = spaced (codes "expunge " ++ name_text folder) (ids_text olds) (both is_inner (codes "expunge ") (name_text folder) refl (escaped_inner Field folder)) (ids_inner olds w.1)
kind_inner (Store folder flags olds origin) w d =
    spaced (codes "store " ++ name_text folder) (flags_text flags ++ 32 ∷ (ids_text olds ++ 32 ∷ id_text origin)) (both is_inner (codes "store ") (name_text folder) refl (escaped_inner Field folder))
    (spaced (flags_text flags) (ids_text olds ++ 32 ∷ id_text origin) (flags_inner flags w.1)
    (spaced (ids_text olds) (id_text origin) (ids_inner olds w.2) (id_lacks 10 origin refl refl w.3)))
kind_inner (Subscribe name) w d = both is_inner (codes "subscribe ") (name_text name) refl (escaped_inner Field name)
kind_inner (Unsubscribe name seen) w d = spaced (codes "unsubscribe " ++ name_text name) (ids_text seen) (both is_inner (codes "unsubscribe ") (name_text name) refl (escaped_inner Field name)) (ids_inner seen w.1)

pub op_inner : (op : Op) → IsInForm op → lacks 10 (op_text op) ≡ true
op_inner op form =
    spaced (id_text op.id) (clock_text op.clock ++ 32 ∷ kind_text op.kind) (id_lacks 10 op.id refl refl form.parts.id)
    (spaced (clock_text op.clock) (kind_text op.kind) (clock_inner op.clock form.parts.entries) (kind_inner op.kind form.parts.fields form.date))
