use Rattle.std.proofs.Common.{◌≡◌, inl, inr, ℕ, ◌/◌, ◌%◌, ◌<◌, Bool, true, false, not, cond, eqb, List, [], ◌∷◌, ◌++◌, map, MatchOption, Option, Some, None, length, take, drop, refl, sym, ap, ◌∙◌, subst, arith, append_assoc}
use Rattle.std.proofs.lemmas.Bool.{and_from, and_parts, cases_Bool, false_from_ne_true}
use Rattle.std.proofs.lemmas.Bool.Decides.{nat_tests}
use Rattle.std.proofs.lemmas.List.{drop_at, length-take, take-append-drop, take_at}
use Rattle.std.proofs.lemmas.List.Folds.{list_all-append}
use Rattle.std.proofs.lemmas.Slice.Eq.{bytes_eq-Decides}
use Rattle.std.specs.List.{list_all, onto_first}
use Rattle.std.specs.Str.{bytes_eq}
use Rattle.crc32c.specs.Checksum.{crc32c}
use Rattle.crdt_ops.specs.Reading.{cut_at, before_first_part, parts_at}
use Rattle.crdt_ops.specs.Text.{join_fields}
use Rattle.crdt_ops.proofs.PartLemmas.{first_part, joined_parts, parts_last, parts_of_cut, some_part}
use Rattle.text_fields.proofs.FieldLemmas.{both, chosen, cut_sound, before_first_part_some, lacks, some_of}
use Rattle.op_log.specs.Lines.{AreTexts, IsText, hex_digit, hex_word, with_text_before, line_of, log_of, recovered_texts, checksum_field, line_text, texts_of_parts}

-- whether an octet isn't a line end
abbrev pub is_inner : ℕ → Bool
is_inner octet = not (eqb octet 10)

-- ---- the octets before a text

pub length-checksum_field : (text : List ℕ) → length (checksum_field text) ≡ 9
unfolding checksum_field
length-checksum_field text = refl

hex_apart : (n : ℕ) → not (eqb (hex_digit n) 10) ≡ true
hex_apart n = grind (arith, nat_tests)

digits_are_inner : (ns : List ℕ) → list_all is_inner (map hex_digit ns) ≡ true
digits_are_inner [] = refl
digits_are_inner (n ∷ ns) = and_from (not (eqb (hex_digit n) 10)) (list_all is_inner (map hex_digit ns)) (hex_apart n) (digits_are_inner ns)

word_is_inner : (n : ℕ) → list_all is_inner (hex_word n) ≡ true
word_is_inner n =
    digits_are_inner ((n / 0x10000000 % 16) ∷ (n / 0x1000000 % 16) ∷ (n / 0x100000 % 16) ∷ (n / 0x10000 % 16) ∷ (n / 0x1000 % 16) ∷ (n / 0x100 % 16) ∷ (n / 0x10 % 16) ∷ (n % 16) ∷ [])

pub checksum_field_is_text : (text : List ℕ) → IsText (checksum_field text)
unfolding checksum_field
checksum_field_is_text text = both is_inner (hex_word (crc32c text)) (32 ∷ []) (word_is_inner (crc32c text)) refl

pub checked_is_text : (text : List ℕ) → IsText text → IsText (checksum_field text ++ text)
checked_is_text text h = both is_inner (checksum_field text) text (checksum_field_is_text text) h

-- ---- the text of a line

pub line_text_of_line : (text : List ℕ) → line_text (checksum_field text ++ text) ≡ Some text
unfolding line_text
line_text_of_line text =
    let line = checksum_field text ++ text in
    let front : take 9 line ≡ checksum_field text = take_at (checksum_field text) text 9 (length-checksum_field text) in
    let back : drop 9 line ≡ text = drop_at (checksum_field text) text 9 (length-checksum_field text) in
    let t : bytes_eq (take 9 line) (checksum_field (drop 9 line)) ≡ true = (bytes_eq-Decides (take 9 line) (checksum_field (drop 9 line))).1 (front ∙ ap checksum_field (sym back)) in
    rw t (ap (λ (x : List ℕ). Some x) back)

pub line_text_sound : (line text : List ℕ) → line_text line ≡ Some text → line ≡ checksum_field text ++ text
unfolding line_text
line_text_sound line text h =
    let s = some_of (bytes_eq (take 9 line) (checksum_field (drop 9 line))) (drop 9 line) text h in
    let e : take 9 line ≡ checksum_field (drop 9 line) = (bytes_eq-Decides (take 9 line) (checksum_field (drop 9 line))).0 s.0 in
    sym (take-append-drop 9 line) ∙ (λ i. e i ++ drop 9 line) ∙ (λ i. checksum_field (s.1 i) ++ s.1 i)

pub line_text_short : (line : List ℕ) → length line < 9 → line_text line ≡ None
unfolding line_text
line_text_short line l =
    let f : bytes_eq (take 9 line) (checksum_field (drop 9 line)) ≡ false =
    false_from_ne_true (bytes_eq (take 9 line) (checksum_field (drop 9 line))) (λ t.
    let e : length (take 9 line) ≡ length (checksum_field (drop 9 line)) = ap length ((bytes_eq-Decides (take 9 line) (checksum_field (drop 9 line))).0 t) in
    omega (arith, e, length-take 9 line, length-checksum_field (drop 9 line))) in
    rw f refl

-- the text by its parts
pub line_text_of_parts : (line seal text : List ℕ) (b : Bool) → seal ≡ take 9 line → text ≡ drop 9 line → b ≡ bytes_eq seal (checksum_field text) → cond b (Some text) None ≡ line_text line
unfolding line_text
line_text_of_parts line seal text b s t e =
    ap (λ (x : Bool). cond x (Some text) None) e ∙ (λ i. cond (bytes_eq (s i) (checksum_field (t i))) (Some (t i)) None)

-- ---- lines

texts_of_line : (line text : List ℕ) (parts : List (List ℕ)) → (parts ≡ [] → ⊥) → line_text line ≡ Some text → texts_of_parts (line ∷ parts) ≡ text ∷ texts_of_parts parts
texts_of_line line text [] some h = absurd (some refl)
texts_of_line line text (next ∷ parts) some h = ap (λ (o : Option (List ℕ)). with_text_before o (texts_of_parts (next ∷ parts))) h

texts_of_damaged : (line : List ℕ) (parts : List (List ℕ)) → line_text line ≡ None → texts_of_parts (line ∷ parts) ≡ []
texts_of_damaged line [] h = refl
texts_of_damaged line (next ∷ parts) h = ap (λ (o : Option (List ℕ)). with_text_before o (texts_of_parts (next ∷ parts))) h

pub recovered_line : (text rest : List ℕ) → IsText text → recovered_texts (line_of text ++ rest) ≡ text ∷ recovered_texts rest
unfolding recovered_texts
recovered_line text rest h =
    let line = checksum_field text ++ text in
    ap (λ (xs : List ℕ). texts_of_parts (parts_at 10 xs)) (append_assoc line (10 ∷ []) rest)
    ∙ ap texts_of_parts (first_part 10 line rest (checked_is_text text h))
    ∙ texts_of_line line text (parts_at 10 rest) (some_part 10 rest) (line_text_of_line text)

pub recovered_lines : (texts : List (List ℕ)) (rest : List ℕ) → AreTexts texts → recovered_texts (log_of texts ++ rest) ≡ texts ++ recovered_texts rest
recovered_lines [] rest h = refl
recovered_lines (text ∷ texts) rest h =
    ap recovered_texts (append_assoc (line_of text) (log_of texts) rest)
    ∙ recovered_line text (log_of texts ++ rest) h.0
    ∙ ap (λ (xs : List (List ℕ)). text ∷ xs) (recovered_lines texts rest h.1)

-- ---- the first line

pub none_given : {X : Type 0} (r : Option X) (P : Type 0) (Q : X → Type 0) → r ≡ None → P → MatchOption r P Q
none_given None P Q e p = p
none_given (Some x) P Q e p = absurd cc

pub recovered_unfinished : (log : List ℕ) → cut_at 10 log ≡ None → recovered_texts log ≡ []
unfolding recovered_texts
recovered_unfinished log h = ap texts_of_parts (parts_last 10 log h)

pub recovered_damaged : (log line after : List ℕ) → cut_at 10 log ≡ Some (line, after) → line_text line ≡ None → recovered_texts log ≡ []
unfolding recovered_texts
recovered_damaged log line after h k = ap texts_of_parts (parts_of_cut 10 log line after h) ∙ texts_of_damaged line (parts_at 10 after) k

-- the octets before the first separator lack it
pub cut_lacks : (separator : ℕ) (text : List ℕ) (parts : List ℕ × List ℕ) → cut_at separator text ≡ Some parts → lacks separator parts.0 ≡ true
cut_lacks separator [] parts h = absurd cc
cut_lacks separator (octet ∷ octets) parts h =
    elim (chosen (eqb octet separator) (Some ([], octets)) (before_first_part (octet ∷ []) (cut_at separator octets)) (Some parts) h) [
      | inl t ↦
          let e : ◌≡◌ {A = List ℕ × List ℕ} ([], octets) parts = let k = t.1 in cc in
          ap (λ (z : List ℕ × List ℕ). lacks separator z.0) (sym e)
      | inr f ↦
          let y = before_first_part_some (octet ∷ []) (cut_at separator octets) parts f.1 in
          subst (λ (xs : List ℕ). lacks separator xs ≡ true) (sym y.2) (and_from (not (eqb octet separator)) (lacks separator y.0.0) (ap not f.0) (cut_lacks separator octets y.0 y.1))
    ]

pub back_is_text : (front back : List ℕ) → IsText (front ++ back) → IsText back
back_is_text front back h = (and_parts (list_all is_inner front) (list_all is_inner back) (sym (list_all-append is_inner front back) ∙ h)).1

pub front_is_text : (front back : List ℕ) → IsText (front ++ back) → IsText front
front_is_text front back h = (and_parts (list_all is_inner front) (list_all is_inner back) (sym (list_all-append is_inner front back) ∙ h)).0

pub first_found : (log line after text : List ℕ) → cut_at 10 log ≡ Some (line, after) → line_text line ≡ Some text → (log ≡ line_of text ++ after) × IsText text
first_found log line after text h k =
    let s = line_text_sound line text k in (
      cut_sound 10 log (line, after) h ∙ (λ i. s i ++ 10 ∷ after) ∙ sym (append_assoc (checksum_field text ++ text) (10 ∷ []) after),
      back_is_text (checksum_field text) text (subst IsText s (cut_lacks 10 log (line, after) h)),
    )

-- ---- a log is the lines of the recovered texts, and a rest

onto_lacks : (separator octet : ℕ) (parts : List (List ℕ)) → eqb octet separator ≡ false → list_all (lacks separator) parts ≡ true → list_all (lacks separator) (onto_first octet parts) ≡ true
onto_lacks separator octet [] f h = and_from (lacks separator (octet ∷ [])) true (and_from (not (eqb octet separator)) true (ap not f) refl) refl
onto_lacks separator octet (part ∷ parts) f h =
    let p = and_parts (lacks separator part) (list_all (lacks separator) parts) h in
    and_from (lacks separator (octet ∷ part)) (list_all (lacks separator) parts) (and_from (not (eqb octet separator)) (lacks separator part) (ap not f) p.0) p.1

parts_lack : (separator : ℕ) (text : List ℕ) → list_all (lacks separator) (parts_at separator text) ≡ true
parts_lack separator [] = refl
parts_lack separator (octet ∷ octets) =
    elim (cases_Bool (eqb octet separator)) [
      | inl t ↦ rw t (parts_lack separator octets)
      | inr f ↦ rw f (onto_lacks separator octet (parts_at separator octets) f (parts_lack separator octets))
    ]

record PartsCut (parts : List (List ℕ)) : Type 0 where
  rest : List ℕ
  split : join_fields 10 parts ≡ log_of (texts_of_parts parts) ++ rest
  texts : AreTexts (texts_of_parts parts)

parts_by_text : (line next : List ℕ) (parts : List (List ℕ)) → IsText line → PartsCut (next ∷ parts) → (o : Option (List ℕ)) → line_text line ≡ o → PartsCut (line ∷ next ∷ parts)
parts_by_text line next parts l more None e = record { rest = join_fields 10 (line ∷ next ∷ parts); split = rw e refl; texts = rw e tt }
parts_by_text line next parts l more (Some text) e =
    let s = line_text_sound line text e in
    let after = join_fields 10 (next ∷ parts) in
    let whole : line ++ 10 ∷ after ≡ (line_of text ++ log_of (texts_of_parts (next ∷ parts))) ++ more.rest =
    (λ i. s i ++ 10 ∷ after)
    ∙ sym (append_assoc (checksum_field text ++ text) (10 ∷ []) after)
    ∙ ap (λ (xs : List ℕ). line_of text ++ xs) more.split
    ∙ sym (append_assoc (line_of text) (log_of (texts_of_parts (next ∷ parts))) more.rest) in
    record { rest = more.rest; split = rw e whole; texts = rw e (back_is_text (checksum_field text) text (subst IsText s l), more.texts) }

parts_cut : (parts : List (List ℕ)) → list_all (lacks 10) parts ≡ true → PartsCut parts
parts_cut [] h = record { rest = []; split = refl; texts = tt }
parts_cut (part ∷ []) h = record { rest = join_fields 10 (part ∷ []); split = refl; texts = tt }
parts_cut (line ∷ next ∷ parts) h =
    let p = and_parts (lacks 10 line) (list_all (lacks 10) (next ∷ parts)) h in
    parts_by_text line next parts p.0 (parts_cut (next ∷ parts) p.1) (line_text line) refl

pub record Cut (log : List ℕ) : Type 0 where
  pub rest : List ℕ
  pub split : log ≡ log_of (recovered_texts log) ++ rest
  pub texts : AreTexts (recovered_texts log)

pub cut : (log : List ℕ) → Cut log
unfolding recovered_texts
cut log = let c = parts_cut (parts_at 10 log) (parts_lack 10 log) in record { rest = c.rest; split = sym (joined_parts 10 log) ∙ c.split; texts = c.texts }
