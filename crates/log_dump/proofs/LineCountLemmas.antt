use Rattle.std.proofs.Common.{◌≡◌, ℕ, ◌+◌, ◌-◌, ◌<◌, ◌≤◌, List, [], ◌∷◌, ◌++◌, length, Option, Some, None, refl, sym, ap, ◌∙◌, subst, arith, append_assoc}
use Rattle.std.proofs.lemmas.List.{length-append}
use Rattle.text_fields.specs.FieldReading.{cut_at}
use Rattle.text_fields.proofs.FieldLemmas.{cut_complete, cut_sound}
use Rattle.op_log.specs.Lines.{AreTexts, IsText, checksum_field, line_of, log_of}
use Rattle.op_log.proofs.LineLemmas.{checked_is_text}

-- The first lines of a log are being passed over.

-- Of the lines of these texts so many were passed over: the rest of the log has the lines of the
-- others.
pub record AreLinesLeft (texts : List (List ℕ)) (after rest : List ℕ) (passed : ℕ) : Type 0 where
  pub left : List (List ℕ)
  pub are_texts : AreTexts left
  pub is : rest ≡ log_of left ++ after
  pub count : length left + passed ≡ length texts

first_cut : (text rest : List ℕ) → IsText text → cut_at 10 (line_of text ++ rest) ≡ Some (checksum_field text ++ text, rest)
first_cut text rest h = ap (cut_at 10) (append_assoc (checksum_field text ++ text) (10 ∷ []) rest) ∙ cut_complete 10 (checksum_field text ++ text) rest (checked_is_text text h)

some_cut : (one other : List ℕ × List ℕ) → ◌≡◌ {A = Option (List ℕ × List ℕ)} (Some one) (Some other) → one ≡ other
some_cut one other e = cc

-- one more line
pub line_passed : (texts : List (List ℕ)) (after rest line next : List ℕ) (passed : ℕ) → passed < length texts → AreLinesLeft texts after rest passed → cut_at 10 rest ≡ Some (line, next) → AreLinesLeft texts after next (passed + 1)
line_passed texts after rest line next passed l h e = by_left h.left h.are_texts h.is h.count
  where
    by_left : (left : List (List ℕ)) → AreTexts left → rest ≡ log_of left ++ after → length left + passed ≡ length texts → AreLinesLeft texts after next (passed + 1)
    by_left [] t is count = absurd (omega (arith, count, l))
    by_left (text ∷ left) t is count =
        let more = log_of left ++ after in
        let whole : rest ≡ line_of text ++ more = is ∙ append_assoc (line_of text) (log_of left) after in
        let cut = some_cut (line, next) (checksum_field text ++ text, more) (sym e ∙ ap (cut_at 10) whole ∙ first_cut text more t.0) in
        record { left = left; are_texts = t.1; is = ap (λ (p : List ℕ × List ℕ). p.1) cut; count = omega (arith, count) }

-- while a line is left there is a line end
pub line_is_left : (texts : List (List ℕ)) (after rest : List ℕ) (passed : ℕ) → passed < length texts → AreLinesLeft texts after rest passed → cut_at 10 rest ≡ None → ⊥
line_is_left texts after rest passed l h e = by_left h.left h.are_texts h.is h.count
  where
    by_left : (left : List (List ℕ)) → AreTexts left → rest ≡ log_of left ++ after → length left + passed ≡ length texts → ⊥
    by_left [] t is count = omega (arith, count, l)
    by_left (text ∷ left) t is count =
        let more = log_of left ++ after in
        let whole : rest ≡ line_of text ++ more = is ∙ append_assoc (line_of text) (log_of left) after in
        let k : ◌≡◌ {A = Option (List ℕ × List ℕ)} None (Some (checksum_field text ++ text, more)) = sym e ∙ ap (cut_at 10) whole ∙ first_cut text more t.0 in
        absurd cc

pub lines_at_first : (texts : List (List ℕ)) (after log : List ℕ) → AreTexts texts → log ≡ log_of texts ++ after → AreLinesLeft texts after log 0
lines_at_first texts after log t is = record { left = texts; are_texts = t; is = is; count = omega arith }

-- when all lines were passed over
pub lines_counted : (texts : List (List ℕ)) (after log rest : List ℕ) (passed octets : ℕ) → log ≡ log_of texts ++ after → AreLinesLeft texts after rest passed → length texts ≤ passed → octets ≡ length log - length rest → octets ≡ length (log_of texts)
lines_counted texts after log rest passed octets whole h all e = by_left h.left h.is h.count
  where
    by_left : (left : List (List ℕ)) → rest ≡ log_of left ++ after → length left + passed ≡ length texts → octets ≡ length (log_of texts)
    by_left [] is count =
        let long : length log ≡ length (log_of texts) + length after = ap length whole ∙ length-append (log_of texts) after in
        let short : length rest ≡ length after = ap length is in
        omega (arith, long, short, e)
    by_left (text ∷ left) is count = absurd (omega (arith, count, all))

-- what follows a line is shorter
pub next_within : (log rest line next : List ℕ) → length rest ≤ length log → cut_at 10 rest ≡ Some (line, next) → length next ≤ length log
next_within log rest line next l e =
    let long : length rest ≡ length line + length (10 ∷ next) = ap length (cut_sound 10 rest (line, next) e) ∙ length-append line (10 ∷ next) in
    omega (arith, long, l)
