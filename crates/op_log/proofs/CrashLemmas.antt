use Rattle.std.proofs.Common.{◌≡◌, inl, inr, ℕ, zero, suc, ◌+◌, ◌-◌, ◌<◌, List, [], ◌∷◌, ◌++◌, Option, Some, length, take, drop, refl, sym, ap, ◌∙◌, subst, arith, append_assoc}
use Rattle.std.proofs.lemmas.Bool.{cases_lt, false≢true}
use Rattle.std.proofs.lemmas.List.{length-append, take-append-drop, take-append-le}
use Rattle.crdt_ops.specs.Reading.{cut_at}
use Rattle.text_fields.proofs.FieldLemmas.{both, cut_complete}
use Rattle.op_log.specs.Crashes.{IsCrashState, IsPrefixOf, BeginsWithWrittenLines}
use Rattle.op_log.specs.Lines.{AreTexts, IsText, line_of, log_of, recovered_texts, checksum_field, line_text}
use Rattle.op_log.proofs.LineLemmas.{back_is_text, cut, front_is_text, is_inner, recovered_lines, checked_is_text, line_text_of_line}

-- ---- what a crash leaves

pub crash_front : (synced unsynced : List (List ℕ)) (log : List ℕ) → AreTexts synced → IsCrashState synced unsynced log → (front : List (List ℕ)) × (recovered_texts log ≡ synced ++ front) × IsPrefixOf front unsynced
crash_front synced unsynced log h leaves =
    let after = leaves.0 in
    let c = cut after in
    (recovered_texts after, ap recovered_texts leaves.1 ∙ recovered_lines synced after h, leaves.2 (recovered_texts after) c.rest c.texts c.split)

-- ---- what was written, cut short

-- no line begins a text
no_line : (text rest : List ℕ) → IsText (line_of text ++ rest) → ⊥
no_line text rest h =
    let line = checksum_field text ++ text in
    let after : IsText (10 ∷ rest) = back_is_text line (10 ∷ rest) (subst IsText (append_assoc line (10 ∷ []) rest) h) in
    false≢true after

pub take_nil : (n : ℕ) → ◌≡◌ {A = List ℕ} (take n []) []
take_nil zero = refl
take_nil (suc n) = refl

pub take_past : (xs ys : List ℕ) (m n : ℕ) → m ≡ length xs + n → take m (xs ++ ys) ≡ xs ++ take n ys
take_past [] ys m n is = let same : m ≡ n = omega arith in ap (λ (k : ℕ). take k ys) same
take_past (x ∷ xs) ys zero n is = absurd (omega arith)
take_past (x ∷ xs) ys (suc m) n is = ap (λ (l : List ℕ). x ∷ l) (take_past xs ys m n (omega arith))

front_take : (n : ℕ) (text : List ℕ) → IsText text → IsText (take n text)
front_take n text h = front_is_text (take n text) (drop n text) (subst IsText (sym (take-append-drop n text)) h)

-- a line cut short has no line end
pub cut_line : (text rest : List ℕ) (n : ℕ) → IsText text → n < length (line_of text) → IsText (take n (line_of text ++ rest))
cut_line text rest n h l =
    let line = checksum_field text ++ text in
    let long : length (line_of text) ≡ length line + 1 = length-append line (10 ∷ []) in
    let first : take n (line_of text ++ rest) ≡ take n (line_of text) = take-append-le n (line_of text) rest (omega arith) in
    let inner : take n (line_of text) ≡ take n line = take-append-le n line (10 ∷ []) (omega arith) in
    subst IsText (sym (first ∙ inner)) (front_take n line (checked_is_text text h))

-- equal logs have equal first lines, and equal octets after them
record SameLine (one other one_after other_after : List ℕ) : Type 0 where
  text : one ≡ other
  after : one_after ≡ other_after

same_line : (one other one_after other_after : List ℕ) → IsText one → IsText other → line_of one ++ one_after ≡ line_of other ++ other_after → SameLine one other one_after other_after
same_line one other one_after other_after h k e =
    let first : cut_at 10 (line_of one ++ one_after) ≡ Some (checksum_field one ++ one, one_after) =
    ap (cut_at 10) (append_assoc (checksum_field one ++ one) (10 ∷ []) one_after) ∙ cut_complete 10 (checksum_field one ++ one) one_after (checked_is_text one h) in
    let second : cut_at 10 (line_of other ++ other_after) ≡ Some (checksum_field other ++ other, other_after) =
    ap (cut_at 10) (append_assoc (checksum_field other ++ other) (10 ∷ []) other_after) ∙ cut_complete 10 (checksum_field other ++ other) other_after (checked_is_text other k) in
    let both_cut : ◌≡◌ {A = Option (List ℕ × List ℕ)} (Some (checksum_field one ++ one, one_after)) (Some (checksum_field other ++ other, other_after)) = sym first ∙ ap (cut_at 10) e ∙ second in
    let pair : ◌≡◌ {A = List ℕ × List ℕ} (checksum_field one ++ one, one_after) (checksum_field other ++ other, other_after) = cc in
    let lines : checksum_field one ++ one ≡ checksum_field other ++ other = ap (λ (p : List ℕ × List ℕ). p.0) pair in
    let texts : ◌≡◌ {A = Option (List ℕ)} (Some one) (Some other) = sym (line_text_of_line one) ∙ ap line_text lines ∙ line_text_of_line other in
    record { text = let t = texts in cc; after = ap (λ (p : List ℕ × List ℕ). p.1) pair }

pub begins_with_written_lines : (unsynced : List (List ℕ)) (count : ℕ) (before : List ℕ) → AreTexts unsynced → IsText before → BeginsWithWrittenLines unsynced (take count (log_of unsynced) ++ before)
begins_with_written_lines unsynced count before a b [] rest t e = (unsynced, refl)
begins_with_written_lines [] count before a b (text ∷ texts) rest t e =
    let nothing : take count [] ++ before ≡ before = ap (λ (xs : List ℕ). xs ++ before) (take_nil count) in
    absurd (no_line text (log_of texts ++ rest) (subst IsText (sym nothing ∙ e ∙ append_assoc (line_of text) (log_of texts) rest) b))
begins_with_written_lines (line ∷ lines) count before a b (text ∷ texts) rest t e =
    let second = append_assoc (line_of text) (log_of texts) rest in
    elim (cases_lt count (length (line_of line))) [
      | inl short ↦
          let left = both is_inner (take count (log_of (line ∷ lines))) before (cut_line line (log_of lines) count a.0 short) b in
          absurd (no_line text (log_of texts ++ rest) (subst IsText (e ∙ second) left))
      | inr long ↦
          let n = count - length (line_of line) in
          let past : take count (line_of line ++ log_of lines) ≡ line_of line ++ take n (log_of lines) = take_past (line_of line) (log_of lines) count n (omega arith) in
          let first : take count (log_of (line ∷ lines)) ++ before ≡ line_of line ++ (take n (log_of lines) ++ before) =
          ap (λ (xs : List ℕ). xs ++ before) past ∙ append_assoc (line_of line) (take n (log_of lines)) before in
          let same = same_line line text (take n (log_of lines) ++ before) (log_of texts ++ rest) a.0 t.0 (sym first ∙ e ∙ second) in
          let more = begins_with_written_lines lines n before a.1 b texts rest t.1 same.after in
          (more.0, λ i. same.text i ∷ more.1 i)
    ]
