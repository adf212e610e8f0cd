-- The fields of a header are those of the whole text.
use Rattle.std.proofs.Common.{◌≡◌, ℕ, Bool, true, false, cond, List, [], ◌∷◌, ◌++◌, inl, inr, refl, sym, ap, ◌∙◌}
use Rattle.std.proofs.lemmas.Bool.{cases_Bool}
use Rattle.std.specs.List.{concat}
use Rattle.mail_text.specs.HeaderAndBody.{header_of}
use Rattle.mail_text.specs.HeaderFields.{asked_fields_in, empty_line, field_lines, fields_in, fields_of, is_requested_field}
use Rattle.mail_text.specs.TextLines.{body_lines, header_lines, in_first, is_crlf, is_empty_line, lines_of}

abbrev head_line : List (List ℕ) → List ℕ
head_line [] = []
head_line (line ∷ lines) = line

abbrev tail_lines : List (List ℕ) → List (List ℕ)
tail_lines [] = []
tail_lines (line ∷ lines) = lines

-- the first line begins with the first octet
first_line : (b : ℕ) (rest : List ℕ) → (line : List ℕ) × (lines : List (List ℕ)) × (lines_of (b ∷ rest) ≡ (b ∷ line) ∷ lines)
first_line b [] = ([], [], refl)
first_line b (c ∷ rest) = elim (cases_Bool (is_crlf b c)) [
  | inl t ↦ (c ∷ [], lines_of rest, ap (λ x. cond x ((b ∷ c ∷ []) ∷ lines_of rest) (in_first b (lines_of (c ∷ rest)))) t)
  | inr f ↦
      let h = first_line c rest in
      (c ∷ h.0, h.1, ap (λ x. cond x ((b ∷ c ∷ []) ∷ lines_of rest) (in_first b (lines_of (c ∷ rest)))) f ∙ ap (in_first b) h.2)
]

nothing_left : (front back : List (List ℕ)) → [] ≡ front ++ back → front ≡ []
nothing_left [] back e = refl
nothing_left (line ∷ front) back e = cc

-- a line that ends with these octets
ended : (a b : ℕ) (rest f : List ℕ) (front : List (List ℕ)) → is_crlf a b ≡ true → f ≡ a ∷ b ∷ [] → lines_of (concat front) ≡ front → lines_of (concat (f ∷ front)) ≡ f ∷ front
ended a b rest f front t hf ih =
    ap (λ (xs : List ℕ). lines_of (xs ++ concat front)) hf ∙ ap (λ x. cond x ((a ∷ b ∷ []) ∷ lines_of (concat front)) (in_first a (lines_of (b ∷ concat front)))) t ∙ ap (λ ls. (a ∷ b ∷ []) ∷ ls) ih ∙ ap (λ (xs : List ℕ). xs ∷ front) (sym hf)

-- one that goes on
longer : (a b : ℕ) (line f : List ℕ) (front : List (List ℕ)) → is_crlf a b ≡ false → f ≡ a ∷ b ∷ line → lines_of (concat ((b ∷ line) ∷ front)) ≡ (b ∷ line) ∷ front → lines_of (concat (f ∷ front)) ≡ f ∷ front
longer a b line f front n hf ih =
    ap (λ (xs : List ℕ). lines_of (xs ++ concat front)) hf ∙ ap (λ x. cond x ((a ∷ b ∷ []) ∷ lines_of (line ++ concat front)) (in_first a (lines_of (b ∷ (line ++ concat front))))) n ∙ ap (in_first a) ih ∙ ap (λ (xs : List ℕ). xs ∷ front) (sym hf)

-- the first lines of a text are those of their octets
front_lines : (text : List ℕ) (front back : List (List ℕ)) → lines_of text ≡ front ++ back → lines_of (concat front) ≡ front
front_lines text [] back e = refl
front_lines [] (f ∷ front) back e = cc
front_lines (a ∷ []) (f ∷ front) back e =
    let hf : f ≡ a ∷ [] = sym (ap head_line e) in
    let none : front ≡ [] = nothing_left front back (ap tail_lines e) in
    let both : f ∷ front ≡ (a ∷ []) ∷ [] = (λ i. hf i ∷ none i) in
    ap (λ fs. lines_of (concat fs)) both ∙ sym both
front_lines (a ∷ b ∷ rest) (f ∷ front) back e = elim (cases_Bool (is_crlf a b)) [
  | inl t ↦
      let cut : (a ∷ b ∷ []) ∷ lines_of rest ≡ f ∷ (front ++ back) = sym (ap (λ x. cond x ((a ∷ b ∷ []) ∷ lines_of rest) (in_first a (lines_of (b ∷ rest)))) t) ∙ e in
      ended a b rest f front t (sym (ap head_line cut)) (front_lines rest front back (ap tail_lines cut))
  | inr n ↦
      let h = first_line b rest in
      let cut : (a ∷ b ∷ h.0) ∷ h.1 ≡ f ∷ (front ++ back) = sym (ap (λ x. cond x ((a ∷ b ∷ []) ∷ lines_of rest) (in_first a (lines_of (b ∷ rest)))) n ∙ ap (in_first a) h.2) ∙ e in
      longer a b h.0 f front n (sym (ap head_line cut)) (front_lines (b ∷ rest) ((b ∷ h.0) ∷ front) back (h.2 ∙ ap (λ ls. (b ∷ h.0) ∷ ls) (ap tail_lines cut)))
]

header_body : (lines : List (List ℕ)) → header_lines lines ++ body_lines lines ≡ lines
header_body [] = refl
header_body (line ∷ lines) = elim (cases_Bool (is_empty_line line)) [
  | inl t ↦ ap (λ x. cond x (line ∷ []) (line ∷ header_lines lines) ++ cond x lines (body_lines lines)) t
  | inr f ↦ ap (λ x. cond x (line ∷ []) (line ∷ header_lines lines) ++ cond x lines (body_lines lines)) f ∙ ap (λ ls. line ∷ ls) (header_body lines)
]

field_header : (lines : List (List ℕ)) → field_lines (header_lines lines) ≡ field_lines lines
field_header [] = refl
field_header (line ∷ lines) = elim (cases_Bool (is_empty_line line)) [
  | inl t ↦ ap (λ x. field_lines (cond x (line ∷ []) (line ∷ header_lines lines))) t ∙ ap (λ x. cond x [] (line ∷ [])) t ∙ sym (ap (λ x. cond x [] (line ∷ field_lines lines)) t)
  | inr f ↦
      ap (λ x. field_lines (cond x (line ∷ []) (line ∷ header_lines lines))) f ∙ ap (λ x. cond x [] (line ∷ field_lines (header_lines lines))) f ∙ ap (λ ls. line ∷ ls) (field_header lines)
      ∙ sym (ap (λ x. cond x [] (line ∷ field_lines lines)) f)
]

empty_header : (lines : List (List ℕ)) → empty_line (header_lines lines) ≡ empty_line lines
empty_header [] = refl
empty_header (line ∷ lines) = elim (cases_Bool (is_empty_line line)) [
  | inl t ↦ ap (λ x. empty_line (cond x (line ∷ []) (line ∷ header_lines lines))) t ∙ ap (λ x. cond x line []) t ∙ sym (ap (λ x. cond x line (empty_line lines)) t)
  | inr f ↦
      ap (λ x. empty_line (cond x (line ∷ []) (line ∷ header_lines lines))) f ∙ ap (λ x. cond x line (empty_line (header_lines lines))) f ∙ empty_header lines ∙ sym (ap (λ x. cond x line (empty_line lines)) f)
]

pub fields_same : (named : Bool) (names : List (List ℕ)) (text : List ℕ) → fields_of named names (header_of text) ≡ fields_of named names text
fields_same named names text =
    let lines : List (List ℕ) = lines_of text in
    ap (λ ls. asked_fields_in (is_requested_field named names) (fields_in (field_lines ls)) ++ empty_line ls) (front_lines text (header_lines lines) (body_lines lines) (sym (header_body lines)))
    ∙ (λ i. asked_fields_in (is_requested_field named names) (fields_in (field_header lines i)) ++ empty_header lines i)
