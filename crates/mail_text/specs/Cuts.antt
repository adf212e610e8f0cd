-- Where a text is cut into its header, its fields and the rest (RFC 5322, section 2.2).

use Rattle.std.specs.Prelude.{◌≡◌, ℕ, ◌<◌, List, [], ◌∷◌, ◌++◌, length, if◌then◌else◌}
use Rattle.std.specs.List.{concat}
use Rattle.mail_text.specs.HeaderFields.{field_lines, fields_in, is_continuation}
use Rattle.mail_text.specs.TextLines.{lines_of}
use Rattle.mail_text.specs.HeaderAndBody.{body_of, header_of}

-- The rest of a text begins inside the header, or at its end.
pub record IsWithin (text rest : List ℕ) : Type 0 where
  pub front : List ℕ
  pub split : text ≡ front ++ rest
  pub header : header_of text ≡ front ++ header_of rest
  pub body : body_of text ≡ body_of rest

-- The rest of a text is what follows the header.
pub record IsAfterHeader (text rest : List ℕ) : Type 0 where
  pub split : text ≡ header_of text ++ rest
  pub body : body_of text ≡ rest

-- The first lines, as far as they continue a field; and the lines after these.
abbrev pub continuation_lines : List (List ℕ) → List (List ℕ)
continuation_lines [] = []
continuation_lines (line ∷ lines) =
    if is_continuation line then line ∷ continuation_lines lines else []

abbrev pub after_continuations : List (List ℕ) → List (List ℕ)
after_continuations [] = []
after_continuations (line ∷ lines) =
    if is_continuation line then after_continuations lines else line ∷ lines

-- The rest of a text begins where lines may still continue the field before it.
pub record IsInContinuation (text rest : List ℕ) : Type 0 where
  pub front : List ℕ
  pub split : text ≡ front ++ rest
  pub lines : concat (continuation_lines (field_lines (lines_of text)))
      ≡ front ++ concat (continuation_lines (field_lines (lines_of rest)))
  pub others : after_continuations (field_lines (lines_of text))
      ≡ after_continuations (field_lines (lines_of rest))

-- The rest of a text begins with the next field, or with the empty line.
pub record IsAfterContinuation (text rest : List ℕ) : Type 0 where
  pub split : text ≡ concat (continuation_lines (field_lines (lines_of text))) ++ rest
  pub others : after_continuations (field_lines (lines_of text)) ≡ field_lines (lines_of rest)

-- A text's first field: its first line, all its octets, and what follows it.
pub record IsFirstField (text line field rest : List ℕ) : Type 0 where
  pub more : List (List ℕ)
  pub fields : fields_in (field_lines (lines_of text))
      ≡ (line ∷ more) ∷ fields_in (field_lines (lines_of rest))
  pub joined : concat (line ∷ more) ≡ field
  pub shorter : length rest < length text
