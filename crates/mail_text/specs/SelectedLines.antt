-- The selected fields of a header, line by line, as the code collects them.

use Rattle.std.specs.Prelude.{ℕ, Bool, List, [], ◌∷◌, ◌++◌, if◌then◌else◌}
use Rattle.mail_text.specs.HeaderFields.{is_continuation}
use Rattle.mail_text.specs.TextLines.{is_empty_line}

-- Whether a line is selected: with the line before it, or as the first of a selected field.
abbrev pub selects_line : (List ℕ → Bool) → Bool → List ℕ → Bool
selects_line asked selected line = if is_continuation line then selected else asked line

abbrev pub line_if_selected : Bool → List ℕ → List ℕ
line_if_selected selected line = if selected then line else []

-- The selected lines, up to and including the first empty line.
abbrev pub selected_lines : (List ℕ → Bool) → Bool → List (List ℕ) → List ℕ
selected_lines asked selected [] = []
selected_lines asked selected (line ∷ lines) =
    if is_empty_line line then line
    else line_if_selected (selects_line asked selected line) line
    ++ selected_lines asked (selects_line asked selected line) lines
