use Rattle.std.proofs.Common.{◌≡◌, ℕ, zero, suc, ◌+◌, ◌-◌, ◌<◌, ◌≤◌, ◌++◌, ◌&&◌, Bool, true, false, List, [], ◌∷◌, length, take, get_or, ap, sym, ◌∙◌, arith, refl, append_assoc, length-take-le, Some, None, inl, inr}
use Rattle.std.proofs.lemmas.Bool.{cases_Bool}
use Rattle.std.specs.List.{concat, list_all}
use Rattle.memchr.specs.Find.{Nowhere, Passes, is_byte}
use Rattle.mail_text.specs.HeaderFields.{asked_fields_in, is_requested_field, before_colon, empty_line, field_lines, fields_in, fields_of, is_continuation, is_blank, trim_end_blanks, with_octet}
use Rattle.mail_text.specs.SelectedLines.{selected_lines, line_if_selected, selects_line}
use Rattle.mail_text.specs.TextLines.{in_first, is_empty_line, lines_of}

-- the selected fields; `selected` says whether the first one is
abbrev selected_fields : (List ℕ → Bool) → Bool → List (List (List ℕ)) → List ℕ
selected_fields asked selected [] = []
selected_fields asked selected (field ∷ fields) = line_if_selected selected (concat field) ++ asked_fields_in asked fields

-- the selected lines, without an empty one
abbrev selected_nonempty : (List ℕ → Bool) → Bool → List (List ℕ) → List ℕ
selected_nonempty asked selected [] = []
selected_nonempty asked selected (line ∷ lines) = line_if_selected (selects_line asked selected line) line ++ selected_nonempty asked (selects_line asked selected line) lines

selection-parts : (asked : List ℕ → Bool) (selected : Bool) (lines : List (List ℕ)) → selected_lines asked selected lines ≡ selected_nonempty asked selected (field_lines lines) ++ empty_line lines
selection-parts asked selected [] = refl
selection-parts asked selected (line ∷ lines) =
    elim (cases_Bool (is_empty_line line)) [
      | inl t ↦ rw t refl
      | inr f ↦
          let t = selects_line asked selected line in
          rw f (ap (λ xs. line_if_selected t line ++ xs) (selection-parts asked t lines) ∙ sym (append_assoc (line_if_selected t line) (selected_nonempty asked t (field_lines lines)) (empty_line lines)))
    ]

-- one further line before the first field
selected_fields-in_first : (asked : List ℕ → Bool) (selected : Bool) (line : List ℕ) (field : List (List ℕ)) (fields : List (List (List ℕ))) → selected_fields asked selected (in_first line (field ∷ fields)) ≡ line_if_selected selected line ++ selected_fields asked selected (field ∷ fields)
selected_fields-in_first asked true line field fields = append_assoc line (concat field) (asked_fields_in asked fields)
selected_fields-in_first asked false line field fields = refl

-- the first field of lines begins with the first line
record HasFirstLine (line : List ℕ) (fields : List (List (List ℕ))) : Type 0 where
  more : List (List ℕ)
  others : List (List (List ℕ))
  is : fields ≡ (line ∷ more) ∷ others

has_first_line : (line : List ℕ) (lines : List (List ℕ)) → HasFirstLine line (fields_in (line ∷ lines))
has_first_line line [] = record { more = []; others = []; is = refl }
has_first_line line (next ∷ lines) =
    let b = has_first_line next lines in
    elim (cases_Bool (is_continuation next)) [
      | inl t ↦ record { more = next ∷ b.more; others = b.others; is = rw t (ap (in_first line) b.is) }
      | inr f ↦ record { more = []; others = fields_in (next ∷ lines); is = rw f refl }
    ]

append_nil : (xs : List ℕ) → xs ++ [] ≡ xs
append_nil [] = refl
append_nil (x ∷ xs) = ap (λ ys. x ∷ ys) (append_nil xs)

asked-first : (asked : List ℕ → Bool) (line : List ℕ) (more : List (List ℕ)) (others : List (List (List ℕ))) → asked_fields_in asked ((line ∷ more) ∷ others) ≡ selected_fields asked (asked line) ((line ∷ more) ∷ others)
asked-first asked line more others = elim (cases_Bool (asked line)) [ inl t ↦ rw t refl | inr f ↦ rw f refl ]

asked-selected_fields : (asked : List ℕ → Bool) (line : List ℕ) (lines : List (List ℕ)) → asked_fields_in asked (fields_in (line ∷ lines)) ≡ selected_fields asked (asked line) (fields_in (line ∷ lines))
asked-selected_fields asked line lines =
    let b = has_first_line line lines in
    ap (asked_fields_in asked) b.is ∙ asked-first asked line b.more b.others ∙ ap (selected_fields asked (asked line)) (sym b.is)

selected_nonempty-selected_fields : (asked : List ℕ → Bool) (selected : Bool) (line : List ℕ) (lines : List (List ℕ)) → line_if_selected selected line ++ selected_nonempty asked selected lines ≡ selected_fields asked selected (fields_in (line ∷ lines))
selected_nonempty-selected_fields asked true line [] = ap (λ xs. xs ++ []) (sym (append_nil line))
selected_nonempty-selected_fields asked false line [] = refl
selected_nonempty-selected_fields asked selected line (next ∷ lines) =
    let b = has_first_line next lines in
    elim (cases_Bool (is_continuation next)) [
      | inl t ↦
          rw t (
          ap (λ xs. line_if_selected selected line ++ xs) (selected_nonempty-selected_fields asked selected next lines ∙ ap (selected_fields asked selected) b.is)
          ∙ sym (selected_fields-in_first asked selected line (next ∷ b.more) b.others)
          ∙ ap (λ fs. selected_fields asked selected (in_first line fs)) (sym b.is))
      | inr f ↦
          let e : line_if_selected (asked next) next ++ selected_nonempty asked (asked next) lines ≡ asked_fields_in asked (fields_in (next ∷ lines)) = selected_nonempty-selected_fields asked (asked next) next lines ∙ sym (asked-selected_fields asked next lines) in
          rw f (ap (λ xs. line_if_selected selected line ++ xs) e ∙ ap (λ xs. line_if_selected selected xs ++ asked_fields_in asked (fields_in (next ∷ lines))) (sym (append_nil line)))
    ]

selected_nonempty-first : (asked : List ℕ → Bool) (line : List ℕ) (lines : List (List ℕ)) → selected_nonempty asked (asked line) (line ∷ lines) ≡ line_if_selected (asked line) line ++ selected_nonempty asked (asked line) lines
selected_nonempty-first asked line lines = elim (cases_Bool (is_continuation line)) [ inl t ↦ rw t refl | inr f ↦ rw f refl ]

-- the selected fields are the lines that are selected one by one
pub fields-selection : (named : Bool) (names : List (List ℕ)) (text line tail : List ℕ) → lines_of text ≡ line ∷ lines_of tail → selected_lines (is_requested_field named names) (is_requested_field named names line) (lines_of text) ≡ fields_of named names text
fields-selection named names text line tail e =
    let asked : List ℕ → Bool = is_requested_field named names in
    rw e (elim (cases_Bool (is_empty_line line)) [
      | inl t ↦ rw t refl
      | inr f ↦
          let lines = field_lines (lines_of tail) in
          selection-parts asked (asked line) (line ∷ lines_of tail)
          ∙ rw f (ap (λ xs. xs ++ empty_line (lines_of tail)) (selected_nonempty-first asked line lines ∙ selected_nonempty-selected_fields asked (asked line) line lines ∙ sym (asked-selected_fields asked line lines)))
    ])

-- the first colon
pub colon_at : (line : List ℕ) (k : ℕ) → k < length line → Passes (is_byte 58) line k → Nowhere (Passes (is_byte 58) line) 0 k → before_colon line ≡ Some (take k line)
colon_at [] k l p n = absurd (omega arith)
colon_at (a ∷ line) zero l p n = rw p refl
colon_at (a ∷ line) (suc k) l p n =
    elim (cases_Bool (is_byte 58 a)) [
      | inl t ↦ absurd (n 0 (omega arith) (omega arith) t)
      | inr f ↦ rw f (ap (with_octet a) (colon_at line k (omega arith) p (λ j m o q. n (suc j) (omega arith) (omega arith) q)))
    ]

pub no_colon : (line : List ℕ) → Nowhere (Passes (is_byte 58) line) 0 (length line) → before_colon line ≡ None
no_colon [] n = refl
no_colon (a ∷ line) n =
    elim (cases_Bool (is_byte 58 a)) [
      | inl t ↦ absurd (n 0 (omega arith) (omega arith) t)
      | inr f ↦ rw f (ap (with_octet a) (no_colon line (λ j m o q. n (suc j) (omega arith) (omega arith) q)))
    ]

-- blanks at the end of a text
all-append_blank : (xs : List ℕ) (b : ℕ) → is_blank b ≡ true → list_all is_blank (xs ++ b ∷ []) ≡ list_all is_blank xs
all-append_blank [] b h = rw h refl
all-append_blank (x ∷ xs) b h = ap (λ r. is_blank x && r) (all-append_blank xs b h)

none-append_blank : (xs : List ℕ) (b : ℕ) → is_blank b ≡ false → list_all is_blank (xs ++ b ∷ []) ≡ false
none-append_blank [] b h = rw h refl
none-append_blank (x ∷ xs) b h = elim (cases_Bool (is_blank x)) [ inl t ↦ rw t (none-append_blank xs b h) | inr f ↦ rw f refl ]

pub trimmed-blank : (xs : List ℕ) (b : ℕ) → is_blank b ≡ true → trim_end_blanks (xs ++ b ∷ []) ≡ trim_end_blanks xs
trimmed-blank [] b h = rw h refl
trimmed-blank (x ∷ xs) b h =
    let e = all-append_blank xs b h in
    let g = trimmed-blank xs b h in
    rw (e, g) refl

pub trimmed-other : (xs : List ℕ) (b : ℕ) → is_blank b ≡ false → trim_end_blanks (xs ++ b ∷ []) ≡ xs ++ b ∷ []
trimmed-other [] b h = rw h refl
trimmed-other (x ∷ xs) b h =
    let e = none-append_blank xs b h in
    let g = trimmed-other xs b h in
    elim (cases_Bool (is_blank x)) [ inl t ↦ rw (t, e, g) refl | inr f ↦ rw (f, g) refl ]

last-split : (xs : List ℕ) → 1 ≤ length xs → xs ≡ take (length xs - 1) xs ++ get_or xs (length xs - 1) 0 ∷ []
last-split [] l = absurd (omega arith)
last-split (x ∷ []) l = refl
last-split (x ∷ y ∷ ys) l =
    let e : suc (suc (length ys)) - 1 ≡ suc (suc (length ys) - 1) = omega arith in
    rw e (ap (λ zs. x ∷ zs) (last-split (y ∷ ys) (omega arith)))

pub passes : (xs text : List ℕ) → 1 ≤ length xs → is_blank (get_or xs (length xs - 1) 0) ≡ true → trim_end_blanks xs ≡ trim_end_blanks text → trim_end_blanks (take (length xs - 1) xs) ≡ trim_end_blanks text
passes xs text l b e = sym (trimmed-blank (take (length xs - 1) xs) _ b) ∙ ap trim_end_blanks (sym (last-split xs l)) ∙ e

pub stays : (xs text : List ℕ) → 1 ≤ length xs → is_blank (get_or xs (length xs - 1) 0) ≡ false → trim_end_blanks xs ≡ trim_end_blanks text → xs ≡ trim_end_blanks text
stays xs text l b e = last-split xs l ∙ sym (trimmed-other (take (length xs - 1) xs) _ b) ∙ ap trim_end_blanks (sym (last-split xs l)) ∙ e

pub asked_start : (named : Bool) (names : List (List ℕ)) (text line tail output : List ℕ) (selected : Bool) → output ≡ [] → selected ≡ is_requested_field named names line → lines_of text ≡ line ∷ lines_of tail
    → output ++ selected_lines (is_requested_field named names) selected (lines_of text) ≡ fields_of named names text
asked_start named names text line tail output selected n k e = (λ i. n i ++ selected_lines (is_requested_field named names) (k i) (lines_of text)) ∙ fields-selection named names text line tail e

-- one step over the lines
pub asked_step : (asked : List ℕ → Bool) (selected next : Bool) (output new : List ℕ) (rest line tail total : List ℕ) → lines_of rest ≡ line ∷ lines_of tail → is_empty_line line ≡ false → next ≡ selects_line asked selected line → new ≡ output ++ line_if_selected next line
    → output ++ selected_lines asked selected (lines_of rest) ≡ total → new ++ selected_lines asked next (lines_of tail) ≡ total
asked_step asked selected next output new rest line tail total e f t n i =
    let k : selected_lines asked selected (lines_of rest) ≡ line_if_selected (selects_line asked selected line) line ++ selected_lines asked (selects_line asked selected line) (lines_of tail) = ap (selected_lines asked selected) e ∙ rw f refl in
    ap (λ xs. xs ++ selected_lines asked next (lines_of tail)) n
    ∙ append_assoc output (line_if_selected next line) (selected_lines asked next (lines_of tail))
    ∙ ap (λ b. output ++ (line_if_selected b line ++ selected_lines asked b (lines_of tail))) t
    ∙ ap (λ xs. output ++ xs) (sym k)
    ∙ i

pub asked_end : (asked : List ℕ → Bool) (selected : Bool) (output rest line tail total : List ℕ) → lines_of rest ≡ line ∷ lines_of tail → is_empty_line line ≡ true → output ++ selected_lines asked selected (lines_of rest) ≡ total → output ++ line ≡ total
asked_end asked selected output rest line tail total e f i =
    let k : selected_lines asked selected (lines_of rest) ≡ line = ap (selected_lines asked selected) e ∙ rw f refl in
    ap (λ xs. output ++ xs) (sym k) ∙ i

pub asked_all : (asked : List ℕ → Bool) (selected : Bool) (output rest total : List ℕ) → length rest < 1 → output ++ selected_lines asked selected (lines_of rest) ≡ total → output ≡ total
asked_all asked selected output [] total l i = sym (append_nil output) ∙ i
asked_all asked selected output (x ∷ rest) total l i = absurd (omega arith)

pub shorter : (xs : List ℕ) → 1 ≤ length xs → length (take (length xs - 1) xs) + 1 ≤ length xs
shorter xs l = let e = length-take-le (length xs - 1) xs (omega arith) in omega arith
