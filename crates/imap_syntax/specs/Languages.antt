-- Languages of texts, from which the grammar of commands is built (RFC 9051, section 9).

use Rattle.std.specs.Prelude.{codes, ◌≡◌, ℕ, List, [], ◌∷◌, ◌++◌, Option, Some, None}
use Rattle.imap_types.specs.Keywords.{to_lower_case}

infixr 7 ◌⌢◌
-- A language is a fact about texts. A text of `P ⌢ Q` is a text of P followed by a text of Q.
abbrev pub ◌⌢◌ : (List ℕ → Type 0) → (List ℕ → Type 0) → List ℕ → Type 0
(P ⌢ Q) text = (front back : List ℕ) × P front × Q back × (text ≡ front ++ back)

-- Only this text.
abbrev pub exactly : List ℕ → List ℕ → Type 0
exactly this text = text ≡ this

-- The empty text.
abbrev pub nothing : List ℕ → Type 0
nothing = exactly []

-- One space (RFC 9051, section 9, SP).
abbrev pub sp : List ℕ → Type 0
sp = exactly (codes " ")

-- The end of a line (RFC 9051, section 9, CRLF).
abbrev pub crlf : List ℕ → Type 0
crlf = exactly (codes "\r\n")

-- A word without ASCII case (RFC 9051, section 9, note 1).
abbrev pub word : List ℕ → List ℕ → Type 0
word letters text = to_lower_case text ≡ to_lower_case letters

-- No text at all.
abbrev pub never : List ℕ → Type 0
never text = ⊥

-- A text between parentheses.
abbrev pub in_parens : (List ℕ → Type 0) → List ℕ → Type 0
in_parens P = exactly (codes "(") ⌢ P ⌢ exactly (codes ")")

-- A value after a space, or nothing.
abbrev pub optional : {A : Type 0} → (A → List ℕ → Type 0) → Option A → List ℕ → Type 0
optional form None = nothing
optional form (Some value) = sp ⌢ form value

-- Values, each after a separator.
abbrev pub each_after : {A : Type 0} → (List ℕ → Type 0) → (A → List ℕ → Type 0) → List A → List ℕ
    → Type 0
each_after separator form [] = nothing
each_after separator form (value ∷ values) =
    separator ⌢ form value ⌢ each_after separator form values

-- One or more values, with separators between them.
abbrev pub listed : {A : Type 0} → (List ℕ → Type 0) → (A → List ℕ → Type 0) → List A → List ℕ
    → Type 0
listed separator form [] = never
listed separator form (value ∷ values) = form value ⌢ each_after separator form values

-- No values, or a list of them.
abbrev pub maybe_listed : {A : Type 0} → (List ℕ → Type 0) → (A → List ℕ → Type 0) → List A → List ℕ
    → Type 0
maybe_listed separator form [] = nothing
maybe_listed separator form (value ∷ values) = listed separator form (value ∷ values)
