-- Types with parameters (RFC 2045, section 5.1; RFC 2183, section 2).

use Rattle.std.specs.Prelude.{ℕ, ◌||◌, ◌==◌, List, [], ◌∷◌, ◌++◌, length}
use Rattle.std.specs.Prelude.{Option, Some, None, if◌then◌else◌}
use Rattle.mail_fields.specs.HeaderValues.{after_octet, after_word, elements_of, sections_of}
use Rattle.mail_fields.specs.HeaderValues.{skip_blanks, token_stops, value_stops, word_of}
use Rattle.mail_fields.specs.declared.elements.Element.{Element}
use Rattle.mail_fields.specs.declared.elements.Element.TheVariants.{Blank, Comment, Octet, Quoted}
use Rattle.mail_fields.specs.declared.parameters.Parameter.{Parameter}

-- The first token.
abbrev pub token_of : List Element → List ℕ
token_of elements = word_of token_stops (skip_blanks elements)

-- The elements after a token and an octet, with blanks around them, if there are both.
abbrev pub after_token_and : ℕ → List Element → Option (List Element)
after_token_and octet elements =
    after_octet octet (skip_blanks (after_word token_stops (skip_blanks elements)))

-- A type and a subtype with a slash between them, if there are all three.
abbrev pub type_names_from : List ℕ → Option (List Element) → Option (List ℕ × List ℕ)
type_names_from major None = None
type_names_from major (Some rest) =
    if (length major == 0) || (length (token_of rest) == 0) then None
    else Some (major, token_of rest)

abbrev pub type_names_of : List Element → Option (List ℕ × List ℕ)
type_names_of section = type_names_from (token_of section) (after_token_and 47 section)

-- A parameter's value: a quoted string, or octets up to a blank.
abbrev pub value_of : List Element → List ℕ
value_of [] = []
value_of (Blank ∷ elements) = []
value_of (Comment text ∷ elements) = []
value_of (Octet octet ∷ elements) = word_of value_stops (Octet octet ∷ elements)
value_of (Quoted text ∷ elements) = text

-- A section as a parameter, if it has a token, "=" and what follows it.
abbrev pub parameter_from : List ℕ → Option (List Element) → List Parameter
parameter_from name None = []
parameter_from name (Some rest) =
    if length name == 0 then []
    else record { name = name; value = value_of (skip_blanks rest) } ∷ []

abbrev pub parameter_of : List Element → List Parameter
parameter_of section = parameter_from (token_of section) (after_token_and 61 section)

-- The parameters of sections, in their order.
abbrev pub parameters_of : List (List Element) → List Parameter
parameters_of [] = []
parameters_of (section ∷ sections) = parameter_of section ++ parameters_of sections

-- The type and subtype in the first section of a value, and the parameters in the others, if there
-- are type and subtype.
abbrev pub with_parameters : {A : Type 0} → Option A → List (List Element)
    → Option (A × List Parameter)
with_parameters None sections = None
with_parameters (Some names) sections = Some (names, parameters_of sections)

abbrev pub media_type_in : List (List Element) → Option ((List ℕ × List ℕ) × List Parameter)
media_type_in [] = None
media_type_in (section ∷ sections) = with_parameters (type_names_of section) sections

abbrev pub media_type_of : List ℕ → Option ((List ℕ × List ℕ) × List Parameter)
media_type_of value = media_type_in (sections_of (elements_of value))

-- The token in the first section of a value, and the parameters in the others.
abbrev pub token_if_any : List ℕ → Option (List ℕ)
token_if_any token = if length token == 0 then None else Some token

abbrev pub token_with_parameters_in : List (List Element) → Option (List ℕ × List Parameter)
token_with_parameters_in [] = None
token_with_parameters_in (section ∷ sections) =
    with_parameters (token_if_any (token_of section)) sections

abbrev pub token_with_parameters : List ℕ → Option (List ℕ × List Parameter)
token_with_parameters value = token_with_parameters_in (sections_of (elements_of value))
