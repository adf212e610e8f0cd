-- How the code reads a header field's value.

use Rattle.std.specs.Prelude.{ℕ, Bool, true, false, ◌==◌, List, [], ◌∷◌, Option, Some, None}
use Rattle.std.specs.Prelude.{if◌then◌else◌}
use Rattle.std.specs.List.{list_any}
use Rattle.mail_fields.specs.HeaderValues.{sections_of}
use Rattle.mail_fields.specs.declared.elements.Element.{Element}
use Rattle.mail_fields.specs.declared.elements.Element.TheVariants.{Blank, Comment, Octet, Quoted}
use Rattle.mail_fields.specs.declared.elements.Within.{Within}
use Rattle.mail_fields.specs.declared.elements.Within.TheVariants.{Value, QuotedString}
use Rattle.mail_fields.specs.declared.elements.Within.TheVariants.{QuotedPair, Comments}
use Rattle.mail_fields.specs.declared.elements.Within.TheVariants.{CommentPair}

-- The number of comments that a place is within.
abbrev pub depth_of : Within → ℕ
depth_of Value = 0
depth_of QuotedString = 0
depth_of QuotedPair = 0
depth_of (Comments depth) = depth
depth_of (CommentPair depth) = depth

-- The sections after a semicolon, if there is one.
abbrev pub more_sections : List Element → List (List Element)
more_sections [] = []
more_sections (semicolon ∷ elements) = sections_of elements

-- Whether the first element is a blank or a comment; whether it is this octet.
abbrev pub is_blank_first : List Element → Bool
is_blank_first [] = false
is_blank_first (Blank ∷ elements) = true
is_blank_first (Comment text ∷ elements) = true
is_blank_first (Octet octet ∷ elements) = false
is_blank_first (Quoted text ∷ elements) = false

abbrev pub is_octet_first : ℕ → List Element → Bool
is_octet_first sought [] = false
is_octet_first sought (Blank ∷ elements) = false
is_octet_first sought (Comment text ∷ elements) = false
is_octet_first sought (Octet octet ∷ elements) = octet == sought
is_octet_first sought (Quoted text ∷ elements) = false

-- The octet that an element adds to a word, if none of these stops it.
abbrev pub word_octet : List ℕ → Element → Option ℕ
word_octet stops Blank = None
word_octet stops (Comment text) = None
word_octet stops (Octet octet) =
    if list_any (λ stop. stop == octet) stops then None else Some octet
word_octet stops (Quoted text) = None
