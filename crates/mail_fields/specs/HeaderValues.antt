-- The elements of a structured header field's value (RFC 5322, section 3.2; RFC 2045, section 5.1).

use Rattle.std.specs.Prelude.{ℕ, ◌+◌, ◌-◌, Bool, false, ◌==◌, ◌&&◌, ◌||◌, List, [], ◌∷◌, ◌++◌}
use Rattle.std.specs.Prelude.{codes, Option, Some, None, if◌then◌else◌}
use Rattle.std.specs.List.{list_any}
use Rattle.mail_fields.specs.declared.elements.Element.{Element}
use Rattle.mail_fields.specs.declared.elements.Element.TheVariants.{Blank, Comment, Octet, Quoted}
use Rattle.mail_fields.specs.declared.elements.Within.{Within}
use Rattle.mail_fields.specs.declared.elements.Within.TheVariants.{Value, QuotedString}
use Rattle.mail_fields.specs.declared.elements.Within.TheVariants.{QuotedPair, Comments}
use Rattle.mail_fields.specs.declared.elements.Within.TheVariants.{CommentPair}

-- A blank or a line's end (RFC 5322, section 3.2.2).
abbrev pub is_space : ℕ → Bool
is_space octet = (octet == 32) || ((octet == 9) || ((octet == 13) || (octet == 10)))

abbrev pub is_line_end : ℕ → Bool
is_line_end octet = (octet == 13) || (octet == 10)

-- The number of comments after an octet of this number of comments, one within another.
abbrev pub depth_after : ℕ → ℕ → ℕ
depth_after depth octet =
    if octet == 40 then depth + 1 else (if octet == 41 then depth - 1 else depth)

-- The elements of a value, from a place on that is within something: blanks; comments and quoted
-- strings, `text` being what of one comes before the place, without line ends and with each quoted
-- pair as its second octet; and all other octets. What isn't ended is ended by the value's end.
abbrev pub elements_within : Within → List ℕ → List ℕ → List Element
elements_within Value text [] = []
elements_within QuotedString text [] = Quoted text ∷ []
elements_within QuotedPair text [] = Quoted (text ++ 92 ∷ []) ∷ []
elements_within (Comments depth) text [] = Comment text ∷ []
elements_within (CommentPair depth) text [] = Comment (text ++ 92 ∷ []) ∷ []
elements_within Value text (octet ∷ octets) =
    if octet == 34 then elements_within QuotedString [] octets
    else (if octet == 40 then elements_within (Comments 1) [] octets
    else (if is_space octet then Blank ∷ elements_within Value [] octets
    else Octet octet ∷ elements_within Value [] octets))
elements_within QuotedString text (octet ∷ octets) =
    if octet == 92 then elements_within QuotedPair text octets
    else (if octet == 34 then Quoted text ∷ elements_within Value [] octets
    else (if is_line_end octet then elements_within QuotedString text octets
    else elements_within QuotedString (text ++ octet ∷ []) octets))
elements_within QuotedPair text (octet ∷ octets) =
    elements_within QuotedString (text ++ octet ∷ []) octets
elements_within (Comments depth) text (octet ∷ octets) =
    if octet == 92 then elements_within (CommentPair depth) text octets
    else (if (octet == 41) && (depth == 1) then Comment text ∷ elements_within Value [] octets
    else (if is_line_end octet then elements_within (Comments depth) text octets
    else elements_within (Comments (depth_after depth octet)) (text ++ octet ∷ []) octets))
elements_within (CommentPair depth) text (octet ∷ octets) =
    elements_within (Comments depth) (text ++ octet ∷ []) octets

abbrev pub elements_of : List ℕ → List Element
elements_of octets = elements_within Value [] octets

-- Elements in sections: each ends before a semicolon.
abbrev pub with_element : Element → List (List Element) → List (List Element)
with_element element [] = (element ∷ []) ∷ []
with_element element (section ∷ sections) = (element ∷ section) ∷ sections

abbrev pub is_semicolon : Element → Bool
is_semicolon Blank = false
is_semicolon (Comment text) = false
is_semicolon (Octet octet) = octet == 59
is_semicolon (Quoted text) = false

abbrev pub sections_of : List Element → List (List Element)
sections_of [] = [] ∷ []
sections_of (element ∷ elements) =
    if is_semicolon element then [] ∷ sections_of elements
    else with_element element (sections_of elements)

-- Elements without the blanks and comments at their beginning.
abbrev pub skip_blanks : List Element → List Element
skip_blanks [] = []
skip_blanks (Blank ∷ elements) = skip_blanks elements
skip_blanks (Comment text ∷ elements) = skip_blanks elements
skip_blanks (Octet octet ∷ elements) = Octet octet ∷ elements
skip_blanks (Quoted text ∷ elements) = Quoted text ∷ elements

-- The octets at the beginning that none of these stops, and the elements after them.
abbrev pub word_of : List ℕ → List Element → List ℕ
word_of stops [] = []
word_of stops (Blank ∷ elements) = []
word_of stops (Comment text ∷ elements) = []
word_of stops (Octet octet ∷ elements) =
    if list_any (λ stop. stop == octet) stops then [] else octet ∷ word_of stops elements
word_of stops (Quoted text ∷ elements) = []

abbrev pub after_word : List ℕ → List Element → List Element
after_word stops [] = []
after_word stops (Blank ∷ elements) = Blank ∷ elements
after_word stops (Comment text ∷ elements) = Comment text ∷ elements
after_word stops (Octet octet ∷ elements) =
    if list_any (λ stop. stop == octet) stops then Octet octet ∷ elements
    else after_word stops elements
after_word stops (Quoted text ∷ elements) = Quoted text ∷ elements

-- What follows this octet, if the elements begin with it.
abbrev pub after_octet : ℕ → List Element → Option (List Element)
after_octet sought [] = None
after_octet sought (Blank ∷ elements) = None
after_octet sought (Comment text ∷ elements) = None
after_octet sought (Octet octet ∷ elements) = if octet == sought then Some elements else None
after_octet sought (Quoted text ∷ elements) = None

-- What ends a token besides blanks, comments and quoted strings (RFC 2045, section 5.1, tspecials);
-- and what ends a parameter's value that isn't quoted: other tspecials may be in it.
abbrev pub token_stops : List ℕ
token_stops = codes ")<>@,;:\\/[]?="

abbrev pub value_stops : List ℕ
value_stops = codes ")"
