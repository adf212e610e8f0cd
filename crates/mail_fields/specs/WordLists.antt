-- Lists of words between commas (RFC 3282, section 2).

use Rattle.std.specs.Prelude.{ℕ, Bool, true, ◌==◌, List, [], ◌∷◌, ◌++◌, length, if◌then◌else◌}
use Rattle.mail_fields.specs.AddressWords.{octets_of}
use Rattle.mail_fields.specs.HeaderValues.{elements_of}
use Rattle.mail_fields.specs.declared.elements.Element.{Element}
use Rattle.mail_fields.specs.declared.elements.Element.TheVariants.{Blank, Comment, Octet, Quoted}

-- A word ends before blanks, comments, quoted strings and commas (44).
abbrev pub ends_word : Element → Bool
ends_word Blank = true
ends_word (Comment text) = true
ends_word (Octet octet) = octet == 44
ends_word (Quoted text) = true

abbrev pub some_word : List ℕ → List (List ℕ)
some_word word = if length word == 0 then [] else word ∷ []

-- The words of elements that aren't empty, the first of which begins with these octets.
abbrev pub words_from : List ℕ → List Element → List (List ℕ)
words_from word [] = some_word word
words_from word (element ∷ elements) =
    if ends_word element then some_word word ++ words_from [] elements
    else words_from (word ++ octets_of element) elements

abbrev pub words_of : List ℕ → List (List ℕ)
words_of value = words_from [] (elements_of value)
