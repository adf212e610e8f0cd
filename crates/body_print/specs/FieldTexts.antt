-- The values of header fields as ENVELOPE and BODY show them (RFC 3501, section 7.4.2).

use Rattle.std.specs.Prelude.{ℕ, Bool, true, false, not, ◌&&◌, ◌==◌, List, [], ◌∷◌, ◌++◌, codes}
use Rattle.std.specs.Prelude.{length, Option, Some, None, if◌then◌else◌}
use Rattle.std.specs.List.{list_any}
use Rattle.mail_fields.specs.AddressWords.{trimmed}
use Rattle.mail_fields.specs.Parameters.{media_type_of, token_with_parameters}
use Rattle.mail_fields.specs.WordLists.{words_of}
use Rattle.mail_fields.specs.declared.parameters.Parameter.{Parameter}
use Rattle.mail_parts.specs.ContentTypes.{is_same_word}
use Rattle.mail_text.specs.TextSearch.{field_value}
use Rattle.body_print.specs.Values.{Joined, Spaced, Value, next, one}
use Rattle.body_print.specs.Values.Joined.{NoJoined}
use Rattle.body_print.specs.Values.Spaced.{JoinedNext, NoSpaced, NumberNext}
use Rattle.body_print.specs.Values.Value.{ListValue, NilValue, TextValue}

-- A value in one line: without the CRLFs that fold it. The first argument says whether a CR comes
-- before these octets.
abbrev pub unfolded_after : Bool → List ℕ → List ℕ
unfolded_after false [] = []
unfolded_after true [] = 13 ∷ []
unfolded_after false (octet ∷ octets) =
    if octet == 13 then unfolded_after true octets else octet ∷ unfolded_after false octets
unfolded_after true (octet ∷ octets) =
    if octet == 10 then unfolded_after false octets
    else (if octet == 13 then 13 ∷ unfolded_after true octets
    else 13 ∷ octet ∷ unfolded_after false octets)

-- A field's text: unfolded, and without white space at its ends.
abbrev pub field_text : List ℕ → List ℕ
field_text value = trimmed (unfolded_after false value)

-- A string, or NIL if it is empty.
abbrev pub text_or_nil : List ℕ → Value
text_or_nil text = if length text == 0 then NilValue else TextValue text

-- The first field of a name: NIL if there is none; and NIL also if its text is empty.
abbrev pub field_or_nil : Option (List ℕ) → Value
field_or_nil None = NilValue
field_or_nil (Some value) = TextValue (field_text value)

abbrev pub some_field_or_nil : Option (List ℕ) → Value
some_field_or_nil None = NilValue
some_field_or_nil (Some value) = text_or_nil (field_text value)

-- Parameters: NIL, or a list of names, each with its value after it.
abbrev pub further_parameters : List Parameter → Spaced
further_parameters [] = NoSpaced
further_parameters (parameter ∷ parameters) =
    next (TextValue parameter.name) (next (TextValue parameter.value)
    (further_parameters parameters))

abbrev pub parameters_value : List Parameter → Value
parameters_value [] = NilValue
parameters_value (parameter ∷ parameters) =
    ListValue (one (TextValue parameter.name)) (next (TextValue parameter.value)
    (further_parameters parameters))

-- A text's parameters: one without a charset is US-ASCII (RFC 2045, section 5.2).
abbrev pub is_charset : Parameter → Bool
is_charset parameter = is_same_word (codes "charset") parameter.name

abbrev pub us_ascii : Parameter
us_ascii = record { name = codes "charset"; value = codes "us-ascii" }

abbrev pub shown_parameters : Bool → List Parameter → List Parameter
shown_parameters is_text parameters =
    if is_text && not (list_any is_charset parameters) then parameters ++ us_ascii ∷ []
    else parameters

-- A Content-Disposition: NIL, or a list of its token and its parameters.
abbrev pub disposition_of : Option (List ℕ × List Parameter) → Value
disposition_of None = NilValue
disposition_of (Some found) =
    ListValue (one (TextValue found.0)) (next (parameters_value found.1) NoSpaced)

abbrev pub disposition_value : Option (List ℕ) → Value
disposition_value None = NilValue
disposition_value (Some value) = disposition_of (token_with_parameters value)

-- A Content-Language: NIL, or a list of its words.
abbrev pub further_words : List (List ℕ) → Spaced
further_words [] = NoSpaced
further_words (word ∷ words) = next (TextValue word) (further_words words)

abbrev pub words_value : List (List ℕ) → Value
words_value [] = NilValue
words_value (word ∷ words) = ListValue (one (TextValue word)) (further_words words)

abbrev pub languages_value : Option (List ℕ) → Value
languages_value None = NilValue
languages_value (Some value) = words_value (words_of value)

-- A Content-Transfer-Encoding: its token, or 7bit if it has none (RFC 2045, section 6.1).
abbrev pub encoding_in : Option (List ℕ × List Parameter) → List ℕ
encoding_in None = codes "7bit"
encoding_in (Some found) = found.0

abbrev pub encoding_of : Option (List ℕ) → List ℕ
encoding_of None = codes "7bit"
encoding_of (Some value) = encoding_in (token_with_parameters value)
