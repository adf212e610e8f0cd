-- What a part contains by its Content-Type field (RFC 2045, section 5; RFC 2046, section 5).

use Rattle.std.specs.Prelude.{◌≡◌, ℕ, Bool, false, ◌&&◌, ◌==◌, List, [], ◌∷◌}
use Rattle.std.specs.Prelude.{codes, length}
use Rattle.std.specs.List.{list_any}
use Rattle.std.specs.Prelude.{Option, Some, None, if◌then◌else◌}
use Rattle.imap_types.specs.Keywords.{has_keyword}
use Rattle.mail_text.specs.HeaderFields.{trim_end_blanks}
use Rattle.mail_text.specs.TextSearch.{field_value}
use Rattle.mail_fields.specs.HeaderValues.{is_line_end}
use Rattle.mail_fields.specs.Parameters.{media_type_of}
use Rattle.mail_fields.specs.declared.parameters.Parameter.{Parameter}
use Rattle.mail_parts.specs.declared.content.Content.{Content}
use Rattle.mail_parts.specs.declared.content.Content.TheVariants.{Single, Message, Multipart}

-- Whether two texts are the same but for the case of ASCII letters.
abbrev pub is_same_word : List ℕ → List ℕ → Bool
is_same_word one other = has_keyword other (one ∷ [])

-- The boundary that a parameter gives, without blanks at its end, else an empty text.
abbrev pub boundary_of : Parameter → List ℕ
boundary_of parameter =
    if is_same_word (codes "boundary") parameter.name then trim_end_blanks parameter.value else []

-- The first boundary that isn't empty, else an empty text.
abbrev pub first_boundary : List Parameter → List ℕ
first_boundary [] = []
first_boundary (parameter ∷ parameters) =
    if length (boundary_of parameter) == 0 then first_boundary parameters
    else boundary_of parameter

-- A part without a type, or with one that can't be read: a text (RFC 2045, section 5.2), and in a
-- digest a message (RFC 2046, section 5.1.5).
abbrev pub untyped_content : Bool → Content
untyped_content in_digest = if in_digest then Message else Single

-- What a multipart with this subtype and boundary contains: without a boundary it is a text.
abbrev pub multipart_content : List ℕ → List ℕ → Content
multipart_content minor boundary =
    if length boundary == 0 then Single
    else Multipart boundary (is_same_word (codes "digest") minor)

-- What a part with this type contains.
abbrev pub content_of_type : List ℕ → List ℕ → List ℕ → Content
content_of_type major minor boundary =
    if is_same_word (codes "multipart") major then multipart_content minor boundary
    else (if is_same_word (codes "message") major && is_same_word (codes "rfc822") minor
    then Message else Single)

abbrev pub content_of_media : Bool → Option ((List ℕ × List ℕ) × List Parameter) → Content
content_of_media in_digest None = untyped_content in_digest
content_of_media in_digest (Some media) =
    content_of_type media.0.0 media.0.1 (first_boundary media.1)

abbrev pub content_of_value : Bool → Option (List ℕ) → Content
content_of_value in_digest None = untyped_content in_digest
content_of_value in_digest (Some value) = content_of_media in_digest (media_type_of value)

-- What a part with this header contains by the first Content-Type field.
unfoldable pub content_of : Bool → List ℕ → Content
content_of in_digest header = content_of_value in_digest (field_value (codes "Content-Type") header)

-- A boundary that can be written in quotes: no line ends, no blank at its end.
pub record IsBoundary (boundary : List ℕ) : Type 0 where
  pub has_no_line_ends : list_any is_line_end boundary ≡ false
  pub some : (length boundary == 0) ≡ false
  pub has_no_end_blanks : trim_end_blanks boundary ≡ boundary

-- The parameter that gives a boundary.
abbrev pub boundary_parameter : List ℕ → Parameter
boundary_parameter boundary = record { name = codes "boundary"; value = boundary }
