-- The bodies of messages and of parts (RFC 3501, section 7.4.2; RFC 9051, section 7.5.2).

use Rattle.std.specs.Prelude.{ℕ, ◌+◌, ◌-◌, Bool, true, false, ◌&&◌, ◌==◌, List, [], ◌∷◌, codes}
use Rattle.std.specs.Prelude.{drop, length, take, Option, Some, None, if◌then◌else◌}
use Rattle.mail_fields.specs.Parameters.{media_type_of}
use Rattle.mail_fields.specs.declared.parameters.Parameter.{Parameter}
use Rattle.mail_parts.specs.ContentTypes.{is_same_word}
use Rattle.mail_parts.specs.declared.part.Part.{Part}
use Rattle.mail_parts.specs.declared.part.PartKind.{PartKind}
use Rattle.mail_parts.specs.declared.part.PartKind.TheVariants.{Message, Multipart, Opaque, Single}
use Rattle.mail_text.specs.TextSearch.{field_value}
use Rattle.body_print.specs.Envelopes.{envelope_of}
use Rattle.body_print.specs.FieldTexts.{disposition_value, encoding_of, languages_value}
use Rattle.body_print.specs.FieldTexts.{parameters_value, shown_parameters, some_field_or_nil}
use Rattle.body_print.specs.PartNodes.{PartNode, PartNodes, nodes_of}
use Rattle.body_print.specs.PartNodes.PartNode.{NodeOf}
use Rattle.body_print.specs.PartNodes.PartNodes.{NoNodes, NodesFrom}
use Rattle.body_print.specs.Values.{Joined, Spaced, Value, next, one}
use Rattle.body_print.specs.Values.Joined.{JoinedFrom, NoJoined}
use Rattle.body_print.specs.Values.Spaced.{JoinedNext, NoSpaced, NumberNext}
use Rattle.body_print.specs.Values.Value.{ListValue, NilValue, TextValue}

-- The octets between two places; a part's header and body.
abbrev pub octets_between : ℕ → ℕ → List ℕ → List ℕ
octets_between start end text = take (end - start) (drop start text)

abbrev pub header_in : List ℕ → Part → List ℕ
header_in text part = octets_between part.start part.body text

abbrev pub body_in : List ℕ → Part → List ℕ
body_in text part = octets_between part.body part.end text

-- The number of CRLFs; the first argument says whether a CR comes before these octets.
abbrev pub line_count_after : Bool → List ℕ → ℕ
line_count_after after_cr [] = 0
line_count_after after_cr (octet ∷ octets) =
    (if after_cr && (octet == 10) then 1 else 0) + line_count_after (octet == 13) octets

abbrev pub line_count : List ℕ → ℕ
line_count octets = line_count_after false octets

-- A part's type, subtype and parameters, by its kind and its Content-Type, if that can be read.
abbrev pub Media : Type 0
Media = (List ℕ × List ℕ) × List Parameter

abbrev pub media_in : Option (List ℕ) → Option Media
media_in None = None
media_in (Some value) = media_type_of value

abbrev pub plain_media : List ℕ → List ℕ → Media
plain_media major minor = ((major, minor), [])

abbrev pub plain_text : Media
plain_text = plain_media (codes "text") (codes "plain")

abbrev pub media_or : Media → Option Media → Media
media_or default None = default
media_or default (Some media) = media

-- A part that is too deep keeps its parameters.
abbrev pub opaque_media : Media → Media
opaque_media media = ((codes "application", codes "octet-stream"), media.1)

-- A multipart without boundary is a text (RFC 2045, section 5.2).
abbrev pub single_media : Media → Media
single_media media = if is_same_word (codes "multipart") media.0.0 then plain_text else media

abbrev pub media_by_kind : PartKind → Option Media → Media
media_by_kind Single media = single_media (media_or plain_text media)
media_by_kind Message media = media_or (plain_media (codes "message") (codes "rfc822")) media
media_by_kind Multipart media =
    media_or (plain_media (codes "multipart") (codes "mixed")) media
media_by_kind Opaque media = opaque_media (media_or plain_text media)

abbrev pub media_of : Part → List ℕ → Media
media_of part header =
    media_by_kind part.kind (media_in (field_value (codes "Content-Type") header))

abbrev pub is_text : Media → Bool
is_text media = is_same_word (codes "text") media.0.0

-- Extension data after a multipart's parameters, and those of all parts (RFC 3501, section 7.4.2).
abbrev pub with_placement : List ℕ → Spaced → Spaced
with_placement header more =
    next (disposition_value (field_value (codes "Content-Disposition") header))
    (next (languages_value (field_value (codes "Content-Language") header))
    (next (some_field_or_nil (field_value (codes "Content-Location") header)) more))

abbrev pub extension : Bool → List ℕ → Spaced
extension extended header =
    if extended
    then next (some_field_or_nil (field_value (codes "Content-MD5") header))
    (with_placement header NoSpaced)
    else NoSpaced

abbrev pub multipart_extension : Bool → List ℕ → Media → Spaced
multipart_extension extended header media =
    if extended then next (parameters_value media.1) (with_placement header NoSpaced) else NoSpaced

-- The fields of a part that is no multipart, then its size.
abbrev pub descriptions : List ℕ → Spaced → Spaced
descriptions header more =
    next (some_field_or_nil (field_value (codes "Content-ID") header))
    (next (some_field_or_nil (field_value (codes "Content-Description") header))
    (next (TextValue (encoding_of (field_value (codes "Content-Transfer-Encoding") header))) more))

abbrev pub part_items : List ℕ → List ℕ → Media → Spaced → Spaced
part_items header body media more =
    next (TextValue media.0.1)
    (next (parameters_value (shown_parameters (is_text media) media.1))
    (descriptions header (NumberNext (length body) more)))

abbrev pub part_value : List ℕ → List ℕ → Media → Spaced → Value
part_value header body media more =
    ListValue (one (TextValue media.0.0)) (part_items header body media more)

-- A part without parts: a text's lines are counted.
abbrev pub with_lines : Bool → List ℕ → Spaced → Spaced
with_lines is_text body more = if is_text then NumberNext (line_count body) more else more

abbrev pub single_value : Bool → List ℕ → List ℕ → Media → Value
single_value extended header body media =
    part_value header body media (with_lines (is_text media) body (extension extended header))

-- A message: the envelope of the message in it, that message's body, and the number of lines.
abbrev pub inner_header : List ℕ → PartNodes → List ℕ
inner_header text NoNodes = []
inner_header text (NodesFrom (NodeOf part inner) nodes) = header_in text part

abbrev pub message_value : Bool → List ℕ → List ℕ → Media → List ℕ → Joined → Value
message_value extended header body media inner bodies =
    part_value header body media (next (envelope_of inner)
    (JoinedNext bodies (NumberNext (line_count body) (extension extended header))))

-- A multipart: the bodies of its parts, and its subtype. One without parts shows an empty text.
abbrev pub empty_text : Bool → Value
empty_text extended = single_value extended [] [] plain_text

abbrev pub or_empty : Bool → Joined → Joined
or_empty extended NoJoined = one (empty_text extended)
or_empty extended (JoinedFrom value bodies) = JoinedFrom value bodies

abbrev pub multipart_value : Bool → List ℕ → Media → Joined → Value
multipart_value extended header media bodies =
    ListValue (or_empty extended bodies)
    (next (TextValue media.0.1) (multipart_extension extended header media))

-- The body of a part, with extension data if `extended`; `bodies` are those of the parts in it.
abbrev pub body_by_kind : PartKind → Bool → List ℕ → List ℕ → Media → List ℕ → Joined → Value
body_by_kind Single extended header body media inner bodies =
    single_value extended header body media
body_by_kind Opaque extended header body media inner bodies =
    single_value extended header body media
body_by_kind Message extended header body media inner bodies =
    message_value extended header body media inner bodies
body_by_kind Multipart extended header body media inner bodies =
    multipart_value extended header media bodies

abbrev mutual
  pub body_of_node : Bool → List ℕ → PartNode → Value
  body_of_node extended text (NodeOf part inner) =
      body_by_kind part.kind extended (header_in text part) (body_in text part)
      (media_of part (header_in text part)) (inner_header text inner)
      (bodies_of_nodes extended text inner)

  pub bodies_of_nodes : Bool → List ℕ → PartNodes → Joined
  bodies_of_nodes extended text NoNodes = NoJoined
  bodies_of_nodes extended text (NodesFrom node nodes) =
      JoinedFrom (body_of_node extended text node) (bodies_of_nodes extended text nodes)

-- The bodies of parts, each with those of the parts in it.
abbrev pub bodies_of : Bool → List ℕ → List Part → Joined
bodies_of extended text parts = bodies_of_nodes extended text (nodes_of parts)

-- BODY of a text, or BODYSTRUCTURE if `extended`: the body of the first part, which is the whole
-- text, with the others in it.
abbrev pub body_of : Bool → List ℕ → List Part → Value
body_of extended text [] = NilValue
body_of extended text (part ∷ parts) = body_of_node extended text (NodeOf part (nodes_of parts))
