use Rattle.std.proofs.Common.{◌≡◌, ℕ, ◌+◌, ◌-◌, ◌<◌, ◌≤◌, ◌^◌, Bool, true, false, not, ◌&&◌, ◌||◌, ◌==◌, List, [], ◌∷◌, ◌++◌, length, take, drop, codes, cond, Option, None, Some, ap, sym, arith, ◌∙◌, refl, inl, inr}
use Rattle.std.proofs.lemmas.Bool.{cases_Bool}
use Rattle.std.proofs.lemmas.List.{length-append, length-take, length-drop}
use Rattle.std.specs.Fmt.{decimal}
use Rattle.std.specs.List.{list_all, list_any}
use Rattle.mail_fields.specs.FieldValues.{addresses_named}
use Rattle.mail_fields.specs.Parameters.{token_with_parameters}
use Rattle.mail_fields.specs.WordLists.{words_of}
use Rattle.mail_fields.specs.declared.address_list.Address.{Address}
use Rattle.mail_fields.specs.declared.address_list.Address.TheVariants.{GroupEnd, GroupStart, Mailbox}
use Rattle.mail_fields.specs.declared.parameters.Parameter.{Parameter}
use Rattle.mail_parts.specs.declared.part.Part.{Part}
use Rattle.mail_parts.specs.declared.part.PartKind.{PartKind}
use Rattle.mail_parts.specs.declared.part.PartKind.TheVariants.{Message, Multipart, Opaque, Single}
use Rattle.mail_text.specs.TextSearch.{field_value}
use Rattle.body_print.specs.Bodies.{Media, bodies_of_nodes, body_by_kind, body_in, body_of, body_of_node, descriptions, empty_text, extension, header_in, inner_header, is_text, line_count, line_count_after, media_of, message_value, multipart_extension, multipart_value, or_empty, part_items, part_value, plain_text, single_value, with_lines, with_placement}
use Rattle.body_print.specs.Envelopes.{address_list, address_value, address_values, envelope_of, field_named, or_senders, with_ids, with_recipients, with_senders}
use Rattle.body_print.specs.FieldTexts.{disposition_of, disposition_value, encoding_of, field_or_nil, further_parameters, further_words, languages_value, parameters_value, shown_parameters, some_field_or_nil, field_text, text_or_nil, words_value}
use Rattle.body_print.specs.PartNodes.{PartNode, PartNodes, nodes_of}
use Rattle.body_print.specs.PartNodes.PartNode.{NodeOf}
use Rattle.body_print.specs.PartNodes.PartNodes.{NoNodes, NodesFrom}
use Rattle.body_print.specs.ReadBack.{AreBounded, AreItemsBounded, IsBounded}
use Rattle.body_print.specs.Values.{Joined, Spaced, Value, escaped, is_quotable, joined_text, literal, next, one, quoted, spaced_text, string_text, text_of}
use Rattle.body_print.specs.Values.Joined.{JoinedFrom, NoJoined}
use Rattle.body_print.specs.Values.Spaced.{JoinedNext, NoSpaced, NumberNext}
use Rattle.body_print.specs.Values.Value.{ListValue, NilValue, TextValue}

-- all numbers of a value are below 2 ^ 64
abbrev mutual
  HasNumbers : Value → Type 0
  HasNumbers NilValue = Unit {0}
  HasNumbers (TextValue octets) = Unit {0}
  HasNumbers (ListValue joined spaced) = HaveNumbers joined × HaveItemNumbers spaced

  HaveNumbers : Joined → Type 0
  HaveNumbers NoJoined = Unit {0}
  HaveNumbers (JoinedFrom value joined) = HasNumbers value × HaveNumbers joined

  HaveItemNumbers : Spaced → Type 0
  HaveItemNumbers NoSpaced = Unit {0}
  HaveItemNumbers (JoinedNext joined spaced) = HaveNumbers joined × HaveItemNumbers spaced
  HaveItemNumbers (NumberNext number spaced) = (number < 2 ^ 64) × HaveItemNumbers spaced

-- a string's text is no shorter than the string
escaped-length : (xs : List ℕ) → length xs ≤ length (escaped xs)
escaped-length [] = omega arith
escaped-length (x ∷ xs) = let h = escaped-length xs in elim (cases_Bool ((x == 34) || (x == 92))) [
  | inl t ↦ rw t (omega (arith, h))
  | inr f ↦ rw f (omega (arith, h))
]

string-length : (xs : List ℕ) → length xs ≤ length (string_text xs)
string-length xs = elim (cases_Bool (list_all is_quotable xs)) [
  | inl t ↦ rw t (let h = escaped-length xs in let a = length-append (escaped xs) (34 ∷ []) in omega (arith, h, a))
  | inr f ↦ rw f (let a = length-append (decimal (length xs)) (125 ∷ 13 ∷ 10 ∷ xs) in omega (arith, a))
]

list-length : (j : Joined) (s : Spaced) → length (text_of (ListValue j s)) ≡ 1 + (length (joined_text j) + (length (spaced_text s) + 1))
list-length j s = let a = length-append (joined_text j) (spaced_text s ++ 41 ∷ []) in let b = length-append (spaced_text s) (41 ∷ []) in omega (arith, a, b)

-- a value is bounded if its numbers and its text's length are
mutual
  value_bounded : (v : Value) → HasNumbers v → length (text_of v) < 2 ^ 64 → IsBounded v
  value_bounded NilValue n l = tt
  value_bounded (TextValue xs) n l = let k = string-length xs in omega (arith, k, l)
  value_bounded (ListValue j s) n l = let e = list-length j s in (joined_bounded j n.0 (omega (arith, e, l)), items_bounded s n.1 (omega (arith, e, l)))

  joined_bounded : (j : Joined) → HaveNumbers j → length (joined_text j) < 2 ^ 64 → AreBounded j
  joined_bounded NoJoined n l = tt
  joined_bounded (JoinedFrom v j) n l = let e = length-append (text_of v) (joined_text j) in (value_bounded v n.0 (omega (arith, e, l)), joined_bounded j n.1 (omega (arith, e, l)))

  items_bounded : (s : Spaced) → HaveItemNumbers s → length (spaced_text s) < 2 ^ 64 → AreItemsBounded s
  items_bounded NoSpaced n l = tt
  items_bounded (JoinedNext j s) n l = let e = length-append (joined_text j) (spaced_text s) in (joined_bounded j n.0 (omega (arith, e, l)), items_bounded s n.1 (omega (arith, e, l)))
  items_bounded (NumberNext m s) n l = let e = length-append (decimal m) (spaced_text s) in (n.0, items_bounded s n.1 (omega (arith, e, l)))

-- the numbers of envelopes: they have none
in_text_or_nil : (xs : List ℕ) → HasNumbers (text_or_nil xs)
in_text_or_nil xs = elim (cases_Bool (length xs == 0)) [ inl t ↦ rw t tt | inr f ↦ rw f tt ]

in_field : (o : Option (List ℕ)) → HasNumbers (field_or_nil o)
in_field None = tt
in_field (Some value) = tt

in_some_field : (o : Option (List ℕ)) → HasNumbers (some_field_or_nil o)
in_some_field None = tt
in_some_field (Some value) = in_text_or_nil (field_text value)

in_address : (a : Address) → HasNumbers (address_value a)
in_address (Mailbox m) = ((in_text_or_nil m.name, tt), ((in_text_or_nil m.route, tt), ((tt, tt), ((tt, tt), tt))))
in_address (GroupStart name) = ((tt, tt), ((tt, tt), ((tt, tt), ((tt, tt), tt))))
in_address GroupEnd = ((tt, tt), ((tt, tt), ((tt, tt), ((tt, tt), tt))))

in_addresses : (list : List Address) → HaveNumbers (address_values list)
in_addresses [] = tt
in_addresses (a ∷ list) = (in_address a, in_addresses list)

in_address_list : (list : List Address) → HasNumbers (address_list list)
in_address_list list = elim (cases_Bool (length list == 0)) [ inl t ↦ rw t tt | inr f ↦ rw f (in_addresses list, tt) ]

in_named : (name header : List ℕ) → HaveNumbers (one (field_named name header))
in_named name header = (in_field (field_value name header), tt)

in_list_named : (name header : List ℕ) → HaveNumbers (one (address_list (addresses_named name header)))
in_list_named name header = (in_address_list (addresses_named name header), tt)

in_or_senders : (name header : List ℕ) → HaveNumbers (one (address_list (or_senders (addresses_named (codes "From") header) (addresses_named name header))))
in_or_senders name header = (in_address_list (or_senders (addresses_named (codes "From") header) (addresses_named name header)), tt)

in_ids : (header : List ℕ) → HaveItemNumbers (with_ids header NoSpaced)
in_ids header = (in_named (codes "In-Reply-To") header, (in_named (codes "Message-ID") header, tt))

in_recipients : (header : List ℕ) → HaveItemNumbers (with_recipients header (with_ids header NoSpaced))
in_recipients header = (in_list_named (codes "To") header, (in_list_named (codes "Cc") header, (in_list_named (codes "Bcc") header, in_ids header)))

in_envelope : (header : List ℕ) → HasNumbers (envelope_of header)
in_envelope header = (
  in_named (codes "Date") header,
  (in_named (codes "Subject") header, (in_list_named (codes "From") header, (in_or_senders (codes "Sender") header, (in_or_senders (codes "Reply-To") header, in_recipients header)))),
)

pub envelope_bounded : (header : List ℕ) → length (text_of (envelope_of header)) < 2 ^ 64 → IsBounded (envelope_of header)
envelope_bounded header l = value_bounded (envelope_of header) (in_envelope header) l

-- the numbers of bodies: lengths of their parts, and numbers of lines
in_further : (ps : List Parameter) → HaveItemNumbers (further_parameters ps)
in_further [] = tt
in_further (p ∷ ps) = ((tt, tt), ((tt, tt), in_further ps))

in_parameters : (ps : List Parameter) → HasNumbers (parameters_value ps)
in_parameters [] = tt
in_parameters (p ∷ ps) = ((tt, tt), ((tt, tt), in_further ps))

in_disposition_of : (o : Option (List ℕ × List Parameter)) → HasNumbers (disposition_of o)
in_disposition_of None = tt
in_disposition_of (Some found) = ((tt, tt), ((in_parameters found.1, tt), tt))

in_disposition : (o : Option (List ℕ)) → HasNumbers (disposition_value o)
in_disposition None = tt
in_disposition (Some value) = in_disposition_of (token_with_parameters value)

in_further_words : (ws : List (List ℕ)) → HaveItemNumbers (further_words ws)
in_further_words [] = tt
in_further_words (w ∷ ws) = ((tt, tt), in_further_words ws)

in_words : (ws : List (List ℕ)) → HasNumbers (words_value ws)
in_words [] = tt
in_words (w ∷ ws) = ((tt, tt), in_further_words ws)

in_languages : (o : Option (List ℕ)) → HasNumbers (languages_value o)
in_languages None = tt
in_languages (Some value) = in_words (words_of value)

in_some_named : (name header : List ℕ) → HaveNumbers (one (some_field_or_nil (field_value name header)))
in_some_named name header = (in_some_field (field_value name header), tt)

in_placement : (header : List ℕ) (more : Spaced) → HaveItemNumbers more → HaveItemNumbers (with_placement header more)
in_placement header more n = ((in_disposition (field_value (codes "Content-Disposition") header), tt), ((in_languages (field_value (codes "Content-Language") header), tt), (in_some_named (codes "Content-Location") header, n)))

in_extension : (extended : Bool) (header : List ℕ) → HaveItemNumbers (extension extended header)
in_extension true header = (in_some_named (codes "Content-MD5") header, in_placement header NoSpaced tt)
in_extension false header = tt

in_multipart_extension : (extended : Bool) (header : List ℕ) (media : Media) → HaveItemNumbers (multipart_extension extended header media)
in_multipart_extension true header media = ((in_parameters media.1, tt), in_placement header NoSpaced tt)
in_multipart_extension false header media = tt

in_part : (header body : List ℕ) (media : Media) (more : Spaced) → length body < 2 ^ 64 → HaveItemNumbers more → HasNumbers (part_value header body media more)
in_part header body media more l n = (
  (tt, tt),
  ((tt, tt), ((in_parameters (shown_parameters (is_text media) media.1), tt), (in_some_named (codes "Content-ID") header, (in_some_named (codes "Content-Description") header, ((tt, tt), (l, n)))))),
)

line_count_after-le : (after : Bool) (xs : List ℕ) → line_count_after after xs ≤ length xs
line_count_after-le after [] = omega arith
line_count_after-le after (x ∷ xs) = let h = line_count_after-le (x == 13) xs in elim (cases_Bool (after && (x == 10))) [
  | inl t ↦ rw t (omega (arith, h))
  | inr f ↦ rw f (omega (arith, h))
]

lines_below : (body : List ℕ) → length body < 2 ^ 64 → line_count body < 2 ^ 64
lines_below body l = let h = line_count_after-le false body in omega (arith, h, l)

in_lines : (is_text : Bool) (body : List ℕ) (more : Spaced) → length body < 2 ^ 64 → HaveItemNumbers more → HaveItemNumbers (with_lines is_text body more)
in_lines true body more l n = (lines_below body l, n)
in_lines false body more l n = n

in_single : (extended : Bool) (header body : List ℕ) (media : Media) → length body < 2 ^ 64 → HasNumbers (single_value extended header body media)
in_single extended header body media l = in_part header body media (with_lines (is_text media) body (extension extended header)) l (in_lines (is_text media) body (extension extended header) l (in_extension extended header))

in_or_empty : (extended : Bool) (j : Joined) → HaveNumbers j → HaveNumbers (or_empty extended j)
in_or_empty extended NoJoined n = (in_single extended [] [] plain_text (omega arith), tt)
in_or_empty extended (JoinedFrom v j) n = n

in_kind : (kind : PartKind) (extended : Bool) (header body : List ℕ) (media : Media) (inner : List ℕ) (bodies : Joined) → length body < 2 ^ 64 → HaveNumbers bodies → HasNumbers (body_by_kind kind extended header body media inner bodies)
in_kind Single extended header body media inner bodies l n = in_single extended header body media l
in_kind Opaque extended header body media inner bodies l n = in_single extended header body media l
in_kind Message extended header body media inner bodies l n = in_part header body media (next (envelope_of inner) (JoinedNext bodies (NumberNext (line_count body) (extension extended header)))) l ((in_envelope inner, tt), (n, (lines_below body l, in_extension extended header)))
in_kind Multipart extended header body media inner bodies l n = (in_or_empty extended bodies n, ((tt, tt), in_multipart_extension extended header media))

body_below : (text : List ℕ) (p : Part) → length text < 2 ^ 64 → length (body_in text p) < 2 ^ 64
body_below text p l = let a = length-take (p.end - p.body) (drop p.body text) in let b = length-drop p.body text in omega (arith, a, b, l)

mutual
  in_node : (extended : Bool) (text : List ℕ) (node : PartNode) → length text < 2 ^ 64 → HasNumbers (body_of_node extended text node)
  in_node extended text (NodeOf p inner) l = in_kind p.kind extended (header_in text p) (body_in text p) (media_of p (header_in text p)) (inner_header text inner) (bodies_of_nodes extended text inner) (body_below text p l) (in_nodes extended text inner l)

  in_nodes : (extended : Bool) (text : List ℕ) (nodes : PartNodes) → length text < 2 ^ 64 → HaveNumbers (bodies_of_nodes extended text nodes)
  in_nodes extended text NoNodes l = tt
  in_nodes extended text (NodesFrom node nodes) l = (in_node extended text node l, in_nodes extended text nodes l)

in_body : (extended : Bool) (text : List ℕ) (parts : List Part) → length text < 2 ^ 64 → HasNumbers (body_of extended text parts)
in_body extended text [] l = tt
in_body extended text (p ∷ parts) l = in_node extended text (NodeOf p (nodes_of parts)) l

pub body_bounded : (extended : Bool) (text : List ℕ) (parts : List Part) → length text < 2 ^ 64 → length (text_of (body_of extended text parts)) < 2 ^ 64 → IsBounded (body_of extended text parts)
body_bounded extended text parts l m = value_bounded (body_of extended text parts) (in_body extended text parts l) m
