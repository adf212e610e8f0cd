use Rattle.std.proofs.Common.{◌≡◌, inl, inr, ℕ, ◌+◌, ◌*◌, ◌≤◌, Bool, true, false, List, [], ◌∷◌, ◌++◌, map, length, ap, arith, codes, length-append, refl}
use Rattle.std.proofs.lemmas.Bool.{cases_Bool}
use Rattle.std.proofs.lemmas.Fmt.{length-decimal-le}
use Rattle.std.proofs.lemmas.List.Sums.{sum_by-append, sum_by-cons}
use Rattle.std.specs.Fmt.{decimal}
use Rattle.std.specs.List.{flat_map, sum_by}
use Rattle.imap_types.specs.declared.escape.Escape.{Escape}
use Rattle.imap_types.specs.declared.escape.Escape.TheVariants.{Field, Text}
use Rattle.imap_types.specs.declared.flags.Flags.{Flags}
use Rattle.imap_types.specs.Escape.{escape_octet, escape_text, hex_digit, is_plain}
use Rattle.imap_types.specs.Flags.{flag_texts, text_if_set}
use Rattle.tags_clocks.specs.declared.id.OpId.{OpId}
use Rattle.crdt_ops.specs.declared.kind.Kind.{Kind}
use Rattle.crdt_ops.specs.declared.kind.Kind.TheVariants.{Append, Create, Delete, Expunge, Store, Subscribe, Unsubscribe}
use Rattle.crdt_ops.specs.declared.op.Op.{Op}
use Rattle.crdt_ops.specs.Form.{Each, HasFields, IsEntry, IsId, IsInForm}
use Rattle.crdt_ops.specs.Tags.{name_of, removed_ids}
use Rattle.crdt_ops.specs.Text.{clock_text, entry_text, flags_text, id_text, ids_text, join_by_commas, join_fields, kind_text, name_text, op_text, text_field}
use Rattle.op_log.specs.LineBounds.{content_bound, keywords_bound, line_bound}
use Rattle.op_log.specs.Lines.{checksum_field, line_of}

-- How long the parts of an operation's text are at most.

-- ---- ids and clocks

replica_length : (n : ℕ) → n ≤ 65535 → length (decimal n) ≤ 5
replica_length n l = length-decimal-le 5 n (omega arith) (omega (arith, l)) (omega (arith, l))

number_length : (n : ℕ) → n ≤ 4294967295 → length (decimal n) ≤ 10
number_length n l = length-decimal-le 10 n (omega arith) (omega (arith, l)) (omega (arith, l))

id_length : (id : OpId) → IsId id → length (id_text id) ≤ 16
id_length id w = omega (arith, length-append (decimal id.replica) (58 ∷ decimal id.number), replica_length id.replica w.0.1, number_length id.number w.1.1)

entry_length : (entry : ℕ × ℕ) → IsEntry entry → length (entry_text entry) ≤ 16
entry_length entry w = omega (arith, length-append (decimal entry.0) (61 ∷ decimal entry.1), replica_length entry.0 w.0.1, number_length entry.1 w.1.1)

module _ {X : Type 0} (P : X → Type 0) (f : X → List ℕ) (short : (x : X) → P x → length (f x) ≤ 16) where
  rest_length : (xs : List X) → Each P xs → length (flat_map (λ next. 44 ∷ next) (map f xs)) ≤ 17 * length xs
  rest_length [] w = omega arith
  rest_length (x ∷ xs) w = omega (arith, length-append (44 ∷ f x) (flat_map (λ next. 44 ∷ next) (map f xs)), short x w.0, rest_length xs w.1)

  joined_length : (xs : List X) → Each P xs → length (join_by_commas (map f xs)) ≤ 1 + 17 * length xs
  joined_length [] w = omega arith
  joined_length (x ∷ xs) w = omega (arith, length-append (f x) (flat_map (λ next. 44 ∷ next) (map f xs)), short x w.0, rest_length xs w.1)

ids_length : (ids : List OpId) → Each IsId ids → length (ids_text ids) ≤ 1 + 17 * length ids
ids_length ids w = joined_length IsId id_text id_length ids w

clock_length : (clock : List (ℕ × ℕ)) → Each IsEntry clock → length (clock_text clock) ≤ 1 + 17 * length clock
clock_length clock w = joined_length IsEntry entry_text entry_length clock w

-- ---- the escape

octet_length : (escape : Escape) (octet : ℕ) → length (escape_octet escape octet) ≤ 3
octet_length escape octet =
    elim (cases_Bool (is_plain escape octet)) [
      | inl t ↦ rw t (omega arith)
      | inr f ↦ rw f (omega arith)
    ]

escaped_length : (escape : Escape) (octets : List ℕ) → length (escape_text escape octets) ≤ 3 * length octets
escaped_length escape [] = omega arith
escaped_length escape (octet ∷ octets) = omega (arith, length-append (escape_octet escape octet) (escape_text escape octets), octet_length escape octet, escaped_length escape octets)

-- ---- flags

abbrev spaced : List ℕ → ℕ
spaced text = 1 + length text

rest_spaced : (fields : List (List ℕ)) → length (flat_map (λ next. 32 ∷ next) fields) ≤ sum_by spaced fields
rest_spaced [] = omega arith
rest_spaced (field ∷ fields) =
    let sum : sum_by spaced (field ∷ fields) ≡ 1 + length field + sum_by spaced fields = sum_by-cons spaced field fields in
    let all : length (flat_map (λ next. 32 ∷ next) (field ∷ fields)) ≡ length (32 ∷ field) + length (flat_map (λ next. 32 ∷ next) fields) = length-append (32 ∷ field) (flat_map (λ next. 32 ∷ next) fields) in
    omega (arith, sum, all, rest_spaced fields)

fields_spaced : (fields : List (List ℕ)) → length (join_fields 32 fields) ≤ sum_by spaced fields
fields_spaced [] = omega arith
fields_spaced (field ∷ fields) =
    let sum : sum_by spaced (field ∷ fields) ≡ 1 + length field + sum_by spaced fields = sum_by-cons spaced field fields in
    omega (arith, sum, length-append field (flat_map (λ next. 32 ∷ next) fields), rest_spaced fields)

set_length : (b : Bool) (text : List ℕ) → sum_by spaced (text_if_set b text) ≤ 1 + length text
set_length true text = omega arith
set_length false text = omega arith

flag_lengths : (flags : Flags) → sum_by spaced (flag_texts flags) ≤ 41 + keywords_bound flags
flag_lengths flags =
    let answered = text_if_set flags.answered (codes "\\Answered") in
    let flagged = text_if_set flags.flagged (codes "\\Flagged") in
    let deleted = text_if_set flags.deleted (codes "\\Deleted") in
    let seen = text_if_set flags.seen (codes "\\Seen") in
    let draft = text_if_set flags.draft (codes "\\Draft") in
    let all : sum_by spaced (flag_texts flags) ≡ sum_by spaced (answered ++ flagged ++ deleted ++ seen ++ draft) + sum_by spaced flags.keywords = sum_by-append spaced (answered ++ flagged ++ deleted ++ seen ++ draft) flags.keywords in
    let four : sum_by spaced (answered ++ flagged ++ deleted ++ seen ++ draft) ≡ sum_by spaced (answered ++ flagged ++ deleted ++ seen) + sum_by spaced draft = sum_by-append spaced (answered ++ flagged ++ deleted ++ seen) draft in
    let three : sum_by spaced (answered ++ flagged ++ deleted ++ seen) ≡ sum_by spaced (answered ++ flagged ++ deleted) + sum_by spaced seen = sum_by-append spaced (answered ++ flagged ++ deleted) seen in
    let two : sum_by spaced (answered ++ flagged ++ deleted) ≡ sum_by spaced (answered ++ flagged) + sum_by spaced deleted = sum_by-append spaced (answered ++ flagged) deleted in
    let one : sum_by spaced (answered ++ flagged) ≡ sum_by spaced answered + sum_by spaced flagged = sum_by-append spaced answered flagged in
    let keywords : keywords_bound flags ≡ sum_by spaced flags.keywords = refl in
    let a : sum_by spaced answered ≤ 10 = set_length flags.answered (codes "\\Answered") in
    let f : sum_by spaced flagged ≤ 9 = set_length flags.flagged (codes "\\Flagged") in
    let d : sum_by spaced deleted ≤ 9 = set_length flags.deleted (codes "\\Deleted") in
    let s : sum_by spaced seen ≤ 6 = set_length flags.seen (codes "\\Seen") in
    let t : sum_by spaced draft ≤ 7 = set_length flags.draft (codes "\\Draft") in
    omega (arith, all, four, three, two, one, keywords, a, f, d, s, t)

flags_length : (flags : Flags) → length (flags_text flags) ≤ 43 + keywords_bound flags
flags_length flags = omega (arith, length-append (join_fields 32 (flag_texts flags)) (41 ∷ []), fields_spaced (flag_texts flags), flag_lengths flags)

-- ---- operations

named_length : (word name more : List ℕ) → length (word ++ name_text name ++ more) ≤ length word + 3 * length name + length more
named_length word name more = omega (arith, length-append (word ++ name_text name) more, length-append word (name_text name), escaped_length Field name)

kind_length : (kind : Kind) → HasFields kind → length (kind_text kind) ≤ 82 + 3 * length (name_of kind) + 17 * length (removed_ids kind) + content_bound kind
kind_length (Create folder) w = omega (arith, length-append (codes "create ") (name_text folder), escaped_length Field folder)
kind_length (Delete folder seen) w = omega (arith, named_length (codes "delete ") folder (32 ∷ ids_text seen), ids_length seen w.1.0)
kind_length (Append folder flags date text) w =
    omega (
      arith,
      named_length (codes "append ") folder (32 ∷ (flags_text flags ++ 32 ∷ (date ++ 32 ∷ text_field text))),
      length-append (flags_text flags) (32 ∷ (date ++ 32 ∷ text_field text)),
      length-append date (32 ∷ text_field text),
      flags_length flags,
      escaped_length Text text,
      w.2,
    )
kind_length (Expunge folder old_ids) w = omega (arith, named_length (codes "expunge ") folder (32 ∷ ids_text old_ids), ids_length old_ids w.1.0)
kind_length (Store folder flags old_ids origin) w =
    omega (
      arith,
      named_length (codes "store ") folder (32 ∷ (flags_text flags ++ 32 ∷ (ids_text old_ids ++ 32 ∷ id_text origin))),
      length-append (flags_text flags) (32 ∷ (ids_text old_ids ++ 32 ∷ id_text origin)),
      length-append (ids_text old_ids) (32 ∷ id_text origin),
      flags_length flags,
      ids_length old_ids w.2.0,
      id_length origin w.3,
    )
kind_length (Subscribe name) w = omega (arith, length-append (codes "subscribe ") (name_text name), escaped_length Field name)
kind_length (Unsubscribe name seen) w = omega (arith, named_length (codes "unsubscribe ") name (32 ∷ ids_text seen), ids_length seen w.1.0)

op_length : (op : Op) → IsInForm op → length (op_text op) ≤ 101 + 17 * (length op.clock + length (removed_ids op.kind)) + 3 * length (name_of op.kind) + content_bound op.kind
op_length op w =
    omega (
      arith,
      length-append (id_text op.id) (32 ∷ (clock_text op.clock ++ 32 ∷ kind_text op.kind)),
      length-append (clock_text op.clock) (32 ∷ kind_text op.kind),
      id_length op.id w.parts.id,
      clock_length op.clock w.parts.entries,
      kind_length op.kind w.parts.fields,
    )

-- an operation's line is within its bound
field_length : (text : List ℕ) → length (checksum_field text) ≡ 9
unfolding checksum_field
field_length text = refl

pub line_within : (op : Op) → IsInForm op → length (line_of (codes "op " ++ op_text op)) ≤ line_bound op
line_within op w =
    let text = codes "op " ++ op_text op in
    omega (arith, length-append (checksum_field text ++ text) (10 ∷ []), length-append (checksum_field text) text, length-append (codes "op ") (op_text op), field_length text, op_length op w)
