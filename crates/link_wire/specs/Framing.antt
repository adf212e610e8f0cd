-- How a stream is read octet by octet: what the framer computes. Frames says what it means.

use Rattle.std.specs.Prelude.{◌≡◌, ℕ, ◌+◌, ◌-◌, ◌==◌, nat_le, nat_lt, List, [], ◌∷◌, ◌++◌, length}
use Rattle.std.specs.Prelude.{Option, Some, None, Result, Ok, Err, IsOk, IsErr, if◌then◌else◌}
use Rattle.std.specs.Prelude.{option_to_list}
use Rattle.std.specs.Str.{bytes_eq}
use Rattle.text_fields.specs.FieldReading.{◌>>=◌, cut_at, number_at, positive}
use Rattle.link_wire.specs.declared.fault.FrameFault.{FrameFault}
use Rattle.link_wire.specs.declared.fault.FrameFault.TheVariants.{BadHeader, TooManyFrames}
use Rattle.link_wire.specs.declared.fault.FrameFault.TheVariants.{BadDigest, NoMemory, Failed}
use Rattle.link_wire.specs.declared.header.Header.{Header}
use Rattle.link_wire.specs.declared.limits.Limits.{Limits}
use Rattle.link_wire.specs.Digests.{Digest, frame_digest}

-- A tag of the right length.
abbrev pub tag_at : List ℕ → Option (List ℕ)
tag_at text = if length text == 32 then Some text else None

-- The header that a line spells.
unfoldable pub header_at : Limits → List ℕ → Option Header
header_at limits line = do
  parts ← cut_at 32 line
  number ← number_at limits.payload parts.0
  announced ← positive number
  tag ← tag_at parts.1
  Some (record { announced = announced; tag = tag })

-- What was read of the next frame: how many headers were read up to it, its header's octets, what
-- its header says, if that has ended, and its payload's octets.
pub record FrameProgress : Type 0 where
  pub number : ℕ
  pub line : List ℕ
  pub header : Option Header
  pub payload : List ℕ

-- Nothing was read after `number` frames.
abbrev pub start : ℕ → FrameProgress
start number = record { number = number; line = []; header = None; payload = [] }

-- The result of an octet: a payload or none, and the progress after it; or a fault.
abbrev pub Outcome : Type 0
Outcome = Result (Option (List ℕ) × FrameProgress) FrameFault

-- The result of the end of a header, by what the header spells.
abbrev pub after_header : Limits → FrameProgress → Option Header → Outcome
after_header limits p None = Err BadHeader
after_header limits p (Some header) =
    if nat_le limits.frames p.number then Err TooManyFrames
    else Ok (
      None,
      record p { number = p.number + 1; line = p.line ++ 10 ∷ []; header = Some header },
    )

-- The result of an octet of a header.
abbrev pub after_header_octet : Limits → FrameProgress → ℕ → Outcome
after_header_octet limits p octet =
    if octet == 10 then after_header limits p (header_at limits p.line)
    else (if nat_le limits.header (length p.line) then Err BadHeader
    else Ok (None, record p { line = p.line ++ octet ∷ [] }))

-- The result of octets that may end a payload: if it is whole, its digest decides.
abbrev pub end_of_payload : Digest → FrameProgress → Header → Outcome
end_of_payload digest p header =
    if length p.payload == header.announced
    then (if bytes_eq (digest p.number header.announced p.payload) header.tag
    then Ok (Some p.payload, start p.number) else Err BadDigest)
    else Ok (None, p)

-- The same if a header was read; without one nothing ends.
abbrev pub end_by : Digest → FrameProgress → Option Header → Outcome
end_by digest p None = Ok (None, p)
end_by digest p (Some header) = end_of_payload digest p header

-- The result of octets of a payload.
abbrev pub after_octets : Digest → FrameProgress → List ℕ → Outcome
after_octets digest p octets = end_by digest (record p { payload = p.payload ++ octets }) p.header

-- The number of octets of a payload that haven't been read.
abbrev pub missing_octets : Option Header → List ℕ → ℕ
missing_octets None payload = 0
missing_octets (Some header) payload = header.announced - length payload

-- The same of what was read.
abbrev pub awaited_octets : FrameProgress → ℕ
awaited_octets p = missing_octets p.header p.payload

-- The result of any octet: an announced octet belongs to its payload whatever it is.
abbrev pub after_octet : Limits → Digest → FrameProgress → ℕ → Outcome
after_octet limits digest p octet =
    if nat_lt 0 (awaited_octets p) then after_octets digest p (octet ∷ [])
    else after_header_octet limits p octet

-- The payloads of some octets of the stream, and the progress of the next frame after them, or the
-- fault.
abbrev pub Cut : Type 0
Cut = List (List ℕ) × Result FrameProgress FrameFault

-- The cut with these payloads before its own.
abbrev pub with_payloads : List (List ℕ) → Cut → Cut
with_payloads payloads cut = (payloads ++ cut.0, cut.1)

-- The result of an octet as the cut of that octet.
abbrev pub cut_of_outcome : Outcome → Cut
cut_of_outcome (Ok both) = (option_to_list both.0, Ok both.1)
cut_of_outcome (Err why) = ([], Err why)

-- The cut of one further octet; nothing follows a fault.
abbrev pub after_octet_of : Limits → Digest → Result FrameProgress FrameFault → ℕ → Cut
after_octet_of limits digest (Ok p) octet = cut_of_outcome (after_octet limits digest p octet)
after_octet_of limits digest (Err why) octet = ([], Err why)

-- The cut of these octets, from this progress or fault.
abbrev pub cut_from : Limits → Digest → Result FrameProgress FrameFault → List ℕ → Cut
cut_from limits digest state [] = ([], state)
cut_from limits digest state (octet ∷ octets) =
    with_payloads (after_octet_of limits digest state octet).0
    (cut_from limits digest (after_octet_of limits digest state octet).1 octets)

-- The cut of a piece under a key, after these payloads and this progress.
abbrev pub cut_after : Limits → List ℕ → List (List ℕ) → FrameProgress → List ℕ → Cut
cut_after limits key payloads p piece =
    with_payloads payloads (cut_from limits (frame_digest key) (Ok p) piece)

-- A framer between two pieces of input.
pub record FramerState : Type 0 where
  pub limits : Limits
  pub key : List ℕ
  pub state : Result FrameProgress FrameFault

-- The cut of the next piece.
abbrev pub cut_by_framer : FramerState → List ℕ → Cut
cut_by_framer framer piece = cut_from framer.limits (frame_digest framer.key) framer.state piece

-- The fault if the framer has failed, else the progress.
abbrev pub state_of : Option FrameFault → FrameProgress → Result FrameProgress FrameFault
state_of None p = Ok p
state_of (Some why) p = Err why

-- One list begins with the other.
abbrev pub IsPrefix : List (List ℕ) → List (List ℕ) → Type 0
IsPrefix front payloads = (back : List (List ℕ)) × (payloads ≡ front ++ back)

-- A fault of this cut follows these payloads; if memory runs out, these are the first payloads of
-- the cut.
abbrev pub Faults : FrameFault → List (List ℕ) → Cut → Type 0
Faults NoMemory payloads cut = IsPrefix payloads cut.0
Faults BadHeader payloads cut = cut ≡ (payloads, Err BadHeader)
Faults TooManyFrames payloads cut = cut ≡ (payloads, Err TooManyFrames)
Faults BadDigest payloads cut = cut ≡ (payloads, Err BadDigest)
Faults Failed payloads cut = ⊥

-- The state after a failed feed: `Failed` exactly when it had failed before, which changes nothing;
-- else the new fault, for good.
abbrev pub FaultsNow : FrameFault → List (List ℕ) → Result FrameProgress FrameFault
    → Result FrameProgress FrameFault → Cut → Type 0
FaultsNow Failed payloads old new cut = IsErr old × (payloads ≡ []) × (new ≡ old)
FaultsNow NoMemory payloads old new cut =
    IsOk old × (new ≡ Err NoMemory) × Faults NoMemory payloads cut
FaultsNow BadHeader payloads old new cut =
    IsOk old × (new ≡ Err BadHeader) × Faults BadHeader payloads cut
FaultsNow TooManyFrames payloads old new cut =
    IsOk old × (new ≡ Err TooManyFrames) × Faults TooManyFrames payloads cut
FaultsNow BadDigest payloads old new cut =
    IsOk old × (new ≡ Err BadDigest) × Faults BadDigest payloads cut

-- The cut of pieces, one after another, from this progress or fault.
abbrev pub cut_of_pieces_from : Limits → Digest → Result FrameProgress FrameFault
    → List (List ℕ) → Cut
cut_of_pieces_from limits digest state [] = ([], state)
cut_of_pieces_from limits digest state (piece ∷ pieces) =
    with_payloads (cut_from limits digest state piece).0
    (cut_of_pieces_from limits digest (cut_from limits digest state piece).1 pieces)

-- The cut of a whole stream.
abbrev pub cut_of_stream : Limits → Digest → List ℕ → Cut
cut_of_stream limits digest stream = cut_from limits digest (Ok (start 0)) stream

-- The cut of a stream that comes in pieces.
abbrev pub cut_of_pieces : Limits → Digest → List (List ℕ) → Cut
cut_of_pieces limits digest pieces = cut_of_pieces_from limits digest (Ok (start 0)) pieces

-- The octets that were read of the next frame.
abbrev pub octets_so_far : FrameProgress → List ℕ
octets_so_far p = p.line ++ p.payload

-- The pieces, one after another.
abbrev pub concat_pieces : List (List ℕ) → List ℕ
concat_pieces [] = []
concat_pieces (piece ∷ pieces) = piece ++ concat_pieces pieces
