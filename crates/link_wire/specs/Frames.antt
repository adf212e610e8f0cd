-- The frames of a stream, and the octet that makes a fault.

use Rattle.std.specs.Prelude.{◌≡◌, ◌≢◌, ℕ, ◌+◌, ◌<◌, ◌≤◌, ◌⊎◌, IsTrue, List, [], ◌∷◌, ◌++◌, length}
use Rattle.std.specs.Fmt.{decimal}
use Rattle.link_wire.specs.declared.fault.FrameFault.{FrameFault}
use Rattle.link_wire.specs.declared.fault.FrameFault.TheVariants.{BadHeader, TooManyFrames}
use Rattle.link_wire.specs.declared.fault.FrameFault.TheVariants.{BadDigest, NoMemory, Failed}
use Rattle.link_wire.specs.declared.limits.Limits.{Limits}
use Rattle.link_wire.specs.Digests.{Digest, has_no_lf}

-- A header without its LF: the number of the payload's octets, a space (32) and the digest.
abbrev pub header_line : ℕ → List ℕ → List ℕ
header_line announced tag = decimal announced ++ 32 ∷ tag

-- The header, with its LF (10).
abbrev pub header_text : ℕ → List ℕ → List ℕ
header_text announced tag = header_line announced tag ++ 10 ∷ []

-- The frame with this number and payload.
abbrev pub frame_text : Digest → ℕ → List ℕ → List ℕ
frame_text digest number payload =
    header_text (length payload) (digest number (length payload) payload) ++ payload

-- The frames of these payloads, one after another, the first of which follows `count` others.
abbrev pub frames_text : Digest → ℕ → List (List ℕ) → List ℕ
frames_text digest count [] = []
frames_text digest count (payload ∷ payloads) =
    frame_text digest (count + 1) payload ++ frames_text digest (count + 1) payloads

-- A header announces `announced` octets and has this tag, whether or not that is the digest of what
-- follows.
pub record IsHeader (limits : Limits) (announced : ℕ) (tag : List ℕ) : Type 0 where
  pub some : 0 < announced
  pub fits : announced ≤ limits.payload
  pub within : length (header_line announced tag) ≤ limits.header
  pub long : length tag ≡ 32
  pub no_lf : IsTrue (has_no_lf tag)

-- The frame with this number and payload is within the limits.
pub record IsFrame (limits : Limits) (digest : Digest) (number : ℕ) (payload : List ℕ) :
    Type 0 where
  pub header : IsHeader limits (length payload) (digest number (length payload) payload)
  pub counted : number ≤ limits.frames

-- So are all of these, the first of which follows `count` others.
abbrev pub AreEachFrames : Limits → Digest → ℕ → List (List ℕ) → Type 0
AreEachFrames limits digest count [] = Unit {0}
AreEachFrames limits digest count (payload ∷ payloads) =
    IsFrame limits digest (count + 1) payload × AreEachFrames limits digest (count + 1) payloads

-- Less than a header.
pub record IsOpenHeader (limits : Limits) (text : List ℕ) : Type 0 where
  pub within : length text ≤ limits.header
  pub no_lf : IsTrue (has_no_lf text)

-- A header, and a payload that has fewer octets than it announces.
pub record IsOpenPayload (limits : Limits) (number : ℕ) (text : List ℕ) : Type 0 where
  pub announced : ℕ
  pub tag : List ℕ
  pub payload : List ℕ
  pub header : IsHeader limits announced tag
  pub counted : number ≤ limits.frames
  pub short : length payload < announced
  pub text_is : text ≡ header_text announced tag ++ payload

-- The rest of a stream after `count` whole frames: less than a frame.
abbrev pub IsRest : Limits → ℕ → List ℕ → Type 0
IsRest limits count text = IsOpenHeader limits text ⊎ IsOpenPayload limits (count + 1) text

-- The stream is, after `count` frames, those of these payloads and a rest that is less than a
-- frame.
pub record AreFramesAfter (limits : Limits) (digest : Digest) (count : ℕ) (stream : List ℕ)
    (payloads : List (List ℕ)) (rest : List ℕ) : Type 0 where
  pub are_frames : AreEachFrames limits digest count payloads
  pub is_rest : IsRest limits (count + length payloads) rest
  pub stream_is : stream ≡ frames_text digest count payloads ++ rest

-- The stream is the frames of these payloads and a rest that is less than a frame.
abbrev pub AreFrames : Limits → Digest → List ℕ → List (List ℕ) → List ℕ → Type 0
AreFrames limits digest = AreFramesAfter limits digest 0

-- The line is a header.
pub record IsHeaderLine (limits : Limits) (line : List ℕ) : Type 0 where
  pub announced : ℕ
  pub tag : List ℕ
  pub header : IsHeader limits announced tag
  pub line_is : line ≡ header_line announced tag

-- The octet ends a line that is no header, or is one more than a header may have.
abbrev pub MakesBadHeader : Limits → List ℕ → ℕ → Type 0
MakesBadHeader limits rest octet =
    ((octet ≡ 10) × ¬ IsHeaderLine limits rest) ⊎ ((octet ≢ 10) × (length rest ≡ limits.header))

-- The octet is the last that the header announces, and the tag isn't the digest.
pub record MakesBadDigest (limits : Limits) (digest : Digest) (number : ℕ) (rest : List ℕ)
    (octet : ℕ) : Type 0 where
  pub open_payload : IsOpenPayload limits number rest
  pub last : length open_payload.payload + 1 ≡ open_payload.announced
  pub differs : digest number open_payload.announced (open_payload.payload ++ octet ∷ [])
      ≢ open_payload.tag

-- The octet makes this fault after `count` frames and this rest.
abbrev pub MakesFault : Limits → Digest → ℕ → List ℕ → ℕ → FrameFault → Type 0
MakesFault limits digest count rest octet BadHeader =
    IsOpenHeader limits rest × MakesBadHeader limits rest octet
MakesFault limits digest count rest octet TooManyFrames =
    IsOpenHeader limits rest
    × (octet ≡ 10)
    × IsHeaderLine limits rest
    × (limits.frames ≤ count)
MakesFault limits digest count rest octet BadDigest =
    MakesBadDigest limits digest (count + 1) rest octet
MakesFault limits digest count rest octet NoMemory = ⊥
MakesFault limits digest count rest octet Failed = ⊥

-- The stream's first octet that makes a fault makes this one, after `count` frames; these are the
-- payloads before it.
pub record FailsAfter (limits : Limits) (digest : Digest) (count : ℕ) (stream : List ℕ)
    (payloads : List (List ℕ)) (why : FrameFault) : Type 0 where
  pub front : List ℕ
  pub octet : ℕ
  pub after : List ℕ
  pub rest : List ℕ
  pub stream_is : stream ≡ front ++ octet ∷ after
  pub before : AreFramesAfter limits digest count front payloads rest
  pub fault : MakesFault limits digest (count + length payloads) rest octet why

-- The same from the beginning of the stream.
abbrev pub FailsAt : Limits → Digest → List ℕ → List (List ℕ) → FrameFault → Type 0
FailsAt limits digest = FailsAfter limits digest 0
