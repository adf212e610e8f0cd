-- How the frames of a stream are written one after another.

use Rattle.std.specs.Prelude.{◌≡◌, ◌+◌, ℕ, List, [], ◌∷◌, ◌++◌}
use Rattle.link_wire.specs.declared.limits.Limits.{Limits}
use Rattle.link_wire.specs.Digests.{frame_digest}
use Rattle.link_wire.specs.Frames.{IsFrame, frame_text}

-- A writer between two frames: the number of frames that it wrote under its key.
pub record WriterState : Type 0 where
  pub limits : Limits
  pub key : List ℕ
  pub count : ℕ

-- The next frame, which has this payload and is within the limits, was appended to the text.
pub record IsFrameWritten (old : WriterState) (payload before : List ℕ) (new : WriterState)
    (after : List ℕ) : Type 0 where
  pub frame : IsFrame old.limits (frame_digest old.key) (old.count + 1) payload
  pub counted : new ≡ record old { count = old.count + 1 }
  pub text_is : after ≡ before ++ frame_text (frame_digest old.key) (old.count + 1) payload

-- The frames of these payloads were appended to the text, one after another.
abbrev pub AreFramesWritten : WriterState → List (List ℕ) → List ℕ → WriterState → List ℕ → Type 0
AreFramesWritten old [] before new after = (new ≡ old) × (after ≡ before)
AreFramesWritten old (payload ∷ payloads) before new after =
    (between : WriterState) × (text : List ℕ)
    × IsFrameWritten old payload before between text
    × AreFramesWritten between payloads text new after

-- A writer that has written no frame.
abbrev pub first_writer : Limits → List ℕ → WriterState
first_writer limits key = record { limits = limits; key = key; count = 0 }
