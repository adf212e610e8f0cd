use Rattle.std.proofs.Common.{◌≡◌, ◌<◌, ◌≤◌, ◌+◌, ℕ, IsTrue, List, [], ◌∷◌, ◌++◌, length, inl, sym, refl, ap, ◌∙◌, subst, append_assoc, arith}
use Rattle.std.proofs.lemmas.List.{append-nil}
use Rattle.link_wire.specs.declared.limits.Limits.{Limits}
use Rattle.link_wire.specs.Digests.{Digest, frame_digest}
use Rattle.link_wire.specs.Frames.{AreEachFrames, AreFrames, IsFrame, IsOpenHeader, frame_text, frames_text, header_line, header_text}
use Rattle.link_wire.specs.FrameWriting.{AreFramesWritten, IsFrameWritten, WriterState, first_writer}
use Rattle.link_wire.proofs.TagLemmas.{has_tags}

-- a frame within the limits
frame_within : (limits : Limits) (key : List ℕ) (number : ℕ) (payload : List ℕ) → 0 < length payload → length payload ≤ limits.payload → number ≤ limits.frames → length (header_line (length payload) (frame_digest key number (length payload) payload)) ≤ limits.header → IsFrame limits (frame_digest key) number payload
frame_within limits key number payload some fits counted within = record {
  header = record {
    some = some;
    fits = fits;
    within = within;
    long = (has_tags key).long number (length payload) payload;
    no_lf = (has_tags key).no_lf number (length payload) payload;
  };
  counted = counted;
}

pub frame_written : (old new : WriterState) (payload tag before after : List ℕ) → 0 < length payload → length payload ≤ old.limits.payload → old.count < old.limits.frames → tag ≡ frame_digest old.key (old.count + 1) (length payload) payload → length (header_line (length payload) tag) ≤ old.limits.header → after ≡ before ++ (header_text (length payload) tag ++ payload) →
    new ≡ record old { count = old.count + 1 } → IsFrameWritten old payload before new after
frame_written old new payload tag before after some fits counted t within text n = record {
  frame = frame_within old.limits old.key (old.count + 1) payload some fits (omega arith) (subst (λ (tag : List ℕ). length (header_line (length payload) tag) ≤ old.limits.header) t within);
  counted = n;
  text_is = text ∙ ap (λ (tag : List ℕ). before ++ (header_text (length payload) tag ++ payload)) t;
}

-- What a writer is after this number of frames.
abbrev writer_after : WriterState → ℕ → WriterState
writer_after old number = record old { count = old.count + number }

-- These payloads' frames follow the text.
record HaveFollowed (old : WriterState) (payloads : List (List ℕ)) (before : List ℕ) (new : WriterState)
    (after : List ℕ) : Type 0 where
  frames : AreEachFrames old.limits (frame_digest old.key) old.count payloads
  text_is : after ≡ before ++ frames_text (frame_digest old.key) old.count payloads
  new_is : new ≡ writer_after old (length payloads)

followed : (old : WriterState) (payloads : List (List ℕ)) (before : List ℕ) (new : WriterState) (after : List ℕ) → AreFramesWritten old payloads before new after → HaveFollowed old payloads before new after
followed old [] before new after h =
    let none : old.count ≡ old.count + length {A = List ℕ} [] = omega arith in
    record {
      frames = tt;
      text_is = h.1 ∙ sym (append-nil before);
      new_is = h.0 ∙ ap (λ (n : ℕ). record old { count = n }) none;
    }
followed old (payload ∷ payloads) before new after h =
    let first = h.2 in
    let rest : AreFramesWritten (writer_after old 1) payloads h.1 new after = subst (λ (s : WriterState). AreFramesWritten s payloads h.1 new after) first.counted h.3 in
    let then = followed (writer_after old 1) payloads h.1 new after rest in
    let one_more : old.count + 1 + length payloads ≡ old.count + length (payload ∷ payloads) = omega arith in
    let digest : Digest = frame_digest old.key in
    record {
      frames = (first.frame, then.frames);
      text_is = then.text_is ∙ ap (λ (t : List ℕ). t ++ frames_text digest (old.count + 1) payloads) first.text_is ∙ append_assoc before (frame_text digest (old.count + 1) payload) (frames_text digest (old.count + 1) payloads);
      new_is = then.new_is ∙ ap (λ (n : ℕ). record old { count = n }) one_more;
    }

-- All that a writer wrote are frames.
pub frames_by_writing : (limits : Limits) (key : List ℕ) (payloads : List (List ℕ)) (new : WriterState) (text : List ℕ) → AreFramesWritten (first_writer limits key) payloads [] new text → AreFrames limits (frame_digest key) text payloads [] × (new ≡ record { limits = limits; key = key; count = length payloads })
frames_by_writing limits key payloads new text h =
    let all = followed (first_writer limits key) payloads [] new text h in
    let no_octets : IsOpenHeader limits [] = record { within = omega arith; no_lf = refl } in (
      record {
        are_frames = all.frames;
        is_rest = inl no_octets;
        stream_is = all.text_is ∙ sym (append-nil (frames_text (frame_digest key) 0 payloads));
      },
      all.new_is ∙ ap (λ (n : ℕ). record { limits = limits; key = key; count = n }) (omega arith),
    )
