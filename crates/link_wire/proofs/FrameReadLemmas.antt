use Rattle.std.proofs.Common.{◌≡◌, ℕ, ◌+◌, ◌^◌, ◌<◌, List, [], ◌∷◌, ◌++◌, length, Some, None, Result, Ok, Err, inl, inr, sym, refl, ap, ◌∙◌, subst, append_assoc, arith}
use Rattle.std.proofs.lemmas.List.{append-nil}
use Rattle.link_wire.specs.declared.fault.FrameFault.{FrameFault}
use Rattle.link_wire.specs.declared.limits.Limits.{Limits}
use Rattle.link_wire.specs.Digests.{Digest}
use Rattle.link_wire.specs.Frames.{AreEachFrames, AreFrames, AreFramesAfter, FailsAfter, FailsAt, IsFrame, IsRest, MakesFault, frame_text, frames_text}
use Rattle.link_wire.specs.Framing.{Cut, FrameProgress, cut_from, octets_so_far, start, with_payloads}
use Rattle.link_wire.proofs.CutLemmas.{cut_from-fault, cut_from-step}
use Rattle.link_wire.proofs.FrameStepLemmas.{HasCome, rest_of, step}

-- What a stream means that ended in this state after these payloads.
pub Meaning : Limits → Digest → ℕ → List ℕ → List (List ℕ) → Result FrameProgress FrameFault → Type 0
Meaning limits digest count stream payloads (Ok p) = AreFramesAfter limits digest count stream payloads (octets_so_far p)
Meaning limits digest count stream payloads (Err why) = FailsAfter limits digest count stream payloads why

abbrev MeaningOf : Limits → Digest → ℕ → List ℕ → Cut → Type 0
MeaningOf limits digest count stream cut = Meaning limits digest count stream cut.0 cut.1

none_more : (count : ℕ) → count ≡ count + length {A = List ℕ} []
none_more count = omega arith

one_more : (count : ℕ) (payload : List ℕ) (payloads : List (List ℕ)) → count + 1 + length payloads ≡ count + length (payload ∷ payloads)
one_more count payload payloads = omega arith

-- A frame in front.
frames_with_first : (limits : Limits) (digest : Digest) (count : ℕ) (payload stream : List ℕ) (payloads : List (List ℕ)) (rest : List ℕ) → IsFrame limits digest (count + 1) payload → AreFramesAfter limits digest (count + 1) stream payloads rest → AreFramesAfter limits digest count (frame_text digest (count + 1) payload ++ stream) (payload ∷ payloads) rest
frames_with_first limits digest count payload stream payloads rest f h = record {
  are_frames = (f, h.are_frames);
  is_rest = subst (λ (n : ℕ). IsRest limits n rest) (one_more count payload payloads) h.is_rest;
  stream_is = ap (λ (t : List ℕ). frame_text digest (count + 1) payload ++ t) h.stream_is ∙ sym (append_assoc (frame_text digest (count + 1) payload) (frames_text digest (count + 1) payloads) rest);
}

meaning_more : (limits : Limits) (digest : Digest) (count : ℕ) (payload stream : List ℕ) (payloads : List (List ℕ)) (state : Result FrameProgress FrameFault) → IsFrame limits digest (count + 1) payload → Meaning limits digest (count + 1) stream payloads state → Meaning limits digest count (frame_text digest (count + 1) payload ++ stream) (payload ∷ payloads) state
unfolding Meaning
meaning_more limits digest count payload stream payloads (Ok p) f h = frames_with_first limits digest count payload stream payloads (octets_so_far p) f h
meaning_more limits digest count payload stream payloads (Err why) f h = record {
  front = frame_text digest (count + 1) payload ++ h.front;
  octet = h.octet;
  after = h.after;
  rest = h.rest;
  stream_is = ap (λ (t : List ℕ). frame_text digest (count + 1) payload ++ t) h.stream_is ∙ sym (append_assoc (frame_text digest (count + 1) payload) h.front (h.octet ∷ h.after));
  before = frames_with_first limits digest count payload h.front payloads h.rest f h.before;
  fault = subst (λ (n : ℕ). MakesFault limits digest n h.rest h.octet why) (one_more count payload payloads) h.fault;
}

-- Nothing but a rest.
only_rest : (limits : Limits) (digest : Digest) (count : ℕ) (text : List ℕ) → IsRest limits count text → AreFramesAfter limits digest count text [] text
only_rest limits digest count text h = record {
  are_frames = tt;
  is_rest = subst (λ (n : ℕ). IsRest limits n text) (none_more count) h;
  stream_is = refl;
}

pub meaning : (limits : Limits) (digest : Digest) (count : ℕ) (p : FrameProgress) (text octets : List ℕ) → limits.payload < 2 ^ 64 → HasCome limits count p text → MeaningOf limits digest count (text ++ octets) (cut_from limits digest (Ok p) octets)
unfolding Meaning
meaning limits digest count p text [] l h =
    let r = rest_of limits count p text h in
    subst (λ (t : List ℕ). AreFramesAfter limits digest count t [] (octets_so_far p)) (r.1 ∙ sym (append-nil text))
    (only_rest limits digest count (octets_so_far p) (subst (IsRest limits count) (sym r.1) r.0))
meaning limits digest count p text (octet ∷ octets) l h =
    elim (step limits digest count p text octet l h) [
      | inl q ↦
          subst (λ (c : Cut). MeaningOf limits digest count (text ++ octet ∷ octets) c) (sym (cut_from-step limits digest p octet octets (Ok (None, q.after)) q.outcome_is))
          (subst (λ (t : List ℕ). MeaningOf limits digest count t (cut_from limits digest (Ok q.after) octets)) (append_assoc text (octet ∷ []) octets)
          (meaning limits digest count q.after (text ++ octet ∷ []) octets l q.has_come))
      | inr more ↦ elim more [
        | inl g ↦
            let progress : HasCome limits (count + 1) (start (count + 1)) [] = inl (record { within = omega arith; no_lf = refl }, refl) in
            subst (λ (c : Cut). MeaningOf limits digest count (text ++ octet ∷ octets) c) (sym (cut_from-step limits digest p octet octets (Ok (Some g.payload, start (count + 1))) g.outcome_is))
            (subst (λ (t : List ℕ). MeaningOf limits digest count t (with_payloads (g.payload ∷ []) (cut_from limits digest (Ok (start (count + 1))) octets)))
            (ap (λ (t : List ℕ). t ++ octets) (sym g.text_is) ∙ append_assoc text (octet ∷ []) octets)
            (meaning_more limits digest count g.payload octets (cut_from limits digest (Ok (start (count + 1))) octets).0 (cut_from limits digest (Ok (start (count + 1))) octets).1 g.frame
            (meaning limits digest (count + 1) (start (count + 1)) [] octets l progress)))
        | inr b ↦
            subst (λ (c : Cut). MeaningOf limits digest count (text ++ octet ∷ octets) c)
            (sym (cut_from-step limits digest p octet octets (Err b.why) b.outcome_is ∙ ap (with_payloads []) (cut_from-fault limits digest b.why octets)))
            (record {
              front = text;
              octet = octet;
              after = octets;
              rest = text;
              stream_is = refl;
              before = only_rest limits digest count text (rest_of limits count p text h).0;
              fault = subst (λ (n : ℕ). MakesFault limits digest n text octet b.why) (none_more count) b.fault;
            })
      ]
    ]

begins : (limits : Limits) → HasCome limits 0 (start 0) []
begins limits = inl (record { within = omega arith; no_lf = refl }, refl)

-- What a stream gave means so.
of_stream : (limits : Limits) (digest : Digest) (stream : List ℕ) (payloads : List (List ℕ)) (state : Result FrameProgress FrameFault) → limits.payload < 2 ^ 64 → cut_from limits digest (Ok (start 0)) stream ≡ (payloads, state) → Meaning limits digest 0 stream payloads state
of_stream limits digest stream payloads state l e =
    subst (λ (c : Cut). MeaningOf limits digest 0 stream c) e (meaning limits digest 0 (start 0) [] stream l (begins limits))

pub frames_by_given : (limits : Limits) (digest : Digest) (stream : List ℕ) (payloads : List (List ℕ)) (progress : FrameProgress) → limits.payload < 2 ^ 64 → cut_from limits digest (Ok (start 0)) stream ≡ (payloads, Ok progress) → AreFrames limits digest stream payloads (octets_so_far progress)
unfolding Meaning
frames_by_given limits digest stream payloads progress l e = of_stream limits digest stream payloads (Ok progress) l e

pub fault_by_given : (limits : Limits) (digest : Digest) (stream : List ℕ) (payloads : List (List ℕ)) (why : FrameFault) → limits.payload < 2 ^ 64 → cut_from limits digest (Ok (start 0)) stream ≡ (payloads, Err why) → FailsAt limits digest stream payloads why
unfolding Meaning
fault_by_given limits digest stream payloads why l e = of_stream limits digest stream payloads (Err why) l e

pub authentic_by_given : (limits : Limits) (digest : Digest) (stream : List ℕ) (payloads : List (List ℕ)) (state : Result FrameProgress FrameFault) → limits.payload < 2 ^ 64 → cut_from limits digest (Ok (start 0)) stream ≡ (payloads, state) → AreEachFrames limits digest 0 payloads × ((after : List ℕ) × (stream ≡ frames_text digest 0 payloads ++ after))
authentic_by_given limits digest stream payloads (Ok progress) l e =
    let h = frames_by_given limits digest stream payloads progress l e in (h.are_frames, (octets_so_far progress, h.stream_is))
authentic_by_given limits digest stream payloads (Err why) l e =
    let h = fault_by_given limits digest stream payloads why l e in (
      h.before.are_frames,
      (
        h.rest ++ h.octet ∷ h.after,
        h.stream_is
            ∙ ap (λ (t : List ℕ). t ++ h.octet ∷ h.after) h.before.stream_is
            ∙ append_assoc (frames_text digest 0 payloads) h.rest (h.octet ∷ h.after),
      ),
    )
