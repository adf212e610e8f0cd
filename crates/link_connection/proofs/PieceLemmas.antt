use Rattle.std.proofs.Common.{◌≡◌, ◌⊎◌, inl, inr, ℕ, ◌+◌, ◌^◌, ◌<◌, Bool, List, [], ◌∷◌, ◌++◌, length, Result, Ok, Err, refl, sym, ap, ◌∙◌, subst, append_assoc, arith}
use Rattle.std.specs.Prelude.{IfErr, IsOk, MatchResult}
use Rattle.std.proofs.lemmas.Bool.{false≢true}
use Rattle.std.proofs.lemmas.List.{append-nil}
use Rattle.link_wire.specs.declared.fault.FrameFault.{FrameFault}
use Rattle.link_wire.specs.declared.fault.FrameFault.TheVariants.{BadHeader, TooManyFrames, BadDigest, Failed}
use Rattle.link_wire.specs.declared.fault.FrameFault.TheVariants.{NoMemory as NoFrameMemory}
use Rattle.link_wire.specs.declared.limits.Limits.{Limits}
use Rattle.link_wire.specs.declared.wire_message.WireMessage.{WireMessage}
use Rattle.link_wire.specs.Digests.{Digest, frame_digest}
use Rattle.link_wire.specs.Frames.{AreEachFrames, FailsAfter, IsRest, MakesFault, frame_text, frames_text}
use Rattle.link_wire.specs.Framing.{Cut, FaultsNow, FrameProgress, FramerState, cut_by_framer, cut_from, cut_of_stream, start, with_payloads}
use Rattle.link_wire.proofs.CutLemmas.{cut_from-append}
use Rattle.link_wire.proofs.FrameReadLemmas.{authentic_by_given, fault_by_given, frames_by_given}
use Rattle.link_connection.specs.declared.receive_end.ReceiveEnd.{ReceiveEnd}
use Rattle.link_connection.specs.declared.receive_end.ReceiveEnd.TheVariants.{Closed, ReadFailed, BadFrame, BadLine, Stopped, NoMemory}
use Rattle.link_connection.specs.Received.{ActsOnPayloads, EndsAtOneOf, EndsAtPayload, EndsReceiving, HasReceived, IsByOctets, IsNextFrame, IsReceiving, end_of_fault}
use Rattle.link_connection.proofs.MessageLemmas.{acts_append, one_is_by_octets}

-- ---- frames of two lists

pub no_more : (count : ℕ) → count ≡ count + length {A = List ℕ} []
no_more count = omega arith

pub one_more : (count : ℕ) (payload : List ℕ) (payloads : List (List ℕ)) → count + 1 + length payloads ≡ count + length (payload ∷ payloads)
one_more count payload payloads = omega arith

pub from_zero : (payloads : List (List ℕ)) → 0 + length payloads ≡ length payloads
from_zero payloads = omega arith

frames_front : (limits : Limits) (digest : Digest) (count : ℕ) (front back : List (List ℕ)) → AreEachFrames limits digest count (front ++ back) → AreEachFrames limits digest count front
frames_front limits digest count [] back h = tt
frames_front limits digest count (payload ∷ front) back h = (h.0, frames_front limits digest (count + 1) front back h.1)

frames_back : (limits : Limits) (digest : Digest) (count : ℕ) (front back : List (List ℕ)) → AreEachFrames limits digest count (front ++ back) → AreEachFrames limits digest (count + length front) back
frames_back limits digest count [] back h = subst (λ (n : ℕ). AreEachFrames limits digest n back) (no_more count) h
frames_back limits digest count (payload ∷ front) back h =
    subst (λ (n : ℕ). AreEachFrames limits digest n back) (one_more count payload front) (frames_back limits digest (count + 1) front back h.1)

pub text_of_both : (digest : Digest) (count : ℕ) (front back : List (List ℕ)) → frames_text digest count (front ++ back) ≡ frames_text digest count front ++ frames_text digest (count + length front) back
text_of_both digest count [] back = ap (λ (n : ℕ). frames_text digest n back) (no_more count)
text_of_both digest count (payload ∷ front) back =
    ap (λ (t : List ℕ). frame_text digest (count + 1) payload ++ t) (
    text_of_both digest (count + 1) front back
    ∙ ap (λ (n : ℕ). frames_text digest (count + 1) front ++ frames_text digest n back) (one_more count payload front)
    )
    ∙ sym (append_assoc (frame_text digest (count + 1) payload) (frames_text digest (count + 1) front) (frames_text digest (count + length (payload ∷ front)) back))

-- A stream whose first payloads are these and those.
record IsSplit (limits : Limits) (digest : Digest) (stream : List ℕ) (front back : List (List ℕ)) : Type 0 where
  after : List ℕ
  frames : AreEachFrames limits digest 0 front
  back_frames : AreEachFrames limits digest (length front) back
  stream_is : stream ≡ frames_text digest 0 front ++ (frames_text digest (length front) back ++ after)

split : (limits : Limits) (digest : Digest) (stream : List ℕ) (front back : List (List ℕ)) (state : Result FrameProgress FrameFault) → limits.payload < 2 ^ 64 → cut_of_stream limits digest stream ≡ (front ++ back, state) → IsSplit limits digest stream front back
split limits digest stream front back state l e =
    let a = authentic_by_given limits digest stream (front ++ back) state l e in
    record {
      after = a.1.0;
      frames = frames_front limits digest 0 front back a.0;
      back_frames = subst (λ (n : ℕ). AreEachFrames limits digest n back) (from_zero front) (frames_back limits digest 0 front back a.0);
      stream_is =
          a.1.1
          ∙ ap (λ (t : List ℕ). t ++ a.1.0) (text_of_both digest 0 front back ∙ ap (λ (n : ℕ). frames_text digest 0 front ++ frames_text digest n back) (from_zero front))
          ∙ append_assoc (frames_text digest 0 front) (frames_text digest (length front) back) a.1.0;
    }

-- ---- a fault of the framer

-- The payloads before a fault are the first of the cut.
fault_follows : (why : FrameFault) (given : List (List ℕ)) (p : FrameProgress) (new : Result FrameProgress FrameFault) (cut : Cut) → FaultsNow why given (Ok p) new cut → (more : List (List ℕ)) × (cut.0 ≡ given ++ more)
fault_follows BadHeader given p new cut h = ([], ap (λ (c : Cut). c.0) h.2 ∙ sym (append-nil given))
fault_follows TooManyFrames given p new cut h = ([], ap (λ (c : Cut). c.0) h.2 ∙ sym (append-nil given))
fault_follows BadDigest given p new cut h = ([], ap (λ (c : Cut). c.0) h.2 ∙ sym (append-nil given))
fault_follows NoFrameMemory given p new cut h = h.2
fault_follows Failed given p new cut h = absurd (false≢true h.0)

-- The stream so far, cut, and its next octets.
whole_cut : (limits : Limits) (digest : Digest) (stream octets : List ℕ) (payloads : List (List ℕ)) (p : FrameProgress) → cut_of_stream limits digest stream ≡ (payloads, Ok p) → cut_of_stream limits digest (stream ++ octets) ≡ with_payloads payloads (cut_from limits digest (Ok p) octets)
whole_cut limits digest stream octets payloads p e =
    cut_from-append limits digest (Ok (start 0)) stream octets ∙ ap (λ (c : Cut). with_payloads c.0 (cut_from limits digest c.1 octets)) e

is_by_fault : (why : FrameFault) → IsByOctets (end_of_fault why)
is_by_fault BadHeader = tt
is_by_fault TooManyFrames = tt
is_by_fault BadDigest = tt
is_by_fault NoFrameMemory = tt
is_by_fault Failed = tt

some_progress : (state : Result FrameProgress FrameFault) → IsOk state → (p : FrameProgress) × (state ≡ Ok p)
some_progress (Ok p) h = (p, refl)
some_progress (Err why) h = absurd (false≢true h)

module _ {S : Type 0} (acts : S → WireMessage → Bool → S → Type 0) where
  -- ---- ends at a payload

  ends_at_next : (limits : Limits) (digest : Digest) (count : ℕ) (end : ReceiveEnd) (s t : S) (payload rest : List ℕ) → IsNextFrame limits digest count payload rest → EndsAtPayload acts end s payload t → EndsReceiving acts end limits digest count rest s t
  ends_at_next limits digest count Closed s t payload rest next h = absurd h
  ends_at_next limits digest count ReadFailed s t payload rest next h = absurd h
  ends_at_next limits digest count (BadFrame why) s t payload rest next h = absurd h
  ends_at_next limits digest count (BadLine fault) s t payload rest next h = (payload, next, h)
  ends_at_next limits digest count Stopped s t payload rest next h = (payload, next, h)
  ends_at_next limits digest count NoMemory s t payload rest next h = h

  -- the payloads of the stream, one of which ends the link
  ends_among : (limits : Limits) (digest : Digest) (s m t : S) (stream : List ℕ) (end : ReceiveEnd) (payloads given more : List (List ℕ)) (state : Result FrameProgress FrameFault)
      → limits.payload < 2 ^ 64 → cut_of_stream limits digest stream ≡ (payloads ++ (given ++ more), state)
      → ActsOnPayloads acts s payloads m → EndsAtOneOf acts end m given t → HasReceived acts limits digest s stream end t
  ends_among limits digest s m t stream end payloads given more state l cut acted h =
      let front : List (List ℕ) = payloads ++ h.front in
      let back : List (List ℕ) = h.back ++ more in
      let count : ℕ = length front in
      let lists : payloads ++ (given ++ more) ≡ front ++ h.payload ∷ back =
      ap (λ (g : List (List ℕ)). payloads ++ (g ++ more)) h.payloads_are
      ∙ ap (λ (g : List (List ℕ)). payloads ++ g) (append_assoc h.front (h.payload ∷ h.back) more)
      ∙ sym (append_assoc payloads h.front (h.payload ∷ back))
      in
      let parts = split limits digest stream front (h.payload ∷ back) state l (cut ∙ ap (λ (g : List (List ℕ)). (g, state)) lists) in
      let next : IsNextFrame limits digest count h.payload (frames_text digest count (h.payload ∷ back) ++ parts.after) = (
        parts.back_frames.0,
        (frames_text digest (count + 1) back ++ parts.after, append_assoc (frame_text digest (count + 1) h.payload) (frames_text digest (count + 1) back) parts.after),
      ) in
      record {
        payloads = front;
        rest = frames_text digest count (h.payload ∷ back) ++ parts.after;
        between = h.between;
        frames = parts.frames;
        stream_is = parts.stream_is;
        acted = acts_append acts s m h.between payloads h.front acted h.acted;
        ends = ends_at_next limits digest count end h.between t h.payload (frames_text digest count (h.payload ∷ back) ++ parts.after) next h.ends;
      }

  -- ---- ends at a fault of the frames

  ends_by_fault : (limits : Limits) (digest : Digest) (s t : S) (stream : List ℕ) (payloads : List (List ℕ)) (why : FrameFault)
      → limits.payload < 2 ^ 64 → cut_of_stream limits digest stream ≡ (payloads, Err why) → ActsOnPayloads acts s payloads t → HasReceived acts limits digest s stream (BadFrame why) t
  ends_by_fault limits digest s t stream payloads why l cut acted =
      let f = fault_by_given limits digest stream payloads why l cut in
      let count : ℕ = length payloads in
      let here : FailsAfter limits digest count (f.rest ++ f.octet ∷ f.after) [] why = record {
        front = f.rest;
        octet = f.octet;
        after = f.after;
        rest = f.rest;
        stream_is = refl;
        before = record {
          are_frames = tt;
          is_rest = subst (λ (n : ℕ). IsRest limits n f.rest) (from_zero payloads ∙ no_more count) f.before.is_rest;
          stream_is = refl;
        };
        fault = subst (λ (n : ℕ). MakesFault limits digest n f.rest f.octet why) (from_zero payloads ∙ no_more count) f.fault;
      } in
      record {
        payloads = payloads;
        rest = f.rest ++ f.octet ∷ f.after;
        between = t;
        frames = f.before.are_frames;
        stream_is =
            f.stream_is
            ∙ ap (λ (text : List ℕ). text ++ f.octet ∷ f.after) f.before.stream_is
            ∙ append_assoc (frames_text digest 0 payloads) f.rest (f.octet ∷ f.after);
        acted = acted;
        ends = (here, refl);
      }

  ends_without_memory : (limits : Limits) (digest : Digest) (s t : S) (stream : List ℕ) (payloads more : List (List ℕ)) (state : Result FrameProgress FrameFault)
      → limits.payload < 2 ^ 64 → cut_of_stream limits digest stream ≡ (payloads ++ more, state) → ActsOnPayloads acts s payloads t → HasReceived acts limits digest s stream NoMemory t
  ends_without_memory limits digest s t stream payloads more state l cut acted =
      let parts = split limits digest stream payloads more state l cut in
      record {
        payloads = payloads;
        rest = frames_text digest (length payloads) more ++ parts.after;
        between = t;
        frames = parts.frames;
        stream_is = parts.stream_is;
        acted = acted;
        ends = refl;
      }

  module _ (limits : Limits) (key : List ℕ) (first s : S) (stream octets : List ℕ) (framer new : FramerState) (h : IsReceiving acts limits key first stream framer s) where
    abbrev digest : Digest
    digest = frame_digest key

    abbrev cut : Cut
    cut = cut_from limits digest (Ok h.progress) octets

    whole : cut_of_stream limits digest (stream ++ octets) ≡ with_payloads h.payloads cut
    whole = whole_cut limits (frame_digest key) stream octets h.payloads h.progress h.cut

    ends_after : (why : FrameFault) (given : List (List ℕ)) (t : S) (state : Result FrameProgress FrameFault) → FaultsNow why given (Ok h.progress) state cut → ActsOnPayloads acts s given t → HasReceived acts limits digest first (stream ++ octets) (end_of_fault why) t
    ends_after BadHeader given t state f a =
        ends_by_fault limits digest first t (stream ++ octets) (h.payloads ++ given) BadHeader h.bounded (whole ∙ ap (with_payloads h.payloads) f.2) (acts_append acts first s t h.payloads given h.acted a)
    ends_after TooManyFrames given t state f a =
        ends_by_fault limits digest first t (stream ++ octets) (h.payloads ++ given) TooManyFrames h.bounded (whole ∙ ap (with_payloads h.payloads) f.2) (acts_append acts first s t h.payloads given h.acted a)
    ends_after BadDigest given t state f a =
        ends_by_fault limits digest first t (stream ++ octets) (h.payloads ++ given) BadDigest h.bounded (whole ∙ ap (with_payloads h.payloads) f.2) (acts_append acts first s t h.payloads given h.acted a)
    ends_after NoFrameMemory given t state f a =
        ends_without_memory limits digest first t (stream ++ octets) (h.payloads ++ given) f.2.0 cut.1 h.bounded
        (whole ∙ ap (λ (g : List (List ℕ)). (g, cut.1)) (ap (λ (g : List (List ℕ)). h.payloads ++ g) f.2.1 ∙ sym (append_assoc h.payloads given f.2.0)))
        (acts_append acts first s t h.payloads given h.acted a)
    ends_after Failed given t state f a = absurd (false≢true f.0)

    ends_among_next : (end : ReceiveEnd) (given more : List (List ℕ)) (t : S) → cut.0 ≡ given ++ more → EndsAtOneOf acts end s given t → HasReceived acts limits digest first (stream ++ octets) end t
    ends_among_next end given more t e k =
        ends_among limits digest first s t (stream ++ octets) end h.payloads given more cut.1 h.bounded (whole ∙ ap (λ (g : List (List ℕ)). (h.payloads ++ g, cut.1)) e) h.acted k

    state_is : framer.state ≡ Ok h.progress
    state_is = ap (λ (f : FramerState). f.state) h.framer_is

    cut_is : cut_by_framer framer octets ≡ cut
    cut_is = ap (λ (f : FramerState). cut_by_framer f octets) h.framer_is

    -- The framer failed in the next octets.
    pub piece_fails : (why : FrameFault) (given : List (List ℕ)) (t : S) (end : ReceiveEnd) → FaultsNow why given framer.state new.state (cut_by_framer framer octets)
        → EndsAtOneOf acts end s given t ⊎ ((end ≡ end_of_fault why) × ActsOnPayloads acts s given t)
        → HasReceived acts limits (frame_digest key) first (stream ++ octets) end t
    piece_fails why given t end f a =
        let g : FaultsNow why given (Ok h.progress) new.state cut =
        subst (λ (c : Cut). FaultsNow why given (Ok h.progress) new.state c) cut_is (subst (λ (r : Result FrameProgress FrameFault). FaultsNow why given r new.state (cut_by_framer framer octets)) state_is f)
        in
        elim a [
          | inl k ↦ let more = fault_follows why given h.progress new.state cut g in ends_among_next end given more.0 t more.1 k
          | inr k ↦ subst (λ (e : ReceiveEnd). HasReceived acts limits digest first (stream ++ octets) e t) (sym k.0) (ends_after why given t new.state g k.1)
        ]

    -- The framer read the next octets, and no message ended the link.
    continues : (given : List (List ℕ)) (t : S) → new.limits ≡ framer.limits → new.key ≡ framer.key → cut_by_framer framer octets ≡ (given, new.state) → IsOk new.state → ActsOnPayloads acts s given t
        → IsReceiving acts limits key first (stream ++ octets) new t
    continues given t el ek e o a =
        let p = some_progress new.state o in
        let limits_are : new.limits ≡ limits = el ∙ ap (λ (f : FramerState). f.limits) h.framer_is in
        let key_is : new.key ≡ key = ek ∙ ap (λ (f : FramerState). f.key) h.framer_is in
        record {
          bounded = h.bounded;
          payloads = h.payloads ++ given;
          progress = p.0;
          framer_is = λ i. record { limits = limits_are i; key = key_is i; state = p.1 i };
          cut = whole ∙ ap (with_payloads h.payloads) (sym cut_is ∙ e) ∙ ap (λ (r : Result FrameProgress FrameFault). (h.payloads ++ given, r)) p.1;
          acted = acts_append acts first s t h.payloads given h.acted a;
        }

    -- The framer read the next octets.
    pub piece_read : (r : Result (Unit {0}) ReceiveEnd) (given : List (List ℕ)) (t : S) → new.limits ≡ framer.limits → new.key ≡ framer.key → cut_by_framer framer octets ≡ (given, new.state) → IsOk new.state
        → MatchResult r (λ done. ActsOnPayloads acts s given t) (λ end. EndsAtOneOf acts end s given t)
        → MatchResult r (λ done. IsReceiving acts limits key first (stream ++ octets) new t) (λ end. HasReceived acts limits (frame_digest key) first (stream ++ octets) end t)
    piece_read (Ok done) given t el ek e o a = continues given t el ek e o a
    piece_read (Err end) given t el ek e o a =
        ends_among_next end given [] t (ap (λ (c : Cut). c.0) (sym cut_is ∙ e) ∙ sym (append-nil given)) a

  -- ---- the end isn't one of the source

  pub read_is_by_octets : (r : Result (Unit {0}) ReceiveEnd) (s t : S) (given : List (List ℕ)) → MatchResult r (λ done. ActsOnPayloads acts s given t) (λ end. EndsAtOneOf acts end s given t) → IfErr r IsByOctets
  read_is_by_octets (Ok done) s t given h = tt
  read_is_by_octets (Err end) s t given h = one_is_by_octets acts end s t given h

  pub fault_is_by_octets : (why : FrameFault) (end : ReceiveEnd) (s t : S) (given : List (List ℕ)) → EndsAtOneOf acts end s given t ⊎ ((end ≡ end_of_fault why) × ActsOnPayloads acts s given t) → IsByOctets end
  fault_is_by_octets why end s t given h =
      elim h [
        | inl k ↦ one_is_by_octets acts end s t given k
        | inr k ↦ subst IsByOctets (sym k.0) (is_by_fault why)
      ]

  -- ---- the source ends or fails

  whole_stream : (limits : Limits) (key : List ℕ) (first s : S) (stream : List ℕ) (framer : FramerState) (end : ReceiveEnd)
      → ((count : ℕ) (rest : List ℕ) → IsRest limits count rest → EndsReceiving acts end limits (frame_digest key) count rest s s)
      → IsReceiving acts limits key first stream framer s → HasReceived acts limits (frame_digest key) first stream end s
  whole_stream limits key first s stream framer end ends h =
      let f = frames_by_given limits (frame_digest key) stream h.payloads h.progress h.bounded h.cut in
      let rest : List ℕ = h.progress.line ++ h.progress.payload in
      record {
        payloads = h.payloads;
        rest = rest;
        between = s;
        frames = f.are_frames;
        stream_is = f.stream_is;
        acted = h.acted;
        ends = ends (length h.payloads) rest (subst (λ (n : ℕ). IsRest limits n rest) (from_zero h.payloads) f.is_rest);
      }

  pub source_closed : (limits : Limits) (key : List ℕ) (first s : S) (stream : List ℕ) (framer : FramerState) → IsReceiving acts limits key first stream framer s → HasReceived acts limits (frame_digest key) first stream Closed s
  source_closed limits key first s stream framer h = whole_stream limits key first s stream framer Closed (λ count rest r. (r, refl)) h

  pub source_failed : (limits : Limits) (key : List ℕ) (first s : S) (stream : List ℕ) (framer : FramerState) → IsReceiving acts limits key first stream framer s → HasReceived acts limits (frame_digest key) first stream ReadFailed s
  source_failed limits key first s stream framer h = whole_stream limits key first s stream framer ReadFailed (λ count rest r. (r, refl)) h

  -- ---- before the first octet

  pub receiving_first : (limits : Limits) (key : List ℕ) (s : S) (framer : FramerState) → limits.payload < 2 ^ 64 → framer ≡ record { limits = limits; key = key; state = Ok (start 0) } → IsReceiving acts limits key s [] framer s
  receiving_first limits key s framer l e = record {
    bounded = l;
    payloads = [];
    progress = start 0;
    framer_is = e;
    cut = refl;
    acted = refl;
  }
