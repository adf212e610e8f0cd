use Rattle.std.proofs.Common.{◌≡◌, ℕ, ◌+◌, Bool, true, false, List, [], ◌∷◌, ◌++◌, length, refl, sym, ap, ◌∙◌, subst, append_assoc, append-nil, arith}
use Rattle.std.proofs.lemmas.Grind.{flat_map-append}
use Rattle.crdt_ops.specs.declared.op.Op.{Op as Operation}
use Rattle.crdt_ops.specs.Form.{Each}
use Rattle.link_wire.specs.declared.limits.Limits.{Limits}
use Rattle.link_wire.specs.declared.wire_message.WireMessage.{WireMessage}
use Rattle.link_wire.specs.declared.wire_message.WireMessage.TheVariants.{Op, Have, Want, Ping, Bye}
use Rattle.link_wire.specs.Digests.{Digest}
use Rattle.link_wire.specs.Frames.{AreEachFrames, IsFrame, frame_text, frames_text}
use Rattle.link_wire.specs.Framing.{concat_pieces}
use Rattle.link_wire.specs.MessageForm.{AreSpelled, IsInForm, IsLawful}
use Rattle.link_wire.specs.MessageTexts.{line_text, payload_text}
use Rattle.link_connection.specs.declared.receive_end.ReceiveEnd.{ReceiveEnd}
use Rattle.link_connection.specs.declared.receive_end.ReceiveEnd.TheVariants.{Closed, ReadFailed, BadFrame, BadLine, Stopped, NoMemory}
use Rattle.link_connection.specs.Received.{ActsOnPayloads, AreActedOn, AreRead, EndsReceiving, HasReceived, IsNextFrame, IsStoppedBy}
use Rattle.link_connection.specs.ReceivedOps.{AreFirstOps, TakesOps, ops_of}
use Rattle.link_connection.proofs.PieceLemmas.{from_zero, no_more, one_more, text_of_both}

each_append : {X : Type 0} (P : X → Type 0) (xs ys : List X) → Each P xs → Each P ys → Each P (xs ++ ys)
each_append P [] ys h k = k
each_append P (x ∷ xs) ys h k = (h.0, each_append P xs ys h.1 k)

ops_first : (message : WireMessage) (messages : List WireMessage) → ops_of (message ∷ messages) ≡ ops_of (message ∷ []) ++ ops_of messages
ops_first (Op op) messages = refl
ops_first (Have clock chains) messages = refl
ops_first (Want clock) messages = refl
ops_first Ping messages = refl
ops_first (Bye reason) messages = refl

ops_append : (front back : List WireMessage) → ops_of (front ++ back) ≡ ops_of front ++ ops_of back
ops_append [] back = refl
ops_append (message ∷ front) back =
    ops_first message (front ++ back)
    ∙ ap (λ (ops : List Operation). ops_of (message ∷ []) ++ ops) (ops_append front back)
    ∙ sym (append_assoc (ops_of (message ∷ [])) (ops_of front) (ops_of back))
    ∙ ap (λ (ops : List Operation). ops ++ ops_of back) (sym (ops_first message front))

-- messages of two payloads
spelled_append : (front back : List WireMessage) (first second : List ℕ) → AreSpelled front first → AreSpelled back second → AreSpelled (front ++ back) (first ++ second)
spelled_append front back first second h k = (
  each_append IsInForm front back h.0 k.0,
  ap (λ (t : List ℕ). t ++ second) h.1 ∙ ap (λ (t : List ℕ). payload_text front ++ t) k.1 ∙ sym (flat_map-append line_text front back),
)

concat_append : (front back : List (List ℕ)) → concat_pieces (front ++ back) ≡ concat_pieces front ++ concat_pieces back
concat_append [] back = refl
concat_append (payload ∷ front) back = ap (λ (t : List ℕ). payload ++ t) (concat_append front back) ∙ sym (append_assoc payload (concat_pieces front) (concat_pieces back))

frames_more : (limits : Limits) (digest : Digest) (count : ℕ) (payloads : List (List ℕ)) (payload : List ℕ) → AreEachFrames limits digest count payloads → IsFrame limits digest (count + length payloads + 1) payload → AreEachFrames limits digest count (payloads ++ payload ∷ [])
frames_more limits digest count [] payload h k = (subst (λ (n : ℕ). IsFrame limits digest (n + 1) payload) (sym (no_more count)) k, tt)
frames_more limits digest count (first ∷ payloads) payload h k =
    (h.0, frames_more limits digest (count + 1) payloads payload h.1 (subst (λ (n : ℕ). IsFrame limits digest (n + 1) payload) (sym (one_more count first payloads)) k))

module _ {S : Type 0} (acts : S → WireMessage → Bool → S → Type 0) (taken : S → List Operation) (takes : TakesOps acts taken) where
  taken_of_messages : (s t : S) (messages : List WireMessage) → AreActedOn acts s messages t → taken t ≡ taken s ++ ops_of messages
  taken_of_messages s t [] h = ap taken (sym h) ∙ sym (append-nil (taken s))
  taken_of_messages s t (message ∷ messages) h =
      taken_of_messages h.0 t messages h.2
      ∙ ap (λ (ops : List Operation). ops ++ ops_of messages) (takes.continues s h.0 message h.1)
      ∙ append_assoc (taken s) (ops_of (message ∷ [])) (ops_of messages)
      ∙ ap (λ (ops : List Operation). taken s ++ ops) (sym (ops_first message messages))

  record HasTaken (s : S) (payloads : List (List ℕ)) (t : S) : Type 0 where
    messages : List WireMessage
    spelled : AreSpelled messages (concat_pieces payloads)
    lawful : Each IsLawful messages
    taken_is : taken t ≡ taken s ++ ops_of messages

  taken_of_payloads : (s t : S) (payloads : List (List ℕ)) → ActsOnPayloads acts s payloads t → HasTaken s payloads t
  taken_of_payloads s t [] h = record { messages = []; spelled = (tt, refl); lawful = tt; taken_is = ap taken (sym h) ∙ sym (append-nil (taken s)) }
  taken_of_payloads s t (payload ∷ payloads) h =
      let rest = taken_of_payloads h.1 t payloads h.4 in
      record {
        messages = h.0 ++ rest.messages;
        spelled = spelled_append h.0 rest.messages payload (concat_pieces payloads) h.2.0 rest.spelled;
        lawful = each_append IsLawful h.0 rest.messages h.2.1 rest.lawful;
        taken_is =
            rest.taken_is
            ∙ ap (λ (ops : List Operation). ops ++ ops_of rest.messages) (taken_of_messages s h.1 h.0 h.3)
            ∙ append_assoc (taken s) (ops_of h.0) (ops_of rest.messages)
            ∙ ap (λ (ops : List Operation). taken s ++ ops) (sym (ops_append h.0 rest.messages));
      }

  -- nothing was taken after these payloads
  all_taken : (limits : Limits) (digest : Digest) (first last between : S) (stream rest : List ℕ) (payloads : List (List ℕ))
      → AreEachFrames limits digest 0 payloads → stream ≡ frames_text digest 0 payloads ++ rest → HasTaken first payloads between → between ≡ last
      → (ops : List Operation) × (taken last ≡ taken first ++ ops) × AreFirstOps limits digest stream ops
  all_taken limits digest first last between stream rest payloads frames stream_is h same = (
    ops_of h.messages,
    ap taken (sym same) ∙ h.taken_is,
    record {
      payloads = payloads;
      after = rest;
      messages = h.messages;
      later = [];
      frames = frames;
      stream_is = stream_is;
      spelled = subst (λ (all : List WireMessage). AreSpelled all (concat_pieces payloads)) (sym (append-nil h.messages)) h.spelled;
      lawful = subst (Each IsLawful) (sym (append-nil h.messages)) h.lawful;
      ops_are = refl;
    },
  )

  -- some messages of the next frame were acted on
  some_taken : (limits : Limits) (digest : Digest) (first last between : S) (stream rest payload : List ℕ) (payloads : List (List ℕ)) (read : List WireMessage)
      → AreEachFrames limits digest 0 payloads → stream ≡ frames_text digest 0 payloads ++ rest → HasTaken first payloads between
      → IsNextFrame limits digest (length payloads) payload rest → AreRead read payload → IsStoppedBy acts between read last
      → (ops : List Operation) × (taken last ≡ taken first ++ ops) × AreFirstOps limits digest stream ops
  some_taken limits digest first last between stream rest payload payloads read frames stream_is h next spelled stop =
      let all : List (List ℕ) = payloads ++ payload ∷ [] in
      let messages : List WireMessage = h.messages ++ stop.front in
      let later : List WireMessage = stop.message ∷ stop.back in
      let lists : h.messages ++ read ≡ messages ++ later = ap (λ (ms : List WireMessage). h.messages ++ ms) stop.messages_are ∙ sym (append_assoc h.messages stop.front later) in
      let pieces : concat_pieces payloads ++ payload ≡ concat_pieces all = ap (λ (t : List ℕ). concat_pieces payloads ++ t) (sym (append-nil payload)) ∙ sym (concat_append payloads (payload ∷ [])) in
      let both : AreSpelled (h.messages ++ read) (concat_pieces payloads ++ payload) = spelled_append h.messages read (concat_pieces payloads) payload h.spelled spelled.0 in
      let frame : frames_text digest (0 + length payloads) (payload ∷ []) ≡ frame_text digest (length payloads + 1) payload =
      append-nil (frame_text digest (0 + length payloads + 1) payload) ∙ ap (λ (n : ℕ). frame_text digest (n + 1) payload) (from_zero payloads)
      in
      let texts : frames_text digest 0 payloads ++ frame_text digest (length payloads + 1) payload ≡ frames_text digest 0 all =
      ap (λ (t : List ℕ). frames_text digest 0 payloads ++ t) (sym frame) ∙ sym (text_of_both digest 0 payloads (payload ∷ []))
      in (
        ops_of messages,
        takes.stops stop.between last stop.message stop.stops
            ∙ taken_of_messages between stop.between stop.front stop.acted
            ∙ ap (λ (ops : List Operation). ops ++ ops_of stop.front) h.taken_is
            ∙ append_assoc (taken first) (ops_of h.messages) (ops_of stop.front)
            ∙ ap (λ (ops : List Operation). taken first ++ ops) (sym (ops_append h.messages stop.front)),
        record {
          payloads = all;
          after = next.1.0;
          messages = messages;
          later = later;
          frames = frames_more limits digest 0 payloads payload frames (subst (λ (n : ℕ). IsFrame limits digest (n + 1) payload) (sym (from_zero payloads)) next.0);
          stream_is =
              stream_is
              ∙ ap (λ (t : List ℕ). frames_text digest 0 payloads ++ t) next.1.1
              ∙ sym (append_assoc (frames_text digest 0 payloads) (frame_text digest (length payloads + 1) payload) next.1.0)
              ∙ ap (λ (t : List ℕ). t ++ next.1.0) texts;
          spelled = subst (λ (ms : List WireMessage). AreSpelled ms (concat_pieces all)) lists (subst (AreSpelled (h.messages ++ read)) pieces both);
          lawful = subst (Each IsLawful) lists (each_append IsLawful h.messages read h.lawful spelled.1);
          ops_are = refl;
        },
      )

  by_end : (limits : Limits) (digest : Digest) (first last between : S) (stream rest : List ℕ) (payloads : List (List ℕ)) (end : ReceiveEnd)
      → AreEachFrames limits digest 0 payloads → stream ≡ frames_text digest 0 payloads ++ rest → HasTaken first payloads between
      → EndsReceiving acts end limits digest (length payloads) rest between last
      → (ops : List Operation) × (taken last ≡ taken first ++ ops) × AreFirstOps limits digest stream ops
  by_end limits digest first last between stream rest payloads Closed f s h e = all_taken limits digest first last between stream rest payloads f s h e.1
  by_end limits digest first last between stream rest payloads ReadFailed f s h e = all_taken limits digest first last between stream rest payloads f s h e.1
  by_end limits digest first last between stream rest payloads (BadFrame why) f s h e = all_taken limits digest first last between stream rest payloads f s h e.1
  by_end limits digest first last between stream rest payloads (BadLine fault) f s h e = all_taken limits digest first last between stream rest payloads f s h e.2.2
  by_end limits digest first last between stream rest payloads Stopped f s h e = some_taken limits digest first last between stream rest e.0 payloads e.2.0 f s h e.1 e.2.1 e.2.2
  by_end limits digest first last between stream rest payloads NoMemory f s h e = all_taken limits digest first last between stream rest payloads f s h e

  pub ops_taken : (limits : Limits) (digest : Digest) (first last : S) (stream : List ℕ) (end : ReceiveEnd) → HasReceived acts limits digest first stream end last
      → (ops : List Operation) × (taken last ≡ taken first ++ ops) × AreFirstOps limits digest stream ops
  ops_taken limits digest first last stream end h = by_end limits digest first last h.between stream h.rest h.payloads end h.frames h.stream_is (taken_of_payloads first h.between h.payloads h.acted) h.ends
