use Rattle.std.proofs.Common.{◌≡◌, ◌≢◌, ℕ, ◌+◌, ◌<◌, List, [], ◌∷◌, ◌++◌, length, map, Option, refl, sym, ap, ◌∙◌, subst, append_assoc, arith}
use Rattle.std.proofs.lemmas.List.{append-nil}
use Rattle.std.specs.Prelude.{max, ◌==◌, if◌then◌else◌}
use Rattle.crdt_ops.specs.declared.op.Op.{Op as Operation}
use Rattle.link_wire.specs.declared.frame_writer.WriteFault.{WriteFault}
use Rattle.link_wire.specs.declared.frame_writer.WriteFault.TheVariants.{NoMemory as NoFrameMemory, OutsideLimits as Outside}
use Rattle.link_wire.specs.declared.wire_message.WireMessage.TheVariants.{Op}
use Rattle.link_wire.specs.Digests.{frame_digest}
use Rattle.link_wire.specs.Frames.{IsFrame}
use Rattle.link_wire.specs.FrameWriting.{WriterState}
use Rattle.link_wire.specs.MessageTexts.{line_text, payload_text}
use Rattle.tags_clocks.specs.Clock.{IsRaised, count_of}
use Rattle.link_connection.specs.declared.send_fault.SendFault.{SendFault}
use Rattle.link_connection.specs.declared.send_fault.SendFault.TheVariants.{OutsideLimits, NoMemory, WriteFailed}
use Rattle.link_connection.specs.Sent.{AreRefused, IsFrameSent, AreSent, IsRaisedBy, IsRefused, fault_of_write, greatest_number, ops_payload}

-- ---- the clock

greatest_of_more : (number replica : ℕ) (ops : List Operation) (op : Operation) → greatest_number number replica (ops ++ op ∷ []) ≡ (if replica == op.id.replica then max (greatest_number number replica ops) op.id.number else greatest_number number replica ops)
greatest_of_more number replica [] op = refl
greatest_of_more number replica (first ∷ ops) op = greatest_of_more (if replica == first.id.replica then max number first.id.number else number) replica ops op

pub raised_more : (old between new : List (ℕ × ℕ)) (ops : List Operation) (op : Operation) → IsRaisedBy old ops between → IsRaised between op.id.replica op.id.number new → IsRaisedBy old (ops ++ op ∷ []) new
raised_more old between new ops op h k replica =
    k replica
    ∙ ap (λ (count : ℕ). if replica == op.id.replica then max count op.id.number else count) (h replica)
    ∙ sym (greatest_of_more (count_of old replica) replica ops op)

-- ---- the lines

lines_append : (front : List Operation) (op : Operation) → ops_payload (front ++ op ∷ []) ≡ ops_payload front ++ line_text (Op op)
lines_append [] op = append-nil (line_text (Op op))
lines_append (first ∷ front) op = ap (λ (t : List ℕ). line_text (Op first) ++ t) (lines_append front op) ∙ sym (append_assoc (line_text (Op first)) (ops_payload front) (line_text (Op op)))

-- one more line
pub lines_more : (front : List Operation) (op : Operation) (before after : List ℕ) → before ≡ ops_payload front → after ≡ before ++ line_text (Op op) → after ≡ ops_payload (front ++ op ∷ [])
lines_more front op before after h k = k ∙ ap (λ (t : List ℕ). t ++ line_text (Op op)) h ∙ sym (lines_append front op)

-- ---- sent or refused

not_empty : (ops : List Operation) → 0 < length ops → ops ≢ []
not_empty [] h = absurd (omega arith)
not_empty (op ∷ ops) h = λ e. cc

pub are_sent : (ops : List Operation) (old new : WriterState) (before after : Option (List ℕ)) → 0 < length ops → IsFrameSent old ops before new after → AreSent old ops before new after
are_sent [] old new before after h k = absurd (omega arith)
are_sent (op ∷ ops) old new before after h k = k

pub refused_by_writer : (ops : List Operation) (why : WriteFault) (fault : SendFault) (payload : List ℕ) (old new : WriterState) (before after : Option (List ℕ)) → 0 < length ops → payload ≡ ops_payload ops → fault ≡ fault_of_write why
    → (why ≡ Outside → IsFrame old.limits (frame_digest old.key) (old.count + 1) payload → ⊥) → new ≡ old → after ≡ before
    → IsRefused ops fault old before new after
refused_by_writer ops Outside fault payload old new before after some p f limits same taken =
    subst (λ (g : SendFault). IsRefused ops g old before new after) (sym f)
    (not_empty ops some, (λ frame. limits refl (subst (λ (t : List ℕ). IsFrame old.limits (frame_digest old.key) (old.count + 1) t) (sym p) frame)), same, taken)
refused_by_writer ops NoFrameMemory fault payload old new before after some p f limits same taken =
    subst (λ (g : SendFault). IsRefused ops g old before new after) (sym f) (same, taken)

pub are_refused : (known : List Operation → Type 0) (ops : List Operation) (fault : SendFault) (old new : WriterState) (before after : Option (List ℕ)) → known ops → IsRefused ops fault old before new after → AreRefused known fault old before new after
are_refused known ops OutsideLimits old new before after k h = (ops, k, h)
are_refused known ops NoMemory old new before after k h = h
are_refused known ops WriteFailed old new before after k h = (ops, k, h)
