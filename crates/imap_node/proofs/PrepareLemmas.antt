-- The reply to an input that can be carried out, after operations that are ready.
use Rattle.std.proofs.Common.{◌≡◌, ℕ, ◌+◌, List, [], ◌++◌, sym, ap, ◌∙◌, subst}
use Rattle.std.specs.Prelude.{Ok}
use Rattle.causal_inbox.specs.Inbox.{AreIssued}
use Rattle.crdt_ops.specs.declared.kind.Kind.{Kind}
use Rattle.crdt_ops.specs.declared.op.Op.{Op}
use Rattle.imap_commands.specs.declared.session.Session.{Session}
use Rattle.imap_node.specs.declared.input.Input.{Input}
use Rattle.imap_node.specs.declared.plan.PreparedInput.{PreparedInput}
use Rattle.imap_node.specs.Operations.{AreNext, CanFollow, clock_of, id_of}
use Rattle.imap_node.specs.Nodes.{IsReady, ReplicaWithRoom}
use Rattle.imap_node.specs.Plans.{IsPreparedReply, IsPreparedInput, IsReadyInput}
use Rattle.imap_node.specs.Responses.{IsStamp, input_intent}
use Rattle.imap_node.specs.Rooms.{HasRoomFor}
use Rattle.imap_node.specs.SessionChanges.{CanChangeSession}
use Rattle.imap_node.specs.SessionFeeds.{AreChangeNotes}
use Rattle.tags_clocks.specs.Clock.{count_of}
use Rattle.uid_projection.specs.declared.first_numbers.Counters.{Counters}
use Rattle.uid_projection.specs.Exhaustion.{Exhausts}

-- operations that come next are issued after those applied
pub issued_next : (replica : ℕ) (applied : List Op) (kinds : List Kind) (ops : List Op) → AreNext replica applied kinds ops → AreIssued id_of clock_of applied ops
issued_next replica applied kinds ops h = λ front o back e.
    let n = h.next front o back e in
    (n.clock, ap (λ (r : ℕ). count_of o.clock r + 1) n.own ∙ sym n.number)

-- an input can be carried out, and this is its reply, if the replica has the same operations before
-- it and when it is answered
pub prepares : (start start' : Counters) (applied applied' : List Op) (session : Session) (input : Input) (stamp : List ℕ) (kinds : List Kind) (ops : List Op) (prepared : PreparedInput) → start' ≡ start → applied' ≡ applied → IsStamp input stamp
    → input_intent start applied stamp session.state input ≡ Ok kinds → AreNext start.replica applied kinds ops → CanFollow start' applied' ops → IsPreparedReply start' applied' (applied' ++ ops) session input prepared.answered
    → prepared.ops ≡ ops → prepared.copies ≡ ops → IsPreparedInput start applied session input prepared
prepares start start' applied applied' session input stamp kinds ops prepared s a stamped intended next follow answered o copies =
    record {
      stamp = stamp;
      stamped = stamped;
      kinds = kinds;
      intended = intended;
      next = subst (λ (xs : List Op). AreNext start.replica applied kinds xs) (sym o) next;
      not_exhausted = subst (λ (xs : List Op). Exhausts start applied xs → ⊥) (sym o) (subst (λ (b : Counters). Exhausts b applied ops → ⊥) s (subst (λ (list : List Op). Exhausts start' list ops → ⊥) a follow.not_exhausted));
      answered =
          subst (λ (xs : List Op). IsPreparedReply start applied (applied ++ xs) session input prepared.answered) (sym o)
          (subst (λ (b : Counters). IsPreparedReply b applied (applied ++ ops) session input prepared.answered) s
          (subst (λ (list : List Op). IsPreparedReply start' list (list ++ ops) session input prepared.answered) a answered));
      copies = copies ∙ sym o;
    }

-- the same, with the room for what it issues, its change notes, and its session's change
pub is_ready_input : (old new : ReplicaWithRoom) (session : Session) (input : Input) (stamp : List ℕ) (kinds : List Kind) (ops : List Op) (prepared : PreparedInput) → new.start ≡ old.start → new.applied ≡ old.applied → IsStamp input stamp
    → input_intent old.start old.applied stamp session.state input ≡ Ok kinds → AreNext old.start.replica old.applied kinds ops → IsReady new ops → IsPreparedReply new.start new.applied (new.applied ++ ops) session input prepared.answered
    → CanChangeSession new.start (new.applied ++ ops) session.state prepared.answered.update.state_change → AreChangeNotes new.start new.applied (new.applied ++ ops) prepared.change_notes → prepared.ops ≡ ops → prepared.copies ≡ ops → IsReadyInput old new session input prepared
is_ready_input old new session input stamp kinds ops prepared s a stamped intended next ready answered can changes o copies =
    record {
      reply = prepares old.start new.start old.applied new.applied session input stamp kinds ops prepared s a stamped intended next ready.follow answered o copies;
      issued = subst (λ (xs : List Op). AreIssued id_of clock_of old.applied xs) (sym o) (issued_next old.start.replica old.applied kinds ops next);
      room = subst (λ (xs : List Op). (xs ≡ [] → ⊥) → HasRoomFor new.applied new.room xs) (sym o) ready.room;
      changes =
          subst (λ (xs : List Op). AreChangeNotes old.start old.applied (old.applied ++ xs) prepared.change_notes) (sym o)
          (subst (λ (b : Counters). AreChangeNotes b old.applied (old.applied ++ ops) prepared.change_notes) s
          (subst (λ (list : List Op). AreChangeNotes new.start list (list ++ ops) prepared.change_notes) a changes));
      can =
          subst (λ (xs : List Op). CanChangeSession old.start (old.applied ++ xs) session.state prepared.answered.update.state_change) (sym o)
          (subst (λ (b : Counters). CanChangeSession b (old.applied ++ ops) session.state prepared.answered.update.state_change) s
          (subst (λ (list : List Op). CanChangeSession new.start (list ++ ops) session.state prepared.answered.update.state_change) a can));
    }
