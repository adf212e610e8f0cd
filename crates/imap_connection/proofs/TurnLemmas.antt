use Rattle.std.proofs.Common.{◌≡◌, inl, inr, ℕ, zero, suc, List, [], ◌∷◌, ◌++◌, take, drop, ap, refl, sym, ◌∙◌, append_assoc, append-nil, subst, Result, Ok, Err, OnErr}
use Rattle.imap_answers.specs.declared.answer.Answer.{Answer}
use Rattle.imap_node.specs.Nodes.{HasLoggedOut, IsActive, NodeState, with_session_closed}
use Rattle.imap_connection.specs.Conversation.{BreaksOff, Converses, IsPrefixOf, StopsAt, TakesItemAt, TimedItem, turns_of_answers, turn_of_answer, turns_of}
use Rattle.imap_connection.specs.declared.turn.TalkFaultKind.{TalkFaultKind}
use Rattle.imap_connection.specs.declared.turn.Turn.{Turn}

-- the turns of the first answers and those of the rest are all turns
pub sent_parts : (i : ℕ) (given : List Answer) → turns_of_answers given ≡ turns_of_answers (take i given) ++ turns_of_answers (drop i given)
sent_parts zero given = refl
sent_parts (suc i) [] = refl
sent_parts (suc i) (answer ∷ given) = ap (λ turns. turn_of_answer answer ∷ turns) (sent_parts i given)

-- an initial part stays one if the same items are put before both
pub prefix_append : {T : Type 0} (before front all : List T) → IsPrefixOf front all → IsPrefixOf (before ++ front) (before ++ all)
prefix_append before front all f = (f.0, ap (λ xs. before ++ xs) f.1 ∙ sym (append_assoc before front f.0))

-- a statement that is true is true at an error
pub at_error : {T E : Type 0} (r : Result T E) (P : Type 0) → P → OnErr r P
at_error (Ok x) P p = tt
at_error (Err e) P p = p

-- A conversation in progress: a conversation over the remaining items, after the turns so far, is
-- one over all items.
pub record Underway (start : NodeState) (session : ℕ) (items : List TimedItem) (before : List Turn) (node : NodeState) (left : List TimedItem) (turns : List Turn) : Type 0 where
  pub active : IsActive node session
  pub done : List Turn
  pub turns_are : turns ≡ before ++ done
  pub converses : (rest : List Turn) (new : NodeState) → Converses node session left rest new → Converses start session items (done ++ rest) new
  pub breaks : (why : TalkFaultKind) (rest : List Turn) (new : NodeState) → BreaksOff why node session left rest new → BreaksOff why start session items (done ++ rest) new

module _ {start : NodeState} {session : ℕ} {items : List TimedItem} {before : List Turn} where
  pub underway_at_first : IsActive start session → Underway start session items before start items before
  underway_at_first h = record { active = h; done = []; turns_are = sym (append-nil before); converses = λ rest new c. c; breaks = λ why rest new b. b }

  pub underway_next : (node mid : NodeState) (timed : TimedItem) (left : List TimedItem) (turns after : List Turn) → Underway start session items before node (timed ∷ left) turns
      → ((given : List Answer) × TakesItemAt node session timed given mid × (after ≡ turns ++ turns_of timed.item given)) → IsActive mid session → Underway start session items before mid left after
  underway_next node mid timed left turns after u t g =
      let more = turns_of timed.item t.0 in
      record {
        active = g;
        done = u.done ++ more;
        turns_are = t.2 ∙ ap (λ ts. ts ++ more) u.turns_are ∙ append_assoc before u.done more;
        converses = λ rest new c. subst (λ (ts : List Turn). Converses start session items ts new) (sym (append_assoc u.done more rest)) (u.converses (more ++ rest) new (t.0, mid, t.1, inl (g, (rest, refl, c))));
        breaks = λ why rest new b. subst (λ (ts : List Turn). BreaksOff why start session items ts new) (sym (append_assoc u.done more rest)) (u.breaks why (more ++ rest) new (inr (t.0, mid, t.1, g, (rest, refl, b))));
      }

  pub underway_done : (node : NodeState) (turns : List Turn) → Underway start session items before node [] turns → (more : List Turn) × (turns ≡ before ++ more) × Converses start session items more node
  underway_done node turns u = (u.done ++ [], u.turns_are ∙ ap (λ ts. before ++ ts) (sym (append-nil u.done)), u.converses [] node (refl, refl))

  pub underway_out : (node mid : NodeState) (timed : TimedItem) (left : List TimedItem) (turns after : List Turn) → Underway start session items before node (timed ∷ left) turns
      → ((given : List Answer) × TakesItemAt node session timed given mid × (after ≡ turns ++ turns_of timed.item given)) → HasLoggedOut mid session
      → (more : List Turn) × (after ≡ before ++ more) × Converses start session items more (with_session_closed mid session)
  underway_out node mid timed left turns after u t g =
      let more = turns_of timed.item t.0 in
      (u.done ++ more, t.2 ∙ ap (λ ts. ts ++ more) u.turns_are ∙ append_assoc before u.done more, u.converses more (with_session_closed mid session) (t.0, mid, t.1, inr (g, refl, refl)))

  pub underway_broken : (why : TalkFaultKind) (node mid : NodeState) (timed : TimedItem) (left : List TimedItem) (turns after : List Turn) → Underway start session items before node (timed ∷ left) turns
      → ((more : List Turn) × (after ≡ turns ++ more) × StopsAt why node session timed more mid)
      → (more : List Turn) × (after ≡ before ++ more) × BreaksOff why start session items more (with_session_closed mid session)
  underway_broken why node mid timed left turns after u t =
      (u.done ++ t.0, t.1 ∙ ap (λ ts. ts ++ t.0) u.turns_are ∙ append_assoc before u.done t.0, u.breaks why t.0 (with_session_closed mid session) (inl (mid, t.2, refl)))
