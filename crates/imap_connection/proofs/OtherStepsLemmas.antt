use Rattle.std.proofs.Common.{◌≡◌, inl, inr, ℕ, zero, suc, List, [], ◌∷◌, ◌++◌, length, Option, Some, None, IsSome, Result, Ok, Err, OnErr, refl, sym, ap, ◌∙◌, subst}
use Rattle.std.specs.Prelude.{MatchResult, option_to_list}
use Rattle.causal_inbox.specs.declared.delivery.DeliverFault.{DeliverFault}
use Rattle.causal_inbox.specs.declared.delivery.Delivered.{Delivered}
use Rattle.crdt_ops.specs.declared.op.Op.{Op}
use Rattle.imap_commands.specs.declared.session.Session.{Session}
use Rattle.imap_node.specs.Deliveries.{Delivers, IsRefusedAt}
use Rattle.imap_node.specs.Nodes.{HasLoggedOut, IsActive, IsAwaitedInput, IsIdlingAt, NodeState, with_session_closed}
use Rattle.imap_node.specs.Responses.{Responds}
use Rattle.imap_node.specs.Sessions.{IsOpen, session_at}
use Rattle.imap_node.specs.declared.input.Input.{Input}
use Rattle.imap_node.specs.declared.input.Input.TheVariants.{Command, Line, Poll}
use Rattle.imap_node.specs.declared.reply.Reply.{Reply}
use Rattle.imap_node.specs.declared.reply.Reply.TheVariants.{Done, Refused}
use Rattle.imap_node.proofs.SessionLemmas.{open_is, others_stay, session_put}
use Rattle.imap_connection.specs.Replies.{idling_at, tag_of_idling}
use Rattle.imap_connection.specs.Streams.{SomeOtherSteps, OtherStep, OtherSteps, OtherSessionStep}
use Rattle.imap_connection.specs.NodePorts.{IsDeliveredOrRefused, LastIsDelivered}

-- a reply to another session leaves this one as it was
session_after_response : (n other : ℕ) (old new : NodeState) (input : Input) (reply : Reply) → (other ≡ n → ⊥) → Responds old other input reply new → session_at new.sessions n ≡ session_at old.sessions n
session_after_response n other old new input (Done answers silent issued) d r =
    ap (λ places. session_at places n) r.2.becomes.sessions ∙ others_stay old.sessions other _ r.0 r.1 n (λ e. d (sym e))
session_after_response n other old new input (Refused why close) d r =
    ap (λ places. session_at places n) r.2.2.sessions ∙ others_stay old.sessions other _ r.0 r.1 n (λ e. d (sym e))

session_after_other : (n : ℕ) (old new : NodeState) → OtherSessionStep n old new → session_at new.sessions n ≡ session_at old.sessions n
session_after_other n old new h = elim h.2 [
  | inl opens ↦ opens.1.others n (λ e. h.1 (sym e))
  | inr step ↦ elim step.1 [
    | inl response ↦ session_after_response n h.0 old new response.0 response.1 h.1 response.2
    | inr close ↦
        let s = open_is (session_at old.sessions h.0) step.0 in
        ap (λ (node : NodeState). session_at node.sessions n) close ∙ others_stay old.sessions h.0 None s.0 s.1 n (λ e. h.1 (sym e))
  ]
]

session_after_step : (n : ℕ) (old new : NodeState) → OtherStep n old new → session_at new.sessions n ≡ session_at old.sessions n
session_after_step n old new h = elim h [
  | inl delivered ↦ ap (λ places. session_at places n) delivered.2.sessions
  | inr more ↦ elim more [ inl drained ↦ ap (λ places. session_at places n) drained.1.sessions | inr other ↦ session_after_other n old new other ]
]

session_after_steps : (n k : ℕ) (old new : NodeState) → OtherSteps n k old new → session_at new.sessions n ≡ session_at old.sessions n
session_after_steps n zero old new h = ap (λ (node : NodeState). session_at node.sessions n) h
session_after_steps n (suc k) old new h = session_after_steps n k h.0 new h.2 ∙ session_after_step n old h.0 h.1

-- the others' steps leave a session as it was
pub session_after_others : (n : ℕ) (old new : NodeState) → SomeOtherSteps n old new → session_at new.sessions n ≡ session_at old.sessions n
session_after_others n old new h = session_after_steps n h.0 old new h.1

pub open_after_others : (n : ℕ) (old new : NodeState) → SomeOtherSteps n old new → IsOpen old.sessions n → IsOpen new.sessions n
open_after_others n old new h o = subst (λ (s : Option Session). IsSome s) (sym (session_after_others n old new h)) o

pub idles_after_others : (n : ℕ) (old new : NodeState) → SomeOtherSteps n old new → IsIdlingAt old n → IsIdlingAt new n
idles_after_others n old new h i = (i.0, session_after_others n old new h ∙ i.1, i.2)

idled_before_others : (n : ℕ) (old new : NodeState) → SomeOtherSteps n old new → IsIdlingAt new n → IsIdlingAt old n
idled_before_others n old new h i = (i.0, sym (session_after_others n old new h) ∙ i.1, i.2)

-- the others' steps leave what the session awaits as it was
pub awaits_after_others : (n : ℕ) (old new : NodeState) (input : Input) → SomeOtherSteps n old new → IsAwaitedInput old n input → IsAwaitedInput new n input
awaits_after_others n old new (Command moment tagged) h a = (open_after_others n old new h a.0, λ i. a.1 (idled_before_others n old new h i))
awaits_after_others n old new (Line line) h a = idles_after_others n old new h a
awaits_after_others n old new Poll h a = idles_after_others n old new h a

pub active_after_others : (n : ℕ) (old new : NodeState) → SomeOtherSteps n old new → IsActive old n → IsActive new n
active_after_others n old new h g = (g.0, session_after_others n old new h ∙ g.1, g.2)

pub idling_after_others : (n : ℕ) (old new : NodeState) → SomeOtherSteps n old new → idling_at new n ≡ idling_at old n
idling_after_others n old new h = ap tag_of_idling (session_after_others n old new h)

-- no steps of the others
pub no_other_steps : (n : ℕ) (node : NodeState) → SomeOtherSteps n node node
no_other_steps n node = (zero, refl)

-- one step of the others
pub once : (n : ℕ) (old new : NodeState) → OtherStep n old new → SomeOtherSteps n old new
once n old new h = (suc zero, (new, h, refl))

-- a session that logged out is no longer open after its close
pub closed_stops : (node : NodeState) (n : ℕ) → HasLoggedOut node n → IsActive (with_session_closed node n) n → ⊥
closed_stops node n out g =
    let e : ◌≡◌ {A = Option Session} None (Some g.0) = sym (session_put node.sessions n None out.0 out.1) ∙ g.1 in
    cc

-- an operation was delivered or refused
pub delivery_of_result : (old new : NodeState) (op : Op) (r : Result Delivered DeliverFault) → MatchResult r (λ d. Delivers old op d.arrival new) (λ e. IsRefusedAt old op e) → OnErr r (new ≡ old) → IsDeliveredOrRefused old op new
delivery_of_result old new op (Ok d) m e = inl (d.arrival, m)
delivery_of_result old new op (Err why) m e = inr (why, m, e)

pub delivery_is_step : (n : ℕ) (old new : NodeState) (op : Op) → IsDeliveredOrRefused old op new → SomeOtherSteps n old new
delivery_is_step n old new op h = elim h [
  | inl taken ↦ once n old new (inl (op, taken.0, taken.1))
  | inr refused ↦ subst (λ (node : NodeState). SomeOtherSteps n old node) (sym refused.2) (no_other_steps n old)
]

-- the last of the operations was delivered; or there are none
pub last_delivered : (ops left : List Op) (popped : Option Op) (node mid : NodeState) (op : Op) → ops ≡ left ++ option_to_list popped → popped ≡ Some op → IsDeliveredOrRefused node op mid
    → LastIsDelivered ops node mid left
last_delivered ops left popped node mid op e s h = inr (op, subst (λ (o : Option Op). ops ≡ left ++ option_to_list o) s e, h)

pub none_delivered : (ops left : List Op) (popped : Option Op) (node : NodeState) → ops ≡ left ++ option_to_list popped → popped ≡ None → length ops ≡ 0 → LastIsDelivered ops node node left
none_delivered [] [] popped node e n l = inl (refl, refl, refl)
none_delivered [] (op ∷ left) popped node e n l = let k : ◌≡◌ {A = List Op} [] (op ∷ (left ++ option_to_list popped)) = e in cc
none_delivered (op ∷ ops) left popped node e n l = let k : suc (length ops) ≡ 0 = l in cc
