use Rattle.std.proofs.Common.{◌≡◌, inl, inr, ℕ, List, [], ◌∷◌, ◌++◌, ap, refl, sym, ◌∙◌, subst, append_assoc, append-nil, Option, None, Some, IsSome, Result, Ok, Err, OnOk}
use Rattle.std.specs.Prelude.{IfErr}
use Rattle.std.proofs.lemmas.Bool.{false≢true}
use Rattle.imap_answers.specs.declared.answer.Answer.{Answer}
use Rattle.imap_answers.specs.declared.answer.Answer.TheVariants.{Bye}
use Rattle.imap_answers.specs.declared.fixed_words.ByeReason.TheVariants as reasons
use Rattle.imap_syntax.specs.declared.command.Tagged.{Tagged}
use Rattle.imap_syntax.specs.declared.idle.IdleLine.{IdleLine}
use Rattle.imap_lex.specs.declared.item.Item.{Item}
use Rattle.imap_lex.specs.declared.item.Item.TheVariants.{Ready, Frame, Refused}
use Rattle.imap_commands.specs.declared.session.Session.{Session}
use Rattle.imap_node.specs.Nodes.{IsIdlingAt, NodeState}
use Rattle.imap_node.specs.Sessions.{session_at}
use Rattle.imap_connection.specs.Conversation.{IsPrefixOf, IsLine, StopsAt, TakesItemAt, TakesItem, turns_of_item, turns_of_answers, item_at, turns_of}
use Rattle.imap_connection.specs.RequestSteps.{AwaitsRequest, FailsRequest, HandlesRequest, IsOfLine, IsRequest}
use Rattle.imap_connection.specs.Replies.{answers_of, idling_at, tag_of_idling}
use Rattle.imap_connection.specs.Talks.{EndsAtRefusedLine}
use Rattle.imap_connection.specs.declared.request.Request.{Request}
use Rattle.imap_connection.specs.declared.request.Request.TheVariants.{Immediate, Command, Line}
use Rattle.imap_connection.specs.declared.turn.TalkFaultKind.{TalkFaultKind}
use Rattle.imap_connection.specs.declared.turn.TalkFaultKind.TheVariants as kinds
use Rattle.imap_connection.specs.declared.turn.Turn.{Turn}
use Rattle.imap_connection.proofs.TurnLemmas.{prefix_append}

-- if the node carries out the request of an item, it takes the item
pub handled : (idling : Option (List ℕ)) (old new : NodeState) (session moment : ℕ) (item : Item) (request : Request) (given : List Answer)
    → IsRequest idling item request → HandlesRequest old session moment request given new → TakesItem idling old session moment item given new
handled idling old new session moment Ready (Immediate answer) given i h = (h.0 ∙ ap (λ (a : Answer). a ∷ []) i, h.1)
handled idling old new session moment Ready (Command tagged) given i h = absurd i
handled idling old new session moment Ready (Line tag line) given i h = absurd i
handled None old new session moment (Frame octets) (Immediate answer) given i h = inr (answer, i, h.0, h.1)
handled None old new session moment (Frame octets) (Command tagged) given i h = inl (tagged, h.0, i, h.1, h.2)
handled None old new session moment (Frame octets) (Line tag line) given i h = absurd i
handled None old new session moment (Refused octets) (Immediate answer) given i h = (answer, i, h.0, h.1)
handled None old new session moment (Refused octets) (Command tagged) given i h = absurd i
handled None old new session moment (Refused octets) (Line tag line) given i h = absurd i
handled (Some tag) old new session moment (Frame octets) (Immediate answer) given i h = absurd i
handled (Some tag) old new session moment (Frame octets) (Command tagged) given i h = absurd i
handled (Some tag) old new session moment (Frame octets) (Line own line) given i h = (line, h.0, i.1, h.1, h.2, h.3 ∙ ap (λ t. answers_of t h.0) i.0)
handled (Some tag) old new session moment (Refused octets) (Immediate answer) given i h = absurd i
handled (Some tag) old new session moment (Refused octets) (Command tagged) given i h = absurd i
handled (Some tag) old new session moment (Refused octets) (Line own line) given i h = (line, h.0, i.1, h.1, h.2, h.3 ∙ ap (λ t. answers_of t h.0) i.0)

-- the request of an item is a command only if the session doesn't idle
pub of_command : (idling : Option (List ℕ)) (item : Item) (tagged : Tagged) → IsRequest idling item (Command tagged) → idling ≡ None
of_command None item tagged i = refl
of_command (Some tag) Ready tagged i = absurd i
of_command (Some tag) (Frame octets) tagged i = absurd i
of_command (Some tag) (Refused octets) tagged i = absurd i

-- the request of an item is a line only if the session idles
pub of_line : (idling : Option (List ℕ)) (item : Item) (request : Request) → IsRequest idling item request → IsOfLine request
    → (tag : List ℕ) × (line : IdleLine) × (idling ≡ Some tag) × IsLine item line
of_line idling item (Immediate answer) i l = absurd l
of_line idling item (Command tagged) i l = absurd l
of_line None Ready (Line own line) i l = absurd i
of_line None (Frame octets) (Line own line) i l = absurd i
of_line None (Refused octets) (Line own line) i l = absurd i
of_line (Some tag) Ready (Line own line) i l = absurd i
of_line (Some tag) (Frame octets) (Line own line) i l = (tag, line, refl, i.1)
of_line (Some tag) (Refused octets) (Line own line) i l = (tag, line, refl, i.1)

-- a session idles exactly when it is in an IDLE with some tag
tag_idles : (node : NodeState) (n : ℕ) (tag : List ℕ) (place : Option Session) → place ≡ session_at node.sessions n → tag_of_idling place ≡ Some tag → IsIdlingAt node n
tag_idles node n tag None at t = let e : ◌≡◌ {A = Option (List ℕ)} None (Some tag) = t in absurd cc
tag_idles node n tag (Some session) at t = (session, sym at, subst (λ (o : Option (List ℕ)). IsSome o) (sym t) refl)

pub idles_with_tag : (node : NodeState) (n : ℕ) (tag : List ℕ) → idling_at node n ≡ Some tag → IsIdlingAt node n
idles_with_tag node n tag t = tag_idles node n tag (session_at node.sessions n) refl t

pub awake_without_tag : (node : NodeState) (n : ℕ) → idling_at node n ≡ None → IsIdlingAt node n → ⊥
awake_without_tag node n none i =
    let some : IsSome (idling_at node n) = subst (λ (o : Option Session). IsSome (tag_of_idling o)) (sym i.1) i.2 in
    let never : IsSome {T = List ℕ} None = subst (λ (o : Option (List ℕ)). IsSome o) none some in
    absurd (false≢true never)

-- the request of an item is one that the session awaits
pub request_awaited : (node : NodeState) (n : ℕ) (item : Item) (request : Request) → IsRequest (idling_at node n) item request → AwaitsRequest node n request
request_awaited node n item (Immediate answer) i = tt
request_awaited node n item (Command tagged) i = awake_without_tag node n (of_command (idling_at node n) item tagged i)
request_awaited node n item (Line own line) i = let l = of_line (idling_at node n) item (Line own line) i tt in idles_with_tag node n l.0 l.2

module _ (session moment : ℕ) (item : Item) (before mid after : List Turn) (shown : mid ≡ before ++ turns_of_item item) (old new : NodeState) (request : Request) (is : IsRequest (idling_at old session) item request) where
  took : (given : List Answer) → HandlesRequest old session moment request given new → TakesItemAt old session (item_at moment item) given new
  took given h = handled (idling_at old session) old new session moment item request given is h

  after_item : (more : List Turn) → after ≡ mid ++ more → after ≡ before ++ (turns_of_item item ++ more)
  after_item more e = e ∙ ap (λ turns. turns ++ more) shown ∙ append_assoc before (turns_of_item item) more

  -- all answers after what the item shows
  pub item_answered : {T E : Type 0} (r : Result T E) → OnOk r ((given : List Answer) × HandlesRequest old session moment request given new × (after ≡ mid ++ turns_of_answers given))
      → OnOk r ((given : List Answer) × TakesItemAt old session (item_at moment item) given new × (after ≡ before ++ turns_of item given))
  item_answered (Err e) o = tt
  item_answered (Ok x) o = (o.0, took o.0 o.1, after_item (turns_of_answers o.0) o.2)

  prefix_none : (front : List Turn) → front ≡ [] → IsPrefixOf (turns_of_item item ++ front) (turns_of_item item)
  prefix_none front e = ([], sym (append-nil (turns_of_item item ++ front) ∙ ap (λ f. turns_of_item item ++ f) e ∙ append-nil (turns_of_item item)))

  -- memory ran out during the answers
  pub item_broken : {T : Type 0} (r : Result T TalkFaultKind) → IfErr r (λ why. (front : List Turn) × (after ≡ mid ++ front) × FailsRequest why old session moment request front new)
      → IfErr r (λ why. (more : List Turn) × (after ≡ before ++ more) × StopsAt why old session (item_at moment item) more new)
  item_broken (Ok x) o = tt
  item_broken (Err kinds.NoMemory) o = (
    turns_of_item item ++ o.0,
    after_item o.0 o.1,
    elim o.2 [
      | inl none ↦ inl (prefix_none o.0 none.0, none.1)
      | inr some ↦ inr (some.0, took some.0 some.1, prefix_append (turns_of_item item) o.0 (turns_of_answers some.0) some.2)
    ],
  )
  item_broken (Err kinds.LineRefused) o =
      (turns_of_item item ++ o.0, after_item o.0 o.1, (of_line (idling_at old session) item request is o.2.0, ap (λ ts. turns_of_item item ++ ts) o.2.1, o.2.2))
  item_broken (Err (kinds.Framing why)) o = absurd o.2

-- only the turns that show the item
module _ (session moment : ℕ) (item : Item) (before : List Turn) (node : NodeState) where
  pub item_not_shown : (after : List Turn) → after ≡ before → (more : List Turn) × (after ≡ before ++ more) × StopsAt kinds.NoMemory node session (item_at moment item) more node
  item_not_shown after e = ([], e ∙ sym (append-nil before), inl ((turns_of_item item, refl), refl))

  pub item_shown : (after : List Turn) → after ≡ before ++ turns_of_item item → (more : List Turn) × (after ≡ before ++ more) × StopsAt kinds.NoMemory node session (item_at moment item) more node
  item_shown after e = (turns_of_item item, e, inl (([], sym (append-nil (turns_of_item item))), refl))

-- an answer that is sent at once
module _ (session moment : ℕ) (node : NodeState) (answer : Answer) (before after : List Turn) where
  pub sent_ok : {T E : Type 0} (r : Result T E) → OnOk r (after ≡ before ++ turns_of_answers (answer ∷ []))
      → OnOk r ((given : List Answer) × HandlesRequest node session moment (Immediate answer) given node × (after ≡ before ++ turns_of_answers given))
  sent_ok (Err e) o = tt
  sent_ok (Ok x) o = (answer ∷ [], (refl, refl), o)

  pub sent_err : {T : Type 0} (r : Result T TalkFaultKind) → IfErr r (λ why. (why ≡ kinds.NoMemory) × (after ≡ before))
      → IfErr r (λ why. (front : List Turn) × (after ≡ before ++ front) × FailsRequest why node session moment (Immediate answer) front node)
  sent_err (Ok x) o = tt
  sent_err (Err why) o =
      subst (λ (k : TalkFaultKind). (front : List Turn) × (after ≡ before ++ front) × FailsRequest k node session moment (Immediate answer) front node) (sym o.0) ([], o.1 ∙ sym (append-nil before), inl (refl, refl))

-- a line does the same at any moment
pub line_fails : {T : Type 0} (r : Result T TalkFaultKind) (old new : NodeState) (session moment : ℕ) (tag : List ℕ) (line : IdleLine) (before after : List Turn)
    → IfErr r (λ why. (front : List Turn) × (after ≡ before ++ front) × FailsRequest why old session 0 (Line tag line) front new)
    → IfErr r (λ why. (front : List Turn) × (after ≡ before ++ front) × FailsRequest why old session moment (Line tag line) front new)
line_fails (Ok x) old new session moment tag line before after o = tt
line_fails (Err kinds.NoMemory) old new session moment tag line before after o = o
line_fails (Err kinds.LineRefused) old new session moment tag line before after o = o
line_fails (Err (kinds.Framing why)) old new session moment tag line before after o = absurd o.2

-- a line that is refused because memory ran out
pub refused_fails : (kind : TalkFaultKind) (old new : NodeState) (session moment : ℕ) (tag : List ℕ) (line : IdleLine) (before after : List Turn) → EndsAtRefusedLine kind before after → new ≡ old
    → (front : List Turn) × (after ≡ before ++ front) × FailsRequest kind old session moment (Line tag line) front new
refused_fails kinds.LineRefused old new session moment tag line before after g e = (turns_of_answers (Bye reasons.NoMemory ∷ []), g, (tt, refl, e))
refused_fails kinds.NoMemory old new session moment tag line before after g e = ([], g ∙ sym (append-nil before), inl (refl, e))
refused_fails (kinds.Framing why) old new session moment tag line before after g e = absurd g
