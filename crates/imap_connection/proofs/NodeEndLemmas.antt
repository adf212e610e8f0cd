use Rattle.std.proofs.Common.{◌≡◌, inl, inr, ℕ, Bool, true, List, [], ◌∷◌, ◌++◌, Option, None, Some, IsSome, Ok, refl, sym, ap, ◌∙◌, subst, append-nil, map}
use Rattle.imap_answers.specs.AnswerText.{text_of_answer}
use Rattle.imap_answers.specs.declared.answer.Answer.{Answer}
use Rattle.imap_answers.specs.declared.answer.Answer.TheVariants.{Greeting}
use Rattle.imap_answers.specs.declared.fixed_words.Login.{Login}
use Rattle.imap_commands.specs.declared.session.Session.{Session}
use Rattle.imap_commands.specs.declared.session.State.{State}
use Rattle.imap_commands.specs.declared.session.State.TheVariants.{NotAuthenticated, Authenticated, LoggedOut}
use Rattle.imap_lex.specs.Framing.{Cut, cut_from, start}
use Rattle.imap_lex.specs.declared.fault.FrameFaultKind.{FrameFaultKind}
use Rattle.imap_lex.specs.declared.fault.FrameFaultKind.TheVariants.{LineTooLong, LiteralTooLong, NulByte, NoMemory as Memory, Failed}
use Rattle.imap_lex.specs.declared.item.Item.{Item}
use Rattle.imap_lex.specs.declared.limits.Limits.{Limits}
use Rattle.imap_node.specs.Nodes.{HasLoggedOut, IsActive, NodeState, with_session_closed}
use Rattle.imap_node.specs.Sessions.{OpensSession, Places, new_session, session_at}
use Rattle.imap_node.specs.declared.sessions.Auth.{Auth}
use Rattle.imap_node.specs.declared.sessions.Auth.TheVariants.{Preauth, Password}
use Rattle.imap_connection.specs.Conversation.{turns_of}
use Rattle.imap_connection.specs.Replies.{tag_of_idling}
use Rattle.imap_connection.specs.Streams.{ConversesBetweenOthers, SomeOtherSteps}
use Rattle.imap_connection.specs.declared.turn.Turn.{Turn}
use Rattle.imap_connection.specs.Devices.{GivesOctets, TakesOctets}
use Rattle.imap_connection.specs.EndReasons.{bye_text_of, end_reason_of}
use Rattle.imap_connection.specs.NodePorts.{HasNoSession, NodeCloses, NodeOpens, NodeSession, NodeSteps, login_of}
use Rattle.imap_connection.specs.NodeTalks.{ItemAt, ClosesAfter, IsWhole, IsOpenSession, TalksAtNode, items_at_each_one, items_of, text_sent}
use Rattle.imap_connection.specs.Requests.{AnswersItem, texts}
use Rattle.imap_connection.specs.Conversations.{EndsAtItem, Converses, EndsOverOctets, HasAnswered, HoldsConversation, IsCut, IsWritten, IsConversation}
use Rattle.imap_connection.specs.declared.end_reason.Ended.{Ended}
use Rattle.imap_connection.specs.declared.end_reason.Ended.TheVariants.{Logout, PeerClosed, TooManySessions, Framing, ReadFailed, WriteFailed, NoMemory, Torn, ServerEnded}
use Rattle.imap_connection.specs.declared.fault.PortFault.{PortFault}
use Rattle.imap_connection.specs.declared.fault.PortFault.TheVariants as faults
use Rattle.imap_connection.proofs.OtherStepsLemmas.{closed_stops, active_after_others}
use Rattle.imap_connection.proofs.NodeTalkLemmas.{HasConversed, IsItemTaken, has_conversed, some_is, taken, turns_texts}

-- ---- the kind of end

abbrev IsLogout : Ended → Type 0
IsLogout Logout = Unit {0}
IsLogout _ = ⊥

fault_not_whole : (fault : PortFault) → IsWhole (end_reason_of fault) → ⊥
fault_not_whole faults.TooManySessions w = w
fault_not_whole faults.NoMemory w = w
fault_not_whole faults.NoRoom w = w
fault_not_whole faults.Torn w = w
fault_not_whole faults.PassedOver w = w
fault_not_whole faults.ServerEnded w = w

differs_if_whole : (ended other : Ended) → (IsWhole other → ⊥) → IsWhole ended → ended ≡ other → ⊥
differs_if_whole ended other never w e = never (subst IsWhole e w)

logout_differs : (other : Ended) → (IsLogout other → ⊥) → Logout ≡ other → ⊥
logout_differs other never e = never (subst IsLogout e tt)

fault_not_logout : (fault : PortFault) → IsLogout (end_reason_of fault) → ⊥
fault_not_logout faults.TooManySessions o = o
fault_not_logout faults.NoMemory o = o
fault_not_logout faults.NoRoom o = o
fault_not_logout faults.Torn o = o
fault_not_logout faults.PassedOver o = o
fault_not_logout faults.ServerEnded o = o

-- ---- a conversation that ends after all items

module _ {O : Type 0} (takes_turn : O → ℕ → NodeState → ℕ → NodeState → O → Type 0) (old : NodeSession O) (cut : Cut) (output : List ℕ) (last : NodeSession O) where
  answered_if_framing : (why : FrameFaultKind) → IsWhole (Framing why) → IsCut (NodeSteps takes_turn) old None cut why output last → HasAnswered (NodeSteps takes_turn) old None cut.0 output last
  answered_if_framing LineTooLong w c = c.1
  answered_if_framing LiteralTooLong w c = c.1
  answered_if_framing NulByte w c = c.1
  answered_if_framing Memory w c = absurd w
  answered_if_framing Failed w c = absurd w

  -- a conversation that ends at an item ends because memory ran out, at a fault of the port, or at
  -- a LOGOUT
  no_end_at_item : (ended : Ended) → IsWhole ended → ((ended ≡ Logout) → ⊥) → EndsAtItem (NodeSteps takes_turn) old None cut.0 ended output last → ⊥
  no_end_at_item ended w on b = elim b.stops [
    | inl unasked ↦ differs_if_whole ended NoMemory (λ x. x) w unasked.0
    | inr asked ↦ elim asked.2 [
      | inl out ↦ on out.0
      | inr more ↦ elim more [
        | inl lacks_answers ↦ differs_if_whole ended NoMemory (λ x. x) w lacks_answers.0
        | inr refused ↦ elim refused [
          | inl line ↦ differs_if_whole ended NoMemory (λ x. x) w line.5
          | inr fault ↦ differs_if_whole ended (end_reason_of fault.1) (fault_not_whole fault.1) w fault.4
        ]
      ]
    ]
  ]

  pub answered_at_end : (ended : Ended) (at_end : Bool) → IsWhole ended → ((ended ≡ Logout) → ⊥) → EndsOverOctets (NodeSteps takes_turn) old cut ended at_end output last → HasAnswered (NodeSteps takes_turn) old None cut.0 output last
  answered_at_end ended at_end w on h = elim h [
    | inl peer ↦ peer.3
    | inr other ↦ elim other [
      | inl read ↦ read.2
      | inr halts ↦ elim halts [
        | inl cuts ↦ answered_if_framing cuts.0 (subst IsWhole cuts.1 w) cuts.2
        | inr leaves ↦ elim leaves [ inl write ↦ absurd (differs_if_whole ended WriteFailed (λ x. x) w write.0) | inr rest ↦ elim rest [ inl breaks ↦ absurd (no_end_at_item ended w on breaks) | inr lacks_answers ↦ absurd (differs_if_whole ended NoMemory (λ x. x) w lacks_answers.0) ] ]
      ]
    ]
  ]

  -- ---- a conversation that ends at a LOGOUT

  pub logout_at_item : (at_end : Bool) → EndsOverOctets (NodeSteps takes_turn) old cut Logout at_end output last → EndsAtItem (NodeSteps takes_turn) old None cut.0 Logout output last
  logout_at_item at_end h = elim h [
    | inl peer ↦ absurd (logout_differs PeerClosed (λ x. x) peer.0)
    | inr other ↦ elim other [
      | inl read ↦ absurd (logout_differs ReadFailed (λ x. x) read.0)
      | inr halts ↦ elim halts [
        | inl cuts ↦ absurd (logout_differs (Framing cuts.0) (λ x. x) cuts.1)
        | inr leaves ↦ elim leaves [ inl write ↦ absurd (logout_differs WriteFailed (λ x. x) write.0) | inr rest ↦ elim rest [ inl breaks ↦ breaks | inr lacks_answers ↦ absurd (logout_differs NoMemory (λ x. x) lacks_answers.0) ] ]
      ]
    ]
  ]

  pub takes_logout : (b : EndsAtItem (NodeSteps takes_turn) old None cut.0 Logout output last) → (after : Option (List ℕ)) × AnswersItem (NodeSteps takes_turn) b.mid b.between b.item b.given last after true
  takes_logout b = elim b.stops [
    | inl unasked ↦ absurd (logout_differs NoMemory (λ x. x) unasked.0)
    | inr asked ↦ elim asked.2 [
      | inl out ↦ (out.1.0, (asked.0, asked.1, out.1.1))
      | inr more ↦ elim more [
        | inl lacks_answers ↦ absurd (logout_differs NoMemory (λ x. x) lacks_answers.0)
        | inr refused ↦ elim refused [
          | inl line ↦ absurd (logout_differs NoMemory (λ x. x) line.5)
          | inr fault ↦ absurd (logout_differs (end_reason_of fault.1) (fault_not_logout fault.1) fault.4)
        ]
      ]
    ]
  ]

-- ---- the node's conversation

-- items that are dropped after a LOGOUT
abbrev dropped : NodeState → List Item → List ItemAt
dropped node items = map (λ (item : Item). record { node = node; moment = 0; item = item }) items

dropped_items : (node : NodeState) (items : List Item) → items_of (dropped node items) ≡ items
dropped_items node [] = refl
dropped_items node (item ∷ items) = ap (λ (is : List Item). item ∷ is) (dropped_items node items)

module _ {O : Type 0} (takes_turn : O → ℕ → NodeState → ℕ → NodeState → O → Type 0) (front back : List Item) (item : Item) (old mid last : NodeSession O) (n : ℕ) (between after : Option (List ℕ)) (before : List ℕ)
    (given : List Answer) (st : IsOpenSession old n None) (h : Converses (NodeSteps takes_turn) old None front before mid between) (t : AnswersItem (NodeSteps takes_turn) mid between item given last after true) where
  run : HasConversed takes_turn old mid n front between before
  run = has_conversed takes_turn front old mid n None between before st h

  last_item : IsItemTaken mid last n item given after true
  last_item = taken takes_turn mid last n given after true between run.is_open item t

  given_sent : text_sent (turns_of item given) ≡ texts given
  given_sent = ap text_sent (sym (append-nil (turns_of item given))) ∙ turns_texts item given [] ∙ append-nil (texts given)

  abbrev last_placed : List ItemAt
  last_placed = record { node = last_item.mid; moment = last_item.moment; item = item } ∷ dropped last.node back

  logged_out : ConversesBetweenOthers mid.node n (items_at_each_one last_placed) (turns_of item given) (with_session_closed last.node n)
  logged_out = (
    turns_of item given,
    with_session_closed last.node n,
    last_item.other_steps,
    (given, last.node, last_item.takes, inr (last_item.continues.1, refl, refl)),
    inr (closed_stops last.node n last_item.continues.1, refl, refl),
  )

  until_logout : ((last.session ≡ Some n) × HasLoggedOut last.node n)
      × ((placed : List ItemAt) × (turns : List Turn) × (items_of placed ≡ front ++ item ∷ back) × ConversesBetweenOthers old.node n (items_at_each_one placed) turns (with_session_closed last.node n) × (text_sent turns ≡ before ++ texts given))
  until_logout =
      let q = run.on last_placed (turns_of item given) (with_session_closed last.node n) logged_out in (
        last_item.continues,
        (
          q.0,
          q.1,
          q.2 ∙ ap (λ (is : List Item). front ++ item ∷ is) (dropped_items last.node back),
          q.3,
          q.4 ∙ ap (λ x. before ++ x) given_sent,
        ),
      )

-- ---- the close of the session

module _ {O : Type 0} (takes_turn : O → ℕ → NodeState → ℕ → NodeState → O → Type 0) where
  open_number : (port : NodeSession O) (n : ℕ) (s : Session) → port.session ≡ Some n → session_at port.node.sessions n ≡ Some s → HasNoSession port → ⊥
  open_number port n s session at no_session = no_session n session (subst (λ (o : Option Session). IsSome o) (sym at) refl)

  closes_open : (last new : NodeSession O) (n : ℕ) (s : Session) → last.session ≡ Some n → session_at last.node.sessions n ≡ Some s → NodeCloses takes_turn last new
      → (mid : NodeState) × SomeOtherSteps n last.node mid × (new.node ≡ with_session_closed mid n)
  closes_open last new n s session at c = elim c [
    | inl no_session ↦ absurd (open_number last n s session at no_session.0)
    | inr shuts ↦
        let same : shuts.number ≡ n = some_is (sym shuts.opened ∙ session) in (
          shuts.mid,
          subst (λ (k : ℕ). SomeOtherSteps k last.node shuts.mid) same shuts.turn.other_steps,
          shuts.closes ∙ ap (λ (k : ℕ). with_session_closed shuts.mid k) same,
        )
  ]

-- ---- the whole conversation

new_session_active : (auth : Auth) → (new_session auth).state ≡ LoggedOut → ⊥
new_session_active Preauth e = let k : ◌≡◌ {A = State} Authenticated LoggedOut = e in cc
new_session_active (Password credentials) e = let k : ◌≡◌ {A = State} (NotAuthenticated credentials) LoggedOut = e in cc

idling_of_new_session : (auth : Auth) → (new_session auth).idling ≡ None
idling_of_new_session Preauth = refl
idling_of_new_session (Password credentials) = refl

first_is_open : {O : Type 0} (first : NodeSession O) (auth : Auth) (n : ℕ) (places : Places) → first.session ≡ Some n → OpensSession places auth n first.node.sessions → IsOpenSession first n None
first_is_open first auth n places session o =
    record { session = session; active = (new_session auth, o.open_now, new_session_active auth); idles = ap tag_of_idling o.open_now ∙ idling_of_new_session auth }

module _ {O : Type 0} (takes_turn : O → ℕ → NodeState → ℕ → NodeState → O → Type 0) (first last new : NodeSession O) (n : ℕ) (cut : Cut) (output : List ℕ) (at_end : Bool) (st : IsOpenSession first n None) (c : NodeCloses takes_turn last new) where
  -- The conversation over the items of all octets, and its close.
  abbrev HasClosed : Ended → Type 0
  HasClosed ended = (placed : List ItemAt) × (turns : List Turn) × (items_of placed ≡ cut.0) × ClosesAfter ended first.node n (items_at_each_one placed) turns new.node × (text_sent turns ≡ output)

  answered_all_items : (ended : Ended) → IsWhole ended → ((ended ≡ Logout) → ⊥) → EndsOverOctets (NodeSteps takes_turn) first cut ended at_end output last
      → (placed : List ItemAt) × (turns : List Turn) × (items_of placed ≡ cut.0)
      × ((end : NodeState) × ConversesBetweenOthers first.node n (items_at_each_one placed) turns end × IsActive end n × (new.node ≡ with_session_closed end n))
      × (text_sent turns ≡ output)
  answered_all_items ended w on h =
      let g = answered_at_end takes_turn first cut output last ended at_end w on h in
      let a = has_conversed takes_turn cut.0 first last n None g.after output st g.answered in
      let close = closes_open takes_turn last new n a.is_open.active.0 a.is_open.session a.is_open.active.1 c in
      let q = a.on [] [] close.0 (refl, close.1) in
      (q.0, q.1, q.2 ∙ append-nil cut.0, (close.0, q.3, active_after_others n last.node close.0 close.1 a.is_open.active, close.2), q.4 ∙ append-nil output)

  has_closed : (ended : Ended) → IsWhole ended → EndsOverOctets (NodeSteps takes_turn) first cut ended at_end output last → HasClosed ended
  has_closed Logout w h =
      let b = logout_at_item takes_turn first cut output last at_end h in
      let t = takes_logout takes_turn first cut output last b in
      let u = until_logout takes_turn b.front b.back b.item first b.mid last n b.between t.0 b.before b.given st b.answered t.1 in
      let close = closes_open takes_turn last new n u.0.1.0 u.0.0 u.0.1.1 c in
      (u.1.0, u.1.1, u.1.2 ∙ sym b.items_are, (last.node, close.0, u.0.1, u.1.3, close.1, close.2), u.1.4 ∙ sym b.output_is)
  has_closed PeerClosed w h = answered_all_items PeerClosed w (λ e. logout_differs PeerClosed (λ x. x) (sym e)) h
  has_closed ReadFailed w h = answered_all_items ReadFailed w (λ e. logout_differs ReadFailed (λ x. x) (sym e)) h
  has_closed (Framing LineTooLong) w h = answered_all_items (Framing LineTooLong) w (λ e. logout_differs (Framing LineTooLong) (λ x. x) (sym e)) h
  has_closed (Framing LiteralTooLong) w h = answered_all_items (Framing LiteralTooLong) w (λ e. logout_differs (Framing LiteralTooLong) (λ x. x) (sym e)) h
  has_closed (Framing NulByte) w h = answered_all_items (Framing NulByte) w (λ e. logout_differs (Framing NulByte) (λ x. x) (sym e)) h
  has_closed (Framing Memory) w h = absurd w
  has_closed (Framing Failed) w h = absurd w
  has_closed TooManySessions w h = absurd w
  has_closed WriteFailed w h = absurd w
  has_closed NoMemory w h = absurd w
  has_closed Torn w h = absurd w
  has_closed ServerEnded w h = absurd w

module _ {O : Type 0} (takes_turn : O → ℕ → NodeState → ℕ → NodeState → O → Type 0) (old new : NodeSession O) (limits : Limits) (left rest taken_before taken_now : List ℕ) (at_end : Bool) (ended : Ended) (w : IsWhole ended) where
  abbrev Outcome : Type 0
  Outcome = (auth : Auth) × (octets : List ℕ) × (output : List ℕ) × (old.auth ≡ Some auth) × (left ≡ octets ++ rest) × (taken_now ≡ taken_before ++ output) × TalksAtNode old.node auth limits octets ended output new.node

  module _ (login : Login) (first last : NodeSession O) (octets output more : List ℕ) (o : NodeOpens old (Ok login) first) (c : NodeCloses takes_turn last new)
      (e : EndsOverOctets (NodeSteps takes_turn) first (cut_from limits (Ok start) octets) ended at_end more last) (greeted : output ≡ text_of_answer (Greeting login) ++ more) where
    at_node : TalksAtNode old.node o.0 limits octets ended (output ++ bye_text_of ended) new.node
    at_node =
        let k = has_closed takes_turn first last new o.1 (cut_from limits (Ok start) octets) more at_end (first_is_open first o.0 o.1 old.node.sessions o.3 o.4) c ended w e in
        record {
          session = o.1;
          first = first.node;
          opens = o.4;
          first_is = o.5;
          placed = k.0;
          items = k.2;
          turns = k.1;
          closes = k.3;
          output_is = ap (λ x. x ++ bye_text_of ended) (greeted ∙ ap (λ l. text_of_answer (Greeting l) ++ more) o.2 ∙ ap (λ x. text_of_answer (Greeting (login_of o.0)) ++ x) (sym k.4));
        }

  gave_rest : (octets : List ℕ) → GivesOctets (Some left) octets (Some rest) → left ≡ octets ++ rest
  gave_rest octets g = g.2 ∙ ap (λ x. octets ++ x) (sym (some_is g.1))

  module _ (login : Login) (first last : NodeSession O) (octets : List ℕ) (output : List ℕ) (o : NodeOpens old (Ok login) first) (c : NodeCloses takes_turn last new) (g : GivesOctets (Some left) octets (Some rest)) where
    held : HoldsConversation (NodeSteps takes_turn) first login limits octets ended at_end output last → TakesOctets (Some taken_before) (output ++ bye_text_of ended) (Some taken_now) → Outcome
    held h t = elim h [
      | inl talk ↦ (o.0, octets, output ++ bye_text_of ended, o.7, gave_rest octets g, some_is t, at_node login first last octets output talk.0 o c talk.2 talk.1)
      | inr lacks_answers ↦ absurd (differs_if_whole ended NoMemory (λ x. x) w lacks_answers.0)
    ]

    outcome_of_holds : (other : Ended) → HoldsConversation (NodeSteps takes_turn) first login limits octets other at_end output last → IsWritten other (output ++ bye_text_of other) ended (Some taken_before) (Some taken_now) → Outcome
    outcome_of_holds other h t = elim t [
      | inl all ↦
          let h' = subst (λ (x : Ended). HoldsConversation (NodeSteps takes_turn) first login limits octets x at_end output last) (sym all.0) h in
          let t' = subst (λ (x : Ended). TakesOctets (Some taken_before) (output ++ bye_text_of x) (Some taken_now)) (sym all.0) all.1 in
          held h' t'
      | inr failed ↦ absurd (differs_if_whole ended WriteFailed (λ x. x) w failed.0)
    ]

  not_refused : (fault : PortFault) → IsWritten (end_reason_of fault) (bye_text_of (end_reason_of fault)) ended (Some taken_before) (Some taken_now) → ⊥
  not_refused fault t = elim t [ inl all ↦ differs_if_whole ended (end_reason_of fault) (fault_not_whole fault) w all.0 | inr failed ↦ differs_if_whole ended WriteFailed (λ x. x) w failed.0 ]

  pub conversation_at_node : IsConversation NodeOpens (NodeSteps takes_turn) (NodeCloses takes_turn) old new limits (Some left) (Some rest) at_end (Some taken_before) (Some taken_now) ended → Outcome
  conversation_at_node h = elim h [ inl refused ↦ absurd (not_refused refused.0 refused.3) | inr t ↦ outcome_of_holds t.0 t.1 t.2 t.3 t.5 t.6 t.7 t.8 t.4 t.9 t.10 ]
