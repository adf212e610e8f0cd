use Rattle.std.proofs.Common.{◌≡◌, inl, ℕ, Bool, true, false, ◌&&◌, cond, List, [], ◌∷◌, ◌++◌, Option, None, Some, refl, sym, ap, ◌∙◌, subst, append_assoc, append-nil}
use Rattle.std.proofs.lemmas.Bool.{false≢true}
use Rattle.std.proofs.lemmas.List.Concat.{flat_map-append}
use Rattle.crdt_ops.specs.declared.op.Op.{Op}
use Rattle.imap_answers.specs.declared.answer.Answer.{Answer}
use Rattle.imap_answers.specs.declared.fixed_words.Refusal.{Refusal}
use Rattle.imap_answers.specs.declared.fixed_words.Refusal.TheVariants as refusals
use Rattle.imap_commands.specs.declared.session.Session.{Session}
use Rattle.imap_commands.specs.declared.session.State.{State}
use Rattle.imap_commands.specs.declared.session.State.TheVariants.{NotAuthenticated, Authenticated, Selected, LoggedOut}
use Rattle.imap_syntax.specs.declared.command.Command.{Command}
use Rattle.imap_syntax.specs.declared.command.Command.TheVariants as commands
use Rattle.imap_syntax.specs.declared.command.Tagged.{Tagged}
use Rattle.imap_syntax.specs.declared.idle.IdleLine.{IdleLine}
use Rattle.imap_lex.specs.declared.item.Item.{Item}
use Rattle.imap_lex.specs.declared.item.Item.TheVariants.{Ready, Frame, Refused as RefusedItem}
use Rattle.imap_commands.specs.Commands.{is_idle}
use Rattle.imap_node.specs.Commands.{state_after_command}
use Rattle.imap_node.specs.InputEffects.{InputEffect, sync_result_of}
use Rattle.imap_node.specs.Nodes.{HasLoggedOut, IsActive, NodeState}
use Rattle.imap_node.specs.Responses.{IsNodeAfter, Responds, ends_idling, leaves_mailbox, session_after_refusal, session_after}
use Rattle.imap_node.specs.Sessions.{session_at, with_session}
use Rattle.imap_node.specs.declared.input.Input.{Input}
use Rattle.imap_node.specs.declared.input.Input.TheVariants as inputs
use Rattle.imap_node.specs.declared.reply.Reply.{Reply}
use Rattle.imap_node.specs.declared.reply.Reply.TheVariants.{Done, Refused}
use Rattle.imap_node.proofs.SessionLemmas.{session_put}
use Rattle.imap_connection.specs.Conversation.{TakesItem, turns_of_item, turns_of_answers, turn_of_answer, item_at, turns_of}
use Rattle.imap_connection.specs.Conversation as conversations
use Rattle.imap_connection.specs.RequestSteps.{IsRequest}
use Rattle.imap_connection.specs.Replies.{answers_of, idling_at, is_out_of_memory, tag_of_idling}
use Rattle.imap_connection.specs.Streams.{ConversesBetweenOthers, SomeOtherSteps}
use Rattle.imap_connection.specs.declared.request.Request.{Request}
use Rattle.imap_connection.specs.declared.request.Request.TheVariants as requests
use Rattle.imap_connection.specs.declared.turn.Turn.{Turn}
use Rattle.imap_connection.proofs.RequestLemmas.{handled, of_command}
use Rattle.imap_connection.specs.NodePorts.{NodeSession, NodeSteps, RespondsTo}
use Rattle.imap_connection.specs.NodeTalks.{ItemAt, IsOpenSession, items_at_each_one, items_of, text_of_turn, text_sent}
use Rattle.imap_connection.specs.Requests.{AnswersItem, HandlesRequest, idling_after_reply, is_logout, logs_out, texts}
use Rattle.imap_connection.specs.Conversations.{Converses}
use Rattle.imap_connection.proofs.OtherStepsLemmas.{active_after_others, idling_after_others, no_other_steps}

-- ---- the octets sent

text_sent_of_item : (item : Item) → text_sent (turns_of_item item) ≡ []
text_sent_of_item Ready = refl
text_sent_of_item (Frame octets) = refl
text_sent_of_item (RefusedItem octets) = refl

sent_texts : (given : List Answer) → text_sent (turns_of_answers given) ≡ texts given
sent_texts [] = refl
sent_texts (answer ∷ given) = ap (λ t. text_of_turn (turn_of_answer answer) ++ t) (sent_texts given)

pub turns_texts : (item : Item) (given : List Answer) (rest : List Turn) → text_sent (turns_of item given ++ rest) ≡ texts given ++ text_sent rest
turns_texts item given rest =
    flat_map-append text_of_turn (turns_of item given) rest
    ∙ ap (λ t. t ++ text_sent rest) (flat_map-append text_of_turn (turns_of_item item) (turns_of_answers given) ∙ ap (λ t. t ++ text_sent (turns_of_answers given)) (text_sent_of_item item) ∙ sent_texts given)

-- ---- one session after an input

and_true : (b : Bool) → b && true ≡ b
and_true true = refl
and_true false = refl

and_false : (b : Bool) → b && false ≡ false
and_false true = refl
and_false false = refl

session_in_node_after : (old new : NodeState) (n : ℕ) (s t : Session) (ops : List Op) → session_at old.sessions n ≡ Some s → IsNodeAfter old ops (with_session old.sessions n (Some t)) new → session_at new.sessions n ≡ Some t
session_in_node_after old new n s t ops at h = ap (λ places. session_at places n) h.sessions ∙ session_put old.sessions n (Some t) s at

pub some_is : {T : Type 0} {a b : T} → Some a ≡ Some b → a ≡ b
some_is {T} {a} e = ap (λ (o : Option T). or_else o) e
  where
    or_else : Option T → T
    or_else None = a
    or_else (Some x) = x

-- only a LOGOUT leads to the state of a session that has logged out
module _ (node : NodeState) (ops : List Op) where
  stays_in : (state : State) (command : Command) → is_logout command ≡ false → state_after_command node.start ops state command ≡ LoggedOut → state ≡ LoggedOut
  stays_in state (commands.Login user password) l m = cc
  stays_in state (commands.Select name condstore) l m = cc
  stays_in state (commands.Examine name condstore) l m = cc
  stays_in state commands.Logout l m = cc
  stays_in state commands.Unselect l m = cc
  stays_in state commands.Close l m = cc
  stays_in state _ l m = m

  logout_ends : (state : State) (command : Command) → is_logout command ≡ true → state_after_command node.start ops state command ≡ LoggedOut
  logout_ends state commands.Logout l = refl
  logout_ends state _ l = absurd (false≢true l)

  ends_in : (effect : InputEffect) (state : State) → effect.state ≡ state → (sync_result_of node.start ops effect).state ≡ LoggedOut → state ≡ LoggedOut
  ends_in effect (NotAuthenticated credentials) e l =
      let k = subst (λ (s : State). (sync_result_of node.start ops (record effect { state = s })).state ≡ LoggedOut) e l in
      let k' : ◌≡◌ {A = State} (NotAuthenticated credentials) LoggedOut = k in cc
  ends_in effect Authenticated e l =
      let k = subst (λ (s : State). (sync_result_of node.start ops (record effect { state = s })).state ≡ LoggedOut) e l in
      let k' : ◌≡◌ {A = State} Authenticated LoggedOut = k in cc
  ends_in effect (Selected view read_only) e l =
      let k = subst (λ (s : State). (sync_result_of node.start ops (record effect { state = s })).state ≡ LoggedOut) e l in cc
  ends_in effect LoggedOut e l = refl

  ends_out : (effect : InputEffect) → effect.state ≡ LoggedOut → (sync_result_of node.start ops effect).state ≡ LoggedOut
  ends_out effect e = subst (λ (s : State). (sync_result_of node.start ops (record effect { state = s })).state ≡ LoggedOut) (sym e) refl

left_on : (b : Bool) (state : State) → ((state ≡ LoggedOut) → ⊥) → cond b Authenticated state ≡ LoggedOut → ⊥
left_on true state on l = let k : ◌≡◌ {A = State} Authenticated LoggedOut = l in cc
left_on false state on l = on l

-- a session that has not logged out
on_at : (node : NodeState) (n : ℕ) (s : Session) → session_at node.sessions n ≡ Some s → IsActive node n → (s.state ≡ LoggedOut) → ⊥
on_at node n s at g out = g.2 (ap (λ (x : Session). x.state) (some_is (sym g.1 ∙ at)) ∙ out)

module _ (old new : NodeState) (n moment : ℕ) (tagged : Tagged) where
  abbrev after_command : Session → List Op → InputEffect → Session
  after_command s issued effect = session_after old.start (old.applied ++ issued) s (inputs.Command moment tagged) effect

  command_idles : (reply : Reply) → idling_at old n ≡ None → Responds old n (inputs.Command moment tagged) reply new → idling_at new n ≡ idling_after_reply tagged reply
  command_idles (Done answers silent issued) none r =
      ap tag_of_idling (session_in_node_after old new n r.0 (after_command r.0 issued r.2.effect) issued r.1 r.2.becomes)
      ∙ ap (λ (b : Bool). cond b (Some tagged.tag) None) (sym (and_true (is_idle tagged.command)))
  command_idles (Refused why close) none r =
      ap tag_of_idling (session_in_node_after old new n r.0 (session_after_refusal r.0 (inputs.Command moment tagged) why) [] r.1 r.2.2)
      ∙ (ap tag_of_idling (sym r.1) ∙ none)
      ∙ ap (λ (b : Bool). cond b (Some tagged.tag) None) (sym (and_false (is_idle tagged.command)))

  active_after_command : (reply : Reply) → IsActive old n → logs_out tagged reply ≡ false → Responds old n (inputs.Command moment tagged) reply new → IsActive new n
  active_after_command (Done answers silent issued) g l r =
      let ops = old.applied ++ issued in (
        after_command r.0 issued r.2.effect,
        session_in_node_after old new n r.0 (after_command r.0 issued r.2.effect) issued r.1 r.2.becomes,
        λ out. on_at old n r.0 r.1 g
            (stays_in old ops r.0.state tagged.command (sym (and_true (is_logout tagged.command)) ∙ l)
            (ends_in old ops r.2.effect (state_after_command old.start ops r.0.state tagged.command) (ap (λ (c : InputEffect). c.state) r.2.taken.2) out)),
      )
  active_after_command (Refused why close) g l r = (
    session_after_refusal r.0 (inputs.Command moment tagged) why,
    session_in_node_after old new n r.0 (session_after_refusal r.0 (inputs.Command moment tagged) why) [] r.1 r.2.2,
    left_on (leaves_mailbox r.0.state (inputs.Command moment tagged)) r.0.state (on_at old n r.0 r.1 g),
  )

  command_ends : (reply : Reply) → logs_out tagged reply ≡ true → Responds old n (inputs.Command moment tagged) reply new → HasLoggedOut new n
  command_ends (Done answers silent issued) l r =
      let ops = old.applied ++ issued in (
        after_command r.0 issued r.2.effect,
        session_in_node_after old new n r.0 (after_command r.0 issued r.2.effect) issued r.1 r.2.becomes,
        ends_out old ops r.2.effect (ap (λ (c : InputEffect). c.state) r.2.taken.2 ∙ logout_ends old ops r.0.state tagged.command (sym (and_true (is_logout tagged.command)) ∙ l)),
      )
  command_ends (Refused why close) l r = absurd (false≢true (sym (and_false (is_logout tagged.command)) ∙ l))

module _ (old new : NodeState) (n : ℕ) (line : IdleLine) where
  abbrev after_line : Session → List Op → InputEffect → Session
  after_line s issued effect = session_after old.start (old.applied ++ issued) s (inputs.Line line) effect

  ended : (why : Refusal) (close : Bool) → is_out_of_memory (Refused why close) ≡ false → ends_idling (inputs.Line line) why ≡ true
  ended refusals.NoMemory close m = absurd (false≢true (sym m))
  ended _ close m = refl

  line_idles : (reply : Reply) → is_out_of_memory reply ≡ false → Responds old n (inputs.Line line) reply new → idling_at new n ≡ None
  line_idles (Done answers silent issued) m r = ap tag_of_idling (session_in_node_after old new n r.0 (after_line r.0 issued r.2.effect) issued r.1 r.2.becomes)
  line_idles (Refused why close) m r =
      ap tag_of_idling (session_in_node_after old new n r.0 (session_after_refusal r.0 (inputs.Line line) why) [] r.1 r.2.2)
      ∙ ap (λ (b : Bool). cond b None r.0.idling) (ended why close m)

  active_after_line : (reply : Reply) → IsActive old n → Responds old n (inputs.Line line) reply new → IsActive new n
  active_after_line (Done answers silent issued) g r = (
    after_line r.0 issued r.2.effect,
    session_in_node_after old new n r.0 (after_line r.0 issued r.2.effect) issued r.1 r.2.becomes,
    λ out. on_at old n r.0 r.1 g (ends_in old (old.applied ++ issued) r.2.effect r.0.state (ap (λ (c : InputEffect). c.state) r.2.taken) out),
  )
  active_after_line (Refused why close) g r = (
    session_after_refusal r.0 (inputs.Line line) why,
    session_in_node_after old new n r.0 (session_after_refusal r.0 (inputs.Line line) why) [] r.1 r.2.2,
    on_at old n r.0 r.1 g,
  )

-- ---- one item

-- The session after an item: open, or logged out if the flag is true.
abbrev pub ContinuesUnless : {O : Type 0} → Bool → NodeSession O → ℕ → Option (List ℕ) → Type 0
ContinuesUnless {O} false port n after = IsOpenSession port n after
ContinuesUnless {O} true port n after = (port.session ≡ Some n) × HasLoggedOut port.node n

-- The others' steps before an item, and the node's answers to it at its moment.
pub record IsItemTaken {O : Type 0} (old new : NodeSession O) (n : ℕ) (item : Item) (given : List Answer) (after : Option (List ℕ)) (out : Bool) : Type 0 where
  pub mid : NodeState
  pub moment : ℕ
  pub other_steps : SomeOtherSteps n old.node mid
  pub takes : conversations.TakesItemAt mid n (item_at moment item) given new.node
  pub continues : ContinuesUnless out new n after

-- The others' steps before an input of this session, and the node's response to it.
record HasResponded {O : Type 0} (old new : NodeSession O) (n : ℕ) (input : ℕ → Input) (reply : Reply) (idling : Option (List ℕ)) : Type 0 where
  mid : NodeState
  moment : ℕ
  other_steps : SomeOtherSteps n old.node mid
  responds : Responds mid n (input moment) reply new.node
  session : new.session ≡ Some n
  active : IsActive mid n
  idles : idling_at mid n ≡ idling

module _ {O : Type 0} (takes_turn : O → ℕ → NodeState → ℕ → NodeState → O → Type 0) (old new : NodeSession O) (n : ℕ) where
  responded : (input : ℕ → Input) (reply : Reply) (idling : Option (List ℕ)) → IsOpenSession old n idling → RespondsTo takes_turn old input reply new → HasResponded old new n input reply idling
  responded input reply idling st r =
      let same : r.number ≡ n = some_is (sym r.opened ∙ st.session) in
      let other_steps : SomeOtherSteps n old.node r.mid = subst (λ (k : ℕ). SomeOtherSteps k old.node r.mid) same r.turn.other_steps in
      record {
        mid = r.mid;
        moment = r.moment;
        other_steps = other_steps;
        responds = subst (λ (k : ℕ). Responds r.mid k (input r.moment) reply new.node) same r.responds;
        session = r.session ∙ ap Some same;
        active = active_after_others n old.node r.mid other_steps st.active;
        idles = idling_after_others n old.node r.mid other_steps ∙ st.idles;
      }

module _ {O : Type 0} (old new : NodeSession O) (n : ℕ) (item : Item) (given : List Answer) (after : Option (List ℕ)) (out : Bool) (idling : Option (List ℕ)) where
  immediate_taken : (answer : Answer) → IsOpenSession old n idling → IsRequest idling item (requests.Immediate answer) → given ≡ answer ∷ [] → new ≡ old → after ≡ idling → out ≡ false
      → IsItemTaken old new n item given after out
  immediate_taken answer st i given_is same idles on =
      let now : IsOpenSession new n idling = subst (λ (s : NodeSession O). IsOpenSession s n idling) (sym same) st in
      let is_open : IsOpenSession new n after = subst (λ (k : Option (List ℕ)). IsOpenSession new n k) (sym idles) now in
      let took = handled idling old.node new.node n 0 item (requests.Immediate answer) given i (given_is, ap (λ (s : NodeSession O). s.node) same) in
      record {
        mid = old.node;
        moment = 0;
        other_steps = no_other_steps n old.node;
        takes = subst (λ (k : Option (List ℕ)). TakesItem k old.node n 0 item given new.node) (sym st.idles) took;
        continues = subst (λ (o : Bool). ContinuesUnless o new n after) (sym on) is_open;
      }

  module _ (tagged : Tagged) (reply : Reply) (r : HasResponded old new n (λ moment. inputs.Command moment tagged) reply None) where
    continues_after_reply : (b : Bool) → logs_out tagged reply ≡ b → ContinuesUnless b new n (idling_after_reply tagged reply)
    continues_after_reply false e =
        record { session = r.session; active = active_after_command r.mid new.node n r.moment tagged reply r.active e r.responds; idles = command_idles r.mid new.node n r.moment tagged reply r.idles r.responds }
    continues_after_reply true e = (r.session, command_ends r.mid new.node n r.moment tagged reply e r.responds)

    continues_after_command : after ≡ idling_after_reply tagged reply → out ≡ logs_out tagged reply → ContinuesUnless out new n after
    continues_after_command idles on =
        let now : ContinuesUnless (logs_out tagged reply) new n after = subst (λ (k : Option (List ℕ)). ContinuesUnless (logs_out tagged reply) new n k) (sym idles) (continues_after_reply (logs_out tagged reply) refl) in
        subst (λ (o : Bool). ContinuesUnless o new n after) (sym on) now

    command_taken : idling ≡ None → IsRequest idling item (requests.Command tagged) → given ≡ answers_of tagged.tag reply → after ≡ idling_after_reply tagged reply → out ≡ logs_out tagged reply
        → IsItemTaken old new n item given after out
    command_taken none i given_is idles on =
        let took = handled idling r.mid new.node n r.moment item (requests.Command tagged) given i (reply, r.responds, given_is) in
        record {
          mid = r.mid;
          moment = r.moment;
          other_steps = r.other_steps;
          takes = subst (λ (k : Option (List ℕ)). TakesItem k r.mid n r.moment item given new.node) (none ∙ sym r.idles) took;
          continues = continues_after_command idles on;
        }

  line_taken : (own : List ℕ) (line : IdleLine) (reply : Reply) → HasResponded old new n (λ moment. inputs.Line line) reply idling → IsRequest idling item (requests.Line own line)
      → is_out_of_memory reply ≡ false → given ≡ answers_of own reply → after ≡ None → out ≡ false → IsItemTaken old new n item given after out
  line_taken own line reply r i m given_is idles on =
      let now : IsOpenSession new n None = record { session = r.session; active = active_after_line r.mid new.node n line reply r.active r.responds; idles = line_idles r.mid new.node n line reply m r.responds } in
      let is_open : IsOpenSession new n after = subst (λ (k : Option (List ℕ)). IsOpenSession new n k) (sym idles) now in
      let took = handled idling r.mid new.node n r.moment item (requests.Line own line) given i (reply, r.responds, m, given_is) in
      record {
        mid = r.mid;
        moment = r.moment;
        other_steps = r.other_steps;
        takes = subst (λ (k : Option (List ℕ)). TakesItem k r.mid n r.moment item given new.node) (sym r.idles) took;
        continues = subst (λ (o : Bool). ContinuesUnless o new n after) (sym on) is_open;
      }

module _ {O : Type 0} (takes_turn : O → ℕ → NodeState → ℕ → NodeState → O → Type 0) where
  taken_by : (old new : NodeSession O) (n : ℕ) (given : List Answer) (after : Option (List ℕ)) (out : Bool) (idling : Option (List ℕ)) → IsOpenSession old n idling
      → (item : Item) (request : Request) → IsRequest idling item request → HandlesRequest (NodeSteps takes_turn) old idling request given new after out → IsItemTaken old new n item given after out
  taken_by old new n given after out idling st item (requests.Immediate answer) i h = immediate_taken old new n item given after out idling answer st i h.0 h.1 h.2 h.3
  taken_by old new n given after out idling st item (requests.Command tagged) i h =
      let none : idling ≡ None = of_command idling item tagged i in
      let awake : IsOpenSession old n None = subst (λ (k : Option (List ℕ)). IsOpenSession old n k) none st in
      command_taken old new n item given after out idling tagged h.0 (responded takes_turn old new n (λ moment. inputs.Command moment tagged) h.0 None awake h.1) none i h.2 h.3 h.4
  taken_by old new n given after out idling st item (requests.Line own line) i h =
      line_taken old new n item given after out idling own line h.0 (responded takes_turn old new n (λ moment. inputs.Line line) h.0 idling st h.1) i h.2 h.3 h.4 h.5

  -- the port takes an item as its node does, after the others' steps
  pub taken : (old new : NodeSession O) (n : ℕ) (given : List Answer) (after : Option (List ℕ)) (out : Bool) (idling : Option (List ℕ)) → IsOpenSession old n idling
      → (item : Item) → AnswersItem (NodeSteps takes_turn) old idling item given new after out → IsItemTaken old new n item given after out
  taken old new n given after out idling st item t = taken_by old new n given after out idling st item t.0 t.1 t.2

  -- ---- many items

  -- The session after these items. A conversation over further items from this state can be
  -- prolonged to one over all items.
  pub record HasConversed (old mid : NodeSession O) (n : ℕ) (items : List Item) (between : Option (List ℕ)) (output : List ℕ) : Type 0 where
    pub is_open : IsOpenSession mid n between
    pub on : (tail : List ItemAt) (more : List Turn) (last : NodeState) → ConversesBetweenOthers mid.node n (items_at_each_one tail) more last
        → (placed : List ItemAt) × (turns : List Turn) × (items_of placed ≡ items ++ items_of tail) × ConversesBetweenOthers old.node n (items_at_each_one placed) turns last × (text_sent turns ≡ output ++ text_sent more)

  module _ (old mid next : NodeSession O) (n : ℕ) (item : Item) (items : List Item) (given : List Answer) (between after : Option (List ℕ)) (rest output : List ℕ)
      (t : IsItemTaken old next n item given between false) (r : HasConversed next mid n items after rest) (e : output ≡ texts given ++ rest) where
    one_more : (tail : List ItemAt) (more : List Turn) (last : NodeState) → ConversesBetweenOthers mid.node n (items_at_each_one tail) more last
        → (placed : List ItemAt) × (turns : List Turn) × (items_of placed ≡ item ∷ items ++ items_of tail) × ConversesBetweenOthers old.node n (items_at_each_one placed) turns last × (text_sent turns ≡ output ++ text_sent more)
    one_more tail more last k =
        let q = r.on tail more last k in (
          record { node = t.mid; moment = t.moment; item = item } ∷ q.0,
          turns_of item given ++ q.1,
          ap (λ (is : List Item). item ∷ is) q.2,
          (
            turns_of item given,
            next.node,
            t.other_steps,
            (given, next.node, t.takes, inl (t.continues.active, ([], sym (append-nil (turns_of item given)), (refl, refl)))),
            inl (t.continues.active, (q.1, refl, q.3)),
          ),
          turns_texts item given q.1 ∙ ap (λ x. texts given ++ x) q.4 ∙ sym (append_assoc (texts given) rest (text_sent more)) ∙ ap (λ x. x ++ text_sent more) (sym e),
        )

  pub has_conversed : (items : List Item) (old mid : NodeSession O) (n : ℕ) (idling between : Option (List ℕ)) (output : List ℕ) → IsOpenSession old n idling
      → Converses (NodeSteps takes_turn) old idling items output mid between → HasConversed old mid n items between output
  has_conversed [] old mid n idling between output st h =
      let now : IsOpenSession mid n idling = subst (λ (s : NodeSession O). IsOpenSession s n idling) (sym h.1) st in
      record {
        is_open = subst (λ (k : Option (List ℕ)). IsOpenSession mid n k) (sym h.2) now;
        on = λ tail more last k. (
          tail,
          more,
          refl,
          subst (λ (s : NodeSession O). ConversesBetweenOthers s.node n (items_at_each_one tail) more last) h.1 k,
          ap (λ t. t ++ text_sent more) (sym h.0),
        );
      }
  has_conversed (item ∷ items) old mid n idling between output st h =
      let t = taken old h.1 n h.0 h.2 false idling st item h.4 in
      let r = has_conversed items h.1 mid n h.2 between h.3 t.continues h.6 in
      record { is_open = r.is_open; on = one_more old mid h.1 n item items h.0 h.2 between h.3 output t r h.5 }
