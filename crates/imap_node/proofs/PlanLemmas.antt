use Rattle.std.proofs.Common.{◌≡◌, ◌⊎◌, inl, inr, ℕ, Bool, true, false, List, [], ◌∷◌, ◌++◌, Option, Some, None, refl, sym, ap, ◌∙◌, append-nil, subst, IfOk, IfErr}
use Rattle.std.specs.Prelude.{Result, Ok, Err, MatchResult, ◌&&◌, if◌then◌else◌}
use Rattle.std.specs.Option.{unwrap_or}
use Rattle.std.specs.Prelude.{length, ◌==◌}
use Rattle.std.proofs.lemmas.Bool.{false≢true}
use Rattle.causal_inbox.specs.Inbox.{AreIssued, AreRemainingHeld}
use Rattle.crdt_ops.specs.declared.kind.Kind.{Kind}
use Rattle.crdt_ops.specs.declared.op.Op.{Op}
use Rattle.imap_answers.specs.declared.fixed_words.Refusal.{Refusal}
use Rattle.imap_answers.specs.declared.fixed_words.Refusal.TheVariants.{NoMemory}
use Rattle.imap_commands.specs.MemoryFaults.{EqualsOrLacksMemory}
use Rattle.imap_commands.specs.declared.intent.Intent.{Intent}
use Rattle.imap_commands.specs.declared.session.Session.{Session}
use Rattle.imap_commands.specs.declared.session.State.{State}
use Rattle.imap_commands.specs.declared.session.State.TheVariants.{Authenticated}
use Rattle.imap_node.specs.declared.input.Input.{Input}
use Rattle.imap_node.specs.declared.input.Input.TheVariants as inputs
use Rattle.imap_node.specs.declared.plan.SessionStep.TheVariants.{Advances, Leaves, Stays, Wakes}
use Rattle.imap_node.specs.declared.plan.PreparedInput.{PreparedInput}
use Rattle.imap_node.specs.InputEffects.{InputEffect, answers_of_effect}
use Rattle.imap_node.specs.declared.plan.PreparedReply.{PreparedReply}
use Rattle.imap_node.specs.Nodes.{NodeWithRoom, NodeState, ReplicaWithRoom}
use Rattle.imap_node.proofs.NextLemmas.{no_cut}
use Rattle.imap_node.specs.Commands.{is_selected, is_selecting}
use Rattle.imap_node.specs.Operations.{CanIssueAll, IsReadyRefusal}
use Rattle.imap_node.specs.SessionFeeds.{AreChangeNotes}
use Rattle.imap_node.specs.SessionChanges.{CanChangeSession, changed_session}
use Rattle.imap_node.specs.Plans.{CanStep, IsPreparedReply, IsPlanned, IsPlanOf, IsPreparedInput, IsReadyInput, plan_of_prepared, step_of_refusal, place_after_step, plan_by, session_after_step}
use Rattle.imap_node.specs.Responses.{CarriesOut, IsNodeAfter, IsRefused, IsStamp, AreHeldAfter, IsInputEffect, ends_idling, leaves_mailbox, session_after_refusal, session_after, input_intent}
use Rattle.imap_node.specs.Sessions.{IsOpen, Places, session_at, with_session}
use Rattle.imap_node.proofs.CanIssueLemmas.{input_can}
use Rattle.imap_node.proofs.FeedLemmas.{no_change_notes}
use Rattle.uid_projection.specs.declared.first_numbers.Counters.{Counters}
use Rattle.uid_projection.specs.Applied.{IsApplied}
use Rattle.crdt_ops.specs.Ops.{clock_of, id_of}

-- weaker statements on both outcomes
pub match_weaker : {T E : Type 0} (r : Result T E) (P P' : T → Type 0) (Q Q' : E → Type 0) → ((t : T) → P t → P' t) → ((e : E) → Q e → Q' e) → MatchResult r P Q → MatchResult r P' Q'
match_weaker (Ok t) P P' Q Q' f g h = f t h
match_weaker (Err e) P P' Q Q' f g h = g e h

-- the operations that are still held after some were issued
pub held_after_some : (ops old new : List Op) → (ops ≡ [] → ⊥) → AreRemainingHeld id_of ops old new → AreHeldAfter ops old new
held_after_some [] old new n h = absurd (n refl)
held_after_some (op ∷ ops) old new n h = h

pub held_after_none : (ops old : List Op) → ops ≡ [] → AreHeldAfter ops old old
held_after_none ops old e = subst (λ (os : List Op). AreHeldAfter os old old) (sym e) refl

module _ (session : Session) where
  refusal_command : (b : Bool) → Some (session_after_step session (if b then Leaves else Stays)) ≡ Some (record { state = if b then Authenticated else session.state; condstore = session.condstore; idling = session.idling })
  refusal_command true = refl
  refusal_command false = refl

  refusal_line : (b : Bool) → Some (session_after_step session (if b then Wakes else Stays)) ≡ Some (record { state = session.state; condstore = session.condstore; idling = if b then None else session.idling })
  refusal_line true = refl
  refusal_line false = refl

  -- a refused input leaves the session that its plan gives
  place_after_refusal : (input : Input) (why : Refusal) → place_after_step (Some session) (step_of_refusal session.state input why) ≡ Some (session_after_refusal session input why)
  place_after_refusal (inputs.Command moment tagged) why = refusal_command (is_selected session.state && is_selecting tagged.command)
  place_after_refusal (inputs.Line line) why = refusal_line (ends_idling (inputs.Line line) why)
  place_after_refusal inputs.Poll why = refl

module _ (old : NodeState) (n : ℕ) (session : Session) (input : Input) (at : session_at old.sessions n ≡ Some session) where
  next_after_refusal : (why : Refusal) → place_after_step (session_at old.sessions n) (step_of_refusal session.state input why) ≡ Some (session_after_refusal session input why)
  next_after_refusal why = ap (λ (s : Option Session). place_after_step s (step_of_refusal session.state input why)) at ∙ place_after_refusal session input why

  done_responds : (p : PreparedInput) → IsPreparedInput old.start old.applied session input p → IsPlanOf old n input (plan_of_prepared n p)
  done_responds p h = λ new k.
      let after : Session = session_after old.start (old.applied ++ p.ops) session input h.answered.effect in
      let place : place_after_step (session_at old.sessions n) (Advances p.answered.update) ≡ Some after =
      ap (λ (s : Option Session). place_after_step s (Advances p.answered.update)) at ∙ ap (λ (s : Session). Some s) h.answered.becomes in (
        session,
        at,
        subst (λ (os : List Op). CarriesOut old n session input p.answered.answers p.answered.silent os new) (sym h.copies)
            (record {
              stamp = h.stamp;
              stamped = h.stamped;
              kinds = h.kinds;
              intended = h.intended;
              next = h.next;
              not_exhausted = h.not_exhausted;
              effect = h.answered.effect;
              taken = h.answered.taken;
              answers_are = h.answered.answers;
              silent_is = h.answered.silent;
              becomes = subst (λ (s : Option Session). IsNodeAfter old p.ops (with_session old.sessions n s) new) place k;
            }),
      )

  refused_responds : (why : Refusal) → IsRefused old.start old.applied session.state input why → IsPlanOf old n input (plan_by n session.state input (Err why))
  refused_responds why h = λ new k. (session, at, (h, refl, subst (λ (s : Option Session). IsNodeAfter old [] (with_session old.sessions n s) new) (next_after_refusal why) k))

  pub plan_responds : (outcome : Result PreparedInput Refusal) → IfOk outcome (λ p. IsPreparedInput old.start old.applied session input p) → IfErr outcome (λ why. IsRefused old.start old.applied session.state input why)
      → IsPlanOf old n input (plan_by n session.state input outcome)
  plan_responds (Ok p) h k = done_responds p h
  plan_responds (Err why) h k = refused_responds why k

-- the kinds that an input issues may be issued
pub intent_can_issue : (start : Counters) (ops : List Op) (a : IsApplied ops) (stamp : List ℕ) (state : State) (input : Input) (r : Result Intent Refusal) → EqualsOrLacksMemory (λ intended. intended.kinds.items) r (input_intent start ops stamp state input) → IfOk r (λ intended. CanIssueAll ops intended.kinds.items)
intent_can_issue start ops a stamp state input (Ok given) g = input_can start ops a stamp state input given.kinds.items g
intent_can_issue start ops a stamp state input (Err why) g = tt

-- the refusal of an input by its intent
pub refused_by_intent : (start : Counters) (ops : List Op) (stamp : List ℕ) (state : State) (input : Input) (why : Refusal) → IsStamp input stamp
    → (why ≡ NoMemory) ⊎ (input_intent start ops stamp state input ≡ Err why) → IsRefused start ops state input why
refused_by_intent start ops stamp state input why s h = elim h [ inl e ↦ inl e | inr e ↦ inr (stamp, s, inl e) ]

-- the refusal of an input whose operations can't be made ready
pub refused_by_ready : (start : Counters) (ops : List Op) (stamp : List ℕ) (state : State) (input : Input) (given : List Kind) (why : Refusal) → IsStamp input stamp → input_intent start ops stamp state input ≡ Ok given
    → IsReadyRefusal start ops given why → IsRefused start ops state input why
refused_by_ready start ops stamp state input given why s w h = elim h [ inl e ↦ inl e | inr e ↦ inr (stamp, s, inr (e.0, given, w, e.1)) ]

-- the answers to an input with this effect
pub answered_by : {E : Type 0} (start : Counters) (before after : List Op) (session : Session) (input : Input) (effect : InputEffect) → IsInputEffect start before after session input effect → (r : Result PreparedReply E)
    → IfOk r (λ a. a.answers ≡ answers_of_effect start after effect) → IfOk r (λ a. a.silent ≡ effect.silent) → IfOk r (λ a. changed_session session a.update ≡ session_after start after session input effect)
    → IfOk r (λ a. IsPreparedReply start before after session input a)
answered_by start before after session input effect taken (Ok a) p q s = record { effect = effect; taken = taken; answers = p; silent = q; becomes = s }
answered_by start before after session input effect taken (Err e) p q s = tt

-- the next step of a session whose input was refused
refusal_can_step : (start : Counters) (ops : List Op) (session : Session) (a b : Bool) → CanStep start ops session (if a then Leaves else (if b then Wakes else Stays))
refusal_can_step start ops session true b = tt
refusal_can_step start ops session false true = tt
refusal_can_step start ops session false false = tt

-- a plan can be committed if the room was made for it
module _ (old new : ReplicaWithRoom) (places after : Places) (n : ℕ) (session : Session) (input : Input) (same_start : new.start ≡ old.start) (same_applied : new.applied ≡ old.applied) (same_places : after ≡ places) (at : session_at places n ≡ Some session) where
  abbrev node : NodeWithRoom
  node = record { state = record { start = new.start; applied = new.applied; held = new.held; sessions = after }; room = new.room }

  at_after : session_at after n ≡ Some session
  at_after = ap (λ (ps : Places). session_at ps n) same_places ∙ at

  pub plan_by_planned : (outcome : Result PreparedInput Refusal) → IsOpen places n → IfOk outcome (λ p. IsReadyInput old new session input p) → IsPlanned node (plan_by n session.state input outcome)
  plan_by_planned (Ok p) opened h = record {
    is_open = subst (λ (ps : Places). IsOpen ps n) (sym same_places) opened;
    issued = subst (λ (os : List Op). AreIssued id_of clock_of os p.ops) (sym same_applied) h.issued;
    room = h.room;
    change_notes = subst (λ (x : Counters). AreChangeNotes x new.applied (new.applied ++ p.ops) p.change_notes) (sym same_start) (subst (λ (os : List Op). AreChangeNotes old.start os (os ++ p.ops) p.change_notes) (sym same_applied) h.changes);
    can = λ s is.
        subst (λ (x : Session). CanChangeSession new.start (new.applied ++ p.ops) x.state p.answered.update.state_change) (ap (λ (o : Option Session). unwrap_or o session) (sym at_after ∙ is))
        (subst (λ (x : Counters). CanChangeSession x (new.applied ++ p.ops) session.state p.answered.update.state_change) (sym same_start)
        (subst (λ (os : List Op). CanChangeSession old.start (os ++ p.ops) session.state p.answered.update.state_change) (sym same_applied) h.can));
  }
  plan_by_planned (Err why) opened h = record {
    is_open = subst (λ (ps : Places). IsOpen ps n) (sym same_places) opened;
    issued = λ front o back e. absurd (no_cut front o back e);
    room = λ f. absurd (f refl);
    change_notes = subst (λ (list : List Op). AreChangeNotes new.start new.applied list []) (sym (append-nil new.applied)) (no_change_notes new.start new.applied);
    can = λ s e. refusal_can_step new.start (new.applied ++ []) s (leaves_mailbox session.state input) (ends_idling input why);
  }

-- a list whose length isn't 0 isn't empty
pub not_empty : (ops os : List Op) (b : Bool) → b ≡ false → b ≡ (length os == 0) → os ≡ ops → ops ≡ [] → ⊥
not_empty ops os b f h e n = absurd (false≢true (sym f ∙ (h ∙ ap (λ (xs : List Op). length xs == 0) (e ∙ n))))
