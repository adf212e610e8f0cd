-- The reply to a NOOP of a session that has no unsent changes is only its tagged line.
use Rattle.std.proofs.Common.{◌≡◌, ◌⊎◌, inl, inr, ap, sym, refl, subst, ℕ, Bool, true, false, List, [], ◌∷◌, ◌++◌, Option, Some, None, append-nil}
use Rattle.std.specs.Option.{unwrap_or}
use Rattle.std.specs.Prelude.{Ok}
use Rattle.causal_inbox.specs.Inbox.{AreIssued}
use Rattle.crdt_ops.specs.declared.op.Op.{Op}
use Rattle.idle_feed.specs.Feeds.{Pending}
use Rattle.imap_commands.specs.Report.{empty_report}
use Rattle.imap_commands.specs.declared.session.Session.{Session}
use Rattle.imap_commands.specs.declared.session.State.{State}
use Rattle.imap_node.specs.InputEffects.{InputEffect, SyncInput, sync_result_after}
use Rattle.imap_node.specs.SessionFeeds.{MailboxNotes, AreChangeNotes, IsNotedFor, IsSettled}
use Rattle.imap_node.specs.SessionChanges.{CanChangeSession, state_with}
use Rattle.imap_node.specs.Operations.{clock_of, id_of}
use Rattle.imap_node.specs.Nodes.{ReplicaWithRoom}
use Rattle.imap_node.specs.Plans.{IsPreparedReply, IsPreparedInput, IsReadyInput}
use Rattle.imap_node.specs.Replays.{view_of}
use Rattle.imap_node.specs.Responses.{command_effect}
use Rattle.imap_node.specs.SettledNoops.{HasNothingUnsent, IsSettledNoop, IsNoop, settled_noop_reply}
use Rattle.imap_node.specs.declared.input.Input.{Input}
use Rattle.imap_node.specs.declared.input.Input.TheVariants.{Command}
use Rattle.imap_syntax.specs.declared.command.Command.TheVariants.{Noop}
use Rattle.session_view.specs.ViewState.{ViewState}
use Rattle.session_view.specs.declared.view_entry.SyncKind.TheVariants.{Full}
use Rattle.uid_projection.specs.declared.first_numbers.Counters.{Counters}
use Rattle.uid_projection.specs.Exhaustion.{Exhausts}
use Rattle.imap_node.proofs.SessionChangeLemmas.{can_stay, shown_as_before}
use Rattle.imap_node.proofs.NextLemmas.{no_cut}

-- nothing is issued
pub none_issued : (applied : List Op) → AreIssued id_of clock_of applied []
none_issued applied = λ front o back e. absurd (no_cut front o back e)

-- nothing is noted
pub none_new : (start : Counters) (applied : List Op) → AreChangeNotes start applied (applied ++ []) []
none_new start applied = subst (λ (after : List Op). AreChangeNotes start applied after []) (sym (append-nil applied)) (λ name uidvalidity uid. inl refl)

-- a session with nothing unsent is sent nothing, and its state stays
settled_sync_result : (start : Counters) (applied : List Op) (state : State) (pending : Pending) (modseq : Bool) → ((view : ViewState) → view_of state ≡ Some view → IsNotedFor start applied pending view) → HasNothingUnsent state pending
    → ([] ≡ (sync_result_after start (applied ++ []) state (record { silent = []; own = []; sync = Some Full; modseq = modseq })).answers) × (state_with state None ≡ (sync_result_after start (applied ++ []) state (record { silent = []; own = []; sync = Some Full; modseq = modseq })).state)
settled_sync_result start applied state pending modseq noted settled =
    shown_as_before start applied (applied ++ []) state (record { pending = pending; change_notes = [] }) (record { silent = []; own = []; sync = Some Full; modseq = modseq }) [] refl (λ view is. refl) refl noted (none_new start applied) (inr settled)

settled_noop_answered : (start : Counters) (applied : List Op) (state : State) (condstore : Bool) (idling : Option (List ℕ)) (pending : Pending) (moment : ℕ) (tag : List ℕ)
    → ((view : ViewState) → view_of state ≡ Some view → IsNotedFor start applied pending view) → HasNothingUnsent state pending
    → IsPreparedReply start applied (applied ++ []) (record { state = state; condstore = condstore; idling = idling }) (Command moment (record { tag = tag; command = Noop })) (settled_noop_reply (record { state = state; condstore = condstore; idling = idling }) tag).answered
settled_noop_answered start applied state true idling pending moment tag noted settled =
    let session : Session = record { state = state; condstore = true; idling = idling } in
    let same = settled_sync_result start applied state pending true noted settled in
    record {
      effect = command_effect start (applied ++ []) session tag Noop empty_report;
      taken = (empty_report, refl, refl);
      answers = λ i. same.0 i ++ (settled_noop_reply session tag).answered.answers;
      silent = refl;
      becomes = λ i. record { state = same.1 i; condstore = true; idling = None };
    }
settled_noop_answered start applied state false idling pending moment tag noted settled =
    let session : Session = record { state = state; condstore = false; idling = idling } in
    let same = settled_sync_result start applied state pending false noted settled in
    record {
      effect = command_effect start (applied ++ []) session tag Noop empty_report;
      taken = (empty_report, refl, refl);
      answers = λ i. same.0 i ++ (settled_noop_reply session tag).answered.answers;
      silent = refl;
      becomes = λ i. record { state = same.1 i; condstore = false; idling = None };
    }

pub settled_noop_prepared : (start : Counters) (applied : List Op) (session : Session) (pending : Pending) (input : Input) (tag : List ℕ) → ((view : ViewState) → view_of session.state ≡ Some view → IsNotedFor start applied pending view) → IsSettledNoop session.state pending input tag
    → IsPreparedInput start applied session input (settled_noop_reply session tag)
settled_noop_prepared start applied session pending input tag noted is_settled_noop =
    subst (λ (i : Input). IsPreparedInput start applied session i (settled_noop_reply session tag)) (sym is_settled_noop.0.1)
    (record {
      stamp = [];
      stamped = tt;
      kinds = [];
      intended = refl;
      next = record { of_kinds = refl; next = λ front op back e. absurd (no_cut front op back e) };
      not_exhausted = λ (front, op, back, k, x). no_cut front op back k;
      answered = settled_noop_answered start applied session.state session.condstore session.idling pending is_settled_noop.0.0 tag noted is_settled_noop.1;
      copies = refl;
    })

-- and its input can be carried out as it is
pub settled_noop_ready : (replica : ReplicaWithRoom) (session : Session) (pending : Pending) (input : Input) (tag : List ℕ) → ((view : ViewState) → view_of session.state ≡ Some view → IsNotedFor replica.start replica.applied pending view) → IsSettledNoop session.state pending input tag
    → IsReadyInput replica replica session input (settled_noop_reply session tag)
settled_noop_ready replica session pending input tag noted is_settled_noop =
    record {
      reply = settled_noop_prepared replica.start replica.applied session pending input tag noted is_settled_noop;
      issued = none_issued replica.applied;
      room = λ f. absurd (f refl);
      changes = none_new replica.start replica.applied;
      can = can_stay replica.start (replica.applied ++ []) session.state;
    }

-- nothing must be sent to a settled session
pub nothing_unsent : (state : State) (pending : Pending) (changes : List MailboxNotes) → changes ≡ [] → (Some Full ≡ None) ⊎ ((view : ViewState) → view_of state ≡ Some view → IsSettled (record { pending = pending; change_notes = changes }) view) → HasNothingUnsent state pending
nothing_unsent state pending changes e (inl n) = absurd cc
nothing_unsent state pending changes e (inr settled) = λ view is. subst (λ (ns : List MailboxNotes). IsSettled (record { pending = pending; change_notes = ns }) view) e (settled view is)

pub some_tag : (named tag : List ℕ) (input : Input) → Some named ≡ Some tag → IsNoop input named → IsNoop input tag
some_tag named tag input e noop = subst (IsNoop input) (ap (λ (o : Option (List ℕ)). unwrap_or o named) e) noop
