use Rattle.std.proofs.Common.{◌≡◌, inl, inr, ℕ, Bool, true, false, List, ◌++◌, Option, Some, None, nat_eq, sym, subst}
use Rattle.std.proofs.lemmas.Bool.{cases_Bool}
use Rattle.crdt_ops.specs.declared.op.Op.{Op}
use Rattle.crdt_ops.specs.Sets.{folders_of, subscribed_names_of}
use Rattle.imap_answers.specs.declared.answer.Answer.{Answer}
use Rattle.imap_answers.specs.declared.codes.Code.{Code}
use Rattle.imap_answers.specs.Printable.{Each, IsCode, IsModSeq, IsPrintable, IsTag, IfPresent}
use Rattle.imap_commands.specs.Printing.{HasAllCopies, IsAnswerable, IsNumbered, IsPrintableReport}
use Rattle.imap_commands.specs.Report.{CommandReport, empty_report}
use Rattle.imap_commands.specs.declared.session.State.{State}
use Rattle.imap_commands.specs.declared.session.State.TheVariants.{NotAuthenticated, Authenticated, Selected, LoggedOut}
use Rattle.imap_commands.proofs.PrintReportLemmas.{capability_printable, enable_printable, idle_printable, list_printable, logout_printable, namespace_printable, status_printable}
use Rattle.imap_commands.proofs.PrintCopyLemmas.{append_printable, copy_printable, move_printable}
use Rattle.imap_commands.proofs.PrintFetchLemmas.{fetch_printable}
use Rattle.imap_commands.proofs.PrintSearchLemmas.{search_printable}
use Rattle.imap_commands.proofs.PrintSelectLemmas.{each_append, select_printable}
use Rattle.imap_commands.proofs.PrintStoreLemmas.{store_printable, uid_expunge_printable}
use Rattle.imap_commands.proofs.PrintSyncLemmas.{sync_printable}
use Rattle.imap_commands.proofs.PrintViews.{replay_numbered, sync_numbered}
use Rattle.imap_syntax.specs.declared.command.Command.{Command}
use Rattle.imap_syntax.specs.declared.command.Command.TheVariants as commands
use Rattle.session_view.specs.Replay.{view_after_reply}
use Rattle.session_view.specs.ViewState.{ViewState}
use Rattle.session_view.specs.declared.view_entry.SyncKind.{SyncKind}
use Rattle.session_view.specs.declared.reply_replay.SilentFlags.{SilentFlags}
use Rattle.uid_projection.specs.declared.first_numbers.Counters.{Counters}
use Rattle.uid_projection.specs.Incarnations.{folder_exists, uidvalidity_of}
use Rattle.uid_projection.specs.UidsAndModSeqs.{highest_modseq_of, uidnext_of}
use Rattle.uid_projection.specs.Listing.{listing}
use Rattle.imap_node.specs.Commands.{IsCommandReport, highest_answer_of, highest_answer, is_idle, is_selected, state_after_command, condstore_answer, report_if_selected, enables_condstore}
use Rattle.imap_node.specs.InputEffects.{InputEffect, SyncResult, answers_of_effect, sync_result, sync_result_of}
use Rattle.imap_node.specs.Mailboxes.{copy_target_in, mailbox_in, counters_of, rows_for, validity_of}
use Rattle.imap_node.specs.Printing.{IsPresentable, HasNumberedView}
use Rattle.imap_node.specs.Responses.{tagged_lines_of}
use Rattle.imap_node.proofs.ShownLemmas.{folders_folded, highest_nonzero, listing_showable, counters_nonzero, next_nonzero, rows_showable, shown_before, subscriptions_folded, validity_nonzero}

-- ---- what a command reports

-- the mailbox that a command names exists
abbrev pub NamesExisting : List Op → Command → State → Type 0
NamesExisting after (commands.Select name condstore) state = folder_exists name after ≡ true
NamesExisting after (commands.Examine name condstore) state = folder_exists name after ≡ true
NamesExisting after (commands.Status name items) state = folder_exists name after ≡ true
NamesExisting after (commands.Append request) state = folder_exists request.name after ≡ true
NamesExisting after (commands.Copy request) (Selected view read_only) = folder_exists request.name after ≡ true
NamesExisting after (commands.Move request) (Selected view read_only) = folder_exists request.name after ≡ true
NamesExisting after _ _ = Unit {0}

-- a copy's destination gets as many messages as are copied
abbrev pub HasAllTargetCopies : Counters → List Op → List Op → State → Command → Type 0
HasAllTargetCopies start before after (Selected view read_only) (commands.Copy request) =
    HasAllCopies (mailbox_in start before view read_only) request (copy_target_in start before after request.name)
HasAllTargetCopies start before after (Selected view read_only) (commands.Move request) =
    HasAllCopies (mailbox_in start before view read_only) request (copy_target_in start before after request.name)
HasAllTargetCopies start before after _ _ = Unit {0}

empty_report_printable : IsPrintableReport empty_report
empty_report_printable = record { own = tt; code = tt }

selected_printable : (state : State) (report_of : ViewState → Bool → CommandReport) → HasNumberedView state → ((view : ViewState) (read_only : Bool) → IsNumbered view.entries → IsPrintableReport (report_of view read_only)) → IsPrintableReport (report_if_selected state report_of)
selected_printable (NotAuthenticated credentials) report_of v h = empty_report_printable
selected_printable Authenticated report_of v h = empty_report_printable
selected_printable (Selected view read_only) report_of v h = h view read_only v
selected_printable LoggedOut report_of v h = empty_report_printable

module _ (start : Counters) (before issued : List Op) (p : IsPresentable start (before ++ issued)) where
  before_shown : IsPresentable start before
  before_shown = shown_before start before issued p

  pub report_printable : (command : Command) (state : State) (modseq : Bool) (tag : List ℕ) (report : CommandReport) → IsTag tag → IsAnswerable command → HasNumberedView state → NamesExisting (before ++ issued) command state
      → HasAllTargetCopies start before (before ++ issued) state command → IsCommandReport start before (before ++ issued) state modseq tag command report → IsPrintableReport report
  report_printable commands.Capability state modseq tag report t a v n l h = subst IsPrintableReport (sym h) capability_printable
  report_printable commands.Namespace state modseq tag report t a v n l h = subst IsPrintableReport (sym h) namespace_printable
  report_printable commands.Logout state modseq tag report t a v n l h = subst IsPrintableReport (sym h) logout_printable
  report_printable commands.Idle state modseq tag report t a v n l h = subst IsPrintableReport (sym h) idle_printable
  report_printable (commands.Enable names) state modseq tag report t a v n l h = subst IsPrintableReport (sym h) (enable_printable names)
  report_printable (commands.Select name condstore) state modseq tag report t a v n l h =
      select_printable (is_selected state) false name (counters_of start name (before ++ issued)) (listing start name (before ++ issued)) report a (counters_nonzero start name (before ++ issued) p n) (listing_showable start name (before ++ issued) p) h
  report_printable (commands.Examine name condstore) state modseq tag report t a v n l h =
      select_printable (is_selected state) true name (counters_of start name (before ++ issued)) (listing start name (before ++ issued)) report a (counters_nonzero start name (before ++ issued) p n) (listing_showable start name (before ++ issued) p) h
  report_printable (commands.Status name items) state modseq tag report t a v n l h =
      subst IsPrintableReport (sym h)
      (status_printable name items (counters_of start name (before ++ issued)) (listing start name (before ++ issued)) a.0 a.1 (counters_nonzero start name (before ++ issued) p n) (listing_showable start name (before ++ issued) p))
  report_printable (commands.Append request) state modseq tag report t a v n l h =
      subst IsPrintableReport (sym h)
      (append_printable (validity_of start request.name (before ++ issued)) (uidnext_of start request.name before) (validity_nonzero start request.name (before ++ issued) p n) (next_nonzero start request.name before before_shown))
  report_printable (commands.UidExpunge uids) state modseq tag report t a v n l h =
      subst IsPrintableReport (sym h) (selected_printable state _ v (λ view read_only k. uid_expunge_printable (mailbox_in start before view read_only) uids))
  report_printable (commands.Fetch request) state modseq tag report t a v n l h =
      subst IsPrintableReport (sym h) (selected_printable state _ v (λ view read_only k.
      fetch_printable (mailbox_in start before view read_only) (rows_for start (before ++ issued) view) modseq request (rows_showable start (before ++ issued) view p) k a))
  report_printable (commands.Store request) state modseq tag report t a v n l h =
      subst IsPrintableReport (sym h) (selected_printable state _ v (λ view read_only k.
      store_printable (mailbox_in start before view read_only) (rows_for start (before ++ issued) view) modseq request (rows_showable start (before ++ issued) view p) k))
  report_printable (commands.Copy request) (Selected view read_only) modseq tag report t a v n l h =
      subst IsPrintableReport (sym h)
      (copy_printable (mailbox_in start before view read_only) request (copy_target_in start before (before ++ issued) request.name) v
      (validity_nonzero start request.name (before ++ issued) p n) (listing_showable start request.name (before ++ issued) p) l)
  report_printable (commands.Copy request) (NotAuthenticated credentials) modseq tag report t a v n l h = subst IsPrintableReport (sym h) empty_report_printable
  report_printable (commands.Copy request) Authenticated modseq tag report t a v n l h = subst IsPrintableReport (sym h) empty_report_printable
  report_printable (commands.Copy request) LoggedOut modseq tag report t a v n l h = subst IsPrintableReport (sym h) empty_report_printable
  report_printable (commands.Move request) (Selected view read_only) modseq tag report t a v n l h =
      subst IsPrintableReport (sym h)
      (move_printable (mailbox_in start before view read_only) request (copy_target_in start before (before ++ issued) request.name) v
      (validity_nonzero start request.name (before ++ issued) p n) (listing_showable start request.name (before ++ issued) p) l)
  report_printable (commands.Move request) (NotAuthenticated credentials) modseq tag report t a v n l h = subst IsPrintableReport (sym h) empty_report_printable
  report_printable (commands.Move request) Authenticated modseq tag report t a v n l h = subst IsPrintableReport (sym h) empty_report_printable
  report_printable (commands.Move request) LoggedOut modseq tag report t a v n l h = subst IsPrintableReport (sym h) empty_report_printable
  report_printable (commands.ListNames request) state modseq tag report t a v n l h =
      let sound = before_shown.lasting.applied.sound in
      list_printable (record { subscribed_only = request.subscribed_only; return_subscribed = request.return_subscribed }) request.reference request.pattern (folders_of before) (subscribed_names_of before) report (folders_folded before sound)
      (subscriptions_folded before sound) h
  report_printable (commands.Search request) (Selected view read_only) modseq tag report t a v n l h =
      search_printable (mailbox_in start (before ++ issued) view read_only) tag request report t (rows_showable start (before ++ issued) view p) v h
  report_printable (commands.Search request) (NotAuthenticated credentials) modseq tag report t a v n l h = subst IsPrintableReport (sym h) empty_report_printable
  report_printable (commands.Search request) Authenticated modseq tag report t a v n l h = subst IsPrintableReport (sym h) empty_report_printable
  report_printable (commands.Search request) LoggedOut modseq tag report t a v n l h = subst IsPrintableReport (sym h) empty_report_printable
  report_printable _ state modseq tag report t a v n l h = subst IsPrintableReport (sym h) empty_report_printable

-- ---- what is sent before and after a report

highest_printable : (uidvalidity : ℕ) (now : Option ℕ) (highest : ℕ) → IsModSeq highest → Each IsPrintable (highest_answer uidvalidity now highest)
highest_printable uidvalidity None highest h = tt
highest_printable uidvalidity (Some now) highest h = elim (cases_Bool (nat_eq now uidvalidity)) [ inl t ↦ rw t (h, tt) | inr f ↦ rw f tt ]

state_highest : (start : Counters) (ops : List Op) (state : State) → IsPresentable start ops → Each IsPrintable (highest_answer_of start ops state)
state_highest start ops (Selected view read_only) p = highest_printable view.uidvalidity (uidvalidity_of start view.name ops) (highest_modseq_of view.name ops) (highest_nonzero start view.name ops p)
state_highest start ops (NotAuthenticated credentials) p = tt
state_highest start ops Authenticated p = tt
state_highest start ops LoggedOut p = tt

pub notice_printable : (start : Counters) (ops : List Op) (state : State) (condstore : Bool) (command : Command) → IsPresentable start ops → Each IsPrintable (condstore_answer start ops state condstore command)
notice_printable start ops state condstore command p =
    elim (cases_Bool (enables_condstore condstore command)) [ inl t ↦ rw t (state_highest start ops state p) | inr f ↦ rw f tt ]

pub tail_printable : (tag : List ℕ) (command : Command) (code : Option Code) → IsTag tag → IfPresent IsCode code → Each IsPrintable (tagged_lines_of tag command code)
tail_printable tag command code t c = elim (cases_Bool (is_idle command)) [ inl y ↦ rw y tt | inr f ↦ rw f ((t, c), tt) ]

pub moved_numbered : (start : Counters) (ops : List Op) (state : State) (command : Command) → HasNumberedView state → HasNumberedView (state_after_command start ops state command)
moved_numbered start ops state (commands.Login user password) h = tt
moved_numbered start ops state (commands.Select name condstore) h = record { small = tt; rising = tt }
moved_numbered start ops state (commands.Examine name condstore) h = record { small = tt; rising = tt }
moved_numbered start ops state commands.Logout h = tt
moved_numbered start ops state commands.Unselect h = tt
moved_numbered start ops state commands.Close h = tt
moved_numbered start ops state _ h = h

-- ---- the sync

record IsPrintableSyncResult (end : SyncResult) : Type 0 where
  printable : Each IsPrintable end.answers
  numbered : HasNumberedView end.state

ends_printable : (start : Counters) (ops : List Op) (sync : Option SyncKind) (modseq : Bool) (state : State) (silent : List SilentFlags) (own : List Answer) → IsPresentable start ops → HasNumberedView state → IsPrintableSyncResult (sync_result start ops sync modseq state silent own)
ends_printable start ops sync modseq (NotAuthenticated credentials) silent own p v = record { printable = tt; numbered = tt }
ends_printable start ops sync modseq Authenticated silent own p v = record { printable = tt; numbered = tt }
ends_printable start ops sync modseq LoggedOut silent own p v = record { printable = tt; numbered = tt }
ends_printable start ops None modseq (Selected view read_only) silent own p v = record {
  printable = tt;
  numbered = replay_numbered (rows_for start ops view) view.entries silent own (rows_showable start ops view p) v;
}
ends_printable start ops (Some kind) modseq (Selected view read_only) silent own p v =
    let rows = rows_for start ops view in
    let shown = rows_showable start ops view p in
    let is_numbered = replay_numbered rows view.entries silent own shown v in
    record {
      printable = sync_printable kind modseq rows (view_after_reply rows view.entries silent own) shown is_numbered;
      numbered = sync_numbered kind modseq rows (view_after_reply rows view.entries silent own) shown is_numbered;
    }

-- an effect can be answered
pub record IsPrintableEffect (start : Counters) (ops : List Op) (effect : InputEffect) : Type 0 where
  pub printable : Each IsPrintable (answers_of_effect start ops effect)
  pub numbered : HasNumberedView (sync_result_of start ops effect).state

pub effect_printable : (start : Counters) (ops : List Op) (effect : InputEffect) → IsPresentable start ops → Each IsPrintable effect.own → Each IsPrintable effect.tail → HasNumberedView effect.state → IsPrintableEffect start ops effect
effect_printable start ops effect p own tail v =
    let e = ends_printable start ops effect.sync effect.modseq effect.state effect.silent effect.own p v in
    record {
      printable = each_append IsPrintable effect.own ((sync_result_of start ops effect).answers ++ effect.tail) own (each_append IsPrintable (sync_result_of start ops effect).answers effect.tail e.printable tail);
      numbered = e.numbered;
    }
