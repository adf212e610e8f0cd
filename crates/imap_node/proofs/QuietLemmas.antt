use Rattle.std.proofs.Common.{◌≡◌, inl, inr, ℕ, Bool, true, false, not, ◌&&◌, List, [], ◌∷◌, map, flat_map, Option, Some, None, is_some, nat_eq, sym, subst}
use Rattle.std.proofs.lemmas.Bool.{cases_Bool, false≢true}
use Rattle.crdt_ops.specs.declared.op.Op.{Op}
use Rattle.crdt_ops.specs.Sets.{folders_of, subscribed_names_of}
use Rattle.imap_answers.specs.declared.answer.Answer.{Answer}
use Rattle.imap_answers.specs.Printable.{Each}
use Rattle.imap_commands.specs.CopyCommand.{copies_in, moved_answers, sources_of}
use Rattle.imap_commands.specs.FetchCommand.{mode_of, viewed_messages_at}
use Rattle.imap_commands.specs.StoreCommand.{stored_answer, stored_answers, taken_messages}
use Rattle.imap_commands.specs.Report.{CommandReport, message_at}
use Rattle.imap_commands.specs.declared.session.State.{State}
use Rattle.imap_commands.specs.declared.session.State.TheVariants.{NotAuthenticated, Authenticated, Selected, LoggedOut}
use Rattle.imap_commands.proofs.PrintSelectLemmas.{each_append}
use Rattle.imap_syntax.specs.declared.command.Command.{Command}
use Rattle.imap_syntax.specs.declared.command.Command.TheVariants as commands
use Rattle.imap_syntax.specs.declared.fetch.FetchItem.{FetchItem}
use Rattle.imap_query.specs.FetchCommand.{answer_of, is_above_changed_since}
use Rattle.imap_query.specs.ListNames.{ListsMatching, ListsNames}
use Rattle.imap_query.specs.declared.fetch_command.FetchMode.{FetchMode}
use Rattle.imap_query.specs.declared.list_answers.ListMode.{ListMode}
use Rattle.imap_query.specs.declared.viewed_message.ViewedMessage.{ViewedMessage}
use Rattle.mailbox_rows.specs.ListedMessage.{ListedMessage}
use Rattle.mailbox_rows.specs.RowViews.{row_of}
use Rattle.session_view.specs.ViewState.{ViewState}
use Rattle.session_view.specs.Sets.{numbers_in_set}
use Rattle.session_view.specs.declared.view_entry.ViewEntry.{ViewEntry}
use Rattle.uid_projection.specs.declared.first_numbers.Counters.{Counters}
use Rattle.uid_projection.specs.Incarnations.{uidvalidity_of}
use Rattle.uid_projection.specs.UidsAndModSeqs.{highest_modseq_of, uidnext_of}
use Rattle.uid_projection.specs.Listing.{listing}
use Rattle.imap_node.specs.Commands.{IsCommandReport, highest_answer_of, highest_answer, is_selecting, condstore_answer, report_if_selected, enables_condstore}
use Rattle.imap_node.specs.Mailboxes.{mailbox_in, rows_for, validity_of}
use Rattle.imap_node.proofs.UidLemmas.{IsQuiet}
use Rattle.imap_syntax.specs.declared.arguments.Store.{Store}

-- ---- lists of quiet answers

quiet_flat : {X : Type 0} (f : X → List Answer) (xs : List X) → ((x : X) → Each IsQuiet (f x)) → Each IsQuiet (flat_map f xs)
quiet_flat f [] h = tt
quiet_flat f (x ∷ xs) h = each_append IsQuiet (f x) (flat_map f xs) (h x) (quiet_flat f xs h)

quiet_map : {X : Type 0} (f : X → Answer) (xs : List X) → ((x : X) → IsQuiet (f x)) → Each IsQuiet (map f xs)
quiet_map f [] h = tt
quiet_map f (x ∷ xs) h = (h x, quiet_map f xs h)

-- ---- what each command reports

fetch_quiet : (items : List FetchItem) (mode : FetchMode) (shown : ViewedMessage) (old row : Option ListedMessage) → Each IsQuiet (answer_of items mode shown old row)
fetch_quiet items mode shown None row = tt
fetch_quiet items mode shown (Some old) None = tt
fetch_quiet items mode shown (Some old) (Some row) = elim (cases_Bool (is_above_changed_since mode.changed_since old)) [ inl t ↦ rw t (tt, tt) | inr f ↦ rw f tt ]

stored_quiet : (condstore : Bool) (request : Store) (n : ℕ) (row : Option ListedMessage) → Each IsQuiet (stored_answer condstore request n row)
stored_quiet condstore request n None = tt
stored_quiet condstore request n (Some row) = (tt, tt)

store_quiet : (after : List ListedMessage) (view : List ViewEntry) (condstore : Bool) (request : Store) (taken : List ℕ) → Each IsQuiet (stored_answers after view condstore request taken)
store_quiet after view condstore request taken =
    elim (cases_Bool (request.action.silent && not (is_some request.unchanged_since))) [
      | inl t ↦ rw t tt
      | inr f ↦ rw f (quiet_flat (λ n. stored_answer condstore request n (message_at after view n)) taken (λ n. stored_quiet condstore request n (message_at after view n)))
    ]

move_quiet : (uidvalidity : ℕ) (sources copies : List ℕ) → Each IsQuiet (moved_answers uidvalidity sources copies)
move_quiet uidvalidity [] copies = tt
move_quiet uidvalidity (n ∷ sources) copies = (tt, tt)

matched_quiet : (only returned : Bool) (pattern : List ℕ) (folders subscriptions : List (List ℕ)) (answers : List Answer) → ListsMatching only returned pattern folders subscriptions answers → Each IsQuiet answers
matched_quiet true returned pattern folders subscriptions answers (names, are, is) = subst (Each IsQuiet) (sym is) (quiet_map _ names (λ x. tt))
matched_quiet false returned pattern folders subscriptions answers (entries, are, is) = subst (Each IsQuiet) (sym is) (quiet_map _ entries (λ x. tt))

names_quiet : (mode : ListMode) (reference pattern : List ℕ) (folders subscriptions : List (List ℕ)) (answers : List Answer) → ListsNames mode reference pattern folders subscriptions answers → Each IsQuiet answers
names_quiet mode reference [] folders subscriptions answers h = subst (Each IsQuiet) (sym h) (tt, tt)
names_quiet mode reference (octet ∷ pattern) folders subscriptions answers h = matched_quiet mode.subscribed_only mode.return_subscribed _ folders subscriptions answers h

selected_quiet : (state : State) (report_of : ViewState → Bool → CommandReport) → ((view : ViewState) (read_only : Bool) → Each IsQuiet (report_of view read_only).own) → Each IsQuiet (report_if_selected state report_of).own
selected_quiet (NotAuthenticated credentials) report_of h = tt
selected_quiet Authenticated report_of h = tt
selected_quiet (Selected view read_only) report_of h = h view read_only
selected_quiet LoggedOut report_of h = tt

module _ (start : Counters) (before after : List Op) where
  pub report_quiet : (command : Command) (state : State) (modseq : Bool) (tag : List ℕ) (report : CommandReport) → is_selecting command ≡ false → IsCommandReport start before after state modseq tag command report → Each IsQuiet report.own
  report_quiet commands.Capability state modseq tag report s h = subst (λ (t : CommandReport). Each IsQuiet t.own) (sym h) (tt, tt)
  report_quiet commands.Namespace state modseq tag report s h = subst (λ (t : CommandReport). Each IsQuiet t.own) (sym h) (tt, tt)
  report_quiet commands.Logout state modseq tag report s h = subst (λ (t : CommandReport). Each IsQuiet t.own) (sym h) (tt, tt)
  report_quiet commands.Idle state modseq tag report s h = subst (λ (t : CommandReport). Each IsQuiet t.own) (sym h) (tt, tt)
  report_quiet (commands.Enable names) state modseq tag report s h = subst (λ (t : CommandReport). Each IsQuiet t.own) (sym h) (tt, tt)
  report_quiet (commands.Select name condstore) state modseq tag report s h = absurd (false≢true (sym s))
  report_quiet (commands.Examine name condstore) state modseq tag report s h = absurd (false≢true (sym s))
  report_quiet (commands.Status name items) state modseq tag report s h = subst (λ (t : CommandReport). Each IsQuiet t.own) (sym h) (tt, tt)
  report_quiet (commands.Append request) state modseq tag report s h = subst (λ (t : CommandReport). Each IsQuiet t.own) (sym h) tt
  report_quiet (commands.UidExpunge uids) state modseq tag report s h = subst (λ (t : CommandReport). Each IsQuiet t.own) (sym h) (selected_quiet state _ (λ view read_only. tt))
  report_quiet (commands.Fetch request) state modseq tag report s h =
      subst (λ (t : CommandReport). Each IsQuiet t.own) (sym h)
      (selected_quiet state _ (λ view read_only.
      let mode = mode_of (mailbox_in start before view read_only) modseq request in
      quiet_flat (λ (shown : ViewedMessage). answer_of request.items mode shown (row_of shown.uid (rows_for start before view)) (row_of shown.uid (rows_for start after view))) (viewed_messages_at view.entries (numbers_in_set request.by_uid request.messages view.entries))
      (λ shown. fetch_quiet request.items mode shown (row_of shown.uid (rows_for start before view)) (row_of shown.uid (rows_for start after view)))))
  report_quiet (commands.Store request) state modseq tag report s h =
      subst (λ (t : CommandReport). Each IsQuiet t.own) (sym h)
      (selected_quiet state _ (λ view read_only.
      store_quiet (rows_for start after view) view.entries modseq request (taken_messages (rows_for start before view) view.entries request.unchanged_since (numbers_in_set request.by_uid request.messages view.entries))))
  report_quiet (commands.Copy request) state modseq tag report s h = subst (λ (t : CommandReport). Each IsQuiet t.own) (sym h) (selected_quiet state _ (λ view read_only. tt))
  report_quiet (commands.Move request) state modseq tag report s h =
      subst (λ (t : CommandReport). Each IsQuiet t.own) (sym h)
      (selected_quiet state _ (λ view read_only. move_quiet (validity_of start request.name after) (sources_of (rows_for start before view) view.entries (numbers_in_set request.by_uid request.messages view.entries)) (copies_in (uidnext_of start request.name before) (listing start request.name after))))
  report_quiet (commands.ListNames request) state modseq tag report s h =
      names_quiet (record { subscribed_only = request.subscribed_only; return_subscribed = request.return_subscribed }) request.reference request.pattern (folders_of before) (subscribed_names_of before) report.own h.names
  report_quiet (commands.Search request) (Selected view read_only) modseq tag report s h = subst (λ (t : CommandReport). Each IsQuiet t.own) (sym h.only) (tt, tt)
  report_quiet (commands.Search request) (NotAuthenticated credentials) modseq tag report s h = subst (λ (t : CommandReport). Each IsQuiet t.own) (sym h) tt
  report_quiet (commands.Search request) Authenticated modseq tag report s h = subst (λ (t : CommandReport). Each IsQuiet t.own) (sym h) tt
  report_quiet (commands.Search request) LoggedOut modseq tag report s h = subst (λ (t : CommandReport). Each IsQuiet t.own) (sym h) tt
  report_quiet _ state modseq tag report s h = subst (λ (t : CommandReport). Each IsQuiet t.own) (sym h) tt

-- ---- what is sent before a report

highest_quiet : (uidvalidity : ℕ) (now : Option ℕ) (highest : ℕ) → Each IsQuiet (highest_answer uidvalidity now highest)
highest_quiet uidvalidity None highest = tt
highest_quiet uidvalidity (Some now) highest = elim (cases_Bool (nat_eq now uidvalidity)) [ inl t ↦ rw t (tt, tt) | inr f ↦ rw f tt ]

state_quiet : (start : Counters) (ops : List Op) (state : State) → Each IsQuiet (highest_answer_of start ops state)
state_quiet start ops (Selected view read_only) = highest_quiet view.uidvalidity (uidvalidity_of start view.name ops) (highest_modseq_of view.name ops)
state_quiet start ops (NotAuthenticated credentials) = tt
state_quiet start ops Authenticated = tt
state_quiet start ops LoggedOut = tt

pub notice_quiet : (start : Counters) (ops : List Op) (state : State) (condstore : Bool) (command : Command) → Each IsQuiet (condstore_answer start ops state condstore command)
notice_quiet start ops state condstore command = elim (cases_Bool (enables_condstore condstore command)) [ inl t ↦ rw t (state_quiet start ops state) | inr f ↦ rw f tt ]
