use Rattle.std.proofs.Common.{◌≡◌, inl, inr, ℕ, List, [], ◌∷◌, ◌++◌, ◌≤◌, arith, Option, Some, None, nat_eq, sym, ap, ◌∙◌, subst, map, if◌then◌else◌}
use Rattle.std.specs.Prelude.{nat_lt, length, Ok}
use Rattle.std.specs.List.{filter, list_all}
use Rattle.uid_projection.specs.UidsAndModSeqs.{uidnext_of}
use Rattle.std.proofs.lemmas.Bool.{cases_Bool}
use Rattle.merge_laws.specs.Orders.{IsIn}
use Rattle.crdt_ops.specs.declared.kind.Kind.{Kind}
use Rattle.crdt_ops.specs.declared.kind.Kind.TheVariants as kinds
use Rattle.crdt_ops.specs.declared.op.Op.{Op}
use Rattle.imap_answers.specs.declared.answer.Answer.{Answer}
use Rattle.imap_answers.specs.declared.answer.Answer.TheVariants.{Refused, UntaggedOk}
use Rattle.imap_answers.specs.declared.codes.Notice.TheVariants.{Closed}
use Rattle.imap_answers.specs.declared.fixed_words.Refusal.{Refusal}
use Rattle.imap_answers.specs.Printable.{Each, IsPrintable, IsTag, IsWide, IfPresent}
use Rattle.imap_commands.specs.AppendCommand.{given_date}
use Rattle.imap_commands.specs.CopyCommand.{appends_of, expunges_of_moved}
use Rattle.imap_commands.specs.Issuable.{HaveLawfulKeywords, IsIssuable}
use Rattle.imap_commands.specs.declared.session.Session.{Session}
use Rattle.imap_commands.specs.declared.session.State.{State}
use Rattle.imap_commands.specs.declared.session.State.TheVariants.{NotAuthenticated, Authenticated, Selected, LoggedOut}
use Rattle.imap_commands.proofs.IssuedLemmas.{copy_intent_issuable, move_intent_issuable}
use Rattle.imap_commands.proofs.PrintSelectLemmas.{each_append}
use Rattle.imap_commands.proofs.PrintTaggedLemmas.{spelled_answerable}
use Rattle.imap_syntax.specs.Commands.{IsSpelled}
use Rattle.imap_syntax.specs.declared.command.Command.{Command}
use Rattle.imap_syntax.specs.declared.command.Command.TheVariants as commands
use Rattle.imap_syntax.specs.declared.command.Tagged.{Tagged}
use Rattle.imap_syntax.specs.declared.idle.IdleLine.{IdleLine}
use Rattle.imap_types.specs.Keywords.{is_lawful_keyword}
use Rattle.mailbox_rows.specs.ListedMessage.{ListedMessage}
use Rattle.mailbox_rows.specs.RowViews.{AreRisingRows}
use Rattle.session_view.specs.ViewState.{ViewState, rows_under}
use Rattle.session_view.specs.Sets.{is_in_range, numbers_in_set}
use Rattle.session_view.specs.declared.reply_replay.SilentFlags.{SilentFlags}
use Rattle.uid_projection.specs.declared.first_numbers.Counters.{Counters}
use Rattle.uid_projection.specs.Applied.{IsApplied}
use Rattle.uid_projection.specs.Incarnations.{folder_exists, uidvalidity_of}
use Rattle.uid_projection.specs.Listing.{listing}
use Rattle.uid_projection.proofs.ListingLemmas.{keywords_lawful, ids_applied}
use Rattle.imap_node.specs.declared.input.Input.{Input}
use Rattle.imap_node.specs.declared.input.Input.TheVariants as inputs
use Rattle.imap_node.specs.Commands.{is_idle, is_logged_in, condstore_answer, command_intent}
use Rattle.imap_node.specs.InputEffects.{InputEffect, answers_of_effect}
use Rattle.imap_node.specs.Mailboxes.{mailbox_in, rows_for}
use Rattle.imap_node.specs.Nodes.{NodeState}
use Rattle.imap_node.specs.Printing.{IsAnswerableIn, HasPrintableAnswers, IsPresentable, HasNumberedView}
use Rattle.imap_node.specs.Responses.{CarriesOut, tag_of_idle, command_effect, ends_idling, tagged_lines_of_idle, condstore_is_on, leaves_mailbox, session_after_refusal, session_after, sync_effect}
use Rattle.imap_node.proofs.PrintLemmas.{HasAllTargetCopies, NamesExisting, effect_printable, moved_numbered, notice_printable, tail_printable, report_printable}
use Rattle.imap_node.specs.Sessions.{with_session}
use Rattle.imap_node.proofs.CopyTargetLemmas.{HasAll, IsCopying, appends_copying, appends_counted, appends_message_to, copies_added, length_filter_append, removals_copying, removals_counted}
use Rattle.imap_node.proofs.ShownLemmas.{listing_showable, next_nonzero, shown_before}
use Rattle.imap_node.proofs.ExistingFolderLemmas.{IsNoDelete, append_target_exists, copy_is, copy_target_exists, move_is, move_target_exists, folder_still_exists, known_exists}

-- ---- the mailbox that a command names exists after the command

rows_under_lawful : (uidvalidity : ℕ) (now : Option ℕ) (rows : List ListedMessage) → HaveLawfulKeywords rows → HaveLawfulKeywords (rows_under uidvalidity now rows)
rows_under_lawful uidvalidity None rows h = λ row i. absurd i
rows_under_lawful uidvalidity (Some now) rows h =
    elim (cases_Bool (nat_eq now uidvalidity)) [
      | inl t ↦ rw t h
      | inr f ↦ rw f (λ row i. absurd i)
    ]

rows_lawful : (start : Counters) (ops : List Op) (view : ViewState) → IsApplied ops → HaveLawfulKeywords (rows_for start ops view)
rows_lawful start ops view a = rows_under_lawful view.uidvalidity (uidvalidity_of start view.name ops) (listing start view.name ops) (λ row i. keywords_lawful start view.name ops row a i)

none_deleted : (folder destination : List ℕ) (rows : List ListedMessage) (kind : Kind) → IsIssuable folder destination rows kind → IsNoDelete kind
none_deleted folder destination rows (kinds.Create f) h = tt
none_deleted folder destination rows (kinds.Delete f seen) h = absurd h
none_deleted folder destination rows (kinds.Append f flags date text) h = tt
none_deleted folder destination rows (kinds.Expunge f old_ids) h = tt
none_deleted folder destination rows (kinds.Store f flags old_ids origin) h = tt
none_deleted folder destination rows (kinds.Subscribe f) h = tt
none_deleted folder destination rows (kinds.Unsubscribe f seen) h = tt

intent_none : (intended : List Kind) → intended ≡ [] → (kind : Kind) → IsIn kind intended → IsNoDelete kind
intent_none intended e kind i = absurd (subst (IsIn kind) e i)

intent_one : (one : Kind) (intended : List Kind) → IsNoDelete one → intended ≡ one ∷ [] → (kind : Kind) → IsIn kind intended → IsNoDelete kind
intent_one one intended k e kind i = elim (subst (IsIn kind) e i) [ inl x ↦ subst IsNoDelete x k | inr x ↦ absurd x ]

module _ (start : Counters) (before issued : List Op) (stamp : List ℕ) (intended : List Kind) (a : IsApplied (before ++ issued)) (b : IsApplied before) (m : map (λ (o : Op). o.kind) issued ≡ intended) where
  pub names_existing : (command : Command) (state : State) → command_intent start before stamp state command ≡ Ok intended → NamesExisting (before ++ issued) command state
  names_existing (commands.Select name condstore) state w =
      let exists = known_exists (is_logged_in state) (folder_exists name before) intended w in folder_still_exists name before issued intended a m (intent_none intended exists.1) exists.0
  names_existing (commands.Examine name condstore) state w =
      let exists = known_exists (is_logged_in state) (folder_exists name before) intended w in folder_still_exists name before issued intended a m (intent_none intended exists.1) exists.0
  names_existing (commands.Status name items) state w =
      let exists = known_exists (is_logged_in state) (folder_exists name before) intended w in folder_still_exists name before issued intended a m (intent_none intended exists.1) exists.0
  names_existing (commands.Append request) state w =
      let one = kinds.Append request.name request.flags (given_date request.date stamp) request.text in
      let exists = append_target_exists (is_logged_in state) (folder_exists request.name before) (list_all is_lawful_keyword request.flags.keywords) (nat_lt 32 (length request.flags.keywords)) one intended w in
      folder_still_exists request.name before issued intended a m (intent_one one intended tt exists.1) exists.0
  names_existing (commands.Copy request) (Selected view read_only) w =
      let rows = rows_for start before view in
      let exists = copy_target_exists (is_in_range request.by_uid request.messages view.entries) (folder_exists request.name before) (appends_of request.name rows view.entries (numbers_in_set request.by_uid request.messages view.entries)) intended w in
      let issuable = copy_intent_issuable (mailbox_in start before view read_only) request (folder_exists request.name before) intended (rows_lawful start before view b) w in
      folder_still_exists request.name before issued intended a m (λ kind k. none_deleted view.name request.name rows kind (issuable kind k)) exists
  names_existing (commands.Copy request) (NotAuthenticated credentials) w = tt
  names_existing (commands.Copy request) Authenticated w = tt
  names_existing (commands.Copy request) LoggedOut w = tt
  names_existing (commands.Move request) (Selected view read_only) w =
      let rows = rows_for start before view in
      let numbers = numbers_in_set request.by_uid request.messages view.entries in
      let exists = move_target_exists (is_in_range request.by_uid request.messages view.entries) read_only (folder_exists request.name before) (appends_of request.name rows view.entries numbers ++ expunges_of_moved view.name rows view.entries numbers) intended w in
      let issuable = move_intent_issuable (mailbox_in start before view read_only) request (folder_exists request.name before) intended (rows_lawful start before view b) w in
      folder_still_exists request.name before issued intended a m (λ kind k. none_deleted view.name request.name rows kind (issuable kind k)) exists
  names_existing (commands.Move request) (NotAuthenticated credentials) w = tt
  names_existing (commands.Move request) Authenticated w = tt
  names_existing (commands.Move request) LoggedOut w = tt
  names_existing _ state w = tt

-- ---- a copy's destination gets as many messages as are copied

rows_under_has_all : (before : List Op) (uidvalidity : ℕ) (now : Option ℕ) (rows : List ListedMessage) → ((row : ListedMessage) → IsIn row rows → HasAll before row.versions) → (row : ListedMessage) → IsIn row (rows_under uidvalidity now rows) → HasAll before row.versions
rows_under_has_all before uidvalidity None rows h = λ row i. absurd i
rows_under_has_all before uidvalidity (Some now) rows h =
    elim (cases_Bool (nat_eq now uidvalidity)) [
      | inl t ↦ rw t h
      | inr f ↦ rw f (λ row i. absurd i)
    ]

rows_for_has_all : (start : Counters) (ops : List Op) (view : ViewState) → IsApplied ops → (row : ListedMessage) → IsIn row (rows_for start ops view) → HasAll ops row.versions
rows_for_has_all start ops view a = rows_under_has_all ops view.uidvalidity (uidvalidity_of start view.name ops) (listing start view.name ops) (λ row i. (ids_applied start view.name ops row a i).0)

module _ (start : Counters) (before issued : List Op) (stamp : List ℕ) (intended : List Kind) (p : IsPresentable start (before ++ issued)) (m : map (λ (o : Op). o.kind) issued ≡ intended) where
  uidnext_at_least_one : (name : List ℕ) → 1 ≤ uidnext_of start name before
  uidnext_at_least_one name = let nonzero = (next_nonzero start name before (shown_before start before issued p)).0 in omega (arith, nonzero)

  rising : (name : List ℕ) → AreRisingRows 1 (listing start name (before ++ issued))
  rising name = (listing_showable start name (before ++ issued) p).rising

  pub adds_all : (state : State) (command : Command) → command_intent start before stamp state command ≡ Ok intended → HasAllTargetCopies start before (before ++ issued) state command
  adds_all (NotAuthenticated credentials) command w = tt
  adds_all Authenticated command w = tt
  adds_all LoggedOut command w = tt
  adds_all (Selected view read_only) (commands.Copy request) w =
      let rows = rows_for start before view in
      let numbers = numbers_in_set request.by_uid request.messages view.entries in
      let appends = appends_of request.name rows view.entries numbers in
      let exists = copy_target_exists (is_in_range request.by_uid request.messages view.entries) (folder_exists request.name before) appends intended w in
      let intended_is = copy_is (is_in_range request.by_uid request.messages view.entries) (folder_exists request.name before) appends intended w in
      copies_added start request.name before issued intended (mailbox_in start before view read_only) request (uidnext_at_least_one request.name) p.lasting.applied (rising request.name) exists m (subst (Each (IsCopying before)) (sym intended_is) (appends_copying before request.name rows view.entries numbers))
      (ap (λ ks. length (filter (appends_message_to request.name) ks)) intended_is ∙ appends_counted request.name rows view.entries numbers)
  adds_all (Selected view read_only) (commands.Move request) w =
      let rows = rows_for start before view in
      let numbers = numbers_in_set request.by_uid request.messages view.entries in
      let appends = appends_of request.name rows view.entries numbers in
      let removals = expunges_of_moved view.name rows view.entries numbers in
      let exists = move_target_exists (is_in_range request.by_uid request.messages view.entries) read_only (folder_exists request.name before) (appends ++ removals) intended w in
      let intended_is = move_is (is_in_range request.by_uid request.messages view.entries) read_only (folder_exists request.name before) (appends ++ removals) intended w in
      let had = rows_for_has_all start before view (shown_before start before issued p).lasting.applied in
      let copying = each_append (IsCopying before) appends removals (appends_copying before request.name rows view.entries numbers) (removals_copying before view.name rows view.entries numbers had) in
      let both = ap (λ ks. length (filter (appends_message_to request.name) ks)) intended_is ∙ length_filter_append (appends_message_to request.name) appends removals in
      let one = appends_counted request.name rows view.entries numbers in
      let none = removals_counted view.name request.name rows view.entries numbers in
      copies_added start request.name before issued intended (mailbox_in start before view read_only) request (uidnext_at_least_one request.name) p.lasting.applied (rising request.name) exists m (subst (Each (IsCopying before)) (sym intended_is) copying) (omega (arith, both, one, none))
  adds_all (Selected view read_only) _ w = tt

-- ---- replies

idle_tag : (tagged : Tagged) → IsTag tagged.tag → IfPresent IsTag (tag_of_idle tagged)
idle_tag tagged t = elim (cases_Bool (is_idle tagged.command)) [ inl y ↦ rw y t | inr f ↦ rw f tt ]

idle_printable : (idling : Option (List ℕ)) → IfPresent IsTag idling → Each IsPrintable (tagged_lines_of_idle idling)
idle_printable None h = tt
idle_printable (Some tag) h = ((h, tt), tt)

module _ (old new : NodeState) (n : ℕ) (session : Session) (answers : List Answer) (silent : List SilentFlags) (issued : List Op) (s : IsAnswerableIn session) (p : IsPresentable old.start new.applied) where
  shown_after : (input : Input) → CarriesOut old n session input answers silent issued new → IsPresentable old.start (old.applied ++ issued)
  shown_after input c = subst (IsPresentable old.start) c.becomes.applied p

  pub line_answered : (line : IdleLine) → CarriesOut old n session (inputs.Line line) answers silent issued new → HasPrintableAnswers old.sessions n answers new.sessions
  line_answered line c =
      let shown = shown_after (inputs.Line line) c in
      let after = old.applied ++ issued in
      let effect = sync_effect session (tagged_lines_of_idle session.idling) in
      let printed = effect_printable old.start after effect shown tt (idle_printable session.idling s.idling) s.state in
      record {
        printable = subst (Each IsPrintable) (sym (c.answers_are ∙ ap (answers_of_effect old.start after) c.taken)) printed.printable;
        next = session_after old.start after session (inputs.Line line) effect;
        sessions = c.becomes.sessions ∙ ap (λ (x : InputEffect). with_session old.sessions n (Some (session_after old.start after session (inputs.Line line) x))) c.taken;
        answerable = record { state = printed.numbered; idling = tt };
      }

  pub poll_answered : CarriesOut old n session inputs.Poll answers silent issued new → HasPrintableAnswers old.sessions n answers new.sessions
  poll_answered c =
      let shown = shown_after inputs.Poll c in
      let after = old.applied ++ issued in
      let effect = sync_effect session [] in
      let printed = effect_printable old.start after effect shown tt tt s.state in
      record {
        printable = subst (Each IsPrintable) (sym (c.answers_are ∙ ap (answers_of_effect old.start after) c.taken)) printed.printable;
        next = session_after old.start after session inputs.Poll effect;
        sessions = c.becomes.sessions ∙ ap (λ (x : InputEffect). with_session old.sessions n (Some (session_after old.start after session inputs.Poll x))) c.taken;
        answerable = record { state = printed.numbered; idling = s.idling };
      }

  pub command_answered : (moment : ℕ) (tagged : Tagged) (octets : List ℕ) → IsSpelled tagged octets → IsWide (length octets)
      → CarriesOut old n session (inputs.Command moment tagged) answers silent issued new → HasPrintableAnswers old.sessions n answers new.sessions
  command_answered moment tagged octets spelled wide c =
      let input = inputs.Command moment tagged in
      let shown = shown_after input c in
      let after = old.applied ++ issued in
      let tag_and_command = spelled_answerable tagged octets spelled wide in
      let all_are_added = adds_all old.start old.applied issued c.stamp c.kinds shown c.next.of_kinds session.state tagged.command c.intended in
      let first = shown_before old.start old.applied issued shown in
      let exists = names_existing old.start old.applied issued c.stamp c.kinds shown.lasting.applied first.lasting.applied c.next.of_kinds tagged.command session.state c.intended in
      let report = c.taken.0 in
      let reported = report_printable old.start old.applied issued shown tagged.command session.state (condstore_is_on session tagged.command) tagged.tag report tag_and_command.0 tag_and_command.1 s.state exists all_are_added c.taken.1 in
      let effect = command_effect old.start after session tagged.tag tagged.command report in
      let front = condstore_answer old.start after session.state session.condstore tagged.command in
      let printed =
      effect_printable old.start after effect shown (each_append IsPrintable front report.own (notice_printable old.start after session.state session.condstore tagged.command shown) reported.own)
      (tail_printable tagged.tag tagged.command report.code tag_and_command.0 reported.code) (moved_numbered old.start after session.state tagged.command s.state) in
      record {
        printable = subst (Each IsPrintable) (sym (c.answers_are ∙ ap (answers_of_effect old.start after) c.taken.2)) printed.printable;
        next = session_after old.start after session input effect;
        sessions = c.becomes.sessions ∙ ap (λ (x : InputEffect). with_session old.sessions n (Some (session_after old.start after session input x))) c.taken.2;
        answerable = record { state = printed.numbered; idling = idle_tag tagged tag_and_command.0 };
      }

-- ---- refusals

state_after_refusal : (state : State) (input : Input) → HasNumberedView state → HasNumberedView (if leaves_mailbox state input then Authenticated else state)
state_after_refusal state input h = elim (cases_Bool (leaves_mailbox state input)) [ inl t ↦ rw t tt | inr f ↦ rw f h ]

idling_after_refusal : (idling : Option (List ℕ)) (input : Input) (why : Refusal) → IfPresent IsTag idling → IfPresent IsTag (if ends_idling input why then None else idling)
idling_after_refusal idling input why h = elim (cases_Bool (ends_idling input why)) [ inl t ↦ rw t tt | inr f ↦ rw f h ]

pub refusal_answerable : (session : Session) (input : Input) (why : Refusal) → IsAnswerableIn session → IsAnswerableIn (session_after_refusal session input why)
refusal_answerable session input why s = record { state = state_after_refusal session.state input s.state; idling = idling_after_refusal session.idling input why s.idling }

pub refusal_printable : (tagged : Tagged) (octets : List ℕ) (why : Refusal) → IsSpelled tagged octets → IsWide (length octets) → Each IsPrintable (UntaggedOk Closed ∷ Refused tagged.tag why ∷ [])
refusal_printable tagged octets why spelled wide = (tt, ((spelled_answerable tagged octets spelled wide).0, tt))
