use Rattle.std.proofs.Common.{◌≡◌, inl, inr, ℕ, ◌+◌, ◌-◌, ◌<◌, ◌≤◌, Bool, true, false, ◌||◌, List, [], ◌∷◌, ◌++◌, length, take, map, Option, Some, None, append-nil, refl, sym, ap, ◌∙◌, subst, arith, if◌then◌else◌}
use Rattle.std.specs.Prelude.{Ok}
use Rattle.std.proofs.Math.Seq.{take-length}
use Rattle.std.proofs.lemmas.Bool.{false≢true}
use Rattle.std.proofs.lemmas.Bool.Decides.{eqb_tells}
use Rattle.causal_inbox.specs.ReceivedSets.{HasGrown}
use Rattle.causal_inbox.specs.declared.delivery.Arrival.{Arrival}
use Rattle.causal_inbox.proofs.Union.{arrival_grows, arrival_start, releases_grow, releases_start}
use Rattle.crdt_ops.specs.declared.kind.Kind.{Kind}
use Rattle.crdt_ops.specs.declared.op.Op.{Op}
use Rattle.imap_answers.specs.declared.answer.Answer.{Answer}
use Rattle.imap_answers.specs.declared.fixed_words.Refusal.{Refusal}
use Rattle.imap_answers.specs.Printable.{Each}
use Rattle.imap_commands.specs.SelectCommand.{IsSelectReport, closed_answers, flags_in_use, mailbox_answers, select_report}
use Rattle.imap_commands.specs.Report.{CommandReport}
use Rattle.imap_types.specs.declared.flags.Flags.{Flags}
use Rattle.imap_commands.specs.declared.session.Session.{Session}
use Rattle.imap_commands.specs.declared.session.State.{State}
use Rattle.imap_commands.specs.declared.session.State.TheVariants.{NotAuthenticated, Authenticated, Selected, LoggedOut}
use Rattle.imap_commands.proofs.PrintSelectLemmas.{each_append}
use Rattle.imap_syntax.specs.declared.command.Command.{Command}
use Rattle.imap_syntax.specs.declared.command.Command.TheVariants as commands
use Rattle.imap_query.specs.declared.mailbox_status.MailboxCounters.{MailboxCounters}
use Rattle.mailbox_rows.specs.ListedMessage.{ListedMessage}
use Rattle.mailbox_rows.specs.RowViews.{AreRisingRows, rows_after_uid}
use Rattle.merge_laws.specs.Orders.{IsIn}
use Rattle.session_view.specs.Replay.{after_answers, view_after_reply}
use Rattle.session_view.specs.ViewState.{ViewState}
use Rattle.session_view.specs.Sync.{view_after_sync}
use Rattle.session_view.specs.Views.{AreRising, LacksOnlyLaterRows, entries_of}
use Rattle.session_view.specs.declared.view_entry.ViewEntry.{ViewEntry}
use Rattle.session_view.specs.declared.view_entry.SyncKind.{SyncKind}
use Rattle.session_view.specs.declared.view_entry.SyncKind.TheVariants.{Full, Partial}
use Rattle.session_view.specs.declared.reply_replay.SilentFlags.{SilentFlags}
use Rattle.session_view.proofs.ReplayLemmas.{replay_rising}
use Rattle.session_view.proofs.SyncLemmas.{full_shows}
use Rattle.uid_projection.specs.declared.first_numbers.Counters.{Counters}
use Rattle.uid_projection.specs.Applied.{IsApplied}
use Rattle.uid_projection.specs.Exhaustion.{Exhausts}
use Rattle.uid_projection.specs.Incarnations.{folder_exists, uidvalidity_of}
use Rattle.uid_projection.specs.UidsAndModSeqs.{uidnext_of}
use Rattle.uid_projection.specs.Listing.{listing}
use Rattle.uid_projection.proofs.Presence.{applied_front}
use Rattle.imap_node.specs.Commands.{IsCommandReport, is_selected, is_selecting, state_after_command, condstore_answer, sync_of}
use Rattle.imap_node.specs.Deliveries.{Delivers, DrainsHeld}
use Rattle.imap_node.specs.InputEffects.{InputEffect, sync_result, sync_result_of, entries_after_sync}
use Rattle.session_view.specs.NoteChanges.{uids_of}
use Rattle.imap_node.specs.OlderViews.{IsOlderView, AreOlderViews, is_full, updates_view, command_updates_view}
use Rattle.imap_node.specs.Issues.{issued_by}
use Rattle.imap_node.specs.Mailboxes.{counters_of, rows_for, validity_of}
use Rattle.imap_node.specs.Nodes.{NodeState, with_session_closed, received_ops}
use Rattle.imap_node.specs.Replays.{ViewsAscend, selects, view_at, view_in, view_of}
use Rattle.imap_node.specs.Responses.{Responds, IsInputEffect, command_effect, tagged_lines_of_idle, condstore_is_on, session_after_refusal, session_after, sync_effect, input_intent}
use Rattle.imap_node.specs.Sessions.{IsOpen, OpensSession, Places, new_session}
use Rattle.imap_node.specs.declared.input.Input.{Input}
use Rattle.imap_node.specs.declared.input.Input.TheVariants as inputs
use Rattle.imap_node.specs.declared.reply.Reply.{Reply}
use Rattle.imap_node.specs.declared.reply.Reply.TheVariants.{Done, Refused}
use Rattle.imap_node.specs.declared.sessions.Auth.{Auth}
use Rattle.imap_node.specs.declared.sessions.Auth.TheVariants.{Preauth, Password}
use Rattle.imap_node.proofs.IssueLemmas.{issues_of_responds}
use Rattle.imap_node.proofs.MomentLemmas.{older_by_uids, older_with_entries, older_view_append, listed_known, next_grown, row_below, rows_are, validity_is}
use Rattle.imap_node.proofs.PrintLemmas.{NamesExisting}
use Rattle.imap_node.proofs.PrintingLemmas.{names_existing}
use Rattle.imap_node.proofs.QuietLemmas.{notice_quiet, report_quiet}
use Rattle.imap_node.proofs.ReplayLemmas.{closed_view, closes_alone, left_view, no_view, others_as_before, rows_rising, view_now}
use Rattle.imap_node.proofs.UidLemmas.{IsKnown, IsQuiet, beyond_first, lacks_later_all, listed_uid, partial_from, partial_has, replayed_uids, uid_listed, lacks_later_under}
use Rattle.crdt_ops.specs.Ops.{clock_of, id_of}

-- a view dates from an earlier moment, and its UIDs ascend
pub record IsOlderRisingView (start : Counters) (ops : List Op) (view : ViewState) : Type 0 where
  pub back : IsOlderView start ops view
  pub rising : AreRising 1 view.entries

-- a view shows the listing
abbrev pub IsListingView : Counters → List Op → ViewState → Type 0
IsListingView start ops view = view.entries ≡ entries_of (rows_for start ops view)

module _ (start : Counters) (ops : List Op) (l : 1 ≤ start.uid) (a : IsApplied ops) where
  listed_from_one : (low : ℕ) (rows : List ListedMessage) (row : ListedMessage) → AreRisingRows low rows → IsIn row rows → low ≤ row.uid
  listed_from_one low [] row r i = absurd i
  listed_from_one low (x ∷ rows) row r i =
      let first = r.0 in
      elim i [
        | inl e ↦ subst (λ (y : ListedMessage). low ≤ y.uid) e first
        | inr t ↦ let next = listed_from_one (x.uid + 1) rows row r.1 t in omega (arith, first, next)
      ]

  module _ (view : ViewState) (fine : IsOlderRisingView start ops view) (silent : List SilentFlags) (own : List Answer) (q : Each IsQuiet own) where
    same_uids : uids_of (view_after_reply (rows_for start ops view) view.entries silent own) ≡ uids_of view.entries
    same_uids = replayed_uids (rows_for start ops view) view.entries silent own q

    entries_known : uidvalidity_of start view.name ops ≡ Some view.uidvalidity → (row : ListedMessage) → IsIn row (listing start view.name ops) → IsKnown (uids_of (view_after_reply (rows_for start ops view) view.entries silent own)) row.uid
    entries_known e row i = subst (λ (us : List ℕ). IsKnown us row.uid) (sym same_uids) (listed_known start ops view a fine.back e row i)

    listing_rises : uidvalidity_of start view.name ops ≡ Some view.uidvalidity → AreRisingRows 1 (listing start view.name ops)
    listing_rises e = subst (AreRisingRows 1) (rows_are start ops view e) (rows_rising start ops view l a)

    replay_lacks_later : LacksOnlyLaterRows (view_after_reply (rows_for start ops view) view.entries silent own) (rows_for start ops view)
    replay_lacks_later =
        lacks_later_under view.uidvalidity (uidvalidity_of start view.name ops) (listing start view.name ops) (view_after_reply (rows_for start ops view) view.entries silent own)
        (λ e. lacks_later_all 1 (listing start view.name ops) (view_after_reply (rows_for start ops view) view.entries silent own) (omega arith) (listing_rises e) (entries_known e))

    -- after a full sync the view is the listing
    full_is : view_after_sync Full (rows_for start ops view) (view_after_reply (rows_for start ops view) view.entries silent own) ≡ entries_of (rows_for start ops view)
    full_is =
        full_shows (rows_for start ops view) (view_after_reply (rows_for start ops view) view.entries silent own) (rows_rising start ops view l a)
        (replay_rising (rows_for start ops view) view.entries silent own (rows_rising start ops view l a) fine.rising) replay_lacks_later

    listed_older : (es : List ViewEntry) → es ≡ entries_of (rows_for start ops view) → IsOlderView start ops (record view { entries = es })
    listed_older es is =
        older_with_entries start ops view es fine.back
        (λ e row i. subst (λ (xs : List ViewEntry). IsIn row.uid (uids_of xs)) (sym (is ∙ ap entries_of (rows_are start ops view e))) (listed_uid row (listing start view.name ops) i))
        (λ e uid i.
        let w = uid_listed uid (listing start view.name ops) (subst (λ (xs : List ViewEntry). IsIn uid (uids_of xs)) (is ∙ ap entries_of (rows_are start ops view e)) i) in
        subst (λ (u : ℕ). u < uidnext_of start view.name ops) w.2 (row_below start view.name ops w.0 a w.1))

    partial_older : IsOlderView start ops (record view { entries = view_after_sync Partial (rows_for start ops view) (view_after_reply (rows_for start ops view) view.entries silent own) })
    partial_older =
        let now = view_after_reply (rows_for start ops view) view.entries silent own in
        older_with_entries start ops view (view_after_sync Partial (rows_for start ops view) now) fine.back
        (λ e row i.
        let from = listed_from_one 1 (listing start view.name ops) row (listing_rises e) i in
        partial_has (rows_for start ops view) now row (omega (arith, from)) (subst (IsIn row) (sym (rows_are start ops view e)) i) (entries_known e row i))
        (λ e uid i.
        elim (partial_from (rows_for start ops view) now uid i) [
          | inl t ↦
              let below = fine.back.below e uid (subst (IsIn uid) same_uids t) in
              let grown = next_grown start ops view a fine.back e in
              omega (arith, below, grown)
          | inr w ↦ subst (λ (u : ℕ). u < uidnext_of start view.name ops) w.2 (row_below start view.name ops w.0 a (subst (IsIn w.0) (rows_are start ops view e) w.1))
        ])

    -- the view after any sync dates from an earlier moment
    synced_older : (sync : Option SyncKind) → IsOlderView start ops (record view { entries = entries_after_sync sync (rows_for start ops view) (view_after_reply (rows_for start ops view) view.entries silent own) })
    synced_older None = older_by_uids start ops view (view_after_reply (rows_for start ops view) view.entries silent own) same_uids fine.back
    synced_older (Some Full) = listed_older (view_after_sync Full (rows_for start ops view) (view_after_reply (rows_for start ops view) view.entries silent own)) full_is
    synced_older (Some Partial) = partial_older

    synced_shows : (sync : Option SyncKind) → is_full sync ≡ true → entries_after_sync sync (rows_for start ops view) (view_after_reply (rows_for start ops view) view.entries silent own) ≡ entries_of (rows_for start ops view)
    synced_shows None t = absurd (false≢true t)
    synced_shows (Some Full) t = full_is
    synced_shows (Some Partial) t = absurd (false≢true t)

  -- ---- an input that selects no mailbox

  not_some : {X : Type 0} (view : ViewState) → ◌≡◌ {A = Option ViewState} None (Some view) → X
  not_some view e = absurd cc

  abbrev IsOlderAfterSync : Option SyncKind → Option ViewState → Type 0
  IsOlderAfterSync sync o = (view : ViewState) → o ≡ Some view → IsOlderView start ops view × (is_full sync ≡ true → IsListingView start ops view)

  one_ends : (sync : Option SyncKind) (view : ViewState) → IsOlderView start ops view → (is_full sync ≡ true → IsListingView start ops view) → IsOlderAfterSync sync (Some view)
  one_ends sync view g s = λ v e. let k : view ≡ v = cc in subst (λ (x : ViewState). IsOlderView start ops x × (is_full sync ≡ true → IsListingView start ops x)) k (g, s)

  ends_older : (sync : Option SyncKind) (modseq : Bool) (silent : List SilentFlags) (own : List Answer) → Each IsQuiet own → (state : State) → ((view : ViewState) → view_of state ≡ Some view → IsOlderRisingView start ops view)
      → IsOlderAfterSync sync (view_of (sync_result start ops sync modseq state silent own).state)
  ends_older sync modseq silent own q (NotAuthenticated credentials) h = λ view e. not_some view e
  ends_older sync modseq silent own q Authenticated h = λ view e. not_some view e
  ends_older sync modseq silent own q LoggedOut h = λ view e. not_some view e
  ends_older sync modseq silent own q (Selected view read_only) h =
      one_ends sync (record view { entries = entries_after_sync sync (rows_for start ops view) (view_after_reply (rows_for start ops view) view.entries silent own) })
      (synced_older view (h view refl) silent own q sync) (synced_shows view (h view refl) silent own q sync)

  -- ---- a mailbox that is newly selected

  take_length : (xs : List ListedMessage) → take (length xs - 0) xs ≡ xs
  take_length xs = let k : length xs - 0 ≡ length xs = omega arith in rw (k, take-length xs) refl

  all_rows : (rows listed : List ListedMessage) → rows ≡ listed → AreRisingRows 1 rows → entries_of (take (length listed - 0) (rows_after_uid 0 rows)) ≡ entries_of rows
  all_rows rows listed e r =
      ap (λ (x : List ListedMessage). entries_of (take (length x - 0) (rows_after_uid 0 rows))) (sym e) ∙ ap (λ (x : List ListedMessage). entries_of (take (length rows - 0) x)) (beyond_first 0 1 rows (omega arith) r)
      ∙ ap entries_of (take_length rows)

  selected_rows : (rows : List ListedMessage) (was read_only : Bool) (name : List ℕ) (counters : MailboxCounters) (listed : List ListedMessage) (flags : Flags) → rows ≡ listed → AreRisingRows 1 rows
      → after_answers rows [] (closed_answers was ++ mailbox_answers read_only name counters (length listed) flags) ≡ entries_of rows
  selected_rows rows true read_only name counters listed flags e r = all_rows rows listed e r
  selected_rows rows false read_only name counters listed flags e r = all_rows rows listed e r

  abbrev selected_view : List ℕ → ViewState
  selected_view name = record { name = name; uidvalidity = validity_of start name ops; entries = [] }

  select_older : (was read_only : Bool) (name : List ℕ) (flags : Flags) → folder_exists name ops ≡ true
      → (view : ViewState) → ◌≡◌ {A = Option ViewState} (Some (record (selected_view name) { entries = after_answers (rows_for start ops (selected_view name)) [] (closed_answers was ++ mailbox_answers read_only name (counters_of start name ops) (length (listing start name ops)) flags) })) (Some view)
      → IsOlderView start ops view × IsListingView start ops view
  select_older was read_only name flags t view e =
      let v = validity_is start name ops t in
      let own = rows_are start ops (selected_view name) v in
      let es = after_answers (rows_for start ops (selected_view name)) [] (closed_answers was ++ mailbox_answers read_only name (counters_of start name ops) (length (listing start name ops)) flags) in
      let is : es ≡ entries_of (rows_for start ops (selected_view name)) =
      selected_rows (rows_for start ops (selected_view name)) was read_only name (counters_of start name ops) (listing start name ops) flags own (rows_rising start ops (selected_view name) l a) in
      let k : record (selected_view name) { entries = es } ≡ view = cc in
      subst (λ (x : ViewState). IsOlderView start ops x × IsListingView start ops x) k (
        record {
          front = ops;
          back = [];
          split = sym (append-nil ops);
          exists = v;
          has = λ e row i. subst (λ (xs : List ViewEntry). IsIn row.uid (uids_of xs)) (sym (is ∙ ap entries_of own)) (listed_uid row (listing start name ops) i);
          below = λ e uid i.
              let w = uid_listed uid (listing start name ops) (subst (λ (xs : List ViewEntry). IsIn uid (uids_of xs)) (is ∙ ap entries_of own) i) in
              subst (λ (u : ℕ). u < uidnext_of start name ops) w.2 (row_below start name ops w.0 a w.1);
        },
        is,
      )

  -- ---- a command

  select_notice : (state : State) (name : List ℕ) (condstore request : Bool) → condstore_answer start ops state condstore (commands.Select name request) ≡ []
  select_notice state name true request = refl
  select_notice state name false true = refl
  select_notice state name false false = refl

  examine_notice : (state : State) (name : List ℕ) (condstore request : Bool) → condstore_answer start ops state condstore (commands.Examine name request) ≡ []
  examine_notice state name true request = refl
  examine_notice state name false true = refl
  examine_notice state name false false = refl

  -- the view after some first answers and a report dates from an earlier moment
  abbrev Shown : List ℕ → ViewState → List Answer → CommandReport → Type 0
  Shown name view first report =
      ◌≡◌ {A = Option ViewState} (Some (record (selected_view name) { entries = view_after_reply (rows_for start ops (selected_view name)) [] report.silent (first ++ report.own) })) (Some view)

  selected_by : (was read_only : Bool) (name : List ℕ) (view : ViewState) (first : List Answer) (report : CommandReport) → folder_exists name ops ≡ true → first ≡ []
      → IsSelectReport was read_only name (counters_of start name ops) (listing start name ops) report → Shown name view first report → IsOlderView start ops view × IsListingView start ops view
  selected_by was read_only name view first report t f s e =
      let select_part = select_report was read_only name (counters_of start name ops) (listing start name ops) s.keywords in
      select_older was read_only name (flags_in_use s.keywords) t view (subst (λ (as_first : List Answer). Shown name view as_first select_part) f (subst (Shown name view first) s.only e))

  moved_from : (command : Command) (state : State) (view : ViewState) → is_selecting command ≡ false → view_of (state_after_command start ops state command) ≡ Some view → view_of state ≡ Some view
  moved_from (commands.Login user password) state view s e = not_some view e
  moved_from (commands.Select name condstore) state view s e = absurd (false≢true (sym s))
  moved_from (commands.Examine name condstore) state view s e = absurd (false≢true (sym s))
  moved_from commands.Logout state view s e = not_some view e
  moved_from commands.Unselect state view s e = not_some view e
  moved_from commands.Close state view s e = not_some view e
  moved_from _ state view s e = e

  or_none : (b c : Bool) → c ≡ false → (b || c) ≡ true → b ≡ true
  or_none true c f h = refl
  or_none false c f h = absurd (false≢true (sym f ∙ h))

  module _ (before : List Op) (session : Session) (fine : (view : ViewState) → view_of session.state ≡ Some view → IsOlderRisingView start ops view) where
    -- a command that selects no mailbox
    stays_older : (tag : List ℕ) (command : Command) (report : CommandReport) → is_selecting command ≡ false → IsCommandReport start before ops session.state (condstore_is_on session command) tag command report
        → (view : ViewState) → view_of (sync_result_of start ops (command_effect start ops session tag command report)).state ≡ Some view → IsOlderView start ops view × (command_updates_view command ≡ true → IsListingView start ops view)
    stays_older tag command report s t view e =
        let own = each_append IsQuiet (condstore_answer start ops session.state session.condstore command) report.own (notice_quiet start ops session.state session.condstore command) (report_quiet start before ops command session.state (condstore_is_on session command) tag report s t) in
        let ends = ends_older (sync_of command) (condstore_is_on session command) report.silent (condstore_answer start ops session.state session.condstore command ++ report.own) own (state_after_command start ops session.state command)
        (λ v k. fine v (moved_from command session.state v s k)) view e in
        (ends.0, λ h. ends.1 (or_none (is_full (sync_of command)) (is_selecting command) s h))

    command_older : (tag : List ℕ) (command : Command) (report : CommandReport) → NamesExisting ops command session.state → IsCommandReport start before ops session.state (condstore_is_on session command) tag command report
        → (view : ViewState) → view_of (sync_result_of start ops (command_effect start ops session tag command report)).state ≡ Some view → IsOlderView start ops view × (command_updates_view command ≡ true → IsListingView start ops view)
    command_older tag (commands.Select name condstore) report n t view e =
        let b = selected_by (is_selected session.state) false name view (condstore_answer start ops session.state session.condstore (commands.Select name condstore)) report n (select_notice session.state name session.condstore condstore) t e in
        (b.0, λ h. b.1)
    command_older tag (commands.Examine name condstore) report n t view e =
        let b = selected_by (is_selected session.state) true name view (condstore_answer start ops session.state session.condstore (commands.Examine name condstore)) report n (examine_notice session.state name session.condstore condstore) t e in
        (b.0, λ h. b.1)
    command_older tag commands.Capability report n t view e = stays_older tag commands.Capability report refl t view e
    command_older tag commands.Noop report n t view e = stays_older tag commands.Noop report refl t view e
    command_older tag commands.Logout report n t view e = stays_older tag commands.Logout report refl t view e
    command_older tag (commands.Login user password) report n t view e = stays_older tag (commands.Login user password) report refl t view e
    command_older tag (commands.Enable names) report n t view e = stays_older tag (commands.Enable names) report refl t view e
    command_older tag (commands.Create name) report n t view e = stays_older tag (commands.Create name) report refl t view e
    command_older tag (commands.Delete name) report n t view e = stays_older tag (commands.Delete name) report refl t view e
    command_older tag (commands.Subscribe name) report n t view e = stays_older tag (commands.Subscribe name) report refl t view e
    command_older tag (commands.Unsubscribe name) report n t view e = stays_older tag (commands.Unsubscribe name) report refl t view e
    command_older tag (commands.ListNames request) report n t view e = stays_older tag (commands.ListNames request) report refl t view e
    command_older tag commands.Namespace report n t view e = stays_older tag commands.Namespace report refl t view e
    command_older tag (commands.Status name items) report n t view e = stays_older tag (commands.Status name items) report refl t view e
    command_older tag (commands.Append request) report n t view e = stays_older tag (commands.Append request) report refl t view e
    command_older tag commands.Idle report n t view e = stays_older tag commands.Idle report refl t view e
    command_older tag commands.Close report n t view e = stays_older tag commands.Close report refl t view e
    command_older tag commands.Unselect report n t view e = stays_older tag commands.Unselect report refl t view e
    command_older tag commands.Expunge report n t view e = stays_older tag commands.Expunge report refl t view e
    command_older tag (commands.UidExpunge uids) report n t view e = stays_older tag (commands.UidExpunge uids) report refl t view e
    command_older tag (commands.Search request) report n t view e = stays_older tag (commands.Search request) report refl t view e
    command_older tag (commands.Fetch request) report n t view e = stays_older tag (commands.Fetch request) report refl t view e
    command_older tag (commands.Store request) report n t view e = stays_older tag (commands.Store request) report refl t view e
    command_older tag (commands.Copy request) report n t view e = stays_older tag (commands.Copy request) report refl t view e
    command_older tag (commands.Move request) report n t view e = stays_older tag (commands.Move request) report refl t view e

    -- a line in IDLE, and a poll
    sync_effect_older : (tail : List Answer) (view : ViewState) → view_of (sync_result_of start ops (sync_effect session tail)).state ≡ Some view → IsOlderView start ops view × IsListingView start ops view
    sync_effect_older tail view e =
        let ends = ends_older (Some Full) session.condstore [] [] tt session.state fine view e in
        (ends.0, ends.1 refl)

    input_older : (stamp : List ℕ) (intended : List Kind) (issued : List Op) (input : Input) (effect : InputEffect) → before ++ issued ≡ ops → map (λ (o : Op). o.kind) issued ≡ intended → input_intent start before stamp session.state input ≡ Ok intended
        → IsInputEffect start before ops session input effect → (view : ViewState) → view_of (sync_result_of start ops effect).state ≡ Some view → IsOlderView start ops view × (updates_view input ≡ true → IsListingView start ops view)
    input_older stamp intended issued (inputs.Command moment tagged) effect o m w (report, t, is) view e =
        let whole = subst IsApplied (sym o) a in
        let exists : NamesExisting ops tagged.command session.state =
        subst (λ (os : List Op). NamesExisting os tagged.command session.state) o (names_existing start before issued stamp intended whole (applied_front before issued whole) m tagged.command session.state w) in
        command_older tagged.tag tagged.command report exists t view (subst (λ (c : InputEffect). view_of (sync_result_of start ops c).state ≡ Some view) is e)
    input_older stamp intended issued (inputs.Line line) effect o m w is view e =
        let b = sync_effect_older (tagged_lines_of_idle session.idling) view (subst (λ (c : InputEffect). view_of (sync_result_of start ops c).state ≡ Some view) is e) in (b.0, λ h. b.1)
    input_older stamp intended issued inputs.Poll effect o m w is view e =
        let b = sync_effect_older [] view (subst (λ (c : InputEffect). view_of (sync_result_of start ops c).state ≡ Some view) is e) in (b.0, λ h. b.1)

-- ---- nodes

abbrev IsOlderAfter : Input → Counters → List Op → ViewState → Type 0
IsOlderAfter input start ops view = IsOlderView start ops view × (updates_view input ≡ true → IsListingView start ops view)

module _ (old new : NodeState) (n : ℕ) (input : Input) (l : 1 ≤ old.start.uid) (b : IsApplied old.applied) (rising : ViewsAscend old.sessions) (back : AreOlderViews old.start old.applied old.sessions) where
  done_older : (answers : List Answer) (silent : List SilentFlags) (issued : List Op) → Responds old n input (Done answers silent issued) new → (view : ViewState) → view_at new.sessions n ≡ Some view → IsOlderAfter input new.start new.applied view
  done_older answers silent issued r view e =
      let (session, at, c) = r in
      let issues = issues_of_responds old new n input (Done answers silent issued) b r in
      let ops = old.applied ++ issued in
      let whole : IsApplied ops = subst IsApplied c.becomes.applied issues.whole in
      let fine : (v : ViewState) → view_of session.state ≡ Some v → IsOlderRisingView old.start ops v = λ v k.
      let here : view_at old.sessions n ≡ Some v = ap view_in at ∙ k in
      record { back = older_view_append old.start old.applied issued v whole (back n v here); rising = rising n v here } in
      let has_view = sym (view_now old new issued n session (session_after old.start ops session input c.effect) at c.becomes) ∙ e in
      subst (λ (s : Counters). IsOlderAfter input s new.applied view) (sym c.becomes.start)
      (subst (λ (os : List Op). IsOlderAfter input old.start os view) (sym c.becomes.applied)
      (input_older old.start ops l whole old.applied session fine c.stamp c.kinds issued input c.effect refl c.next.of_kinds c.intended c.taken view has_view))

  -- the other sessions
  other_older : (reply : Reply) → Responds old n input reply new → (m : ℕ) → (m ≡ n → ⊥) → (view : ViewState) → view_at new.sessions m ≡ Some view → IsOlderView new.start new.applied view
  other_older reply r m d view e =
      let issues = issues_of_responds old new n input reply b r in
      let whole : IsApplied (old.applied ++ issued_by reply) = subst IsApplied issues.applied issues.whole in
      let here : view_at old.sessions m ≡ Some view = ap view_in (sym (others_as_before old new n input reply r m d)) ∙ e in
      subst (λ (s : Counters). IsOlderView s new.applied view) (sym issues.start)
      (subst (λ (os : List Op). IsOlderView old.start os view) (sym issues.applied) (older_view_append old.start old.applied (issued_by reply) view whole (back m view here)))

  refused_older : (why : Refusal) (with_session_closed : Bool) → Responds old n input (Refused why with_session_closed) new → (view : ViewState) → view_at new.sessions n ≡ Some view → IsOlderView new.start new.applied view
  refused_older why with_session_closed (session, at, h) view e =
      let has_view : view_of (session_after_refusal session input why).state ≡ Some view = sym (view_now old new [] n session (session_after_refusal session input why) at h.2) ∙ e in
      let here : view_at old.sessions n ≡ Some view = ap view_in at ∙ unless_none (selects input) (view_of session.state) view (sym (left_view session input why) ∙ has_view) in
      subst (λ (s : Counters). IsOlderView s new.applied view) (sym h.2.start) (subst (λ (os : List Op). IsOlderView old.start os view) (sym (h.2.applied ∙ append-nil old.applied)) (back n view here))
    where
      unless_none : (c : Bool) (o : Option ViewState) (v : ViewState) → (if c then None else o) ≡ Some v → o ≡ Some v
      unless_none true o v k = let x : ◌≡◌ {A = Option ViewState} None (Some v) = k in cc
      unless_none false o v k = k

  own_older : (reply : Reply) → Responds old n input reply new → (view : ViewState) → view_at new.sessions n ≡ Some view → IsOlderView new.start new.applied view
  own_older (Done answers silent issued) r view e = (done_older answers silent issued r view e).0
  own_older (Refused why with_session_closed) r view e = refused_older why with_session_closed r view e

  all_older : (reply : Reply) → Responds old n input reply new → AreOlderViews new.start new.applied new.sessions
  all_older reply r = λ m view e.
      elim (eqb_tells m n) [
        | inl t ↦ own_older reply r view (subst (λ (k : ℕ). view_at new.sessions k ≡ Some view) t.1 e)
        | inr f ↦ other_older reply r m f.1 view e
      ]

pub inputs_older : (old new : NodeState) (n : ℕ) (input : Input) (reply : Reply) → 1 ≤ old.start.uid → IsApplied old.applied → ViewsAscend old.sessions → AreOlderViews old.start old.applied old.sessions → Responds old n input reply new → AreOlderViews new.start new.applied new.sessions
inputs_older old new n input reply l b rising back r = all_older old new n input l b rising back reply r

pub inputs_show : (old new : NodeState) (n : ℕ) (input : Input) (answers : List Answer) (silent : List SilentFlags) (issued : List Op) (view : ViewState) → 1 ≤ old.start.uid → IsApplied old.applied → ViewsAscend old.sessions → AreOlderViews old.start old.applied old.sessions
    → Responds old n input (Done answers silent issued) new → updates_view input ≡ true → view_at new.sessions n ≡ Some view → view.entries ≡ entries_of (rows_for new.start new.applied view)
inputs_show old new n input answers silent issued view l b rising back r t e = (done_older old new n input l b rising back answers silent issued r view e).1 t

-- ---- nodes, sessions that are opened and closed, and operations of other replicas

pub begins_older : (start : Counters) → AreOlderViews start [] []
begins_older start = λ n view e. let k : ◌≡◌ {A = Option ViewState} None (Some view) = sym (no_view n) ∙ e in absurd cc

pub opens_older : (start : Counters) (ops : List Op) (old new : Places) (auth : Auth) (n : ℕ) → OpensSession old auth n new → AreOlderViews start ops old → AreOlderViews start ops new
opens_older start ops old new auth n o h = λ m view e.
    elim (eqb_tells m n) [
      | inl t ↦ new_session_has_no_view auth view (sym (ap view_in o.open_now) ∙ subst (λ (k : ℕ). view_at new k ≡ Some view) t.1 e)
      | inr f ↦ h m view (ap view_in (sym (o.others m f.1)) ∙ e)
    ]
  where
    new_session_has_no_view : {X : Type 0} (how : Auth) (view : ViewState) → view_of (new_session how).state ≡ Some view → X
    new_session_has_no_view Preauth view k = let x : ◌≡◌ {A = Option ViewState} None (Some view) = k in absurd cc
    new_session_has_no_view (Password credentials) view k = let x : ◌≡◌ {A = Option ViewState} None (Some view) = k in absurd cc

pub closes_older : (start : Counters) (ops : List Op) (old : NodeState) (n : ℕ) → IsOpen old.sessions n → AreOlderViews start ops old.sessions → AreOlderViews start ops (with_session_closed old n).sessions
closes_older start ops old n o h = λ m view e.
    elim (eqb_tells m n) [
      | inl t ↦ let k : ◌≡◌ {A = Option ViewState} None (Some view) = sym (closed_view old n o) ∙ subst (λ (j : ℕ). view_at (with_session_closed old n).sessions j ≡ Some view) t.1 e in absurd cc
      | inr f ↦ h m view (ap view_in (sym (closes_alone old n o m f.1)) ∙ e)
    ]

-- the list of applied operations has grown
pub grown_older : (old new : NodeState) → new.start ≡ old.start → new.sessions ≡ old.sessions → HasGrown old.applied new.applied → IsApplied new.applied → AreOlderViews old.start old.applied old.sessions → AreOlderViews new.start new.applied new.sessions
grown_older old new s p g a h = λ m view e.
    let here : view_at old.sessions m ≡ Some view = ap (λ (places : Places). view_at places m) (sym p) ∙ e in
    subst (λ (x : Counters). IsOlderView x new.applied view) (sym s)
    (subst (λ (os : List Op). IsOlderView old.start os view) (sym g.1) (older_view_append old.start old.applied g.0 view (subst IsApplied g.1 a) (h m view here)))

pub delivered_older : (old new : NodeState) (op : Op) (arrival : Arrival) → IsApplied new.applied → Delivers old op arrival new → AreOlderViews old.start old.applied old.sessions → AreOlderViews new.start new.applied new.sessions
delivered_older old new op arrival a d =
    grown_older old new (arrival_start id_of clock_of Exhausts (received_ops old) (received_ops new) op arrival d.arrives) d.sessions
    (arrival_grows id_of clock_of Exhausts (received_ops old) (received_ops new) op arrival d.arrives) a

pub drained_older : (old new : NodeState) (count : ℕ) → IsApplied new.applied → DrainsHeld old count new → AreOlderViews old.start old.applied old.sessions → AreOlderViews new.start new.applied new.sessions
drained_older old new count a d =
    grown_older old new (releases_start id_of clock_of Exhausts count (received_ops old) (received_ops new) d.released) d.sessions
    (releases_grow id_of clock_of Exhausts count (received_ops old) (received_ops new) d.released) a
