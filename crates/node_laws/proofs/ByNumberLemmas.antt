use Rattle.std.proofs.Common.{◌≡◌, inl, inr, ℕ, ◌-◌, Bool, true, false, not, List, [], ◌∷◌, ◌++◌, Option, Some, None, is_some, refl, sym, ap, ◌∙◌, subst, append_assoc, append-nil, if◌then◌else◌}
use Rattle.std.specs.Prelude.{flat_map, ◌&&◌, nat_eq}
use Rattle.std.proofs.lemmas.Bool.{cases_Bool, false≢true}
use Rattle.crdt_ops.specs.declared.op.Op.{Op}
use Rattle.imap_answers.specs.declared.answer.Answer.{Answer}
use Rattle.imap_answers.specs.declared.answer.Answer.TheVariants as answers
use Rattle.imap_answers.specs.declared.codes.Code.{Code}
use Rattle.imap_commands.specs.Arguments.{OpenMailbox}
use Rattle.imap_commands.specs.FetchCommand.{fetch_report, mode_of, viewed_messages_at}
use Rattle.imap_commands.specs.StoreCommand.{store_report, stored_answer, stored_answers, taken_messages}
use Rattle.imap_commands.specs.Report.{CommandReport, message_at}
use Rattle.imap_commands.specs.declared.session.Session.{Session}
use Rattle.imap_commands.specs.declared.session.State.{State}
use Rattle.imap_commands.specs.declared.session.State.TheVariants.{NotAuthenticated, Authenticated, Selected, LoggedOut}
use Rattle.imap_syntax.specs.declared.command.Command.{Command}
use Rattle.imap_syntax.specs.declared.command.Command.TheVariants as commands
use Rattle.imap_syntax.specs.declared.command.Tagged.{Tagged}
use Rattle.imap_syntax.specs.declared.fetch.FetchItem.{FetchItem}
use Rattle.imap_query.specs.FetchCommand.{answer_of, fetch_answers, is_above_changed_since}
use Rattle.imap_query.specs.declared.fetch_command.FetchMode.{FetchMode}
use Rattle.imap_query.specs.declared.viewed_message.ViewedMessage.{ViewedMessage}
use Rattle.imap_types.specs.declared.flags.Flags.{Flags}
use Rattle.mailbox_rows.specs.ListedMessage.{ListedMessage}
use Rattle.mailbox_rows.specs.RowViews.{row_of}
use Rattle.session_view.specs.Replay.{after_answer, after_answers, after_silent, arrivals_up_to, with_fetched_flags, with_flags_at, view_after_reply}
use Rattle.session_view.specs.ViewState.{ViewState}
use Rattle.session_view.specs.Sets.{numbers_in_set}
use Rattle.session_view.specs.Sync.{HasNoExpunge, IsNoExpunge}
use Rattle.session_view.specs.declared.view_entry.ViewEntry.{ViewEntry}
use Rattle.session_view.specs.declared.view_entry.SyncKind.{SyncKind}
use Rattle.session_view.specs.declared.view_entry.SyncKind.TheVariants.{Partial}
use Rattle.session_view.specs.declared.reply_replay.SilentFlags.{SilentFlags}
use Rattle.session_view.proofs.LawLemmas.{partial_expunges_none}
use Rattle.uid_projection.specs.declared.first_numbers.Counters.{Counters}
use Rattle.uid_projection.specs.Incarnations.{uidvalidity_of}
use Rattle.imap_node.specs.Commands.{IsCommandReport, sync_kind_by, highest_answer_of, highest_answer, is_idle, is_selecting, condstore_answer, sync_of, command_report, enables_condstore}
use Rattle.imap_node.specs.InputEffects.{InputEffect, answers_of_effect, sync_result, sync_result_of}
use Rattle.session_view.specs.NoteChanges.{uids_of}
use Rattle.imap_node.specs.Mailboxes.{mailbox_in, rows_for}
use Rattle.imap_node.specs.Nodes.{NodeState}
use Rattle.imap_node.specs.Replays.{replay_base_of_command, view_after_replies, view_at}
use Rattle.imap_node.specs.Responses.{Responds, IsInputEffect, command_effect, condstore_is_on, tagged_lines_of}
use Rattle.imap_node.specs.declared.input.Input.{Input}
use Rattle.imap_node.specs.declared.input.Input.TheVariants as inputs
use Rattle.imap_node.specs.declared.reply.Reply.{Reply}
use Rattle.imap_node.specs.declared.reply.Reply.TheVariants.{Done, Refused}
use Rattle.imap_node.proofs.ReplayLemmas.{replies_replay}
use Rattle.node_laws.specs.ByNumber.{ViewKeepsPlaces, BeginsWith, KeepsPlaces, answers_in, asks_by_number, is_by_number}
use Rattle.imap_syntax.specs.declared.arguments.Fetch.{Fetch}
use Rattle.imap_syntax.specs.declared.arguments.Store.{Store}

-- ---- answers without EXPUNGE

none_append : (xs ys : List Answer) → HasNoExpunge xs → HasNoExpunge ys → HasNoExpunge (xs ++ ys)
none_append [] ys h k = k
none_append (x ∷ xs) ys h k = (h.0, none_append xs ys h.1 k)

none_flat : {X : Type 0} (f : X → List Answer) (xs : List X) → ((x : X) → HasNoExpunge (f x)) → HasNoExpunge (flat_map f xs)
none_flat f [] h = tt
none_flat f (x ∷ xs) h = none_append (f x) (flat_map f xs) (h x) (none_flat f xs h)

none_answer : (items : List FetchItem) (mode : FetchMode) (shown : ViewedMessage) (old row : Option ListedMessage) → HasNoExpunge (answer_of items mode shown old row)
none_answer items mode shown None row = tt
none_answer items mode shown (Some old) None = tt
none_answer items mode shown (Some old) (Some row) = elim (cases_Bool (is_above_changed_since mode.changed_since old)) [ inl t ↦ rw t (tt, tt) | inr f ↦ rw f tt ]

none_fetched : (items : List FetchItem) (mode : FetchMode) (before after : List ListedMessage) (named : List ViewedMessage) → HasNoExpunge (fetch_answers items mode before after named)
none_fetched items mode before after named = none_flat (λ shown. answer_of items mode shown (row_of shown.uid before) (row_of shown.uid after)) named (λ shown. none_answer items mode shown (row_of shown.uid before) (row_of shown.uid after))

none_stored_one : (condstore : Bool) (request : Store) (n : ℕ) (row : Option ListedMessage) → HasNoExpunge (stored_answer condstore request n row)
none_stored_one condstore request n None = tt
none_stored_one condstore request n (Some row) = (tt, tt)

none_stored : (after : List ListedMessage) (view : List ViewEntry) (condstore : Bool) (request : Store) (taken : List ℕ) → HasNoExpunge (stored_answers after view condstore request taken)
none_stored after view condstore request taken =
    elim (cases_Bool (request.action.silent && not (is_some request.unchanged_since))) [
      | inl t ↦ rw t tt
      | inr f ↦ rw f (none_flat (λ n. stored_answer condstore request n (message_at after view n)) taken (λ n. none_stored_one condstore request n (message_at after view n)))
    ]

highest_none : (uidvalidity : ℕ) (now : Option ℕ) (highest : ℕ) → HasNoExpunge (highest_answer uidvalidity now highest)
highest_none uidvalidity None highest = tt
highest_none uidvalidity (Some now) highest = elim (cases_Bool (nat_eq now uidvalidity)) [ inl t ↦ rw t (tt, tt) | inr f ↦ rw f tt ]

none_highest : (start : Counters) (ops : List Op) (state : State) → HasNoExpunge (highest_answer_of start ops state)
none_highest start ops (NotAuthenticated credentials) = tt
none_highest start ops Authenticated = tt
none_highest start ops LoggedOut = tt
none_highest start ops (Selected view read_only) = highest_none view.uidvalidity (uidvalidity_of start view.name ops) _

none_noticed : (start : Counters) (ops : List Op) (state : State) (condstore : Bool) (command : Command) → HasNoExpunge (condstore_answer start ops state condstore command)
none_noticed start ops state condstore command = elim (cases_Bool (enables_condstore condstore command)) [ inl t ↦ rw t (none_highest start ops state) | inr f ↦ rw f tt ]

none_tail : (tag : List ℕ) (command : Command) (code : Option Code) → HasNoExpunge (tagged_lines_of tag command code)
none_tail tag command code = elim (cases_Bool (is_idle command)) [ inl t ↦ rw t tt | inr f ↦ rw f (tt, tt) ]

-- ---- the report of a command by number

fetch_none : (mailbox : OpenMailbox) (after : List ListedMessage) (condstore : Bool) (request : Fetch) → HasNoExpunge (fetch_report mailbox after condstore request).own
fetch_none mailbox after condstore request =
    none_fetched request.items (mode_of mailbox condstore request) mailbox.rows after (viewed_messages_at mailbox.view (numbers_in_set request.by_uid request.messages mailbox.view))

store_none : (mailbox : OpenMailbox) (after : List ListedMessage) (condstore : Bool) (request : Store) → HasNoExpunge (store_report mailbox after condstore request).own
store_none mailbox after condstore request =
    none_stored after mailbox.view condstore request (taken_messages mailbox.rows mailbox.view request.unchanged_since (numbers_in_set request.by_uid request.messages mailbox.view))

module _ (start : Counters) (before after : List Op) (modseq : Bool) (tag : List ℕ) where
  own_none : (state : State) (command : Command) (reported : CommandReport) → is_by_number command ≡ true → IsCommandReport start before after state modseq tag command reported → HasNoExpunge reported.own
  own_none (Selected view read_only) (commands.Search request) reported b t = subst (λ (x : CommandReport). HasNoExpunge x.own) (sym t.only) (tt, tt)
  own_none (Selected view read_only) (commands.Fetch request) reported b t = subst (λ (x : CommandReport). HasNoExpunge x.own) (sym t) (fetch_none (mailbox_in start before view read_only) (rows_for start after view) modseq request)
  own_none (Selected view read_only) (commands.Store request) reported b t = subst (λ (x : CommandReport). HasNoExpunge x.own) (sym t) (store_none (mailbox_in start before view read_only) (rows_for start after view) modseq request)
  own_none (NotAuthenticated credentials) (commands.Search request) reported b t = subst (λ (x : CommandReport). HasNoExpunge x.own) (sym t) tt
  own_none (NotAuthenticated credentials) (commands.Fetch request) reported b t = subst (λ (x : CommandReport). HasNoExpunge x.own) (sym t) tt
  own_none (NotAuthenticated credentials) (commands.Store request) reported b t = subst (λ (x : CommandReport). HasNoExpunge x.own) (sym t) tt
  own_none Authenticated (commands.Search request) reported b t = subst (λ (x : CommandReport). HasNoExpunge x.own) (sym t) tt
  own_none Authenticated (commands.Fetch request) reported b t = subst (λ (x : CommandReport). HasNoExpunge x.own) (sym t) tt
  own_none Authenticated (commands.Store request) reported b t = subst (λ (x : CommandReport). HasNoExpunge x.own) (sym t) tt
  own_none LoggedOut (commands.Search request) reported b t = subst (λ (x : CommandReport). HasNoExpunge x.own) (sym t) tt
  own_none LoggedOut (commands.Fetch request) reported b t = subst (λ (x : CommandReport). HasNoExpunge x.own) (sym t) tt
  own_none LoggedOut (commands.Store request) reported b t = subst (λ (x : CommandReport). HasNoExpunge x.own) (sym t) tt
  own_none state _ reported b t = absurd (false≢true b)

partial_kind : (by_uid : Bool) → not by_uid ≡ true → sync_kind_by by_uid ≡ Partial
partial_kind false b = refl
partial_kind true b = absurd (false≢true b)

-- the sync after a command by number is partial
sync_partial : (command : Command) → is_by_number command ≡ true → sync_of command ≡ Some Partial
sync_partial (commands.Search request) b = ap (λ (k : SyncKind). Some k) (partial_kind request.by_uid b)
sync_partial (commands.Fetch request) b = ap (λ (k : SyncKind). Some k) (partial_kind request.by_uid b)
sync_partial (commands.Store request) b = ap (λ (k : SyncKind). Some k) (partial_kind request.by_uid b)
sync_partial _ b = absurd (false≢true b)

-- a command by number selects no mailbox
base_stays : (start : Counters) (ops : List Op) (view : Option ViewState) (command : Command) → is_by_number command ≡ true → replay_base_of_command start ops view command ≡ view
base_stays start ops view (commands.Search request) b = refl
base_stays start ops view (commands.Fetch request) b = refl
base_stays start ops view (commands.Store request) b = refl
base_stays start ops view _ b = absurd (false≢true b)

selects_none : (command : Command) → is_by_number command ≡ true → is_selecting command ≡ false
selects_none (commands.Search request) b = refl
selects_none (commands.Fetch request) b = refl
selects_none (commands.Store request) b = refl
selects_none _ b = absurd (false≢true b)

none_synced : (start : Counters) (ops : List Op) (modseq : Bool) (state : State) (silent : List SilentFlags) (own : List Answer) → HasNoExpunge (sync_result start ops (Some Partial) modseq state silent own).answers
none_synced start ops modseq (NotAuthenticated credentials) silent own = tt
none_synced start ops modseq Authenticated silent own = tt
none_synced start ops modseq LoggedOut silent own = tt
none_synced start ops modseq (Selected view read_only) silent own =
    let rows = rows_for start ops view in partial_expunges_none modseq rows (view_after_reply rows view.entries silent own)

none_ended : (start : Counters) (ops : List Op) (sync : Option SyncKind) (modseq : Bool) (state : State) (silent : List SilentFlags) (own : List Answer) → sync ≡ Some Partial → HasNoExpunge (sync_result start ops sync modseq state silent own).answers
none_ended start ops sync modseq state silent own e = subst (λ (s : Option SyncKind). HasNoExpunge (sync_result start ops s modseq state silent own).answers) (sym e) (none_synced start ops modseq state silent own)

none_effect : (start : Counters) (before after : List Op) (session : Session) (moment : ℕ) (tagged : Tagged) (effect : InputEffect) → is_by_number tagged.command ≡ true
    → IsInputEffect start before after session (inputs.Command moment tagged) effect → HasNoExpunge (answers_of_effect start after effect)
none_effect start before after session moment tagged effect b (reported, command_report, is) =
    let made = command_effect start after session tagged.tag tagged.command reported in
    let own = none_append (condstore_answer start after session.state session.condstore tagged.command) reported.own (none_noticed start after session.state session.condstore tagged.command)
    (own_none start before after (condstore_is_on session tagged.command) tagged.tag session.state tagged.command reported b command_report) in
    subst (λ (c : InputEffect). HasNoExpunge (answers_of_effect start after c)) (sym is)
    (none_append made.own ((sync_result_of start after made).answers ++ made.tail) own
    (none_append (sync_result_of start after made).answers made.tail
    (none_ended start after made.sync made.modseq made.state made.silent made.own (sync_partial tagged.command b)) (none_tail tagged.tag tagged.command reported.code)))

pub no_expunge : (old new : NodeState) (n : ℕ) (input : Input) (reply : Reply) → Responds old n input reply new → asks_by_number input ≡ true → HasNoExpunge (answers_in reply)
no_expunge old new n (inputs.Command moment tagged) (Done reported silent issued) (session, at, c) b =
    subst HasNoExpunge (sym c.answers_are) (none_effect old.start old.applied (old.applied ++ issued) session moment tagged c.effect b c.taken)
no_expunge old new n (inputs.Command moment tagged) (Refused why closed) r b = tt
no_expunge old new n (inputs.Line line) reply r b = absurd (false≢true b)
no_expunge old new n inputs.Poll reply r b = absurd (false≢true b)

-- ---- messages keep their numbers

flagged_uids : (es : List ViewEntry) (k : ℕ) (flags : Flags) → uids_of (with_flags_at es k flags) ≡ uids_of es
flagged_uids [] k flags = refl
flagged_uids (e ∷ es) k flags = elim (cases_Bool (nat_eq k 1)) [ inl t ↦ rw t refl | inr f ↦ rw f (ap (λ us. e.uid ∷ us) (flagged_uids es (k - 1) flags)) ]

silent_uids : (es : List ViewEntry) (silent : List SilentFlags) → uids_of (after_silent es silent) ≡ uids_of es
silent_uids es [] = refl
silent_uids es (s ∷ silent) = silent_uids (with_flags_at es s.number s.flags) silent ∙ flagged_uids es s.number s.flags

fetched_uids : (es : List ViewEntry) (k : ℕ) (flags : Option Flags) → uids_of (with_fetched_flags es k flags) ≡ uids_of es
fetched_uids es k None = refl
fetched_uids es k (Some flags) = flagged_uids es k flags

uids_of_append : (es more : List ViewEntry) → uids_of (es ++ more) ≡ uids_of es ++ uids_of more
uids_of_append [] more = refl
uids_of_append (e ∷ es) more = ap (λ us. e.uid ∷ us) (uids_of_append es more)

begins_itself : (us : List ℕ) → BeginsWith us us
begins_itself us = ([], sym (append-nil us))

begins_same : (us vs : List ℕ) → vs ≡ us → BeginsWith us vs
begins_same us vs e = ([], e ∙ sym (append-nil us))

begins_again : (us vs ws : List ℕ) → BeginsWith us vs → BeginsWith vs ws → BeginsWith us ws
begins_again us vs ws (m, e) (k, f) = (m ++ k, f ∙ ap (λ xs. xs ++ k) e ∙ append_assoc us m k)

after_answer_begins : (rows : List ListedMessage) (view : List ViewEntry) (answer : Answer) → IsNoExpunge answer → BeginsWith (uids_of view) (uids_of (after_answer rows view answer))
after_answer_begins rows view (answers.Expunge k) h = absurd h
after_answer_begins rows view (answers.Exists n) h = (uids_of (arrivals_up_to rows view n), uids_of_append view (arrivals_up_to rows view n))
after_answer_begins rows view (answers.Fetch k items) h = begins_same (uids_of view) (uids_of (with_fetched_flags view k items.flags)) (fetched_uids view k items.flags)
after_answer_begins rows view _ h = begins_itself (uids_of view)

after_answers_begin : (rows : List ListedMessage) (view : List ViewEntry) (reported : List Answer) → HasNoExpunge reported → BeginsWith (uids_of view) (uids_of (after_answers rows view reported))
after_answers_begin rows view [] h = begins_itself (uids_of view)
after_answers_begin rows view (answer ∷ reported) h =
    let next = after_answer rows view answer in
    begins_again (uids_of view) (uids_of next) (uids_of (after_answers rows next reported)) (after_answer_begins rows view answer h.0) (after_answers_begin rows next reported h.1)

replay_keeps_places : (start : Counters) (ops : List Op) (silent : List SilentFlags) (reported : List Answer) (o : Option ViewState) → HasNoExpunge reported → ViewKeepsPlaces o (view_after_replies start ops o silent reported)
replay_keeps_places start ops silent reported None h = λ view e. let k : ◌≡◌ {A = Option ViewState} None (Some view) = e in absurd cc
replay_keeps_places start ops silent reported (Some was) h = λ view e.
    let rows = rows_for start ops was in
    let first = after_silent was.entries silent in
    let now : ViewState = record was { entries = view_after_reply rows was.entries silent reported } in
    let k : was ≡ view = cc in
    let keeps : KeepsPlaces was now = record {
      name = refl;
      uidvalidity = refl;
      uids = begins_again (uids_of was.entries) (uids_of first) (uids_of now.entries) (begins_same (uids_of was.entries) (uids_of first) (silent_uids was.entries silent)) (after_answers_begin rows first reported h);
    } in
    (now, refl, subst (λ (v : ViewState). KeepsPlaces v now) k keeps)

stays_as_it_is : (o : Option ViewState) → ViewKeepsPlaces o o
stays_as_it_is o = λ view e. (view, e, record { name = refl; uidvalidity = refl; uids = begins_itself (uids_of view.entries) })

pub view_keeps_places : (old new : NodeState) (n : ℕ) (input : Input) (reply : Reply) → Responds old n input reply new → asks_by_number input ≡ true → ViewKeepsPlaces (view_at old.sessions n) (view_at new.sessions n)
view_keeps_places old new n (inputs.Command moment tagged) (Done reported silent issued) r b =
    let before = view_at old.sessions n in
    let none = no_expunge old new n (inputs.Command moment tagged) (Done reported silent issued) r b in
    let base = base_stays new.start new.applied before tagged.command b in
    subst (ViewKeepsPlaces before)
    (sym (replies_replay old new n (inputs.Command moment tagged) (Done reported silent issued) r ∙ ap (λ (o : Option ViewState). view_after_replies new.start new.applied o silent reported) base))
    (replay_keeps_places new.start new.applied silent reported before none)
view_keeps_places old new n (inputs.Command moment tagged) (Refused why closed) r b =
    let before = view_at old.sessions n in
    let none : is_selecting tagged.command ≡ false = selects_none tagged.command b in
    subst (ViewKeepsPlaces before)
    (sym (replies_replay old new n (inputs.Command moment tagged) (Refused why closed) r ∙ ap (λ (s : Bool). if s then None else before) none))
    (stays_as_it_is before)
view_keeps_places old new n (inputs.Line line) reply r b = absurd (false≢true b)
view_keeps_places old new n inputs.Poll reply r b = absurd (false≢true b)
