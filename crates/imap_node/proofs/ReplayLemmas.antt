use Rattle.std.proofs.Common.{◌≡◌, inl, inr, ℕ, ◌-◌, cond, eqb, get_or, ◌≤◌, Bool, true, false, List, [], ◌++◌, Option, Some, None, nat_eq, refl, sym, ap, ◌∙◌, subst, if◌then◌else◌}
use Rattle.std.specs.Prelude.{Ok, ◌&&◌}
use Rattle.std.proofs.lemmas.Bool.{cases_Bool}
use Rattle.std.proofs.lemmas.Bool.Decides.{eqb_tells}
use Rattle.crdt_ops.specs.declared.kind.Kind.{Kind}
use Rattle.crdt_ops.specs.declared.op.Op.{Op}
use Rattle.imap_answers.specs.declared.answer.Answer.{Answer}
use Rattle.imap_answers.specs.declared.codes.Code.{Code}
use Rattle.imap_answers.specs.declared.fixed_words.Refusal.{Refusal}
use Rattle.imap_answers.specs.declared.fixed_words.Refusal.TheVariants as refusals
use Rattle.imap_commands.specs.declared.session.Session.{Session}
use Rattle.imap_commands.specs.declared.session.State.{State}
use Rattle.imap_commands.specs.declared.session.State.TheVariants.{NotAuthenticated, Authenticated, Selected, LoggedOut}
use Rattle.imap_syntax.specs.declared.command.Command.{Command}
use Rattle.imap_syntax.specs.declared.command.Command.TheVariants as commands
use Rattle.mailbox_rows.specs.ListedMessage.{ListedMessage}
use Rattle.mailbox_rows.specs.RowViews.{AreRisingRows}
use Rattle.session_view.specs.Replay.{after_answers, after_silent, view_after_reply}
use Rattle.session_view.specs.ViewState.{ViewState, rows_under}
use Rattle.session_view.specs.Sync.{sync_answers}
use Rattle.session_view.specs.Views.{AreRising}
use Rattle.session_view.specs.declared.view_entry.ViewEntry.{ViewEntry}
use Rattle.session_view.specs.declared.view_entry.SyncKind.{SyncKind}
use Rattle.session_view.specs.declared.reply_replay.SilentFlags.{SilentFlags}
use Rattle.session_view.proofs.ReplayLemmas.{replay_rising}
use Rattle.session_view.proofs.SyncLemmas.{after_append, syncs_replay}
use Rattle.uid_projection.specs.declared.first_numbers.Counters.{Counters}
use Rattle.uid_projection.specs.Applied.{IsApplied}
use Rattle.uid_projection.specs.Incarnations.{uidvalidity_of}
use Rattle.uid_projection.specs.Listing.{listing}
use Rattle.uid_projection.proofs.ChartOf.{charted}
use Rattle.uid_projection.proofs.RowLemmas.{rising_chart, rows_listed}
use Rattle.imap_node.specs.Commands.{is_idle, is_selected, is_selecting, state_after_command, command_intent}
use Rattle.imap_node.specs.InputEffects.{InputEffect, answers_of_sync, answers_of_effect, sync_result, entries_after_sync}
use Rattle.imap_node.specs.Mailboxes.{rows_for}
use Rattle.imap_node.specs.Nodes.{NodeState, with_session_closed}
use Rattle.imap_node.specs.Replays.{ViewsAscend, replay_base_of_command, replay_base_of, view_after_replies, selects, view_at, view_after_input, view_in, view_of}
use Rattle.imap_node.specs.Responses.{CarriesOut, IsNodeAfter, Responds, IsInputEffect, tagged_lines_of_idle, session_after_refusal, session_after, tagged_lines_of, input_intent}
use Rattle.imap_node.specs.Sessions.{IsOpen, OpensSession, OthersStay, Places, new_session, session_at, with_session}
use Rattle.imap_node.specs.declared.input.Input.{Input}
use Rattle.imap_node.specs.declared.input.Input.TheVariants as inputs
use Rattle.imap_node.specs.declared.reply.Reply.{Reply}
use Rattle.imap_node.specs.declared.reply.Reply.TheVariants.{Done, Refused}
use Rattle.imap_node.proofs.CanIssueLemmas.{not_ok}
use Rattle.imap_node.specs.declared.sessions.Auth.{Auth}
use Rattle.imap_node.specs.declared.sessions.Auth.TheVariants.{Preauth, Password}
use Rattle.imap_node.proofs.IssueLemmas.{issues_of_responds}
use Rattle.imap_node.proofs.SessionLemmas.{open_is, others_stay, session_put}

-- ---- an effect, replayed

-- answers that change no view
abbrev ChangeNoView : List Answer → Type 0
ChangeNoView answers = (rows : List ListedMessage) (view : List ViewEntry) → after_answers rows view answers ≡ view

tail_still : (tag : List ℕ) (command : Command) (code : Option Code) → ChangeNoView (tagged_lines_of tag command code)
tail_still tag command code = λ rows view. elim (cases_Bool (is_idle command)) [ inl y ↦ rw y refl | inr f ↦ rw f refl ]

idle_still : (idling : Option (List ℕ)) → ChangeNoView (tagged_lines_of_idle idling)
idle_still None = λ rows view. refl
idle_still (Some tag) = λ rows view. refl

-- an input's own answers, those of the sync and the last ones, one after another
module _ (rows : List ListedMessage) (modseq : Bool) where
  replay_sync : (sync : Option SyncKind) (view : List ViewEntry) (own tail : List Answer) → ChangeNoView tail
      → after_answers rows view (own ++ (answers_of_sync sync modseq rows (after_answers rows view own) ++ tail)) ≡ entries_after_sync sync rows (after_answers rows view own)
  replay_sync None view own tail still = after_append rows view own tail ∙ still rows (after_answers rows view own)
  replay_sync (Some kind) view own tail still =
      let new_view = after_answers rows view own in
      let sent = sync_answers kind modseq rows new_view in
      after_append rows view own (sent ++ tail) ∙ after_append rows new_view sent tail ∙ still rows (after_answers rows new_view sent) ∙ syncs_replay kind modseq rows new_view

module _ (start : Counters) (ops : List Op) (sync : Option SyncKind) (modseq : Bool) (silent : List SilentFlags) (own tail : List Answer) (still : ChangeNoView tail) where
  sync_result_replays : (state : State) → view_of (sync_result start ops sync modseq state silent own).state ≡ view_after_replies start ops (view_of state) silent (own ++ ((sync_result start ops sync modseq state silent own).answers ++ tail))
  sync_result_replays (NotAuthenticated credentials) = refl
  sync_result_replays Authenticated = refl
  sync_result_replays LoggedOut = refl
  sync_result_replays (Selected view read_only) =
      ap (λ (es : List ViewEntry). Some (record view { entries = es })) (sym (replay_sync (rows_for start ops view) modseq sync (after_silent view.entries silent) own tail still))

-- ---- the view on which it is replayed

-- a command that is carried out
moved_base : (start : Counters) (before after : List Op) (stamp : List ℕ) (state : State) (command : Command) (intended : List Kind) → command_intent start before stamp state command ≡ Ok intended
    → view_of (state_after_command start after state command) ≡ replay_base_of_command start after (view_of state) command
moved_base start before after stamp (NotAuthenticated credentials) (commands.Login user password) intended w = refl
moved_base start before after stamp Authenticated (commands.Login user password) intended w = refl
moved_base start before after stamp (Selected view read_only) (commands.Login user password) intended w = not_ok refusals.NotNow intended w
moved_base start before after stamp LoggedOut (commands.Login user password) intended w = refl
moved_base start before after stamp state (commands.Select name condstore) intended w = refl
moved_base start before after stamp state (commands.Examine name condstore) intended w = refl
moved_base start before after stamp state commands.Logout intended w = refl
moved_base start before after stamp state commands.Unselect intended w = refl
moved_base start before after stamp state commands.Close intended w = refl
moved_base start before after stamp state _ intended w = refl

module _ (start : Counters) (before after : List Op) (session : Session) where
  effect_still : (input : Input) (effect : InputEffect) → IsInputEffect start before after session input effect → ChangeNoView effect.tail
  effect_still (inputs.Command moment tagged) effect (report, is_report, is) = subst (λ (c : InputEffect). ChangeNoView c.tail) (sym is) (tail_still tagged.tag tagged.command report.code)
  effect_still (inputs.Line line) effect is = subst (λ (c : InputEffect). ChangeNoView c.tail) (sym is) (idle_still session.idling)
  effect_still inputs.Poll effect is = subst (λ (c : InputEffect). ChangeNoView c.tail) (sym is) (λ rows view. refl)

  effect_base : (stamp : List ℕ) (intended : List Kind) (input : Input) (effect : InputEffect) → input_intent start before stamp session.state input ≡ Ok intended → IsInputEffect start before after session input effect
      → view_of effect.state ≡ replay_base_of start after (view_of session.state) input
  effect_base stamp intended (inputs.Command moment tagged) effect w (report, is_report, is) = ap (λ (c : InputEffect). view_of c.state) is ∙ moved_base start before after stamp session.state tagged.command intended w
  effect_base stamp intended (inputs.Line line) effect w is = ap (λ (c : InputEffect). view_of c.state) is
  effect_base stamp intended inputs.Poll effect w is = ap (λ (c : InputEffect). view_of c.state) is

-- ---- replies

refused_view : (state : State) (selecting : Bool) → view_of (if is_selected state && selecting then Authenticated else state) ≡ (if selecting then None else view_of state)
refused_view (NotAuthenticated credentials) true = refl
refused_view (NotAuthenticated credentials) false = refl
refused_view Authenticated true = refl
refused_view Authenticated false = refl
refused_view LoggedOut true = refl
refused_view LoggedOut false = refl
refused_view (Selected view read_only) true = refl
refused_view (Selected view read_only) false = refl

pub left_view : (session : Session) (input : Input) (why : Refusal) → view_of (session_after_refusal session input why).state ≡ (if selects input then None else view_of session.state)
left_view session (inputs.Command moment tagged) why = refused_view session.state (is_selecting tagged.command)
left_view session (inputs.Line line) why = refl
left_view session inputs.Poll why = refl

-- the view of the input's session
pub view_now : (old new : NodeState) (ops : List Op) (n : ℕ) (session next : Session) → session_at old.sessions n ≡ Some session → IsNodeAfter old ops (with_session old.sessions n (Some next)) new → view_at new.sessions n ≡ view_of next.state
view_now old new ops n session next at h = ap (λ (p : Places). view_at p n) h.sessions ∙ ap view_in (session_put old.sessions n (Some next) session at)

-- the operations are those of the node afterwards
subst_node_after : (old new : NodeState) (ops : List Op) (P : Counters → List Op → Type 0) → new.start ≡ old.start → new.applied ≡ old.applied ++ ops → P old.start (old.applied ++ ops) → P new.start new.applied
subst_node_after old new ops P s a p = subst (λ (x : Counters). P x new.applied) (sym s) (subst (λ (os : List Op). P old.start os) (sym a) p)

carried_replays : (old new : NodeState) (n : ℕ) (session : Session) (input : Input) (answers : List Answer) (silent : List SilentFlags) (issued : List Op) → session_at old.sessions n ≡ Some session
    → CarriesOut old n session input answers silent issued new → view_at new.sessions n ≡ view_after_replies new.start new.applied (replay_base_of new.start new.applied (view_at old.sessions n) input) silent answers
carried_replays old new n session input answers silent issued at c =
    let start = old.start in
    let after = old.applied ++ issued in
    let next = session_after start after session input c.effect in
    let still = effect_still start old.applied after session input c.effect c.taken in
    let base = effect_base start old.applied after session c.stamp c.kinds input c.effect c.intended c.taken in
    subst_node_after old new issued (λ s os. view_at new.sessions n ≡ view_after_replies s os (replay_base_of s os (view_at old.sessions n) input) silent answers) c.becomes.start c.becomes.applied
    (view_now old new issued n session next at c.becomes
    ∙ sync_result_replays start after c.effect.sync c.effect.modseq c.effect.silent c.effect.own c.effect.tail still c.effect.state
    ∙ ap (λ (v : Option ViewState). view_after_replies start after v c.effect.silent (answers_of_effect start after c.effect)) base
    ∙ ap (λ (s : List SilentFlags). view_after_replies start after (replay_base_of start after (view_of session.state) input) s (answers_of_effect start after c.effect)) (sym c.silent_is)
    ∙ ap (λ (report : List Answer). view_after_replies start after (replay_base_of start after (view_of session.state) input) silent report) (sym c.answers_are)
    ∙ ap (λ (o : Option Session). view_after_replies start after (replay_base_of start after (view_in o) input) silent answers) (sym at))

pub replies_replay : (old new : NodeState) (n : ℕ) (input : Input) (reply : Reply) → Responds old n input reply new → view_at new.sessions n ≡ view_after_input new.start new.applied (view_at old.sessions n) input reply
replies_replay old new n input (Done answers silent issued) (session, at, c) = carried_replays old new n session input answers silent issued at c
replies_replay old new n input (Refused why with_session_closed) (session, at, h) =
    view_now old new [] n session (session_after_refusal session input why) at h.2 ∙ left_view session input why
    ∙ ap (λ (o : Option Session). if selects input then None else view_in o) (sym at)

-- ---- the other sessions

pub others_as_before : (old new : NodeState) (n : ℕ) (input : Input) (reply : Reply) → Responds old n input reply new → OthersStay old.sessions n new.sessions
others_as_before old new n input (Done answers silent issued) (session, at, c) =
    subst (OthersStay old.sessions n) (sym c.becomes.sessions) (others_stay old.sessions n (Some (session_after old.start (old.applied ++ issued) session input c.effect)) session at)
others_as_before old new n input (Refused why with_session_closed) (session, at, h) = subst (OthersStay old.sessions n) (sym h.2.sessions) (others_stay old.sessions n (Some (session_after_refusal session input why)) session at)

-- ---- ascending UIDs

listing_rising : (start : Counters) (folder : List ℕ) (ops : List Op) → 1 ≤ start.uid → IsApplied ops → AreRisingRows 1 (listing start folder ops)
listing_rising start folder ops l a =
    let c = charted start folder ops a in
    subst (AreRisingRows 1) (rows_listed start folder ops c.2 c.3.are_entries c.3.ascending) (rising_chart start folder ops c.0 c.1 c.2 l c.3)

under_rising : (uidvalidity : ℕ) (now : Option ℕ) (rows : List ListedMessage) → AreRisingRows 1 rows → AreRisingRows 1 (rows_under uidvalidity now rows)
under_rising uidvalidity None rows h = tt
under_rising uidvalidity (Some now) rows h = elim (cases_Bool (nat_eq now uidvalidity)) [ inl t ↦ rw t h | inr f ↦ rw f tt ]

pub rows_rising : (start : Counters) (ops : List Op) (view : ViewState) → 1 ≤ start.uid → IsApplied ops → AreRisingRows 1 (rows_for start ops view)
rows_rising start ops view l a = under_rising view.uidvalidity (uidvalidity_of start view.name ops) (listing start view.name ops) (listing_rising start view.name ops l a)

-- a view's UIDs ascend, if there is one
abbrev Ascends : Option ViewState → Type 0
Ascends o = (view : ViewState) → o ≡ Some view → AreRising 1 view.entries

none_ascends : Ascends None
none_ascends = λ view e. let k : ◌≡◌ {A = Option ViewState} None (Some view) = e in absurd cc

one_ascends : (view : ViewState) → AreRising 1 view.entries → Ascends (Some view)
one_ascends view r = λ v e. let k : view ≡ v = cc in subst (λ (x : ViewState). AreRising 1 x.entries) k r

entries_ascend : (start : Counters) (ops : List Op) (o : Option ViewState) (silent : List SilentFlags) (answers : List Answer) → 1 ≤ start.uid → IsApplied ops → Ascends o → Ascends (view_after_replies start ops o silent answers)
entries_ascend start ops None silent answers l a h = none_ascends
entries_ascend start ops (Some view) silent answers l a h =
    one_ascends (record view { entries = view_after_reply (rows_for start ops view) view.entries silent answers }) (replay_rising (rows_for start ops view) view.entries silent answers (rows_rising start ops view l a) (h view refl))

base_ascends : (start : Counters) (ops : List Op) (o : Option ViewState) (command : Command) → Ascends o → Ascends (replay_base_of_command start ops o command)
base_ascends start ops o (commands.Select name condstore) h = one_ascends _ tt
base_ascends start ops o (commands.Examine name condstore) h = one_ascends _ tt
base_ascends start ops o commands.Logout h = none_ascends
base_ascends start ops o commands.Unselect h = none_ascends
base_ascends start ops o commands.Close h = none_ascends
base_ascends start ops o _ h = h

based_ascends : (start : Counters) (ops : List Op) (o : Option ViewState) (input : Input) → Ascends o → Ascends (replay_base_of start ops o input)
based_ascends start ops o (inputs.Command moment tagged) h = base_ascends start ops o tagged.command h
based_ascends start ops o (inputs.Line line) h = h
based_ascends start ops o inputs.Poll h = h

unless_ascends : (b : Bool) (o : Option ViewState) → Ascends o → Ascends (if b then None else o)
unless_ascends true o h = none_ascends
unless_ascends false o h = h

input_ascends : (start : Counters) (ops : List Op) (o : Option ViewState) (input : Input) (reply : Reply) → 1 ≤ start.uid → IsApplied ops → Ascends o → Ascends (view_after_input start ops o input reply)
input_ascends start ops o input (Done answers silent issued) l a h = entries_ascend start ops (replay_base_of start ops o input) silent answers l a (based_ascends start ops o input h)
input_ascends start ops o input (Refused why with_session_closed) l a h = unless_ascends (selects input) o h

-- if the other sessions stay, and one session's view ascends, all views ascend
pub all_ascend : (old new : NodeState) (n : ℕ) → OthersStay old.sessions n new.sessions → ViewsAscend old.sessions → Ascends (view_at new.sessions n) → ViewsAscend new.sessions
all_ascend old new n others h here = λ m view e.
    elim (eqb_tells m n) [
      | inl t ↦ here view (subst (λ (k : ℕ). view_at new.sessions k ≡ Some view) t.1 e)
      | inr f ↦ h m view (ap view_in (sym (others m f.1)) ∙ e)
    ]

pub inputs_ascend : (old new : NodeState) (n : ℕ) (input : Input) (reply : Reply) → 1 ≤ new.start.uid → IsApplied new.applied → Responds old n input reply new → ViewsAscend old.sessions → ViewsAscend new.sessions
inputs_ascend old new n input reply l a r h =
    all_ascend old new n (others_as_before old new n input reply r) h
    (subst Ascends (sym (replies_replay old new n input reply r)) (input_ascends new.start new.applied (view_at old.sessions n) input reply l a (λ view e. h n view e)))

pub views_ascend_after : (old new : NodeState) (n : ℕ) (input : Input) (reply : Reply) → 1 ≤ old.start.uid → IsApplied old.applied → Responds old n input reply new → ViewsAscend old.sessions → ViewsAscend new.sessions
views_ascend_after old new n input reply l a r h =
    let issues = issues_of_responds old new n input reply a r in
    inputs_ascend old new n input reply (subst (λ (s : Counters). 1 ≤ s.uid) (sym issues.start) l) issues.whole r h

pub stays_ascending : (old new : Places) → new ≡ old → ViewsAscend old → ViewsAscend new
stays_ascending old new e h = subst ViewsAscend (sym e) h

pub closes_alone : (old : NodeState) (n : ℕ) → IsOpen old.sessions n → OthersStay old.sessions n (with_session_closed old n).sessions
closes_alone old n new_session = let s = open_is (session_at old.sessions n) new_session in others_stay old.sessions n None s.0 s.1

pub closed_view : (old : NodeState) (n : ℕ) → IsOpen old.sessions n → view_at (with_session_closed old n).sessions n ≡ None
closed_view old n new_session = let s = open_is (session_at old.sessions n) new_session in ap view_in (session_put old.sessions n None s.0 s.1)

pub closes_ascend : (old : NodeState) (n : ℕ) → IsOpen old.sessions n → ViewsAscend old.sessions → ViewsAscend (with_session_closed old n).sessions
closes_ascend old n new_session h = all_ascend old (with_session_closed old n) n (closes_alone old n new_session) h (subst Ascends (sym (closed_view old n new_session)) none_ascends)

new_session_view : (auth : Auth) → view_of (new_session auth).state ≡ None
new_session_view Preauth = refl
new_session_view (Password credentials) = refl

pub opens_ascend : (old new : Places) (auth : Auth) (n : ℕ) → OpensSession old auth n new → ViewsAscend old → ViewsAscend new
opens_ascend old new auth n o h = λ m view e.
    elim (eqb_tells m n) [
      | inl t ↦ none_ascends view (sym (ap view_in o.open_now ∙ new_session_view auth) ∙ subst (λ (k : ℕ). view_at new k ≡ Some view) t.1 e)
      | inr f ↦ h m view (ap view_in (sym (o.others m f.1)) ∙ e)
    ]

-- if no session was ever open, there is no view
vacant : (zeroed : Bool) (i : ℕ) → cond zeroed None (get_or {A = Option Session} [] i None) ≡ None
vacant true i = refl
vacant false i = refl

pub no_view : (n : ℕ) → view_at [] n ≡ None
no_view n = ap view_in (vacant (eqb n 0) (n - 1))

pub begins_ascending : ViewsAscend []
begins_ascending = λ n view e. none_ascends view (sym (no_view n) ∙ e)
