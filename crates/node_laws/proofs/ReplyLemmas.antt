use Rattle.std.specs.Str.{bytes_eq}
use Rattle.std.specs.List.{filter, list_all}
use Rattle.std.specs.Prelude.{Ok, nat_lt}
use Rattle.std.proofs.lemmas.Slice.Eq.{bytes_eq-Decides}
use Rattle.std.proofs.Common.{◌≡◌, inl, inr, ℕ, ◌+◌, ◌-◌, ◌≤◌, Bool, true, false, List, [], ◌∷◌, ◌++◌, length, map, Option, Some, None, nat_eq, refl, sym, ap, ◌∙◌, subst, arith, if◌then◌else◌}
use Rattle.std.proofs.lemmas.Bool.{cases_Bool}
use Rattle.crdt_ops.proofs.Members.{in_filter}
use Rattle.crdt_ops.specs.declared.kind.Kind.{Kind}
use Rattle.crdt_ops.specs.declared.kind.Kind.TheVariants as kinds
use Rattle.crdt_ops.specs.declared.op.Op.{Op}
use Rattle.imap_answers.specs.Printable.{Each}
use Rattle.imap_answers.specs.declared.answer.Answer.{Answer}
use Rattle.imap_answers.specs.declared.answer.Answer.TheVariants as answers
use Rattle.imap_answers.specs.declared.codes.Code.{Code}
use Rattle.imap_answers.specs.declared.codes.Code.TheVariants as codes
use Rattle.imap_answers.specs.declared.codes.Notice.TheVariants as notices
use Rattle.imap_answers.specs.declared.fetch_items.FetchItems.{FetchItems}
use Rattle.imap_answers.specs.declared.fixed_words.CompletedWord.{CompletedWord}
use Rattle.imap_commands.specs.AppendCommand.{given_date}
use Rattle.imap_commands.specs.CopyCommand.{appends_of, copies_in, sources_of, moved_answers, expunges_of_moved}
use Rattle.imap_commands.specs.Report.{CommandReport}
use Rattle.imap_commands.specs.declared.session.Session.{Session}
use Rattle.imap_commands.specs.declared.session.State.{State}
use Rattle.imap_commands.specs.declared.session.State.TheVariants.{NotAuthenticated, Authenticated, Selected, LoggedOut}
use Rattle.imap_commands.proofs.PrintSelectLemmas.{each_append, each_in}
use Rattle.imap_syntax.specs.declared.arguments.Append.{Append}
use Rattle.imap_syntax.specs.declared.arguments.Transfer.{Transfer}
use Rattle.imap_syntax.specs.declared.command.Command.{Command}
use Rattle.imap_syntax.specs.declared.command.Command.TheVariants as commands
use Rattle.imap_types.specs.Keywords.{is_lawful_keyword}
use Rattle.imap_types.specs.Names.{inbox}
use Rattle.imap_types.specs.declared.sequence_set.SequenceRange.{SequenceRange}
use Rattle.mailbox_rows.specs.ListedMessage.{ListedMessage}
use Rattle.mailbox_rows.specs.RowViews.{rows_after_uid, row_of}
use Rattle.merge_laws.specs.Orders.{IsIn}
use Rattle.merge_laws.proofs.Lists.{in_parts}
use Rattle.session_view.specs.Replay.{view_after_reply}
use Rattle.session_view.specs.ViewState.{ViewState, rows_under}
use Rattle.session_view.specs.Sets.{is_in_range, numbers_in_set}
use Rattle.session_view.specs.Sync.{exists_if_more, exists_of_sync, fetch_if_changed, fetches_of_sync, expunges, is_listed, expunge_if_gone, expunges_of_sync, staying_entries, sync_answers}
use Rattle.session_view.specs.Views.{last_uid, same_flags}
use Rattle.session_view.specs.declared.view_entry.ViewEntry.{ViewEntry}
use Rattle.session_view.specs.declared.view_entry.SyncKind.{SyncKind}
use Rattle.session_view.specs.declared.view_entry.SyncKind.TheVariants.{Full, Partial}
use Rattle.session_view.specs.declared.reply_replay.SilentFlags.{SilentFlags}
use Rattle.uid_projection.specs.declared.first_numbers.Counters.{Counters}
use Rattle.uid_projection.specs.Applied.{IsApplied}
use Rattle.uid_projection.specs.Incarnations.{uidvalidity_of}
use Rattle.uid_projection.specs.Incarnations as incarnations
use Rattle.uid_projection.specs.UidsAndModSeqs.{uidnext_of}
use Rattle.uid_projection.specs.Listing.{listing}
use Rattle.uid_projection.proofs.ListingLemmas.{ids_applied}
use Rattle.imap_node.specs.Commands.{highest_answer_of, highest_answer, is_logged_in, is_idle, condstore_answer, sync_of, command_report, enables_condstore, command_intent, word_of}
use Rattle.imap_node.specs.InputEffects.{answers_of_effect, sync_result}
use Rattle.imap_node.specs.Mailboxes.{rows_for, validity_of}
use Rattle.imap_node.specs.Nodes.{NodeState}
use Rattle.imap_node.specs.Replays.{view_at, view_in, view_of}
use Rattle.imap_node.specs.Responses.{Responds, command_effect, condstore_is_on, tagged_lines_of}
use Rattle.imap_node.specs.declared.reply.Reply.TheVariants.{Done}
use Rattle.imap_node.proofs.IssueLemmas.{issues_of_responds}
use Rattle.imap_node.proofs.CopyTargetLemmas.{HasAll, IsCopying, appends_copying, removals_copying}
use Rattle.imap_node.proofs.MomentLemmas.{validity_is}
use Rattle.imap_node.proofs.ExistingFolderLemmas.{IsNoDelete, append_target_exists, copy_is, copy_target_exists, mapped_in, folder_still_exists, move_is, move_target_exists}
use Rattle.node_laws.specs.Copies.{AreCopied, IsCopyUid, HasCode, IsAppendUid, IsAddedRow, appends_among, request, is_append_to}
use Rattle.node_laws.proofs.CopyLemmas.{appends_filtered, code_parts, copied_all, kinds_are, moves_filtered}
use Rattle.node_laws.proofs.IdLemmas.{append_added, copying_stays, ids_added}

-- ---- the answers of a reply

module _ (P : Answer → Type 0) (exists : (n : ℕ) → P (answers.Exists n)) (expunge : (n : ℕ) → P (answers.Expunge n)) (fetch : (n : ℕ) (items : FetchItems) → P (answers.Fetch n items)) where
  each_loss : (rows : List ListedMessage) (n : ℕ) (e : ViewEntry) → Each P (expunge_if_gone rows n e)
  each_loss rows n e = elim (cases_Bool (is_listed rows e)) [ inl t ↦ rw t tt | inr f ↦ rw f (expunge n, tt) ]

  each_expunges : (rows : List ListedMessage) (n : ℕ) (es : List ViewEntry) → Each P (expunges rows n es)
  each_expunges rows n [] = tt
  each_expunges rows n (e ∷ es) = each_append P (expunges rows (n + 1) es) (expunge_if_gone rows n e) (each_expunges rows (n + 1) es) (each_loss rows n e)

  each_losses : (kind : SyncKind) (rows : List ListedMessage) (view : List ViewEntry) → Each P (expunges_of_sync kind rows view)
  each_losses Full rows view = each_expunges rows 1 view
  each_losses Partial rows view = tt

  each_announced : (before now : ℕ) → Each P (exists_if_more before now)
  each_announced before now = elim (cases_Bool (nat_lt before now)) [ inl t ↦ rw t (exists now, tt) | inr f ↦ rw f tt ]

  each_change : (modseq : Bool) (n : ℕ) (e : ViewEntry) (row : Option ListedMessage) → Each P (fetch_if_changed modseq n e row)
  each_change modseq n e None = tt
  each_change modseq n e (Some row) = elim (cases_Bool (same_flags e.flags row.flags)) [ inl t ↦ rw t tt | inr f ↦ rw f (fetch n _, tt) ]

  each_changes : (modseq : Bool) (rows : List ListedMessage) (n : ℕ) (es : List ViewEntry) → Each P (fetches_of_sync modseq rows n es)
  each_changes modseq rows n [] = tt
  each_changes modseq rows n (e ∷ es) = each_append P (fetch_if_changed modseq n e (row_of e.uid rows)) (fetches_of_sync modseq rows (n + 1) es) (each_change modseq n e (row_of e.uid rows)) (each_changes modseq rows (n + 1) es)

  each_synced : (kind : SyncKind) (modseq : Bool) (rows : List ListedMessage) (view : List ViewEntry) → Each P (sync_answers kind modseq rows view)
  each_synced kind modseq rows view =
      let stay = staying_entries kind rows view in
      each_append P (expunges_of_sync kind rows view) (exists_of_sync rows stay ++ fetches_of_sync modseq rows 1 stay) (each_losses kind rows view)
      (each_append P (exists_of_sync rows stay) (fetches_of_sync modseq rows 1 stay) (each_announced (length stay) (length stay + length (rows_after_uid (last_uid stay) rows))) (each_changes modseq rows 1 stay))

  each_ended : (start : Counters) (ops : List Op) (modseq : Bool) (state : State) (silent : List SilentFlags) (own : List Answer) → Each P (sync_result start ops (Some Full) modseq state silent own).answers
  each_ended start ops modseq (NotAuthenticated credentials) silent own = tt
  each_ended start ops modseq Authenticated silent own = tt
  each_ended start ops modseq LoggedOut silent own = tt
  each_ended start ops modseq (Selected view read_only) silent own = let rows = rows_for start ops view in each_synced Full modseq rows (view_after_reply rows view.entries silent own)

module _ (P : Answer → Type 0) (highest : (n : ℕ) → P (answers.UntaggedOk (notices.HighestModSeq n))) where
  highest_each : (uidvalidity : ℕ) (now : Option ℕ) (n : ℕ) → Each P (highest_answer uidvalidity now n)
  highest_each uidvalidity None n = tt
  highest_each uidvalidity (Some now) n = elim (cases_Bool (nat_eq now uidvalidity)) [ inl t ↦ rw t (highest n, tt) | inr f ↦ rw f tt ]

  each_highest : (start : Counters) (ops : List Op) (state : State) → Each P (highest_answer_of start ops state)
  each_highest start ops (NotAuthenticated credentials) = tt
  each_highest start ops Authenticated = tt
  each_highest start ops LoggedOut = tt
  each_highest start ops (Selected view read_only) = highest_each view.uidvalidity (uidvalidity_of start view.name ops) _

  each_noticed : (start : Counters) (ops : List Op) (state : State) (condstore : Bool) (command : Command) → Each P (condstore_answer start ops state condstore command)
  each_noticed start ops state condstore command = elim (cases_Bool (enables_condstore condstore command)) [ inl t ↦ rw t (each_highest start ops state) | inr f ↦ rw f tt ]

abbrev IsUntagged : Answer → Type 0
IsUntagged (answers.Completed tag code word) = ⊥
IsUntagged _ = Unit {0}

-- the code of the one tagged line
line_code : (own sync : List Answer) (tag : List ℕ) (code : Option Code) (word : CompletedWord) (intended : Code) → Each IsUntagged own → Each IsUntagged sync
    → HasCode intended (own ++ (sync ++ answers.Completed tag code word ∷ [])) → code ≡ Some intended
line_code own sync tag code word intended n s (t, w, i) =
    elim (in_parts (answers.Completed t (Some intended) w) own (sync ++ answers.Completed tag code word ∷ []) i) [
      | inl front ↦ absurd (each_in IsUntagged own (answers.Completed t (Some intended) w) n front)
      | inr back ↦ elim (in_parts (answers.Completed t (Some intended) w) sync (answers.Completed tag code word ∷ []) back) [
        | inl output ↦ absurd (each_in IsUntagged sync (answers.Completed t (Some intended) w) s output)
        | inr last ↦ elim last [ inl e ↦ cc | inr none ↦ absurd none ]
      ]
    ]

-- ---- the mailbox before the command

least_next : (start : Counters) (name : List ℕ) (ops : List Op) → 1 ≤ start.uid → 1 ≤ uidnext_of start name ops
least_next start name ops l = elim (cases_Bool (bytes_eq name inbox)) [ inl t ↦ rw t (omega arith) | inr f ↦ rw f (omega arith) ]

rows_under_has_all : (before : List Op) (uidvalidity : ℕ) (now : Option ℕ) (rows : List ListedMessage) → ((row : ListedMessage) → IsIn row rows → HasAll before row.versions) → (row : ListedMessage) → IsIn row (rows_under uidvalidity now rows) → HasAll before row.versions
rows_under_has_all before uidvalidity None rows h = λ row i. absurd i
rows_under_has_all before uidvalidity (Some now) rows h = elim (cases_Bool (nat_eq now uidvalidity)) [ inl t ↦ rw t h | inr f ↦ rw f (λ row i. absurd i) ]

rows_for_has_all : (start : Counters) (ops : List Op) (view : ViewState) → IsApplied ops → (row : ListedMessage) → IsIn row (rows_for start ops view) → HasAll ops row.versions
rows_for_has_all start ops view a = rows_under_has_all ops view.uidvalidity (uidvalidity_of start view.name ops) (listing start view.name ops) (λ row i. (ids_applied start view.name ops row a i).0)

-- ---- COPY

module _ (start : Counters) (before issued : List Op) (intended : List Kind) (least : 1 ≤ start.uid) (a : IsApplied (before ++ issued)) (m : map (λ (o : Op). o.kind) issued ≡ intended) (name : List ℕ) (t : incarnations.folder_exists name before ≡ true) where
  -- after operations that copy, the mailbox still exists
  copies_under : Each (IsCopying before) intended → uidvalidity_of start name (before ++ issued) ≡ Some (validity_of start name (before ++ issued))
  copies_under c = validity_is start name (before ++ issued) (folder_still_exists name before issued intended a m (λ kind i. copying_stays before kind (each_in (IsCopying before) intended kind c i)) t)

  copies_are : (rows : List ListedMessage) (view : List ViewEntry) (numbers : List ℕ) → Each (IsCopying before) intended → filter (is_append_to name) intended ≡ appends_of name rows view numbers
      → AreCopied rows (listing start name (before ++ issued)) name (sources_of rows view numbers) (copies_in (uidnext_of start name before) (listing start name (before ++ issued))) (appends_among name issued)
  copies_are rows view numbers c f =
      let added = listing start name (before ++ issued) in
      let low = uidnext_of start name before - 1 in
      let ids = ids_added start name before issued least (least_next start name before least) a t (λ o i. each_in (IsCopying before) intended o.kind c (subst (IsIn o.kind) m (mapped_in issued o i))) in
      copied_all rows added name view numbers (appends_among name issued) (rows_after_uid low added) (λ r i. ((in_filter (λ (row : ListedMessage). nat_lt low row.uid) added r).0 i).0) ids
      (kinds_are name issued intended (appends_of name rows view numbers) m f)

module _ (start : Counters) (before issued : List Op) (stamp : List ℕ) (intended : List Kind) (least : 1 ≤ start.uid) (b : IsApplied before) (a : IsApplied (before ++ issued)) (m : map (λ (o : Op). o.kind) issued ≡ intended) where
  -- the reported UIDs of a view's messages are right
  abbrev Reports : List ℕ → ViewState → ℕ → List ℕ → List ℕ → Type 0
  Reports name view v ss cs = (uidvalidity_of start name (before ++ issued) ≡ Some v) × AreCopied (rows_for start before view) (listing start name (before ++ issued)) name ss cs (appends_among name issued)

  reported_so : (name : List ℕ) (view : ViewState) (by_uid : Bool) (set : List SequenceRange) (v : ℕ) (ss cs : List ℕ) → incarnations.folder_exists name before ≡ true → Each (IsCopying before) intended
      → filter (is_append_to name) intended ≡ appends_of name (rows_for start before view) view.entries (numbers_in_set by_uid set view.entries)
      → validity_of start name (before ++ issued) ≡ v → sources_of (rows_for start before view) view.entries (numbers_in_set by_uid set view.entries) ≡ ss → copies_in (uidnext_of start name before) (listing start name (before ++ issued)) ≡ cs
      → Reports name view v ss cs
  reported_so name view by_uid set v ss cs t c f ev es ec =
      let rows = rows_for start before view in
      let added = listing start name (before ++ issued) in
      let numbers = numbers_in_set by_uid set view.entries in
      let under = copies_under start before issued intended least a m name t c in
      let are = copies_are start before issued intended least a m name t rows view.entries numbers c f in (
        under ∙ ap (λ (n : ℕ). Some n) ev,
        subst (λ (xs : List ℕ). AreCopied rows added name xs cs (appends_among name issued)) es
            (subst (λ (ys : List ℕ). AreCopied rows added name (sources_of rows view.entries numbers) ys (appends_among name issued)) ec are),
      )

  copy_reported : (state : State) (view : ViewState) (modseq : Bool) (transfer : Transfer) (v : ℕ) (ss cs : List ℕ) → view_of state ≡ Some view
      → command_intent start before stamp state (commands.Copy transfer) ≡ Ok intended → (command_report start before (before ++ issued) state modseq (commands.Copy transfer)).code ≡ Some (codes.CopyUid v ss cs) → Reports transfer.name view v ss cs
  copy_reported (NotAuthenticated credentials) view modseq transfer v ss cs s w e = absurd cc
  copy_reported Authenticated view modseq transfer v ss cs s w e = absurd cc
  copy_reported LoggedOut view modseq transfer v ss cs s w e = absurd cc
  copy_reported (Selected selected read_only) view modseq transfer v ss cs s w e =
      let rows = rows_for start before selected in
      let numbers = numbers_in_set transfer.by_uid transfer.messages selected.entries in
      let appends = appends_of transfer.name rows selected.entries numbers in
      let t = copy_target_exists (is_in_range transfer.by_uid transfer.messages selected.entries) (incarnations.folder_exists transfer.name before) appends intended w in
      let is = copy_is (is_in_range transfer.by_uid transfer.messages selected.entries) (incarnations.folder_exists transfer.name before) appends intended w in
      let same : selected ≡ view = cc in
      let p = code_parts rows selected.entries numbers (validity_of start transfer.name (before ++ issued)) v (sources_of rows selected.entries numbers) ss (copies_in (uidnext_of start transfer.name before) (listing start transfer.name (before ++ issued))) cs e in
      subst (λ (x : ViewState). Reports transfer.name x v ss cs) same
      (reported_so transfer.name selected transfer.by_uid transfer.messages v ss cs t (subst (Each (IsCopying before)) (sym is) (appends_copying before transfer.name rows selected.entries numbers))
      (ap (filter (is_append_to transfer.name)) is ∙ appends_filtered transfer.name rows selected.entries numbers) p.0 p.1 p.2)

-- the operations after the command
whole_of : (old new : NodeState) (issued : List Op) → new.applied ≡ old.applied ++ issued → IsApplied new.applied → IsApplied (old.applied ++ issued)
whole_of old new issued e a = subst IsApplied e a

-- the code of the tagged line of a reply to COPY or APPEND
module _ (start : Counters) (after : List Op) (session : Session) (tag : List ℕ) (report : CommandReport) (code : Code) (none : report.own ≡ []) where
  effect_code : (command : Command) → sync_of command ≡ Some Full → is_idle command ≡ false → HasCode code (answers_of_effect start after (command_effect start after session tag command report)) → report.code ≡ Some code
  effect_code command full loud h =
      let made = command_effect start after session tag command report in
      let noticed = condstore_answer start after session.state session.condstore command in
      let own : Each IsUntagged (noticed ++ report.own) =
      each_append IsUntagged noticed report.own (each_noticed IsUntagged (λ n. tt) start after session.state session.condstore command) (subst (Each IsUntagged) (sym none) tt) in
      let sent : Each IsUntagged (sync_result start after made.sync made.modseq made.state made.silent made.own).answers =
      subst (λ (s : Option SyncKind). Each IsUntagged (sync_result start after s made.modseq made.state made.silent made.own).answers) (sym full)
      (each_ended IsUntagged (λ n. tt) (λ n. tt) (λ n items. tt) start after made.modseq made.state made.silent made.own) in
      let tail : tagged_lines_of tag command report.code ≡ answers.Completed tag report.code (word_of command) ∷ [] = ap (λ (b : Bool). if b then [] else answers.Completed tag report.code (word_of command) ∷ []) loud in
      line_code (noticed ++ report.own) (sync_result start after made.sync made.modseq made.state made.silent made.own).answers tag report.code (word_of command) code own sent
      (subst (λ (xs : List Answer). HasCode code ((noticed ++ report.own) ++ ((sync_result start after made.sync made.modseq made.state made.silent made.own).answers ++ xs))) tail h)

copy_owns : (start : Counters) (before after : List Op) (state : State) (modseq : Bool) (transfer : Transfer) → (command_report start before after state modseq (commands.Copy transfer)).own ≡ []
copy_owns start before after (NotAuthenticated credentials) modseq transfer = refl
copy_owns start before after Authenticated modseq transfer = refl
copy_owns start before after LoggedOut modseq transfer = refl
copy_owns start before after (Selected view read_only) modseq transfer = refl

pub copies_reported : (old new : NodeState) (n moment : ℕ) (tag : List ℕ) (transfer : Transfer) (output : List Answer) (silent : List SilentFlags) (issued : List Op) (view : ViewState) (v : ℕ) (ss cs : List ℕ)
    → 1 ≤ old.start.uid → IsApplied old.applied → Responds old n (request moment tag (commands.Copy transfer)) (Done output silent issued) new → view_at old.sessions n ≡ Some view → HasCode (codes.CopyUid v ss cs) output
    → IsCopyUid old new view transfer.name issued v ss cs
copies_reported old new n moment tag transfer output silent issued view v ss cs least b r selected code =
    let command = commands.Copy transfer in
    let session = r.0 in
    let c = r.2 in
    let start = old.start in
    let after = old.applied ++ issued in
    let report = c.taken.0 in
    let is = c.taken.1 in
    let a = whole_of old new issued c.becomes.applied (issues_of_responds old new n (request moment tag command) (Done output silent issued) b r).whole in
    let here : view_of session.state ≡ Some view = ap view_in (sym r.1) ∙ selected in
    let none : report.own ≡ [] = ap (λ (x : CommandReport). x.own) is ∙ copy_owns start old.applied after session.state (condstore_is_on session command) transfer in
    let sent : output ≡ answers_of_effect start after (command_effect start after session tag command report) = c.answers_are ∙ ap (answers_of_effect start after) c.taken.2 in
    let code_is = effect_code start after session tag report (codes.CopyUid v ss cs) none command refl refl (subst (HasCode (codes.CopyUid v ss cs)) sent code) in
    let so = copy_reported start old.applied issued c.stamp c.kinds least b a c.next.of_kinds session.state view (condstore_is_on session command) transfer v ss cs here c.intended (ap (λ (x : CommandReport). x.code) (sym is) ∙ code_is) in
    record {
      under = subst (λ (x : Counters). uidvalidity_of x transfer.name new.applied ≡ Some v) (sym c.becomes.start) (subst (λ (os : List Op). uidvalidity_of start transfer.name os ≡ Some v) (sym c.becomes.applied) so.0);
      copied = subst (λ (x : Counters). AreCopied (rows_for start old.applied view) (listing x transfer.name new.applied) transfer.name ss cs (appends_among transfer.name issued)) (sym c.becomes.start)
          (subst (λ (os : List Op). AreCopied (rows_for start old.applied view) (listing start transfer.name os) transfer.name ss cs (appends_among transfer.name issued)) (sym c.becomes.applied) so.1);
    }

-- ---- APPEND

one_issued : (issued : List Op) (intended : List Kind) (one : Kind) → map (λ (o : Op). o.kind) issued ≡ intended → intended ≡ one ∷ [] → (o : Op) × (issued ≡ o ∷ []) × (o.kind ≡ one)
one_issued [] intended one m w = absurd cc
one_issued (o ∷ []) intended one m w = (o, refl, cc)
one_issued (o ∷ p ∷ issued) intended one m w = absurd cc

one_stays : (name : List ℕ) (one : Kind) (intended : List Kind) → IsNoDelete one → intended ≡ one ∷ [] → (kind : Kind) → IsIn kind intended → IsNoDelete kind
one_stays name one intended k e kind i = elim (subst (IsIn kind) e i) [ inl x ↦ subst IsNoDelete x k | inr x ↦ absurd x ]

pub append_reported : (old new : NodeState) (n moment : ℕ) (tag : List ℕ) (append : Append) (output : List Answer) (silent : List SilentFlags) (issued : List Op) (v number : ℕ)
    → IsApplied old.applied → Responds old n (request moment tag (commands.Append append)) (Done output silent issued) new → HasCode (codes.AppendUid v number) output → IsAppendUid new append.name issued v number
append_reported old new n moment tag append output silent issued v number b r code =
    let command = commands.Append append in
    let session = r.0 in
    let c = r.2 in
    let start = old.start in
    let after = old.applied ++ issued in
    let report = c.taken.0 in
    let is = c.taken.1 in
    let a = whole_of old new issued c.becomes.applied (issues_of_responds old new n (request moment tag command) (Done output silent issued) b r).whole in
    let none : report.own ≡ [] = ap (λ (x : CommandReport). x.own) is in
    let sent : output ≡ answers_of_effect start after (command_effect start after session tag command report) = c.answers_are ∙ ap (answers_of_effect start after) c.taken.2 in
    let code_is = effect_code start after session tag report (codes.AppendUid v number) none command refl refl (subst (HasCode (codes.AppendUid v number)) sent code) in
    let e : ◌≡◌ {A = Option Code} (Some (codes.AppendUid (validity_of start append.name after) (uidnext_of start append.name old.applied))) (Some (codes.AppendUid v number)) = ap (λ (x : CommandReport). x.code) (sym is) ∙ code_is in
    let ev : validity_of start append.name after ≡ v = cc in
    let en : uidnext_of start append.name old.applied ≡ number = cc in
    let one = kinds.Append append.name append.flags (given_date append.date c.stamp) append.text in
    let t = append_target_exists (is_logged_in session.state) (incarnations.folder_exists append.name old.applied) (list_all is_lawful_keyword append.flags.keywords) (nat_lt 32 (length append.flags.keywords)) one c.kinds c.intended in
    let o = one_issued issued c.kinds one c.next.of_kinds t.1 in
    let still_exists = folder_still_exists append.name old.applied issued c.kinds a c.next.of_kinds (one_stays append.name one c.kinds tt t.1) t.0 in
    let own : is_append_to append.name o.0.kind ≡ true = ap (is_append_to append.name) o.2 ∙ (bytes_eq-Decides append.name append.name).1 refl in
    let row : IsAddedRow (listing start append.name after) (uidnext_of start append.name old.applied) o.0 =
    subst (λ (os : List Op). IsAddedRow (listing start append.name (old.applied ++ os)) (uidnext_of start append.name old.applied) o.0) (sym o.1)
    (append_added start append.name old.applied o.0 (subst (λ (os : List Op). IsApplied (old.applied ++ os)) o.1 a) (subst (λ (os : List Op). incarnations.folder_exists append.name (old.applied ++ os) ≡ true) o.1 still_exists) own) in
    let under : uidvalidity_of start append.name after ≡ Some v = validity_is start append.name after still_exists ∙ ap (λ (x : ℕ). Some x) ev in
    record {
      under = subst (λ (x : Counters). uidvalidity_of x append.name new.applied ≡ Some v) (sym c.becomes.start) (subst (λ (os : List Op). uidvalidity_of start append.name os ≡ Some v) (sym c.becomes.applied) under);
      op = o.0;
      only = o.1;
      added = subst (λ (x : Counters). IsAddedRow (listing x append.name new.applied) number o.0) (sym c.becomes.start)
          (subst (λ (os : List Op). IsAddedRow (listing start append.name os) number o.0) (sym c.becomes.applied) (subst (λ (x : ℕ). IsAddedRow (listing start append.name after) x o.0) en row));
    }

-- ---- MOVE

abbrev IsNoCopyUid : Answer → Type 0
IsNoCopyUid (answers.UntaggedOk (notices.CopyUid v sources copies)) = ⊥
IsNoCopyUid _ = Unit {0}

moved_parts : (u v : ℕ) (ss sources cs copies : List ℕ) → IsIn (answers.UntaggedOk (notices.CopyUid v sources copies)) (moved_answers u ss cs) → (u ≡ v) × (ss ≡ sources) × (cs ≡ copies)
moved_parts u v [] sources cs copies i = absurd i
moved_parts u v (s ∷ ss) sources cs copies i = elim i [ inl e ↦ (cc, cc, cc) | inr none ↦ absurd none ]

module _ (start : Counters) (before issued : List Op) (stamp : List ℕ) (intended : List Kind) (least : 1 ≤ start.uid) (b : IsApplied before) (a : IsApplied (before ++ issued)) (m : map (λ (o : Op). o.kind) issued ≡ intended) where
  move_reported : (state : State) (view : ViewState) (modseq : Bool) (transfer : Transfer) (v : ℕ) (ss cs : List ℕ) → view_of state ≡ Some view
      → command_intent start before stamp state (commands.Move transfer) ≡ Ok intended → IsIn (answers.UntaggedOk (notices.CopyUid v ss cs)) (command_report start before (before ++ issued) state modseq (commands.Move transfer)).own
      → (uidvalidity_of start transfer.name (before ++ issued) ≡ Some v) × AreCopied (rows_for start before view) (listing start transfer.name (before ++ issued)) transfer.name ss cs (appends_among transfer.name issued)
  move_reported (NotAuthenticated credentials) view modseq transfer v ss cs s w e = absurd cc
  move_reported Authenticated view modseq transfer v ss cs s w e = absurd cc
  move_reported LoggedOut view modseq transfer v ss cs s w e = absurd cc
  move_reported (Selected selected read_only) view modseq transfer v ss cs s w e =
      let rows = rows_for start before selected in
      let numbers = numbers_in_set transfer.by_uid transfer.messages selected.entries in
      let appends = appends_of transfer.name rows selected.entries numbers in
      let removals = expunges_of_moved selected.name rows selected.entries numbers in
      let t = move_target_exists (is_in_range transfer.by_uid transfer.messages selected.entries) read_only (incarnations.folder_exists transfer.name before) (appends ++ removals) intended w in
      let is = move_is (is_in_range transfer.by_uid transfer.messages selected.entries) read_only (incarnations.folder_exists transfer.name before) (appends ++ removals) intended w in
      let copying = each_append (IsCopying before) appends removals (appends_copying before transfer.name rows selected.entries numbers) (removals_copying before selected.name rows selected.entries numbers (rows_for_has_all start before selected b)) in
      let same : selected ≡ view = cc in
      let p = moved_parts (validity_of start transfer.name (before ++ issued)) v (sources_of rows selected.entries numbers) ss (copies_in (uidnext_of start transfer.name before) (listing start transfer.name (before ++ issued))) cs e in
      subst (λ (x : ViewState). (uidvalidity_of start transfer.name (before ++ issued) ≡ Some v) × AreCopied (rows_for start before x) (listing start transfer.name (before ++ issued)) transfer.name ss cs (appends_among transfer.name issued)) same
      (reported_so start before issued stamp intended least b a m transfer.name selected transfer.by_uid transfer.messages v ss cs t (subst (Each (IsCopying before)) (sym is) copying)
      (ap (filter (is_append_to transfer.name)) is ∙ moves_filtered selected.name transfer.name rows selected.entries numbers) p.0 p.1 p.2)

-- COPYUID in a reply to MOVE is one of the command's own answers
move_own : (start : Counters) (after : List Op) (session : Session) (tag : List ℕ) (report : CommandReport) (transfer : Transfer) (v : ℕ) (ss cs : List ℕ)
    → IsIn (answers.UntaggedOk (notices.CopyUid v ss cs)) (answers_of_effect start after (command_effect start after session tag (commands.Move transfer) report)) → IsIn (answers.UntaggedOk (notices.CopyUid v ss cs)) report.own
move_own start after session tag report transfer v ss cs i =
    let command = commands.Move transfer in
    let intended = answers.UntaggedOk (notices.CopyUid v ss cs) in
    let made = command_effect start after session tag command report in
    let noticed = condstore_answer start after session.state session.condstore command in
    let sent = (sync_result start after made.sync made.modseq made.state made.silent made.own).answers in
    let quiet : Each IsNoCopyUid noticed = each_noticed IsNoCopyUid (λ n. tt) start after session.state session.condstore command in
    let synced : Each IsNoCopyUid sent = each_ended IsNoCopyUid (λ n. tt) (λ n. tt) (λ n items. tt) start after made.modseq made.state made.silent made.own in
    elim (in_parts intended (noticed ++ report.own) (sent ++ made.tail) i) [
      | inl front ↦ elim (in_parts intended noticed report.own front) [ inl n ↦ absurd (each_in IsNoCopyUid noticed intended quiet n) | inr own ↦ own ]
      | inr back ↦ elim (in_parts intended sent made.tail back) [ inl s ↦ absurd (each_in IsNoCopyUid sent intended synced s) | inr last ↦ elim last [ inl e ↦ absurd cc | inr none ↦ absurd none ] ]
    ]

pub moves_reported : (old new : NodeState) (n moment : ℕ) (tag : List ℕ) (transfer : Transfer) (output : List Answer) (silent : List SilentFlags) (issued : List Op) (view : ViewState) (v : ℕ) (ss cs : List ℕ)
    → 1 ≤ old.start.uid → IsApplied old.applied → Responds old n (request moment tag (commands.Move transfer)) (Done output silent issued) new → view_at old.sessions n ≡ Some view → IsIn (answers.UntaggedOk (notices.CopyUid v ss cs)) output
    → IsCopyUid old new view transfer.name issued v ss cs
moves_reported old new n moment tag transfer output silent issued view v ss cs least b r selected i =
    let command = commands.Move transfer in
    let session = r.0 in
    let c = r.2 in
    let start = old.start in
    let after = old.applied ++ issued in
    let report = c.taken.0 in
    let is = c.taken.1 in
    let a = whole_of old new issued c.becomes.applied (issues_of_responds old new n (request moment tag command) (Done output silent issued) b r).whole in
    let here : view_of session.state ≡ Some view = ap view_in (sym r.1) ∙ selected in
    let sent : output ≡ answers_of_effect start after (command_effect start after session tag command report) = c.answers_are ∙ ap (answers_of_effect start after) c.taken.2 in
    let own = move_own start after session tag report transfer v ss cs (subst (IsIn (answers.UntaggedOk (notices.CopyUid v ss cs))) sent i) in
    let so = move_reported start old.applied issued c.stamp c.kinds least b a c.next.of_kinds session.state view (condstore_is_on session command) transfer v ss cs here c.intended
    (subst (λ (x : CommandReport). IsIn (answers.UntaggedOk (notices.CopyUid v ss cs)) x.own) is own) in
    record {
      under = subst (λ (x : Counters). uidvalidity_of x transfer.name new.applied ≡ Some v) (sym c.becomes.start) (subst (λ (os : List Op). uidvalidity_of start transfer.name os ≡ Some v) (sym c.becomes.applied) so.0);
      copied = subst (λ (x : Counters). AreCopied (rows_for start old.applied view) (listing x transfer.name new.applied) transfer.name ss cs (appends_among transfer.name issued)) (sym c.becomes.start)
          (subst (λ (os : List Op). AreCopied (rows_for start old.applied view) (listing start transfer.name os) transfer.name ss cs (appends_among transfer.name issued)) (sym c.becomes.applied) so.1);
    }
