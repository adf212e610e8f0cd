-- The change of sessions, and what they must still be sent after it.
use Rattle.std.specs.List.{list_any}
use Rattle.std.specs.Option.{option_map}
use Rattle.std.proofs.Common.{◌≡◌, ◌⊎◌, inl, inr, ℕ, zero, suc, ◌<◌, ◌≤◌, ◌+◌, ◌-◌, Bool, false, List, [], ◌∷◌, ◌++◌, length, take, Option, Some, None, refl, sym, ap, ◌∙◌, subst, arith}
use Rattle.std.specs.Prelude.{nat_eq, nat_lt, slice_index_or, slice_set}
use Rattle.std.proofs.lemmas.Bool.{cases_Bool, false≢true}
use Rattle.std.proofs.lemmas.Bool.Decides.{nat_tests}
use Rattle.std.proofs.lemmas.List.{get_or-set_other, get_or-set_same, length-append, take_at}
use Rattle.causal_inbox.specs.ReceivedSets.{HasGrown}
use Rattle.crdt_ops.specs.declared.op.Op.{Op}
use Rattle.idle_feed.specs.Feeds.{FeedState, Pending}
use Rattle.imap_answers.specs.declared.answer.Answer.{Answer}
use Rattle.imap_commands.specs.declared.session.Session.{Session}
use Rattle.imap_commands.specs.declared.session.State.{State}
use Rattle.imap_commands.specs.declared.session.State.TheVariants.{Selected}
use Rattle.imap_node.specs.declared.session_change.SessionChange.{SessionChange}
use Rattle.imap_node.specs.declared.session_change.StateChange.{StateChange}
use Rattle.imap_node.specs.declared.session_change.StateChange.TheVariants.{Stays}
use Rattle.imap_node.specs.InputEffects.{SyncInput, IsListingFor, answers_of_sync, sync_result_after, entries_after_sync}
use Rattle.imap_node.specs.SessionFeeds.{AreAllNoted, MailboxNotes, IsFeedAfterNotes, AreChangeNotes, IsNotedFor, IsSettled, UnsentChanges, missing_feed, notes_in, pending_at}
use Rattle.imap_node.specs.SessionChanges.{CanChangeSession, ChangeLeaves, LeavesNoted, changed_session, changed_state, state_with}
use Rattle.imap_node.specs.Mailboxes.{rows_for}
use Rattle.imap_node.specs.Replays.{view_at, view_in, view_of}
use Rattle.imap_node.specs.Sessions.{Places, without_idle, session_at, with_session}
use Rattle.imap_node.specs.declared.plan.SessionStep.{SessionStep}
use Rattle.imap_node.specs.declared.plan.SessionStep.TheVariants.{Advances}
use Rattle.imap_node.specs.Plans.{CanStep}
use Rattle.imap_node.proofs.SessionLemmas.{others_stay, session_put}
use Rattle.mailbox_rows.specs.ListedMessage.{ListedMessage}
use Rattle.session_view.proofs.CurrentLemmas.{nothing_sent, view_stays}
use Rattle.session_view.proofs.NoteChangeLemmas.{new_listing}
use Rattle.session_view.specs.NoteChanges.{NoteAllChanges, all_fetched_flags, is_shifting}
use Rattle.session_view.specs.Replay.{after_silent, view_after_reply}
use Rattle.session_view.specs.ViewState.{ViewState}
use Rattle.session_view.specs.Sync.{sync_answers, view_after_sync}
use Rattle.session_view.specs.Views.{AreRising, entries_of}
use Rattle.session_view.specs.declared.notes.Note.{Note}
use Rattle.session_view.specs.declared.view_entry.ViewEntry.{ViewEntry}
use Rattle.session_view.specs.declared.view_entry.SyncKind.{SyncKind}
use Rattle.session_view.specs.declared.reply_replay.SilentFlags.{SilentFlags}
use Rattle.uid_projection.specs.declared.first_numbers.Counters.{Counters}
use Rattle.idle_feed.specs.NotedFeeds.{CanCommit, IsChangeTo, NotesAllOf, entries_after_change}
use Rattle.idle_feed.specs.declared.view_change.ViewChange.{ViewChange}
use Rattle.imap_node.proofs.OwnLemmas.{view_after_reply_own}

-- ---- a sync in place

module _ (start : Counters) (after : List Op) (state : State) (view : ViewState) (read_only : Bool) (front : SyncInput) (kind : SyncKind) (rows : List ListedMessage) (first : List SilentFlags)
    (is : state ≡ Selected view read_only) (k : front.sync ≡ Some kind) (stays : list_any is_shifting front.own ≡ false) (r : rows ≡ rows_for start after view)
    (f : after_silent view.entries first ≡ after_silent view.entries (front.silent ++ all_fetched_flags front.own)) where
  view_after_first : after_silent view.entries first ≡ view_after_reply (rows_for start after view) view.entries front.silent front.own
  view_after_first = f ∙ sym (view_after_reply_own (rows_for start after view) view.entries front.silent front.own stays)

  pub answers_in_place : (answers : List Answer) → answers ≡ sync_answers kind front.modseq rows (after_silent view.entries first) → answers ≡ (sync_result_after start after state front).answers
  answers_in_place answers e =
      e
      ∙ (λ i. sync_answers kind front.modseq (r i) (view_after_first i))
      ∙ ap (λ (s : Option SyncKind). answers_of_sync s front.modseq (rows_for start after view) (view_after_reply (rows_for start after view) view.entries front.silent front.own)) (sym k)
      ∙ ap (λ (s : State). (sync_result_after start after s front).answers) (sym is)

  pub shown_in_place : (change : ViewChange) → entries_after_change view.entries change ≡ view_after_sync kind rows (after_silent view.entries first) → state_with state (Some change) ≡ (sync_result_after start after state front).state
  shown_in_place change e =
      ap (λ (s : State). state_with s (Some change)) is
      ∙ ap (λ (es : List ViewEntry). Selected (record view { entries = es }) read_only)
      (e ∙ (λ i. view_after_sync kind (r i) (view_after_first i)) ∙ ap (λ (s : Option SyncKind). entries_after_sync s (rows_for start after view) (view_after_reply (rows_for start after view) view.entries front.silent front.own)) (sym k))
      ∙ ap (λ (s : State). (sync_result_after start after s front).state) (sym is)

  pub can_change_in_place : (change : ViewChange) → CanCommit view.entries change → IsChangeTo rows view.entries change → CanChangeSession start after state (Stays (Some change))
  can_change_in_place change c l =
      subst (λ (s : State). CanChangeSession start after s (Stays (Some change))) (sym is) (record { make = c; leaves = subst (λ (rs : List ListedMessage). IsChangeTo rs view.entries change) r l })

-- a listing made for a state has the rows of its view
pub rows_made_for_state : (start : Counters) (ops : List Op) (state : State) (view : ViewState) (read_only : Bool) (made : Option (List ListedMessage)) (rows : List ListedMessage) → state ≡ Selected view read_only → made ≡ Some rows → IsListingFor start ops state made → rows ≡ rows_for start ops view
rows_made_for_state start ops state view read_only made rows is e h =
    subst (λ (m : Option (List ListedMessage)). IsListingFor start ops (Selected view read_only) m) e (subst (λ (s : State). IsListingFor start ops s made) is h)

-- the requirements of a view's sync
pub asked_in_place : (start : Counters) (before after : List Op) (view : ViewState) (pending : Pending) (changes : List MailboxNotes) (rows : List ListedMessage) (notes : List Note) (name : List ℕ) → IsNotedFor start before pending view → AreChangeNotes start before after changes
    → rows ≡ rows_for start after view → name ≡ view.name → notes ≡ notes_in changes name → (listed : List ListedMessage) × NotesAllOf pending listed view.entries × NoteAllChanges notes rows (entries_of listed)
asked_in_place start before after view pending changes rows notes name noted is r n e = (
  rows_for start before view,
  noted,
  subst (λ (rs : List ListedMessage). NoteAllChanges notes rs (entries_of (rows_for start before view))) (sym r)
      (subst (λ (ns : List Note). NoteAllChanges ns (rows_for start after view) (entries_of (rows_for start before view))) (sym (e ∙ ap (notes_in changes) n)) (is view.name view.uidvalidity)),
)

-- ---- the change of one session

pub leaves_in : (start : Counters) (ops : List Op) (state : State) (view : ViewState) (read_only : Bool) (given : Option ViewChange) (change : ViewChange) → state ≡ Selected view read_only → given ≡ Some change → ChangeLeaves start ops state given
    → IsChangeTo (rows_for start ops view) view.entries change
leaves_in start ops state view read_only given change is g h = subst (λ (s : State). ChangeLeaves start ops s (Some change)) is (subst (ChangeLeaves start ops state) g h)

pub same_session : (s t : Session) → ◌≡◌ {A = Option Session} (Some s) (Some t) → s ≡ t
same_session s t e = cc

pub same_view : (v w : ViewState) → ◌≡◌ {A = Option ViewState} (Some v) (Some w) → v ≡ w
same_view v w e = cc

no_view : (v : ViewState) → ◌≡◌ {A = Option ViewState} None (Some v) → ⊥
no_view v e = cc

-- a session's change leaves its feed correct
abbrev pub StaysNoted : Counters → List Op → StateChange → Pending → Pending → Session → Type 0
StaysNoted start ops state_change was now s =
    LeavesNoted start ops s.state state_change → ((view : ViewState) → view_of s.state ≡ Some view → IsNotedFor start ops was view) → (view : ViewState) → view_of (changed_state s.state state_change) ≡ Some view → IsNotedFor start ops now view

pub changed_noted : (start : Counters) (ops : List Op) (update : SessionChange) (old new : Option Session) (was now : Pending) → new ≡ option_map (λ s. changed_session s update) old → ((s : Session) → old ≡ Some s → StaysNoted start ops update.state_change was now s)
    → ((s : Session) → old ≡ Some s → LeavesNoted start ops s.state update.state_change) → ((view : ViewState) → view_in old ≡ Some view → IsNotedFor start ops was view) → (view : ViewState) → view_in new ≡ Some view → IsNotedFor start ops now view
changed_noted start ops update None new was now e leaves_noted leaves noted view q = absurd (no_view view (sym (ap view_in e) ∙ q))
changed_noted start ops update (Some s) new was now e leaves_noted leaves noted view q = leaves_noted s refl (leaves s refl) noted view (sym (ap view_in e) ∙ q)

-- ---- all sessions

place_at : (places : Places) (n : ℕ) → 0 < n → session_at places n ≡ slice_index_or places (n - 1) None
place_at places n l = let f : nat_eq n 0 ≡ false = grind (arith, nat_tests) in rw f refl

module _ (start : Counters) (ops : List Op) (places : Places) (feeds : List FeedState) (n : ℕ) (positive : 0 < n) (inside : n - 1 < length places) (noted : AreAllNoted start ops places feeds) (place : Option Session) where
  other_place : (m : ℕ) → 0 < m → nat_eq m n ≡ false → slice_index_or (slice_set places (n - 1) place) (m - 1) None ≡ slice_index_or places (m - 1) None
  other_place m l f = get_or-set_other places (n - 1) (m - 1) place None (λ e. let k = f in grind (arith, nat_tests))

  own_place : slice_index_or (slice_set places (n - 1) place) (n - 1) None ≡ place
  own_place = get_or-set_same places (n - 1) place None inside

  other_view : (m : ℕ) (view : ViewState) → 0 < m → nat_eq m n ≡ false → view_at (slice_set places (n - 1) place) m ≡ Some view → IsNotedFor start ops (pending_at feeds m) view
  other_view m view l f q =
      noted m view (ap view_in (place_at places m l ∙ sym (other_place m l f) ∙ sym (place_at (slice_set places (n - 1) place) m l)) ∙ q)

  own_view : (view : ViewState) → view_at (slice_set places (n - 1) place) n ≡ Some view → view_in place ≡ Some view
  own_view view q = ap view_in (sym own_place ∙ sym (place_at (slice_set places (n - 1) place) n positive)) ∙ q

  pub all_noted_set_feed : (feed : FeedState) → n - 1 < length feeds → ((view : ViewState) → view_in place ≡ Some view → IsNotedFor start ops feed.pending view) → AreAllNoted start ops (slice_set places (n - 1) place) (slice_set feeds (n - 1) feed)
  all_noted_set_feed feed within own zero view q = absurd (no_view view q)
  all_noted_set_feed feed within own (suc m) view q =
      elim (cases_Bool (nat_eq (suc m) n)) [
        | inl t ↦
            let e : suc m ≡ n = grind (arith, nat_tests) in
            subst (λ (k : ℕ). IsNotedFor start ops (pending_at (slice_set feeds (n - 1) feed) k) view) (sym e)
            (subst (λ (k : FeedState). IsNotedFor start ops k.pending view) (sym (get_or-set_same feeds (n - 1) feed missing_feed within)) (own view (own_view view (subst (λ (k : ℕ). view_at (slice_set places (n - 1) place) k ≡ Some view) e q))))
        | inr f ↦
            subst (λ (k : FeedState). IsNotedFor start ops k.pending view) (sym (get_or-set_other feeds (n - 1) (suc m - 1) feed missing_feed (λ e. let k = f in let l = positive in grind (arith, nat_tests)))) (other_view (suc m) view (omega arith) f q)
      ]

  pub all_lacking : length feeds ≤ n - 1 → AreAllNoted start ops (slice_set places (n - 1) place) feeds
  all_lacking beyond zero view q = absurd (no_view view q)
  all_lacking beyond (suc m) view q =
      elim (cases_Bool (nat_eq (suc m) n)) [
        | inl t ↦
            let e : suc m ≡ n = grind (arith, nat_tests) in
            subst (λ (k : ℕ). IsNotedFor start ops (pending_at feeds k) view) (sym e) (subst (λ (k : FeedState). IsNotedFor start ops k.pending view) (sym (none_beyond feeds (n - 1) beyond)) (inl refl))
        | inr f ↦ other_view (suc m) view (omega arith) f q
      ]
    where
      none_beyond : (ks : List FeedState) (k : ℕ) → length ks ≤ k → slice_index_or ks k missing_feed ≡ missing_feed
      none_beyond [] k l = refl
      none_beyond (x ∷ ks) zero l = absurd (omega arith)
      none_beyond (x ∷ ks) (suc k) l = none_beyond ks k (omega arith)

-- the feeds with the change notes of all mailboxes added
pub all_after_notes : (start : Counters) (before after : List Op) (places : Places) (old new : List FeedState) → AreAllNoted start before places old
    → ((n : ℕ) (view : ViewState) → view_in (slice_index_or places n None) ≡ Some view → IsNotedFor start before (slice_index_or old n missing_feed).pending view → IsNotedFor start after (slice_index_or new n missing_feed).pending view)
    → AreAllNoted start after places new
all_after_notes start before after places old new noted h n view q =
    elim (cases_Bool (nat_eq n 0)) [
      | inl t ↦ absurd (no_view view (rw t at q))
      | inr f ↦
          let positive : 0 < n = grind (arith, nat_tests) in
          h (n - 1) view (ap view_in (sym (place_at places n positive)) ∙ q) (noted n view q)
    ]

-- the session at a place within the list
pub own_session : (places : Places) (n : ℕ) (old : Option Session) → 0 < n → n - 1 < length places → old ≡ slice_index_or places (n - 1) old → session_at places n ≡ old
own_session places n old l within e = place_at places n l ∙ any_default places (n - 1) None old within ∙ sym e
  where
    any_default : (ps : Places) (k : ℕ) (a b : Option Session) → k < length ps → slice_index_or ps k a ≡ slice_index_or ps k b
    any_default [] k a b l = absurd (omega arith)
    any_default (p ∷ ps) zero a b l = refl
    any_default (p ∷ ps) (suc k) a b l = any_default ps k a b (omega arith)

pub pending_default : (feeds : List FeedState) (k : ℕ) (was : FeedState) → k < length feeds → was ≡ slice_index_or feeds k was → slice_index_or feeds k missing_feed ≡ was
pending_default feeds k was within e = any_feed feeds k missing_feed was within ∙ sym e
  where
    any_feed : (ks : List FeedState) (k : ℕ) (a b : FeedState) → k < length ks → slice_index_or ks k a ≡ slice_index_or ks k b
    any_feed [] k a b l = absurd (omega arith)
    any_feed (x ∷ ks) zero a b l = refl
    any_feed (x ∷ ks) (suc k) a b l = any_feed ks k a b (omega arith)

-- each feed with its change notes added
pub each_after_notes : (changes : List MailboxNotes) (places : Places) (old new : List FeedState) (k : ℕ) → length new ≡ length old → length old ≤ k
    → ((n : ℕ) → n < k → IsFeedAfterNotes changes (slice_index_or places n None) (slice_index_or old n missing_feed).pending (slice_index_or new n missing_feed).pending) → ((n : ℕ) → k ≤ n → slice_index_or new n missing_feed ≡ slice_index_or old n missing_feed)
    → (start : Counters) (before after : List Op) → AreChangeNotes start before after changes → AreAllNoted start before places old → AreAllNoted start after places new
each_after_notes changes places old new k e l done rest start before after is noted =
    all_after_notes start before after places old new noted
    (λ n view q h. elim (cases_Bool (nat_lt n k)) [
      | inl t ↦ (done n (grind (arith, nat_tests))).noted start before after view is q h
      | inr f ↦
          let b : k ≤ n = grind (arith, nat_tests) in
          subst (λ (f : FeedState). IsNotedFor start after f.pending view) (sym (rest n b ∙ none_at old n (omega (arith, b, l)))) (inl refl)
    ])
  where
    none_at : (ks : List FeedState) (k : ℕ) → length ks ≤ k → slice_index_or ks k missing_feed ≡ missing_feed
    none_at [] k l = refl
    none_at (x ∷ ks) zero l = absurd (omega arith)
    none_at (x ∷ ks) (suc k) l = none_at ks k (omega arith)

-- without change notes, each feed as it was still names all changes
pub all_still_noted : (changes : List MailboxNotes) (places : Places) (feeds : List FeedState) → changes ≡ []
    → (start : Counters) (before after : List Op) → AreChangeNotes start before after changes → AreAllNoted start before places feeds → AreAllNoted start after places feeds
all_still_noted changes places feeds none start before after are noted n view at =
    elim (noted n view at) [
      | inl missed ↦ inl missed
      | inr named ↦ inr (λ uid.
          let unchanged : NoteAllChanges [] (rows_for start after view) (entries_of (rows_for start before view)) = subst (λ (all : List MailboxNotes). NoteAllChanges (notes_in all view.name) (rows_for start after view) (entries_of (rows_for start before view))) none (are view.name view.uidvalidity) in
          elim (unchanged uid) [
            | inl same ↦ elim (named uid) [
              | inl shown ↦ inl (shown ∙ same)
              | inr told ↦ inr told
            ]
            | inr never ↦ absurd (false≢true never)
          ])
    ]

-- one further feed with its change notes added
module _ (changes : List MailboxNotes) (places : Places) (old cur : List FeedState) (k : ℕ) (was feed : FeedState) (within : k < length cur) (value : was ≡ slice_index_or cur k was) (one : IsFeedAfterNotes changes (slice_index_or places k None) was.pending feed.pending) where
  pub after_notes_set : ((n : ℕ) → n < k → IsFeedAfterNotes changes (slice_index_or places n None) (slice_index_or old n missing_feed).pending (slice_index_or cur n missing_feed).pending) → ((n : ℕ) → k ≤ n → slice_index_or cur n missing_feed ≡ slice_index_or old n missing_feed)
      → (n : ℕ) → n < k + 1 → IsFeedAfterNotes changes (slice_index_or places n None) (slice_index_or old n missing_feed).pending (slice_index_or (slice_set cur k feed) n missing_feed).pending
  after_notes_set done rest n l =
      elim (cases_Bool (nat_eq n k)) [
        | inl t ↦
            let e : n ≡ k = grind (arith, nat_tests) in
            subst (λ (m : ℕ). IsFeedAfterNotes changes (slice_index_or places m None) (slice_index_or old m missing_feed).pending (slice_index_or (slice_set cur k feed) m missing_feed).pending) (sym e)
            (subst (λ (x : FeedState). IsFeedAfterNotes changes (slice_index_or places k None) x.pending (slice_index_or (slice_set cur k feed) k missing_feed).pending) (sym (pending_default cur k was within value) ∙ rest k (omega arith))
            (subst (λ (x : FeedState). IsFeedAfterNotes changes (slice_index_or places k None) was.pending x.pending) (sym (get_or-set_same cur k feed missing_feed within)) one))
        | inr f ↦
            subst (λ (x : FeedState). IsFeedAfterNotes changes (slice_index_or places n None) (slice_index_or old n missing_feed).pending x.pending) (sym (get_or-set_other cur k n feed missing_feed (λ e. let g = f in grind (arith, nat_tests))))
            (done n (let g = f in grind (arith, nat_tests)))
      ]

  pub rest_set : ((n : ℕ) → k ≤ n → slice_index_or cur n missing_feed ≡ slice_index_or old n missing_feed) → (n : ℕ) → k + 1 ≤ n → slice_index_or (slice_set cur k feed) n missing_feed ≡ slice_index_or old n missing_feed
  rest_set rest n l = get_or-set_other cur k n feed missing_feed (λ e. omega (arith, e, l)) ∙ rest n (omega arith)

-- one session changes, and its feed doesn't
pub all_noted_set : (start : Counters) (ops : List Op) (places : Places) (feeds : List FeedState) (n : ℕ) (place : Option Session) (s : Session) → session_at places n ≡ Some s → AreAllNoted start ops places feeds
    → ((view : ViewState) → view_in place ≡ Some view → IsNotedFor start ops (pending_at feeds n) view) → AreAllNoted start ops (with_session places n place) feeds
all_noted_set start ops places feeds n place s at noted own m view q =
    elim (cases_Bool (nat_eq m n)) [
      | inl t ↦
          let e : m ≡ n = grind (arith, nat_tests) in
          subst (λ (k : ℕ). IsNotedFor start ops (pending_at feeds k) view) (sym e)
          (own view (ap view_in (sym (session_put places n place s at)) ∙ subst (λ (k : ℕ). view_at (with_session places n place) k ≡ Some view) e q))
      | inr f ↦ noted m view (ap view_in (sym (others_stay places n place s at m (λ e. let g = f in grind (arith, nat_tests)))) ∙ q)
    ]

pub awake_view : (place : Option Session) (view : ViewState) → view_in (option_map without_idle place) ≡ Some view → view_in place ≡ Some view
awake_view None view q = q
awake_view (Some s) view q = q

-- a step that carries out an input leaves the session's changes noted
pub step_leaves : (start : Counters) (ops : List Op) (next : SessionStep) (update : SessionChange) (s : Session) → next ≡ Advances update → CanStep start ops s next → LeavesNoted start ops s.state update.state_change
step_leaves start ops next update s e h = (subst (CanStep start ops s) e h).leaves

-- notes that are right stay so for equal feeds, sessions and operations
pub noted_as : (start start' : Counters) (ops ops' : List Op) (places places' : Places) (feeds feeds' : List FeedState) → start' ≡ start → ops' ≡ ops → places' ≡ places → ((n : ℕ) → pending_at feeds' n ≡ pending_at feeds n)
    → AreAllNoted start ops places feeds → AreAllNoted start' ops' places' feeds'
noted_as start start' ops ops' places places' feeds feeds' s o p f h n view q =
    subst (λ (x : Counters). IsNotedFor x ops' (pending_at feeds' n) view) (sym s)
    (subst (λ (x : List Op). IsNotedFor start x (pending_at feeds' n) view) (sym o)
    (subst (λ (x : Pending). IsNotedFor start ops x view) (sym (f n)) (h n view (ap (λ (x : Places). view_at x n) (sym p) ∙ q))))

-- the operations that were newly applied
module _ (old new : List Op) (g : HasGrown old new) where
  pub grown_long : length old ≤ length new
  grown_long = let e = ap (λ (ops : List Op). length ops) g.1 in let l = length-append old g.0 in omega (arith, e, l)

  pub grown_take : take (length old) new ≡ old
  grown_take = ap (take (length old)) g.1 ∙ take_at old g.0 (length old) refl

-- ---- nothing to send

-- if a view's mailbox has no notes, the view shows its listing
pub settled_shows : (start : Counters) (before after : List Op) (view : ViewState) (unsent : UnsentChanges) → IsNotedFor start before unsent.pending view → AreChangeNotes start before after unsent.change_notes → IsSettled unsent view
    → NoteAllChanges [] (rows_for start after view) view.entries
settled_shows start before after view unsent noted changes settled =
    elim noted [
      | inl missed ↦ absurd (false≢true (sym settled.none_missed ∙ missed))
      | inr named ↦
          new_listing [] [] (rows_for start before view) (rows_for start after view) view.entries
          (subst (λ (notes : List Note). NoteAllChanges notes (rows_for start before view) view.entries) settled.none_noted named)
          (subst (λ (notes : List Note). NoteAllChanges notes (rows_for start after view) (entries_of (rows_for start before view))) settled.unchanged (changes view.name view.uidvalidity))
    ]

module _ (start : Counters) (after : List Op) (view : ViewState) (read_only : Bool) (front : SyncInput) (stays : list_any is_shifting front.own ≡ false)
    (f : view.entries ≡ after_silent view.entries (front.silent ++ all_fetched_flags front.own)) where
  view_unchanged : view.entries ≡ view_after_reply (rows_for start after view) view.entries front.silent front.own
  view_unchanged = f ∙ sym (view_after_reply_own (rows_for start after view) view.entries front.silent front.own stays)

  -- there is no sync, or the view shows its listing already
  pub nothing_by : (sync : Option SyncKind) → (sync ≡ None) ⊎ (AreRising 1 view.entries × NoteAllChanges [] (rows_for start after view) view.entries)
      → ([] ≡ answers_of_sync sync front.modseq (rows_for start after view) view.entries) × (view.entries ≡ entries_after_sync sync (rows_for start after view) view.entries)
  nothing_by None h = (refl, refl)
  nothing_by (Some kind) (inl n) = let no : ◌≡◌ {A = Option SyncKind} (Some kind) None = n in cc
  nothing_by (Some kind) (inr h) =
      let rows = rows_for start after view in
      (sym (nothing_sent kind front.modseq rows view.entries h.0 h.1), sym (view_stays kind rows view.entries h.0 h.1))

  pub shown_unchanged : (front.sync ≡ None) ⊎ (AreRising 1 view.entries × NoteAllChanges [] (rows_for start after view) view.entries)
      → ([] ≡ (sync_result_after start after (Selected view read_only) front).answers) × (Selected view read_only ≡ (sync_result_after start after (Selected view read_only) front).state)
  shown_unchanged h =
      let rows = rows_for start after view in
      let by = nothing_by front.sync h in (
        by.0 ∙ ap (answers_of_sync front.sync front.modseq rows) view_unchanged,
        ap (λ (es : List ViewEntry). Selected (record view { entries = es }) read_only) (by.1 ∙ ap (entries_after_sync front.sync rows) view_unchanged),
      )

-- if no flags are to be set, and there is no sync or nothing is noted, nothing is sent and the
-- state stays
pub shown_as_before : (start : Counters) (before after : List Op) (state : State) (unsent : UnsentChanges) (front : SyncInput) (first : List SilentFlags) → list_any is_shifting front.own ≡ false
    → ((view : ViewState) → view_of state ≡ Some view → after_silent view.entries first ≡ after_silent view.entries (front.silent ++ all_fetched_flags front.own)) → first ≡ []
    → ((view : ViewState) → view_of state ≡ Some view → IsNotedFor start before unsent.pending view) → AreChangeNotes start before after unsent.change_notes
    → (front.sync ≡ None) ⊎ ((view : ViewState) → view_of state ≡ Some view → IsSettled unsent view)
    → ([] ≡ (sync_result_after start after state front).answers) × (state_with state None ≡ (sync_result_after start after state front).state)
shown_as_before start before after (Selected view read_only) unsent front first stays f e noted changes h =
    shown_unchanged start after view read_only front stays (ap (after_silent view.entries) (sym e) ∙ f view refl)
    (elim h [ inl n ↦ inl n | inr settled ↦ inr ((settled view refl).rising, settled_shows start before after view unsent (noted view refl) changes (settled view refl)) ])
shown_as_before start before after _ unsent front first stays f e noted changes h = (refl, refl)

pub can_stay : (start : Counters) (after : List Op) (state : State) → CanChangeSession start after state (Stays None)
can_stay start after (Selected view read_only) = record { make = tt; leaves = tt }
can_stay start after _ = record { make = tt; leaves = tt }

pub empty_by_length : (first : List SilentFlags) → length first ≡ 0 → first ≡ []
empty_by_length [] l = refl
empty_by_length (s ∷ first) l = absurd (omega (arith, l))
