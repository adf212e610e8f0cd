use Rattle.std.proofs.Common.{◌≡◌, inl, inr, ℕ, Bool, true, false, List, [], ◌∷◌, Option, Some, None, arith, refl, sym, ap, subst}
use Rattle.std.specs.Prelude.{Result, Ok, Err, not, nat_lt, length, ◌==◌, ◌<◌, ◌≤◌, zero, suc, slice_index, if◌then◌else◌}
use Rattle.std.specs.List.{filter_map, list_all, list_any}
use Rattle.std.specs.Str.{bytes_eq}
use Rattle.std.proofs.lemmas.Bool.{and_parts, false≢true}
use Rattle.std.proofs.lemmas.Slice.Eq.{bytes_eq-Decides}
use Rattle.std.proofs.lemmas.Str.{IsUtf8-from_ascii}
use Rattle.causal_inbox.specs.Inbox.{IsClockOf}
use Rattle.crdt_ops.specs.declared.kind.Kind.{Kind}
use Rattle.crdt_ops.specs.declared.kind.Kind.TheVariants as kinds
use Rattle.crdt_ops.specs.declared.op.Op.{Op}
use Rattle.crdt_ops.specs.SortedSets.{id_order}
use Rattle.crdt_ops.specs.Sets.{delete_set_of, folder_tag_or_message_tag_id, folders_of, subscription_id, subscription_tags_of}
use Rattle.crdt_ops.specs.Sound.{AreCovered, CoversReferenced, IsCount, IsSound}
use Rattle.crdt_ops.specs.Tags.{FolderTag, MessageTag, SubscriptionTag, Tag, tag_added_by, adds, is_present, is_some_tag, name_of, present_tags, removes}
use Rattle.crdt_ops.specs.TagLaws.{adds_own, same_tag_is}
use Rattle.crdt_ops.proofs.MeaningLemmas.{folders_listed}
use Rattle.crdt_ops.proofs.Members.{any_in}
use Rattle.crdt_ops.proofs.OrderLemmas.{id_order_total, id_order_same, in_order_lists}
use Rattle.crdt_ops.proofs.SetLemmas.{delete_set_in, subscription_tags_in}
use Rattle.imap_answers.specs.declared.fixed_words.Refusal.{Refusal}
use Rattle.imap_answers.specs.declared.fixed_words.Refusal.TheVariants as refusals
use Rattle.imap_commands.specs.AppendCommand.{append_intent, given_date}
use Rattle.imap_commands.specs.SimpleCommands.{status_intent}
use Rattle.imap_commands.specs.Arguments.{OpenMailbox}
use Rattle.imap_commands.specs.CopyCommand.{copy_intent, move_intent}
use Rattle.imap_commands.specs.Login.{are_credentials, login_intent}
use Rattle.imap_commands.specs.ExpungeCommand.{close_intent, expunge_intent, uid_expunge_intent}
use Rattle.imap_commands.specs.FetchCommand.{fetch_intent}
use Rattle.imap_commands.specs.Mailboxes.{create_intent, created_name, delete_intent, is_lawful_name, subscribe_intent, unsubscribe_intent, unsubscribes}
use Rattle.imap_commands.specs.SearchCommand.{search_intent, step_is_in_range}
use Rattle.imap_commands.specs.SelectCommand.{select_intent}
use Rattle.imap_commands.specs.StoreCommand.{store_intent}
use Rattle.imap_commands.specs.declared.session.Credentials.{Credentials}
use Rattle.imap_commands.specs.declared.session.State.{State}
use Rattle.imap_commands.specs.declared.session.State.TheVariants.{NotAuthenticated, Authenticated, Selected, LoggedOut}
use Rattle.imap_commands.proofs.IssuedLemmas.{close_intent_issuable, copy_intent_issuable, expunge_intent_issuable, fetch_intent_issuable, move_intent_issuable, store_intent_issuable, uid_expunge_intent_issuable}
use Rattle.imap_commands.proofs.LawfulLemmas.{append_lawful, create_lawful, delete_lawful, subscribe_lawful, unsubscribe_lawful}
use Rattle.imap_syntax.specs.declared.command.Command.{Command}
use Rattle.imap_syntax.specs.declared.command.Command.TheVariants as commands
use Rattle.imap_syntax.specs.declared.idle.IdleLine.TheVariants.{Done as DoneLine, Other}
use Rattle.imap_node.specs.declared.input.Input.{Input}
use Rattle.imap_node.specs.declared.input.Input.TheVariants as inputs
use Rattle.imap_commands.specs.Issuable.{AreIssuable, HaveLawfulKeywords, IsIssuable}
use Rattle.imap_commands.specs.Lawful.{AreLawfulKinds, IsLawfulKind}
use Rattle.imap_types.specs.Keywords.{is_lawful_keyword}
use Rattle.imap_types.specs.Names.{IsLawfulName, inbox}
use Rattle.mailbox_rows.specs.ListedMessage.{ListedMessage}
use Rattle.merge_laws.specs.Orders.{AreSound, HasId, IsIn}
use Rattle.tags_clocks.specs.Clock.{IsCause}
use Rattle.tags_clocks.specs.declared.id.OpId.{OpId}
use Rattle.session_view.specs.ViewState.{ViewState, rows_under}
use Rattle.session_view.specs.Sets.{is_in_range}
use Rattle.imap_node.specs.Commands.{is_logged_in, command_intent, if_logged_in, before_login, if_selected}
use Rattle.imap_node.specs.Mailboxes.{is_subscribed, mailbox_in, rows_for}
use Rattle.imap_node.specs.Operations.{CanIssue, CanIssueAll}
use Rattle.imap_node.specs.Responses.{input_intent}
use Rattle.uid_projection.specs.declared.first_numbers.Counters.{Counters}
use Rattle.uid_projection.specs.Applied.{IsApplied}
use Rattle.uid_projection.specs.Incarnations.{folder_exists, uidvalidity_of}
use Rattle.uid_projection.specs.Listing.{listing}
use Rattle.uid_projection.proofs.SortedRowLemmas.{row_in}
use Rattle.uid_projection.proofs.ListingLemmas.{keywords_lawful, ids_applied}
use Rattle.uid_projection.proofs.Versions.{version_in}
use Rattle.crdt_ops.specs.Ops.{id_of}
use Rattle.imap_syntax.specs.declared.arguments.Transfer.{Transfer}
use Rattle.imap_syntax.specs.declared.arguments.Append.{Append}

-- ---- names

inbox_ascii : (i : ℕ) → slice_index inbox i < 128
inbox_ascii zero = omega arith
inbox_ascii (suc zero) = omega arith
inbox_ascii (suc (suc zero)) = omega arith
inbox_ascii (suc (suc (suc zero))) = omega arith
inbox_ascii (suc (suc (suc (suc zero)))) = omega arith
inbox_ascii (suc (suc (suc (suc (suc i))))) = omega arith

pub inbox_lawful : IsLawfulName inbox
inbox_lawful = record { not_empty = omega arith; short = omega arith; utf8 = IsUtf8-from_ascii inbox inbox_ascii; octets = refl; levels = refl; folded = refl }

tag_name : Tag → List ℕ
tag_name (FolderTag folder id) = folder
tag_name (MessageTag folder id) = folder
tag_name (SubscriptionTag name id) = name

named_by : (t : Tag) (id : OpId) (kind : Kind) → is_some_tag t (tag_added_by id kind) ≡ true → tag_name t ≡ name_of kind
unfolding tag_name
named_by t id (kinds.Create folder) h = ap tag_name (same_tag_is t (FolderTag folder id) h)
named_by t id (kinds.Delete folder seen) h = absurd (false≢true h)
named_by t id (kinds.Append folder flags date text) h = ap tag_name (same_tag_is t (MessageTag folder id) h)
named_by t id (kinds.Expunge folder old_ids) h = ap tag_name (same_tag_is t (FolderTag folder id) h)
named_by t id (kinds.Store folder flags old_ids origin) h = ap tag_name (same_tag_is t (MessageTag folder id) h)
named_by t id (kinds.Subscribe name) h = ap tag_name (same_tag_is t (SubscriptionTag name id) h)
named_by t id (kinds.Unsubscribe name seen) h = absurd (false≢true h)

-- the name of a present tag of sound operations is lawful
tag_lawful : (ops : List Op) (t : Tag) → AreSound IsSound ops → is_present ops t ≡ true → IsLawfulName (tag_name t)
tag_lawful ops t sound p =
    let by = (any_in (adds t) ops).0 (and_parts (list_any (adds t) ops) (not (list_any (removes t) ops)) p).0 in
    subst IsLawfulName (sym (named_by t by.0.id by.0.kind by.2)) (sound by.0 by.1).name

-- each folder's name is lawful
folder_lawful : (ops : List Op) (name : List ℕ) → AreSound IsSound ops → IsIn name (folders_of ops) → IsLawfulName name
unfolding tag_name
folder_lawful ops name sound i =
    elim (((folders_listed ops).1 name).0 i) [
      | inl e ↦ subst IsLawfulName (sym e) inbox_lawful
      | inr t ↦ elim (t.1) [
        | inl p ↦ tag_lawful ops (FolderTag name t.0) sound p
        | inr p ↦ tag_lawful ops (MessageTag name t.0) sound p
      ]
    ]

pub existing_lawful : (ops : List Op) (name : List ℕ) → AreSound IsSound ops → folder_exists name ops ≡ true → IsLawfulName name
existing_lawful ops name sound h =
    let w = (any_in (bytes_eq name) (folders_of ops)).0 h in
    subst IsLawfulName (sym ((bytes_eq-Decides name w.0).0 w.2)) (folder_lawful ops w.0 sound w.1)

-- a folder with a message has a lawful name
listed_lawful : (start : Counters) (folder : List ℕ) (ops : List Op) (row : ListedMessage) → IsApplied ops → IsIn row (listing start folder ops) → IsLawfulName folder
unfolding tag_name
listed_lawful start folder ops row a i =
    let w = row_in start folder ops row i in
    let v = (version_in folder ops w.0).0 w.1 in
    tag_lawful ops (MessageTag folder v.0) a.sound v.1.0

-- ---- ids

id_in : (ops : List Op) (op : Op) (i : OpId) → IsIn op ops → op.id ≡ i → HasId id_of ops i
id_in [] op i h e = absurd h
id_in (o ∷ ops) op i h e = elim h [ inl k ↦ inl (subst (λ (p : Op). p.id ≡ i) (sym k) e) | inr t ↦ inr (id_in ops op i t e) ]

covered_from : (clock : List (ℕ × ℕ)) (ids : List OpId) → ((i : OpId) → IsIn i ids → IsCause clock i) → AreCovered clock ids
covered_from clock [] h = tt
covered_from clock (i ∷ ids) h = (h i (inl refl), covered_from clock ids (λ j t. h j (inr t)))

-- a present tag was added by an operation with its id
added_in : (ops : List Op) (tag : Tag) (i : OpId) → ((op : Op) → adds tag op ≡ true → op.id ≡ i) → is_present ops tag ≡ true → HasId id_of ops i
added_in ops tag i own p =
    let a = (any_in (adds tag) ops).0 (and_parts _ _ p).0 in
    id_in ops a.0 i a.1 (own a.0 a.2)

-- each id that a Delete lists is the id of an operation applied
listed_in : (ops : List Op) (folder : List ℕ) (i : OpId) → IsIn i (delete_set_of ops folder) → HasId id_of ops i
listed_in ops folder i h =
    let l = (in_order_lists {order = id_order} id_order_total id_order_same (filter_map (folder_tag_or_message_tag_id folder) (present_tags ops))).1 i in
    elim ((delete_set_in ops folder i).0 (l.0 h)) [
      | inl t ↦ added_in ops (FolderTag folder i) i (λ op a. sym (adds_own (FolderTag folder i) op a)) t
      | inr t ↦ added_in ops (MessageTag folder i) i (λ op a. sym (adds_own (MessageTag folder i) op a)) t
    ]

-- the clock of the operations applied covers the ids that a Delete lists
delete_covered : (ops : List Op) (folder : List ℕ) (clock : List (ℕ × ℕ)) → IsClockOf id_of ops clock → AreCovered clock (delete_set_of ops folder)
delete_covered ops folder clock counts = covered_from clock (delete_set_of ops folder) (λ i h. (counts i).1 (listed_in ops folder i h))

-- the clock covers the ids that an Unsubscribe lists, too
tag_in : (ops : List Op) (name : List ℕ) (i : OpId) → IsIn i (subscription_tags_of ops name) → HasId id_of ops i
tag_in ops name i h =
    let l = (in_order_lists {order = id_order} id_order_total id_order_same (filter_map (subscription_id name) (present_tags ops))).1 i in
    added_in ops (SubscriptionTag name i) i (λ op a. sym (adds_own (SubscriptionTag name i) op a)) ((subscription_tags_in ops name i).0 (l.0 h))

unsubscribe_covered : (ops : List Op) (name : List ℕ) (clock : List (ℕ × ℕ)) → IsClockOf id_of ops clock → AreCovered clock (subscription_tags_of ops name)
unsubscribe_covered ops name clock counts = covered_from clock (subscription_tags_of ops name) (λ i h. (counts i).1 (tag_in ops name i h))

-- ---- what the commands on mailboxes issue

-- each kind covers only what was applied
abbrev Covers : List Op → List Kind → Type 0
Covers ops given = (kind : Kind) → IsIn kind given → (clock : List (ℕ × ℕ)) → IsClockOf id_of ops clock → CoversReferenced clock kind

lawful_in : (given : List Kind) (kind : Kind) → AreLawfulKinds given → IsIn kind given → IsLawfulKind kind
lawful_in [] kind h i = absurd i
lawful_in (k ∷ ks) kind h i = elim i [ inl e ↦ subst IsLawfulKind e h.0 | inr t ↦ lawful_in ks kind h.1 t ]

pub can_all : (ops : List Op) (given : List Kind) → AreLawfulKinds given → Covers ops given → CanIssueAll ops given
can_all ops given h c = λ kind i. record { lawful = lawful_in given kind h i; covered = λ clock counts. c kind i clock counts }

pub can_none : (ops : List Op) → CanIssueAll ops []
can_none ops = λ kind i. absurd i

pub covers_none : (ops : List Op) → Covers ops []
covers_none ops = λ kind i. absurd i

covers_one : (ops : List Op) (kind : Kind) → ((clock : List (ℕ × ℕ)) → IsClockOf id_of ops clock → CoversReferenced clock kind) → Covers ops (kind ∷ [])
covers_one ops kind h = λ k i. elim i [ inl e ↦ λ clock counts. subst (λ (x : Kind). CoversReferenced clock x) e (h clock counts) | inr t ↦ absurd t ]

pub ok_is : (intended given : List Kind) → ◌≡◌ {A = Result (List Kind) Refusal} (Ok intended) (Ok given) → intended ≡ given
ok_is intended given e = cc

pub not_ok : {X : Type 0} (why : Refusal) (given : List Kind) → ◌≡◌ {A = Result (List Kind) Refusal} (Err why) (Ok given) → X
not_ok why given e = absurd cc

-- if a kind is issued, the test before it is true
pub then_ok : (test : Bool) (outcome : Result (List Kind) Refusal) (why : Refusal) (given : List Kind) → (if test then outcome else Err why) ≡ Ok given → (test ≡ true) × (outcome ≡ Ok given)
then_ok true outcome why given e = (refl, e)
then_ok false outcome why given e = not_ok why given e

pub else_ok : (test : Bool) (outcome : Result (List Kind) Refusal) (why : Refusal) (given : List Kind) → (if test then Err why else outcome) ≡ Ok given → (test ≡ false) × (outcome ≡ Ok given)
else_ok true outcome why given e = not_ok why given e
else_ok false outcome why given e = (refl, e)

pub create_covers : (ops : List Op) (exists : Bool) (name : List ℕ) (given : List Kind) → create_intent exists name ≡ Ok given → Covers ops given
create_covers ops exists name given e =
    let lawful = then_ok (is_lawful_name (created_name name)) _ _ given e in
    let absent = else_ok exists _ _ given lawful.1 in
    subst (Covers ops) (ok_is (kinds.Create (created_name name) ∷ []) given absent.1) (covers_one ops (kinds.Create (created_name name)) (λ clock counts. tt))

pub delete_covers : (ops : List Op) (exists : Bool) (name : List ℕ) (given : List Kind) → delete_intent exists (delete_set_of ops name) name ≡ Ok given → Covers ops given
delete_covers ops exists name given e =
    let existing = then_ok exists _ _ given e in
    let other = else_ok (bytes_eq name inbox) _ _ given existing.1 in
    subst (Covers ops) (ok_is (kinds.Delete name (delete_set_of ops name) ∷ []) given other.1)
    (covers_one ops (kinds.Delete name (delete_set_of ops name)) (λ clock counts. delete_covered ops name clock counts))

subscribe_by : (ops : List Op) (subscribed : Bool) (name : List ℕ) → Covers ops (if subscribed then [] else kinds.Subscribe name ∷ [])
subscribe_by ops true name = covers_none ops
subscribe_by ops false name = covers_one ops (kinds.Subscribe name) (λ clock counts. tt)

pub subscribe_covers : (ops : List Op) (subscribed : Bool) (name : List ℕ) (given : List Kind) → subscribe_intent subscribed name ≡ Ok given → Covers ops given
subscribe_covers ops subscribed name given e =
    let lawful = then_ok (is_lawful_name name) _ _ given e in
    subst (Covers ops) (ok_is (if subscribed then [] else kinds.Subscribe name ∷ []) given lawful.1) (subscribe_by ops subscribed name)

unsubscribe_by : (ops : List Op) (seen : List OpId) (name : List ℕ) → ((clock : List (ℕ × ℕ)) → IsClockOf id_of ops clock → AreCovered clock seen) → Covers ops (unsubscribes seen name)
unsubscribe_by ops [] name h = covers_none ops
unsubscribe_by ops (i ∷ is) name h = covers_one ops (kinds.Unsubscribe name (i ∷ is)) h

pub unsubscribe_covers : (ops : List Op) (name : List ℕ) (given : List Kind) → unsubscribe_intent (subscription_tags_of ops name) name ≡ Ok given → Covers ops given
unsubscribe_covers ops name given e =
    let lawful = then_ok (is_lawful_name name) _ _ given e in
    subst (Covers ops) (ok_is (unsubscribes (subscription_tags_of ops name) name) given lawful.1) (unsubscribe_by ops (subscription_tags_of ops name) name (unsubscribe_covered ops name))

pub append_covers : (ops : List Op) (exists : Bool) (stamp : List ℕ) (request : Append) (given : List Kind) → append_intent exists stamp request ≡ Ok given → (exists ≡ true) × Covers ops given
append_covers ops exists stamp request given e =
    let existing = then_ok exists _ _ given e in
    let short = then_ok (list_all is_lawful_keyword request.flags.keywords) _ _ given existing.1 in
    let few = else_ok (nat_lt 32 (length request.flags.keywords)) _ _ given short.1 in
    let kind = kinds.Append request.name request.flags (given_date request.date stamp) request.text in
    (existing.0, subst (Covers ops) (ok_is (kind ∷ []) given few.1) (covers_one ops kind (λ clock counts. tt)))

pub deleted_exists : (exists : Bool) (seen : List OpId) (name : List ℕ) (given : List Kind) → delete_intent exists seen name ≡ Ok given → exists ≡ true
deleted_exists exists seen name given e = (then_ok exists _ _ given e).0

-- ---- what the commands on messages issue

chosen : (b : Bool) (rows : List ListedMessage) (row : ListedMessage) → IsIn row (if b then rows else []) → IsIn row rows
chosen true rows row i = i
chosen false rows row i = absurd i

in_rows_under : (uidvalidity : ℕ) (now : Option ℕ) (rows : List ListedMessage) (row : ListedMessage) → IsIn row (rows_under uidvalidity now rows) → IsIn row rows
in_rows_under uidvalidity None rows row i = absurd i
in_rows_under uidvalidity (Some now) rows row i = chosen (now == uidvalidity) rows row i

module _ (start : Counters) (ops : List Op) (a : IsApplied ops) where
  pub view_row : (view : ViewState) (row : ListedMessage) → IsIn row (rows_for start ops view) → IsIn row (listing start view.name ops)
  view_row view row i = in_rows_under view.uidvalidity (uidvalidity_of start view.name ops) (listing start view.name ops) row i

  pub view_keywords : (view : ViewState) → HaveLawfulKeywords (rows_for start ops view)
  view_keywords view = λ row i. keywords_lawful start view.name ops row a (view_row view row i)

  module _ (view : ViewState) (destination : List ℕ) (lawful : IsLawfulName destination) where
    name_of_view : (row : ListedMessage) → IsIn row (rows_for start ops view) → IsLawfulName view.name
    name_of_view row i = listed_lawful start view.name ops row a (view_row view row i)

    ids_of_row : (row : ListedMessage) → IsIn row (rows_for start ops view)
        → ((id : OpId) → IsIn id row.versions → HasId id_of ops id) × HasId id_of ops row.origin × (1 ≤ length row.versions)
    ids_of_row row i = ids_applied start view.name ops row a (view_row view row i)

    versions_covered : (clock : List (ℕ × ℕ)) → IsClockOf id_of ops clock → (row : ListedMessage) → IsIn row (rows_for start ops view) → (old_ids : List OpId) → old_ids ≡ row.versions → AreCovered clock old_ids
    versions_covered clock counts row i old_ids e = subst (AreCovered clock) (sym e) (covered_from clock row.versions (λ id h. (counts id).1 ((ids_of_row row i).0 id h)))

    versions_counted : (row : ListedMessage) → IsIn row (rows_for start ops view) → (old_ids : List OpId) → old_ids ≡ row.versions → length old_ids ≤ 64 → IsCount old_ids
    versions_counted row i old_ids e few = (subst (λ (ids : List OpId). 1 ≤ length ids) (sym e) (ids_of_row row i).2, few)

    issuable_can : (kind : Kind) → IsIssuable view.name destination (rows_for start ops view) kind → CanIssue ops kind
    issuable_can (kinds.Create f) h = absurd h
    issuable_can (kinds.Delete f seen) h = absurd h
    issuable_can (kinds.Append f flags date text) h = record {
      lawful = record { name = subst IsLawfulName (sym h.0) lawful; flags = h.1; inbox_stays = λ k. k; count = tt };
      covered = λ clock counts. tt;
    }
    issuable_can (kinds.Expunge f old_ids) h =
        let row = h.2.0 in
        let i = h.2.1 in
        record {
          lawful = record { name = subst IsLawfulName (sym h.0) (name_of_view row i); flags = tt; inbox_stays = λ k. k; count = versions_counted row i old_ids h.2.2 h.1 };
          covered = λ clock counts. versions_covered clock counts row i old_ids h.2.2;
        }
    issuable_can (kinds.Store f flags old_ids origin) h =
        let row = h.3.0 in
        let i = h.3.1 in
        record {
          lawful = record { name = subst IsLawfulName (sym h.0) (name_of_view row i); flags = h.1; inbox_stays = λ k. k; count = versions_counted row i old_ids h.3.2 h.2 };
          covered = λ clock counts. (
            versions_covered clock counts row i old_ids h.3.2,
            subst (IsCause clock) (sym h.3.3) ((counts row.origin).1 (ids_of_row row i).1),
          );
        }
    issuable_can (kinds.Subscribe name) h = absurd h
    issuable_can (kinds.Unsubscribe name seen) h = absurd h

    pub issuable_all : (given : List Kind) → AreIssuable view.name destination (rows_for start ops view) given → CanIssueAll ops given
    issuable_all given h = λ kind i. issuable_can kind (h kind i)

-- a copy's destination exists
not_true : (b : Bool) → not b ≡ false → b ≡ true
not_true true h = refl
not_true false h = cc

copy_target_exists : (mailbox : OpenMailbox) (request : Transfer) (exists : Bool) (given : List Kind) → copy_intent mailbox request exists ≡ Ok given → exists ≡ true
copy_target_exists mailbox request exists given e =
    let in_range = else_ok (not (is_in_range request.by_uid request.messages mailbox.view)) _ _ given e in
    not_true exists (else_ok (not exists) _ _ given in_range.1).0

move_target_exists : (mailbox : OpenMailbox) (request : Transfer) (exists : Bool) (given : List Kind) → move_intent mailbox request exists ≡ Ok given → exists ≡ true
move_target_exists mailbox request exists given e =
    let in_range = else_ok (not (is_in_range request.by_uid request.messages mailbox.view)) _ _ given e in
    let writable = else_ok mailbox.read_only _ _ given in_range.1 in
    not_true exists (else_ok (not exists) _ _ given writable.1).0

-- ---- what each command issues

pub if_logged_in_ok : (state : State) (outcome : Result (List Kind) Refusal) (given : List Kind) → if_logged_in state outcome ≡ Ok given → outcome ≡ Ok given
if_logged_in_ok state outcome given e = (then_ok (is_logged_in state) outcome refusals.NotNow given e).1

pub if_selected_ok : (state : State) (outcome : ViewState → Bool → Result (List Kind) Refusal) (given : List Kind) → if_selected state outcome ≡ Ok given → (view : ViewState) × (read_only : Bool) × (outcome view read_only ≡ Ok given)
if_selected_ok (NotAuthenticated credentials) outcome given e = not_ok refusals.NotNow given e
if_selected_ok Authenticated outcome given e = not_ok refusals.NotNow given e
if_selected_ok (Selected view read_only) outcome given e = (view, read_only, e)
if_selected_ok LoggedOut outcome given e = not_ok refusals.NotNow given e

pub before_login_ok : (state : State) (outcome : Credentials → Result (List Kind) Refusal) (given : List Kind) → before_login state outcome ≡ Ok given → (credentials : Credentials) × (outcome credentials ≡ Ok given)
before_login_ok (NotAuthenticated credentials) outcome given e = (credentials, e)
before_login_ok Authenticated outcome given e = not_ok refusals.NotNow given e
before_login_ok (Selected view read_only) outcome given e = not_ok refusals.NotNow given e
before_login_ok LoggedOut outcome given e = not_ok refusals.NotNow given e

can_issue_none : (ops : List Op) (given : List Kind) → ◌≡◌ {A = Result (List Kind) Refusal} (Ok []) (Ok given) → CanIssueAll ops given
can_issue_none ops given e = subst (CanIssueAll ops) (ok_is [] given e) (can_none ops)

can_issue_none_if : (ops : List Op) (test : Bool) (why : Refusal) (given : List Kind) → (if test then Ok [] else Err why) ≡ Ok given → CanIssueAll ops given
can_issue_none_if ops test why given e = can_issue_none ops given (then_ok test (Ok []) why given e).1

module _ (start : Counters) (ops : List Op) (a : IsApplied ops) (stamp : List ℕ) (state : State) where
  -- the kinds that a command issues may be issued
  pub can_issue_intent : (command : Command) (given : List Kind) → command_intent start ops stamp state command ≡ Ok given → CanIssueAll ops given
  can_issue_intent commands.Capability given e = can_issue_none ops given e
  can_issue_intent commands.Noop given e = can_issue_none ops given e
  can_issue_intent commands.Logout given e = can_issue_none ops given e
  can_issue_intent (commands.Login user password) given e =
      let w = before_login_ok state (λ credentials. login_intent credentials user password) given e in
      can_issue_none_if ops (are_credentials w.0 user password) refusals.LoginFailed given w.1
  can_issue_intent (commands.Enable names) given e = can_issue_none ops given (if_logged_in_ok state (Ok []) given e)
  can_issue_intent (commands.Select name condstore) given e = can_issue_none_if ops (folder_exists name ops) refusals.NoSuchMailbox given (if_logged_in_ok state (select_intent (folder_exists name ops)) given e)
  can_issue_intent (commands.Examine name condstore) given e = can_issue_none_if ops (folder_exists name ops) refusals.NoSuchMailbox given (if_logged_in_ok state (select_intent (folder_exists name ops)) given e)
  can_issue_intent (commands.Create name) given e =
      let exists = folder_exists (created_name name) ops in
      let w = if_logged_in_ok state (create_intent exists name) given e in
      can_all ops given (create_lawful exists name given w) (create_covers ops exists name given w)
  can_issue_intent (commands.Delete name) given e =
      let exists = folder_exists name ops in
      let seen = delete_set_of ops name in
      let w = if_logged_in_ok state (delete_intent exists seen name) given e in
      can_all ops given (delete_lawful exists seen name given (existing_lawful ops name a.sound (deleted_exists exists seen name given w)) w) (delete_covers ops exists name given w)
  can_issue_intent (commands.Subscribe name) given e =
      let subscribed = is_subscribed name ops in
      let w = if_logged_in_ok state (subscribe_intent subscribed name) given e in
      can_all ops given (subscribe_lawful subscribed name given w) (subscribe_covers ops subscribed name given w)
  can_issue_intent (commands.Unsubscribe name) given e =
      let seen = subscription_tags_of ops name in
      let w = if_logged_in_ok state (unsubscribe_intent seen name) given e in
      can_all ops given (unsubscribe_lawful seen name given w) (unsubscribe_covers ops name given w)
  can_issue_intent (commands.ListNames request) given e = can_issue_none ops given (if_logged_in_ok state (Ok []) given e)
  can_issue_intent commands.Namespace given e = can_issue_none ops given (if_logged_in_ok state (Ok []) given e)
  can_issue_intent (commands.Status name items) given e = can_issue_none_if ops (folder_exists name ops) refusals.NoSuchMailbox given (if_logged_in_ok state (status_intent (folder_exists name ops)) given e)
  can_issue_intent (commands.Append append) given e =
      let exists = folder_exists append.name ops in
      let w = if_logged_in_ok state (append_intent exists stamp append) given e in
      let c = append_covers ops exists stamp append given w in
      can_all ops given (append_lawful exists stamp append given (existing_lawful ops append.name a.sound c.0) w) c.1
  can_issue_intent commands.Idle given e = can_issue_none ops given (if_logged_in_ok state (Ok []) given e)
  can_issue_intent commands.Close given e =
      let w = if_selected_ok state (λ view read_only. close_intent (mailbox_in start ops view read_only)) given e in
      issuable_all start ops a w.0 inbox inbox_lawful given (close_intent_issuable (mailbox_in start ops w.0 w.1) inbox given w.2)
  can_issue_intent commands.Unselect given e = can_issue_none ops given (if_selected_ok state (λ view read_only. Ok []) given e).2
  can_issue_intent commands.Expunge given e =
      let w = if_selected_ok state (λ view read_only. expunge_intent (mailbox_in start ops view read_only)) given e in
      issuable_all start ops a w.0 inbox inbox_lawful given (expunge_intent_issuable (mailbox_in start ops w.0 w.1) inbox given w.2)
  can_issue_intent (commands.UidExpunge uids) given e =
      let w = if_selected_ok state (λ view read_only. uid_expunge_intent (mailbox_in start ops view read_only) uids) given e in
      issuable_all start ops a w.0 inbox inbox_lawful given (uid_expunge_intent_issuable (mailbox_in start ops w.0 w.1) inbox uids given w.2)
  can_issue_intent (commands.Search request) given e =
      let w = if_selected_ok state (λ view read_only. search_intent view.entries request.steps) given e in
      can_issue_none_if ops (list_all (step_is_in_range w.0.entries) request.steps) refusals.NoSuchMessage given w.2
  can_issue_intent (commands.Fetch fetch) given e =
      let w = if_selected_ok state (λ view read_only. fetch_intent (mailbox_in start ops view read_only) fetch) given e in
      issuable_all start ops a w.0 inbox inbox_lawful given (fetch_intent_issuable (mailbox_in start ops w.0 w.1) inbox fetch given (view_keywords start ops a w.0) w.2)
  can_issue_intent (commands.Store store) given e =
      let w = if_selected_ok state (λ view read_only. store_intent (mailbox_in start ops view read_only) store) given e in
      issuable_all start ops a w.0 inbox inbox_lawful given (store_intent_issuable (mailbox_in start ops w.0 w.1) inbox store given (view_keywords start ops a w.0) w.2)
  can_issue_intent (commands.Copy transfer) given e =
      let exists = folder_exists transfer.name ops in
      let w = if_selected_ok state (λ view read_only. copy_intent (mailbox_in start ops view read_only) transfer exists) given e in
      issuable_all start ops a w.0 transfer.name (existing_lawful ops transfer.name a.sound (copy_target_exists (mailbox_in start ops w.0 w.1) transfer exists given w.2)) given
      (copy_intent_issuable (mailbox_in start ops w.0 w.1) transfer exists given (view_keywords start ops a w.0) w.2)
  can_issue_intent (commands.Move transfer) given e =
      let exists = folder_exists transfer.name ops in
      let w = if_selected_ok state (λ view read_only. move_intent (mailbox_in start ops view read_only) transfer exists) given e in
      issuable_all start ops a w.0 transfer.name (existing_lawful ops transfer.name a.sound (move_target_exists (mailbox_in start ops w.0 w.1) transfer exists given w.2)) given
      (move_intent_issuable (mailbox_in start ops w.0 w.1) transfer exists given (view_keywords start ops a w.0) w.2)

  pub input_can : (input : Input) (given : List Kind) → input_intent start ops stamp state input ≡ Ok given → CanIssueAll ops given
  input_can (inputs.Command moment tagged) given e = can_issue_intent tagged.command given e
  input_can (inputs.Line DoneLine) given e = can_issue_none ops given e
  input_can (inputs.Line Other) given e = not_ok refusals.DoneExpected given e
  input_can inputs.Poll given e = can_issue_none ops given e
