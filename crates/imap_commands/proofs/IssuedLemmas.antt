use Rattle.std.proofs.Common.{◌≡◌, ◌⊎◌, subst, refl, arith, ℕ, ◌≤◌, inl, inr, Bool, true, false, ◌||◌, ◌==◌, List, [], ◌∷◌, ◌++◌, length, Option, Some, None, if◌then◌else◌}
use Rattle.std.specs.Prelude.{◌&&◌, nat_lt, not, Result, Ok, Err}
use Rattle.std.specs.List.{flat_map, list_all, list_any}
use Rattle.std.specs.Ordering.{match_ordering}
use Rattle.std.specs.declared.cmp.Ordering.{Ordering}
use Rattle.std.specs.declared.cmp.Ordering.TheVariants.{Less, Equal, Greater}
use Rattle.std.proofs.lemmas.Bool.{and_from, and_parts}
use Rattle.std.proofs.lemmas.Bool.Decides.{nat_tests}
use Rattle.crdt_ops.specs.declared.kind.Kind.{Kind}
use Rattle.crdt_ops.specs.declared.kind.Kind.TheVariants.{Create, Delete, Append, Expunge, Store, Subscribe, Unsubscribe}
use Rattle.imap_answers.specs.declared.fixed_words.Refusal.{Refusal}
use Rattle.imap_syntax.specs.declared.fetch.FetchItem.{FetchItem}
use Rattle.imap_syntax.specs.declared.store.StoreMode.{StoreMode}
use Rattle.imap_syntax.specs.declared.store.StoreMode.TheVariants.{Replace, Add, Remove}
use Rattle.imap_query.specs.FetchCommand.{is_above_changed_since, is_seen_set}
use Rattle.imap_query.specs.declared.fetch_command.FetchMode.{FetchMode}
use Rattle.imap_types.specs.Ascending.{octet_order}
use Rattle.imap_types.specs.Keywords.{has_keyword, is_lawful_keyword, with_word}
use Rattle.imap_types.specs.declared.flags.Flags.{Flags}
use Rattle.imap_types.specs.declared.sequence_set.SequenceRange.{SequenceRange}
use Rattle.mailbox_rows.specs.ListedMessage.{ListedMessage}
use Rattle.mailbox_rows.specs.RowViews.{row_of}
use Rattle.merge_laws.specs.Orders.{IsIn}
use Rattle.session_view.specs.Sets.{is_in_range, numbers_in_set}
use Rattle.session_view.specs.Views.{same_flags}
use Rattle.session_view.specs.declared.view_entry.ViewEntry.{ViewEntry}
use Rattle.imap_commands.specs.Arguments.{OpenMailbox}
use Rattle.imap_commands.specs.FlagChange.{changed_flags}
use Rattle.imap_commands.proofs.ListedKeywordLemmas.{united}
use Rattle.imap_commands.specs.CopyCommand.{append_of, appends_of, copy_intent, move_intent, expunge_of_moved, expunges_of_moved}
use Rattle.imap_commands.specs.ExpungeCommand.{close_intent, expunge_at, expunge_of, expunge_intent, expunges_at, expunges_of, uid_expunge_intent}
use Rattle.imap_commands.specs.FetchCommand.{fetch_intent, mode_of, seen_flags, seen_store, seen_stores}
use Rattle.imap_commands.specs.Issuable.{AreIssuable, AreListedIds, AreListedWithOrigin, HaveLawfulKeywords, IsIssuable}
use Rattle.imap_commands.specs.Limits.{has_many_keywords, has_many_versions, within_limits}
use Rattle.imap_commands.specs.StoreCommand.{has_unlawful_keyword, store_of, store_intent, stores_of, taken_messages}
use Rattle.imap_commands.specs.Report.{entry_at, message_at, row_for}
use Rattle.imap_commands.proofs.FlagChangeLemmas.{all_filtered}
use Rattle.imap_syntax.specs.declared.arguments.Fetch.{Fetch}
use Rattle.imap_syntax.specs.declared.arguments.Store.{Store as StoreRequest}
use Rattle.imap_syntax.specs.declared.arguments.Transfer.{Transfer}

-- ---- lists of operations

each_append : (P : Kind → Type 0) (xs ys : List Kind) → ((kind : Kind) → IsIn kind xs → P kind) → ((kind : Kind) → IsIn kind ys → P kind) → (kind : Kind) → IsIn kind (xs ++ ys) → P kind
each_append P [] ys h g kind i = g kind i
each_append P (x ∷ xs) ys h g kind i =
    elim i [
      | inl e ↦ h kind (inl e)
      | inr t ↦ each_append P xs ys (λ k m. h k (inr m)) g kind t
    ]

each_flat : {A : Type 0} (P : Kind → Type 0) (f : A → List Kind) (xs : List A) → ((x : A) → IsIn x xs → (kind : Kind) → IsIn kind (f x) → P kind) → (kind : Kind) → IsIn kind (flat_map f xs) → P kind
each_flat P f [] h kind i = absurd i
each_flat P f (x ∷ xs) h kind i = each_append P (f x) (flat_map f xs) (h x (inl refl)) (each_flat P f xs (λ y m. h y (inr m))) kind i

only_one : (P : Kind → Type 0) (x : Kind) → P x → (kind : Kind) → IsIn kind (x ∷ []) → P kind
only_one P x p kind i = elim i [ inl e ↦ subst P e p | inr t ↦ absurd t ]

one_unless : (P : Kind → Type 0) (b : Bool) (x : Kind) → P x → (kind : Kind) → IsIn kind (if b then [] else x ∷ []) → P kind
one_unless P true x p kind i = absurd i
one_unless P false x p kind i = only_one P x p kind i

at_most_one : (P : Kind → Type 0) (b : Bool) (x : Kind) → P x → (kind : Kind) → IsIn kind (if b then x ∷ [] else []) → P kind
at_most_one P true x p kind i = only_one P x p kind i
at_most_one P false x p kind i = absurd i

-- ---- results

unless_refused : (b : Bool) (why : Refusal) (rest : Result (List Kind) Refusal) (kinds : List Kind) → (if b then Err why else rest) ≡ Ok kinds → (b ≡ false) × (rest ≡ Ok kinds)
unless_refused true why rest kinds h = cc
unless_refused false why rest kinds h = (refl, h)

ok_is : (P : List Kind → Type 0) (issued kinds : List Kind) → (the : Result (List Kind) Refusal) → the ≡ Ok issued → the ≡ Ok kinds → P issued → P kinds
ok_is P issued kinds the e h p = let k : issued ≡ kinds = cc in subst P k p

-- ---- messages of a listing

picked : (b : Bool) (x row : ListedMessage) (rest : Option ListedMessage) → (if b then Some x else rest) ≡ Some row → (x ≡ row) ⊎ (rest ≡ Some row)
picked true x row rest h = let k : x ≡ row = cc in inl k
picked false x row rest h = inr h

row_is_in : (uid : ℕ) (rows : List ListedMessage) (row : ListedMessage) → row_of uid rows ≡ Some row → IsIn row rows
row_is_in uid [] row h = cc
row_is_in uid (x ∷ rows) row h = elim (picked (x.uid == uid) x row (row_of uid rows) h) [ inl e ↦ inl e | inr t ↦ inr (row_is_in uid rows row t) ]

message_is_in : (rows : List ListedMessage) (entry : Option ViewEntry) (row : ListedMessage) → row_for rows entry ≡ Some row → IsIn row rows
message_is_in rows None row h = cc
message_is_in rows (Some e) row h = row_is_in e.uid rows row h

-- ---- lawful flags

all_with : (p : List ℕ → Bool) (word : List ℕ) (next : List ℕ) (words rest : List (List ℕ)) (o : Ordering) → p word ≡ true → list_all p (next ∷ words) ≡ true → list_all p rest ≡ true
    → list_all p (match_ordering o (word ∷ next ∷ words) (next ∷ words) (next ∷ rest)) ≡ true
all_with p word next words rest Less h i j = and_from (p word) (list_all p (next ∷ words)) h i
all_with p word next words rest Equal h i j = i
all_with p word next words rest Greater h i j = and_from (p next) (list_all p rest) (and_parts (p next) (list_all p words) i).0 j

all_with_text : (p : List ℕ → Bool) (word : List ℕ) (words : List (List ℕ)) → p word ≡ true → list_all p words ≡ true → list_all p (with_word word words) ≡ true
all_with_text p word [] h i = and_from (p word) true h refl
all_with_text p word (next ∷ words) h i =
    all_with p word next words (with_word word words) (octet_order word next) h i (all_with_text p word words h (and_parts (p next) (list_all p words) i).1)

all_united : (p : List ℕ → Bool) (given words : List (List ℕ)) → list_all p given ≡ true → list_all p words ≡ true → list_all p (united given words) ≡ true
all_united p [] words h i = i
all_united p (word ∷ given) words h i =
    let parts = and_parts (p word) (list_all p given) h in
    all_united p given (with_word word words) parts.1 (all_with_text p word words parts.0 i)

lawful_change : (mode : StoreMode) (old given : Flags) → list_all is_lawful_keyword old.keywords ≡ true → list_all is_lawful_keyword given.keywords ≡ true → list_all is_lawful_keyword (changed_flags mode old given).keywords ≡ true
unfolding changed_flags
lawful_change Replace old given h i = i
lawful_change Add old given h i = all_united is_lawful_keyword given.keywords old.keywords i h
lawful_change Remove old given h i = all_filtered is_lawful_keyword (λ (keyword : List ℕ). not (has_keyword keyword given.keywords)) old.keywords h

-- ---- limits

-- an operation that is issuable, apart from how many keywords and ids it has
abbrev IsCandidate : List ℕ → List ℕ → List ListedMessage → Kind → Type 0
IsCandidate folder destination rows (Store f flags old_ids origin) = (f ≡ folder) × (list_all is_lawful_keyword flags.keywords ≡ true) × AreListedWithOrigin rows old_ids origin
IsCandidate folder destination rows (Expunge f old_ids) = (f ≡ folder) × AreListedIds rows old_ids
IsCandidate folder destination rows (Append f flags date text) = (f ≡ destination) × (list_all is_lawful_keyword flags.keywords ≡ true)
IsCandidate folder destination rows (Create f) = ⊥
IsCandidate folder destination rows (Delete f seen) = ⊥
IsCandidate folder destination rows (Subscribe name) = ⊥
IsCandidate folder destination rows (Unsubscribe name seen) = ⊥

few_enough : (n most : ℕ) → nat_lt most n ≡ false → n ≤ most
few_enough n most h = grind (arith, nat_tests)

few_issuable : (folder destination : List ℕ) (rows : List ListedMessage) (kind : Kind) → IsCandidate folder destination rows kind → has_many_keywords kind ≡ false → has_many_versions kind ≡ false → IsIssuable folder destination rows kind
few_issuable folder destination rows (Store f flags old_ids origin) w k v = (w.0, (few_enough (length flags.keywords) 32 k, w.1), few_enough (length old_ids) 64 v, w.2)
few_issuable folder destination rows (Expunge f old_ids) w k v = (w.0, few_enough (length old_ids) 64 v, w.1)
few_issuable folder destination rows (Append f flags date text) w k v = (w.0, (few_enough (length flags.keywords) 32 k, w.1))
few_issuable folder destination rows (Create f) w k v = absurd w
few_issuable folder destination rows (Delete f seen) w k v = absurd w
few_issuable folder destination rows (Subscribe name) w k v = absurd w
few_issuable folder destination rows (Unsubscribe name seen) w k v = absurd w

neither : (a b : Bool) → (a || b) ≡ false → (a ≡ false) × (b ≡ false)
neither true b h = cc
neither false b h = (refl, h)

none_of_them : {A : Type 0} (test : A → Bool) (xs : List A) (x : A) → list_any test xs ≡ false → IsIn x xs → test x ≡ false
none_of_them test [] x h i = absurd i
none_of_them test (y ∷ xs) x h i =
    let parts = neither (test y) (list_any test xs) h in
    elim i [ inl e ↦ subst (λ z. test z ≡ false) e parts.0 | inr n ↦ none_of_them test xs x parts.1 n ]

-- within the limits all operations of the intent are issued
pub within_is : (intended kinds : List Kind) → within_limits intended ≡ Ok kinds → kinds ≡ intended
within_is intended kinds h =
    let keywords = unless_refused (list_any has_many_keywords intended) _ _ kinds h in
    let versions = unless_refused (list_any has_many_versions intended) _ _ kinds keywords.1 in
    ok_is (λ issued. issued ≡ intended) intended kinds _ refl versions.1 refl

-- operations within the limits are issuable
within_issuable : (folder destination : List ℕ) (rows : List ListedMessage) (intended kinds : List Kind) → within_limits intended ≡ Ok kinds → ((kind : Kind) → IsIn kind intended → IsCandidate folder destination rows kind) → AreIssuable folder destination rows kinds
within_issuable folder destination rows intended kinds h w =
    let keywords = unless_refused (list_any has_many_keywords intended) _ _ kinds h in
    let versions = unless_refused (list_any has_many_versions intended) _ _ kinds keywords.1 in
    ok_is (AreIssuable folder destination rows) intended kinds _ refl versions.1
    (λ kind i. few_issuable folder destination rows kind (w kind i) (none_of_them has_many_keywords intended kind keywords.0 i) (none_of_them has_many_versions intended kind versions.0 i))

-- ---- STORE

store_candidate : (folder destination : List ℕ) (rows : List ListedMessage) (mode : StoreMode) (given : Flags) (message : Option ListedMessage) → ((row : ListedMessage) → message ≡ Some row → IsIn row rows) → HaveLawfulKeywords rows
    → list_all is_lawful_keyword given.keywords ≡ true → (kind : Kind) → IsIn kind (store_of folder mode given message) → IsCandidate folder destination rows kind
store_candidate folder destination rows mode given None m l k kind i = absurd i
store_candidate folder destination rows mode given (Some row) m l k kind i =
    let is_in : IsIn row rows = m row refl in
    let flags = changed_flags mode row.flags given in
    let lawful : list_all is_lawful_keyword flags.keywords ≡ true = lawful_change mode row.flags given (l row is_in) k in
    one_unless (IsCandidate folder destination rows) (same_flags flags row.flags) (Store folder flags row.versions row.origin) (refl, lawful, (row, is_in, refl, refl)) kind i

not_false : (b : Bool) → not b ≡ false → b ≡ true
not_false true h = refl
not_false false h = cc

lawful_given : (flags : Flags) → has_unlawful_keyword flags ≡ false → list_all is_lawful_keyword flags.keywords ≡ true
lawful_given flags h = not_false (list_all is_lawful_keyword flags.keywords) h

store_candidates : (mailbox : OpenMailbox) (destination : List ℕ) (request : StoreRequest) (numbers : List ℕ) → HaveLawfulKeywords mailbox.rows → has_unlawful_keyword request.flags ≡ false
    → (kind : Kind) → IsIn kind (stores_of mailbox request numbers) → IsCandidate mailbox.name destination mailbox.rows kind
store_candidates mailbox destination request numbers l u =
    let rows = mailbox.rows in
    let view = mailbox.view in
    each_flat (IsCandidate mailbox.name destination rows) (λ n. store_of mailbox.name request.action.mode request.flags (message_at rows view n)) numbers
    (λ n i. store_candidate mailbox.name destination rows request.action.mode request.flags (message_at rows view n) (λ row e. message_is_in rows (entry_at view n) row e) l (lawful_given request.flags u))

-- STORE issues Stores of listed messages, with lawful flags.
pub store_intent_issuable : (mailbox : OpenMailbox) (destination : List ℕ) (request : StoreRequest) (kinds : List Kind) → HaveLawfulKeywords mailbox.rows → store_intent mailbox request ≡ Ok kinds
    → AreIssuable mailbox.name destination mailbox.rows kinds
store_intent_issuable mailbox destination request kinds l h =
    let in_range = unless_refused (not (is_in_range request.by_uid request.messages mailbox.view)) _ _ kinds h in
    let writable = unless_refused mailbox.read_only _ _ kinds in_range.1 in
    let lawful = unless_refused (has_unlawful_keyword request.flags) _ _ kinds writable.1 in
    let taken = taken_messages mailbox.rows mailbox.view request.unchanged_since (numbers_in_set request.by_uid request.messages mailbox.view) in
    within_issuable mailbox.name destination mailbox.rows (stores_of mailbox request taken) kinds lawful.1 (store_candidates mailbox destination request taken l lawful.0)

-- ---- EXPUNGE

expunge_candidate : (folder destination : List ℕ) (rows : List ListedMessage) (row : ListedMessage) → IsIn row rows → (kind : Kind) → IsIn kind (expunge_of folder row) → IsCandidate folder destination rows kind
expunge_candidate folder destination rows row m kind i =
    at_most_one (IsCandidate folder destination rows) row.flags.deleted (Expunge folder row.versions) (refl, (row, m, refl)) kind i

expunge_candidates : (folder destination : List ℕ) (rows : List ListedMessage) (kind : Kind) → IsIn kind (expunges_of folder rows) → IsCandidate folder destination rows kind
expunge_candidates folder destination rows = each_flat (IsCandidate folder destination rows) (expunge_of folder) rows (λ row m. expunge_candidate folder destination rows row m)

-- EXPUNGE issues Expunges of listed messages.
pub expunge_intent_issuable : (mailbox : OpenMailbox) (destination : List ℕ) (kinds : List Kind) → expunge_intent mailbox ≡ Ok kinds → AreIssuable mailbox.name destination mailbox.rows kinds
expunge_intent_issuable mailbox destination kinds h =
    let writable = unless_refused mailbox.read_only _ _ kinds h in
    within_issuable mailbox.name destination mailbox.rows (expunges_of mailbox.name mailbox.rows) kinds writable.1 (expunge_candidates mailbox.name destination mailbox.rows)

-- CLOSE issues Expunges of listed messages, or nothing.
close_by : (read_only : Bool) (folder destination : List ℕ) (rows : List ListedMessage) (kinds : List Kind) → (if read_only then Ok [] else within_limits (expunges_of folder rows)) ≡ Ok kinds → AreIssuable folder destination rows kinds
close_by true folder destination rows kinds h = ok_is (AreIssuable folder destination rows) [] kinds _ refl h (λ kind i. absurd i)
close_by false folder destination rows kinds h = within_issuable folder destination rows (expunges_of folder rows) kinds h (expunge_candidates folder destination rows)

pub close_intent_issuable : (mailbox : OpenMailbox) (destination : List ℕ) (kinds : List Kind) → close_intent mailbox ≡ Ok kinds → AreIssuable mailbox.name destination mailbox.rows kinds
close_intent_issuable mailbox destination kinds h = close_by mailbox.read_only mailbox.name destination mailbox.rows kinds h

expunge_at_candidate : (folder destination : List ℕ) (rows : List ListedMessage) (message : Option ListedMessage) → ((row : ListedMessage) → message ≡ Some row → IsIn row rows) → (kind : Kind) → IsIn kind (expunge_at folder message) → IsCandidate folder destination rows kind
expunge_at_candidate folder destination rows None m kind i = absurd i
expunge_at_candidate folder destination rows (Some row) m kind i = expunge_candidate folder destination rows row (m row refl) kind i

-- UID EXPUNGE issues Expunges of listed messages.
pub uid_expunge_intent_issuable : (mailbox : OpenMailbox) (destination : List ℕ) (uids : List SequenceRange) (kinds : List Kind) → uid_expunge_intent mailbox uids ≡ Ok kinds → AreIssuable mailbox.name destination mailbox.rows kinds
uid_expunge_intent_issuable mailbox destination uids kinds h =
    let writable = unless_refused mailbox.read_only _ _ kinds h in
    let folder = mailbox.name in
    let before = mailbox.rows in
    let view = mailbox.view in
    let numbers = numbers_in_set true uids view in
    within_issuable folder destination before (expunges_at folder before view numbers) kinds writable.1
    (each_flat (IsCandidate folder destination before) (λ n. expunge_at folder (message_at before view n)) numbers
    (λ n i. expunge_at_candidate folder destination before (message_at before view n) (λ row e. message_is_in before (entry_at view n) row e)))

-- ---- FETCH

seen_candidate : (folder destination : List ℕ) (rows : List ListedMessage) (items : List FetchItem) (mode : FetchMode) (message : Option ListedMessage) → ((row : ListedMessage) → message ≡ Some row → IsIn row rows) → HaveLawfulKeywords rows
    → (kind : Kind) → IsIn kind (seen_store folder items mode message) → IsCandidate folder destination rows kind
seen_candidate folder destination rows items mode None m l kind i = absurd i
seen_candidate folder destination rows items mode (Some row) m l kind i =
    let is_in : IsIn row rows = m row refl in
    at_most_one (IsCandidate folder destination rows) (is_above_changed_since mode.changed_since row && is_seen_set items mode row) (Store folder (seen_flags row.flags) row.versions row.origin) (refl, l row is_in, (row, is_in, refl, refl)) kind i

-- FETCH issues Stores of listed messages, with lawful flags.
pub fetch_intent_issuable : (mailbox : OpenMailbox) (destination : List ℕ) (request : Fetch) (kinds : List Kind) → HaveLawfulKeywords mailbox.rows → fetch_intent mailbox request ≡ Ok kinds
    → AreIssuable mailbox.name destination mailbox.rows kinds
fetch_intent_issuable mailbox destination request kinds l h =
    let in_range = unless_refused (not (is_in_range request.by_uid request.messages mailbox.view)) _ _ kinds h in
    let folder = mailbox.name in
    let before = mailbox.rows in
    let view = mailbox.view in
    let items = request.items in
    let mode = mode_of mailbox false request in
    let numbers = numbers_in_set request.by_uid request.messages view in
    within_issuable folder destination before (seen_stores mailbox request numbers) kinds in_range.1
    (each_flat (IsCandidate folder destination before) (λ n. seen_store folder items mode (message_at before view n)) numbers
    (λ n i. seen_candidate folder destination before items mode (message_at before view n) (λ row e. message_is_in before (entry_at view n) row e) l))

-- ---- COPY and MOVE

append_candidate : (folder destination : List ℕ) (rows : List ListedMessage) (message : Option ListedMessage) → ((row : ListedMessage) → message ≡ Some row → IsIn row rows) → HaveLawfulKeywords rows
    → (kind : Kind) → IsIn kind (append_of destination message) → IsCandidate folder destination rows kind
append_candidate folder destination rows None m l kind i = absurd i
append_candidate folder destination rows (Some row) m l kind i = only_one (IsCandidate folder destination rows) (Append destination row.flags row.date row.text) (refl, l row (m row refl)) kind i

append_candidates : (folder destination : List ℕ) (rows : List ListedMessage) (view : List ViewEntry) (numbers : List ℕ) → HaveLawfulKeywords rows → (kind : Kind) → IsIn kind (appends_of destination rows view numbers) → IsCandidate folder destination rows kind
append_candidates folder destination rows view numbers l =
    each_flat (IsCandidate folder destination rows) (λ n. append_of destination (message_at rows view n)) numbers
    (λ n i. append_candidate folder destination rows (message_at rows view n) (λ row e. message_is_in rows (entry_at view n) row e) l)

removal_candidate : (folder destination : List ℕ) (rows : List ListedMessage) (message : Option ListedMessage) → ((row : ListedMessage) → message ≡ Some row → IsIn row rows) → (kind : Kind) → IsIn kind (expunge_of_moved folder message) → IsCandidate folder destination rows kind
removal_candidate folder destination rows None m kind i = absurd i
removal_candidate folder destination rows (Some row) m kind i = only_one (IsCandidate folder destination rows) (Expunge folder row.versions) (refl, (row, m row refl, refl)) kind i

removal_candidates : (folder destination : List ℕ) (rows : List ListedMessage) (view : List ViewEntry) (numbers : List ℕ) (kind : Kind) → IsIn kind (expunges_of_moved folder rows view numbers) → IsCandidate folder destination rows kind
removal_candidates folder destination rows view numbers =
    each_flat (IsCandidate folder destination rows) (λ n. expunge_of_moved folder (message_at rows view n)) numbers
    (λ n i. removal_candidate folder destination rows (message_at rows view n) (λ row e. message_is_in rows (entry_at view n) row e))

-- COPY issues Appends in the destination, with lawful flags.
pub copy_intent_issuable : (mailbox : OpenMailbox) (request : Transfer) (exists : Bool) (kinds : List Kind) → HaveLawfulKeywords mailbox.rows → copy_intent mailbox request exists ≡ Ok kinds
    → AreIssuable mailbox.name request.name mailbox.rows kinds
copy_intent_issuable mailbox request exists kinds l h =
    let in_range = unless_refused (not (is_in_range request.by_uid request.messages mailbox.view)) _ _ kinds h in
    let issued = unless_refused (not exists) _ _ kinds in_range.1 in
    let folder = mailbox.name in
    let destination = request.name in
    let before = mailbox.rows in
    let view = mailbox.view in
    let numbers = numbers_in_set request.by_uid request.messages view in
    within_issuable folder destination before (appends_of destination before view numbers) kinds issued.1 (append_candidates folder destination before view numbers l)

-- MOVE issues Appends in the destination, with lawful flags, and Expunges of listed messages.
pub move_intent_issuable : (mailbox : OpenMailbox) (request : Transfer) (exists : Bool) (kinds : List Kind) → HaveLawfulKeywords mailbox.rows → move_intent mailbox request exists ≡ Ok kinds
    → AreIssuable mailbox.name request.name mailbox.rows kinds
move_intent_issuable mailbox request exists kinds l h =
    let in_range = unless_refused (not (is_in_range request.by_uid request.messages mailbox.view)) _ _ kinds h in
    let writable = unless_refused mailbox.read_only _ _ kinds in_range.1 in
    let issued = unless_refused (not exists) _ _ kinds writable.1 in
    let folder = mailbox.name in
    let destination = request.name in
    let before = mailbox.rows in
    let view = mailbox.view in
    let numbers = numbers_in_set request.by_uid request.messages view in
    within_issuable folder destination before (appends_of destination before view numbers ++ expunges_of_moved folder before view numbers) kinds issued.1
    (each_append (IsCandidate folder destination before) (appends_of destination before view numbers) (expunges_of_moved folder before view numbers)
    (append_candidates folder destination before view numbers l) (removal_candidates folder destination before view numbers))
