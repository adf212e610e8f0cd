use Rattle.std.proofs.Common.{◌≡◌, ℕ, ◌≤◌, Bool, true, false, List, [], ◌∷◌, length, arith, refl, subst, sym, Option}
use Rattle.std.specs.Prelude.{Result, Ok, Err, if◌then◌else◌, nat_lt}
use Rattle.std.specs.List.{list_all}
use Rattle.std.specs.Str.{bytes_eq}
use Rattle.std.proofs.lemmas.Bool.Decides.{nat_tests}
use Rattle.std.proofs.lemmas.Slice.Eq.{bytes_eq-Decides}
use Rattle.crdt_ops.specs.declared.kind.Kind.{Kind}
use Rattle.crdt_ops.specs.declared.kind.Kind.TheVariants.{Append, Create, Delete, Subscribe, Unsubscribe}
use Rattle.imap_answers.specs.declared.fixed_words.Refusal.{Refusal}
use Rattle.imap_answers.specs.declared.fixed_words.Refusal.TheVariants.{InboxStays, KeywordTooLong, LoginFailed, MailboxExists, NameNotAllowed, NoDestination, NoSuchMailbox, TooManyKeywords}
use Rattle.imap_types.specs.declared.flags.Flags.{Flags}
use Rattle.imap_types.specs.Keywords.{is_lawful_keyword}
use Rattle.imap_types.specs.Names.{IsLawfulName, inbox}
use Rattle.tags_clocks.specs.declared.id.OpId.{OpId}
use Rattle.imap_commands.specs.declared.session.Credentials.{Credentials}
use Rattle.imap_commands.specs.AppendCommand.{append_intent, given_date}
use Rattle.imap_commands.specs.SimpleCommands.{status_intent}
use Rattle.imap_commands.specs.Login.{are_credentials, login_intent}
use Rattle.imap_commands.specs.Lawful.{AreLawfulKinds, IsLawfulKind}
use Rattle.imap_commands.specs.Mailboxes.{create_intent, created_name, delete_intent, is_lawful_name, subscribe_intent, unsubscribe_intent, unsubscribes}
use Rattle.imap_commands.specs.SelectCommand.{select_intent}
use Rattle.imap_commands.proofs.NameLemmas.{lawful_from_test}
use Rattle.imap_syntax.specs.declared.arguments.Append.{Append as Request}

-- the value of an Ok
ok_kinds : (intended kinds : List Kind) → ◌≡◌ {A = Result (List Kind) Refusal} (Ok intended) (Ok kinds) → intended ≡ kinds
ok_kinds intended kinds e = cc

lawful_one_kind : (kind : Kind) (kinds : List Kind) → IsLawfulKind kind → ◌≡◌ {A = Result (List Kind) Refusal} (Ok (kind ∷ [])) (Ok kinds) → AreLawfulKinds kinds
lawful_one_kind kind kinds h e = subst AreLawfulKinds (ok_kinds (kind ∷ []) kinds e) (h, tt)

lawful_no_kinds : (kinds : List Kind) → ◌≡◌ {A = Result (List Kind) Refusal} (Ok []) (Ok kinds) → AreLawfulKinds kinds
lawful_no_kinds kinds e = subst AreLawfulKinds (ok_kinds [] kinds e) tt

err_is_not_ok : (why : Refusal) (kinds : List Kind) → ◌≡◌ {A = Result (List Kind) Refusal} (Err why) (Ok kinds) → AreLawfulKinds kinds
err_is_not_ok why kinds e = cc

lawful_guarded_none : (test : Bool) (why : Refusal) (kinds : List Kind) → (if test then Ok [] else Err why) ≡ Ok kinds → AreLawfulKinds kinds
lawful_guarded_none true why kinds e = lawful_no_kinds kinds e
lawful_guarded_none false why kinds e = err_is_not_ok why kinds e

-- SELECT, EXAMINE, STATUS and LOGIN issue nothing
pub select_lawful : (exists : Bool) (kinds : List Kind) → select_intent exists ≡ Ok kinds → AreLawfulKinds kinds
select_lawful exists kinds e = lawful_guarded_none exists NoSuchMailbox kinds e

pub status_lawful : (exists : Bool) (kinds : List Kind) → status_intent exists ≡ Ok kinds → AreLawfulKinds kinds
status_lawful exists kinds e = lawful_guarded_none exists NoSuchMailbox kinds e

pub login_lawful : (credentials : Credentials) (user password : List ℕ) (kinds : List Kind) → login_intent credentials user password ≡ Ok kinds → AreLawfulKinds kinds
login_lawful credentials user password kinds e = lawful_guarded_none (are_credentials credentials user password) LoginFailed kinds e

-- CREATE
create_cases_lawful : (lawful exists : Bool) (folder : List ℕ) (kinds : List Kind) → (lawful ≡ true → IsLawfulName folder)
    → (if lawful then (if exists then Err MailboxExists else Ok (Create folder ∷ [])) else Err NameNotAllowed) ≡ Ok kinds → AreLawfulKinds kinds
create_cases_lawful true true folder kinds n e = err_is_not_ok MailboxExists kinds e
create_cases_lawful true false folder kinds n e = lawful_one_kind (Create folder) kinds (record { name = n refl; flags = tt; inbox_stays = λ k. k; count = tt }) e
create_cases_lawful false exists folder kinds n e = err_is_not_ok NameNotAllowed kinds e

pub create_lawful : (exists : Bool) (name : List ℕ) (kinds : List Kind) → create_intent exists name ≡ Ok kinds → AreLawfulKinds kinds
create_lawful exists name kinds e = create_cases_lawful (is_lawful_name (created_name name)) exists (created_name name) kinds (lawful_from_test (created_name name)) e

-- DELETE
delete_cases_lawful : (exists is_inbox : Bool) (seen : List OpId) (name : List ℕ) (kinds : List Kind) → IsLawfulName name → (is_inbox ≡ false → name ≡ inbox → ⊥)
    → (if exists then (if is_inbox then Err InboxStays else Ok (Delete name seen ∷ [])) else Err NoSuchMailbox) ≡ Ok kinds → AreLawfulKinds kinds
delete_cases_lawful true true seen name kinds n i e = err_is_not_ok InboxStays kinds e
delete_cases_lawful true false seen name kinds n i e = lawful_one_kind (Delete name seen) kinds (record { name = n; flags = tt; inbox_stays = i refl; count = tt }) e
delete_cases_lawful false is_inbox seen name kinds n i e = err_is_not_ok NoSuchMailbox kinds e

not_inbox : (name : List ℕ) → bytes_eq name inbox ≡ false → name ≡ inbox → ⊥
not_inbox name f e = let t : bytes_eq name inbox ≡ true = (bytes_eq-Decides name inbox).1 e in cc

pub delete_lawful : (exists : Bool) (seen : List OpId) (name : List ℕ) (kinds : List Kind) → IsLawfulName name → delete_intent exists seen name ≡ Ok kinds → AreLawfulKinds kinds
delete_lawful exists seen name kinds n e = delete_cases_lawful exists (bytes_eq name inbox) seen name kinds n (not_inbox name) e

-- SUBSCRIBE
subscribe_cases_lawful : (lawful is_subscribed : Bool) (name : List ℕ) (kinds : List Kind) → (lawful ≡ true → IsLawfulName name)
    → (if lawful then Ok (if is_subscribed then [] else Subscribe name ∷ []) else Err NameNotAllowed) ≡ Ok kinds → AreLawfulKinds kinds
subscribe_cases_lawful true true name kinds n e = lawful_no_kinds kinds e
subscribe_cases_lawful true false name kinds n e = lawful_one_kind (Subscribe name) kinds (record { name = n refl; flags = tt; inbox_stays = λ k. k; count = tt }) e
subscribe_cases_lawful false is_subscribed name kinds n e = err_is_not_ok NameNotAllowed kinds e

pub subscribe_lawful : (is_subscribed : Bool) (name : List ℕ) (kinds : List Kind) → subscribe_intent is_subscribed name ≡ Ok kinds → AreLawfulKinds kinds
subscribe_lawful is_subscribed name kinds e = subscribe_cases_lawful (is_lawful_name name) is_subscribed name kinds (lawful_from_test name) e

-- UNSUBSCRIBE
unsubscribe_cases_lawful : (lawful : Bool) (seen : List OpId) (name : List ℕ) (kinds : List Kind) → (lawful ≡ true → IsLawfulName name)
    → (if lawful then Ok (unsubscribes seen name) else Err NameNotAllowed) ≡ Ok kinds → AreLawfulKinds kinds
unsubscribe_cases_lawful true [] name kinds n e = lawful_no_kinds kinds e
unsubscribe_cases_lawful true (id ∷ ids) name kinds n e = lawful_one_kind (Unsubscribe name (id ∷ ids)) kinds (record { name = n refl; flags = tt; inbox_stays = λ k. k; count = tt }) e
unsubscribe_cases_lawful false seen name kinds n e = err_is_not_ok NameNotAllowed kinds e

pub unsubscribe_lawful : (seen : List OpId) (name : List ℕ) (kinds : List Kind) → unsubscribe_intent seen name ≡ Ok kinds → AreLawfulKinds kinds
unsubscribe_lawful seen name kinds e = unsubscribe_cases_lawful (is_lawful_name name) seen name kinds (lawful_from_test name) e

-- APPEND
append_cases_lawful : (exists lawful many : Bool) (name : List ℕ) (flags : Flags) (date text : List ℕ) (kinds : List Kind) → IsLawfulName name
    → lawful ≡ list_all is_lawful_keyword flags.keywords → many ≡ nat_lt 32 (length flags.keywords)
    → (if exists then (if lawful then (if many then Err TooManyKeywords else Ok (Append name flags date text ∷ [])) else Err KeywordTooLong) else Err NoDestination) ≡ Ok kinds → AreLawfulKinds kinds
append_cases_lawful true true true name flags date text kinds n l m e = err_is_not_ok TooManyKeywords kinds e
append_cases_lawful true true false name flags date text kinds n l m e =
    let few : length flags.keywords ≤ 32 = grind (arith, nat_tests) in
    lawful_one_kind (Append name flags date text) kinds (record { name = n; flags = (few, sym l); inbox_stays = λ k. k; count = tt }) e
append_cases_lawful true false many name flags date text kinds n l m e = err_is_not_ok KeywordTooLong kinds e
append_cases_lawful false lawful many name flags date text kinds n l m e = err_is_not_ok NoDestination kinds e

pub append_lawful : (exists : Bool) (stamp : List ℕ) (request : Request) (kinds : List Kind) → IsLawfulName request.name → append_intent exists stamp request ≡ Ok kinds → AreLawfulKinds kinds
append_lawful exists stamp request kinds n e =
    append_cases_lawful exists (list_all is_lawful_keyword request.flags.keywords) (nat_lt 32 (length request.flags.keywords)) request.name request.flags (given_date request.date stamp) request.text kinds n refl refl e
