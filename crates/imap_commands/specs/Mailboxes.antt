-- CREATE, DELETE, SUBSCRIBE and UNSUBSCRIBE (RFC 9051, sections 6.3.4, 6.3.5, 6.3.7 and 6.3.8).

use Rattle.std.specs.Prelude.{ℕ, ◌-◌, ◌==◌, nat_lt, Bool, not, ◌&&◌, List, [], ◌∷◌, length, take}
use Rattle.std.specs.Prelude.{slice_index, Result, Ok, Err, if◌then◌else◌}
use Rattle.std.specs.List.{list_all}
use Rattle.std.specs.Str.{bytes_eq, is_utf8}
use Rattle.crdt_ops.specs.declared.kind.Kind.{Kind}
use Rattle.crdt_ops.specs.declared.kind.Kind.TheVariants.{Create, Delete, Subscribe, Unsubscribe}
use Rattle.imap_answers.specs.declared.fixed_words.Refusal.{Refusal}
use Rattle.imap_answers.specs.declared.fixed_words.Refusal.TheVariants.{InboxStays, MailboxExists}
use Rattle.imap_answers.specs.declared.fixed_words.Refusal.TheVariants.{NameNotAllowed}
use Rattle.imap_answers.specs.declared.fixed_words.Refusal.TheVariants.{NoSuchMailbox}
use Rattle.imap_types.specs.Names.{fold_inbox, has_octets, inbox, is_name_octet, levels_of}
use Rattle.tags_clocks.specs.declared.id.OpId.{OpId}
use Rattle.imap_answers.specs.declared.fixed_words.CompletedWord.TheVariants as words
use Rattle.imap_commands.specs.CommandRules.{issuing_rule}
use Rattle.imap_commands.specs.declared.command_rule.CommandRule.{CommandRule}
use Rattle.imap_commands.specs.MailStates.{MailState, is_subscribed_in}
use Rattle.imap_commands.specs.SessionStates.{if_logged_in}
use Rattle.imap_commands.specs.declared.session.State.{State}

-- ---- names

-- Whether a mailbox may bear a name (RFC 9051, section 5.1; the bounds are this project's own). The
-- law `lawful_name_is` says that this decides `IsLawfulName`.
unfoldable pub is_lawful_name : List ℕ → Bool
is_lawful_name name =
    not (length name == 0) && not (nat_lt 255 (length name)) && is_utf8 name
    && list_all is_name_octet name && list_all has_octets (levels_of name)
    && bytes_eq (fold_inbox name) name

-- A name without one separator `/` (47) at its end.
abbrev pub without_last_separator : List ℕ → List ℕ
without_last_separator name =
    if slice_index name (length name - 1) == 47 then take (length name - 1) name else name

-- The name of the mailbox that CREATE creates: without one separator at its end, with INBOX in
-- capitals (RFC 9051, sections 5.1 and 6.3.4).
abbrev pub created_name : List ℕ → List ℕ
created_name name = fold_inbox (without_last_separator name)

-- ---- intents

-- The intent of CREATE (RFC 9051, section 6.3.4). `exists` says whether a mailbox of the created
-- name exists. No superior levels are created.
abbrev pub create_intent : Bool → List ℕ → Result (List Kind) Refusal
create_intent exists name =
    if is_lawful_name (created_name name)
    then (if exists then Err MailboxExists else Ok (Create (created_name name) ∷ []))
    else Err NameNotAllowed

-- The intent of DELETE (RFC 9051, section 6.3.5): its operation lists the ids `seen` of all the
-- folder's present tags.
abbrev pub delete_intent : Bool → List OpId → List ℕ → Result (List Kind) Refusal
delete_intent exists seen name =
    if exists
    then (if bytes_eq name inbox then Err InboxStays else Ok (Delete name seen ∷ []))
    else Err NoSuchMailbox

-- The intent of SUBSCRIBE (RFC 9051, section 6.3.7), which needs no mailbox: nothing is issued if
-- the name is subscribed.
abbrev pub subscribe_intent : Bool → List ℕ → Result (List Kind) Refusal
subscribe_intent is_subscribed name =
    if is_lawful_name name
    then Ok (if is_subscribed then [] else Subscribe name ∷ [])
    else Err NameNotAllowed

-- The Unsubscribe that lists the ids of a name's present subscription tags, if the name has any.
abbrev pub unsubscribes : List OpId → List ℕ → List Kind
unsubscribes [] name = []
unsubscribes (id ∷ ids) name = Unsubscribe name (id ∷ ids) ∷ []

-- The intent of UNSUBSCRIBE (RFC 9051, section 6.3.8): nothing is issued if the name isn't
-- subscribed.
abbrev pub unsubscribe_intent : List OpId → List ℕ → Result (List Kind) Refusal
unsubscribe_intent seen name =
    if is_lawful_name name then Ok (unsubscribes seen name) else Err NameNotAllowed

-- ---- rules

abbrev pub create_rule : CommandRule
create_rule = issuing_rule words.Create

abbrev pub delete_rule : CommandRule
delete_rule = issuing_rule words.Delete

abbrev pub subscribe_rule : CommandRule
subscribe_rule = issuing_rule words.Subscribe

abbrev pub unsubscribe_rule : CommandRule
unsubscribe_rule = issuing_rule words.Unsubscribe

-- ---- intents in a session

abbrev pub intent_to_create : MailState → State → List ℕ → Result (List Kind) Refusal
intent_to_create mail state name =
    if_logged_in state (create_intent (mail.exists (created_name name)) name)

abbrev pub intent_to_delete : MailState → State → List ℕ → Result (List Kind) Refusal
intent_to_delete mail state name =
    if_logged_in state (delete_intent (mail.exists name) (mail.delete_set name) name)

abbrev pub intent_to_subscribe : MailState → State → List ℕ → Result (List Kind) Refusal
intent_to_subscribe mail state name =
    if_logged_in state (subscribe_intent (is_subscribed_in mail name) name)

abbrev pub intent_to_unsubscribe : MailState → State → List ℕ → Result (List Kind) Refusal
intent_to_unsubscribe mail state name =
    if_logged_in state (unsubscribe_intent (mail.subscription_tags name) name)
