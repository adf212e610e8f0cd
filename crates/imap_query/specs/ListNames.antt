-- The answers to LIST, with subscriptions (RFC 9051, sections 6.3.9 and 7.3.1).

use Rattle.std.specs.Prelude.{◌≡◌, ◌↔◌, ℕ, Bool, true, false, ◌&&◌, List, [], ◌∷◌, ◌++◌, map}
use Rattle.std.specs.Prelude.{if◌then◌else◌}
use Rattle.imap_answers.specs.declared.answer.Answer.{Answer}
use Rattle.imap_answers.specs.declared.answer.Answer.TheVariants.{List as ListAnswer}
use Rattle.imap_answers.specs.declared.mailbox.MailboxState.{MailboxState}
use Rattle.imap_answers.specs.declared.mailbox.MailboxState.TheVariants.{Selectable, NoSelect}
use Rattle.imap_answers.specs.declared.mailbox.MailboxState.TheVariants.{NonExistent}
use Rattle.imap_types.specs.Ascending.{AreAscending}
use Rattle.imap_query.specs.ListEntries.{AreListEntries}
use Rattle.imap_query.specs.Patterns.{IsIn, IsNameMatch, is_among}
use Rattle.imap_query.specs.declared.list_entries.ListEntry.{ListEntry}
use Rattle.imap_query.specs.declared.list_answers.ListMode.{ListMode}

-- The state of a name that LIST shows: a mailbox, or a level that can't be selected (RFC 9051,
-- section 7.3.1).
abbrev pub name_state : Bool → MailboxState
name_state is_mailbox = if is_mailbox then Selectable else NoSelect

-- The answer for an entry, which reports its subscription if that is asked for.
abbrev pub name_answer : Bool → List (List ℕ) → ListEntry → Answer
name_answer returned subscriptions entry =
    ListAnswer entry.name (name_state entry.is_mailbox)
    (returned && is_among subscriptions entry.name)

-- The state of a subscribed name: whether a mailbox of this name exists (RFC 9051,
-- section 6.3.9.1).
abbrev pub subscribed_state : Bool → MailboxState
subscribed_state exists = if exists then Selectable else NonExistent

-- The answer for a subscribed name.
abbrev pub subscribed_answer : List (List ℕ) → List ℕ → Answer
subscribed_answer folders name = ListAnswer name (subscribed_state (is_among folders name)) true

-- The subscribed names that a pattern matches, distinct and in ascending order.
pub record AreSubscribedNames (subscriptions : List (List ℕ)) (pattern : List ℕ)
    (names : List (List ℕ)) : Type 0 where
  pub ascending : AreAscending names
  pub exactly : (name : List ℕ)
      → IsIn name names ↔ (IsNameMatch pattern name × IsIn name subscriptions)

-- The answers to LIST with a pattern: only subscribed names, or mailboxes and superior levels.
abbrev pub ListsMatching : Bool → Bool → List ℕ → List (List ℕ) → List (List ℕ) → List Answer
    → Type 0
ListsMatching true returned pattern folders subscriptions answers =
    (names : List (List ℕ))
    × AreSubscribedNames subscriptions pattern names
    × (answers ≡ map (subscribed_answer folders) names)
ListsMatching false returned pattern folders subscriptions answers =
    (entries : List ListEntry)
    × AreListEntries folders pattern entries
    × (answers ≡ map (name_answer returned subscriptions) entries)

-- The answers to LIST: for an empty pattern the root line, otherwise those for reference and
-- pattern joined (RFC 9051, section 6.3.9).
abbrev pub ListsNames : ListMode → List ℕ → List ℕ → List (List ℕ) → List (List ℕ) → List Answer
    → Type 0
ListsNames mode reference [] folders subscriptions answers =
    answers ≡ ListAnswer [] NoSelect false ∷ []
ListsNames mode reference (octet ∷ pattern) folders subscriptions answers =
    ListsMatching mode.subscribed_only mode.return_subscribed (reference ++ octet ∷ pattern) folders
    subscriptions answers
