-- ENABLE, and the other commands that turn mod-sequences on (RFC 9051, section 6.3.1; RFC 7162,
-- section 3.1).

use Rattle.std.specs.Prelude.{ℕ, Bool, true, false, ◌||◌, List, [], ◌∷◌, map, codes, is_some}
use Rattle.std.specs.Prelude.{Option}
use Rattle.std.specs.Char.{to_ascii_lowercase}
use Rattle.std.specs.List.{filter, list_any}
use Rattle.std.specs.Str.{bytes_eq}
use Rattle.imap_answers.specs.declared.answer.Answer.TheVariants.{Enabled as EnabledAnswer}
use Rattle.imap_answers.specs.declared.fixed_words.EnabledExtensions.{EnabledExtensions}
use Rattle.imap_answers.specs.declared.fixed_words.EnabledExtensions.TheVariants.{Condstore}
use Rattle.imap_answers.specs.declared.fixed_words.EnabledExtensions.TheVariants.{CondstoreImap4Rev2}
use Rattle.imap_answers.specs.declared.fixed_words.EnabledExtensions.TheVariants.{Imap4Rev2}
use Rattle.imap_answers.specs.declared.fixed_words.EnabledExtensions.TheVariants.{Imap4Rev2Condstore}
use Rattle.imap_answers.specs.declared.fixed_words.EnabledExtensions.TheVariants.{Nothing}
use Rattle.imap_syntax.specs.declared.fetch.FetchItem.{FetchItem}
use Rattle.imap_syntax.specs.declared.fetch.FetchItem.TheVariants.{Body, Flags, InternalDate}
use Rattle.imap_syntax.specs.declared.fetch.FetchItem.TheVariants.{ModSeq, Size, Uid}
use Rattle.imap_syntax.specs.declared.search.SearchStep.{SearchStep}
use Rattle.imap_syntax.specs.declared.status.StatusItem.{StatusItem}
use Rattle.imap_syntax.specs.declared.status.StatusItem.TheVariants.{HighestModSeq}
use Rattle.imap_query.specs.Hits.{step_names_modseq}
use Rattle.imap_query.specs.Status.{is_asked}
use Rattle.imap_commands.specs.Report.{CommandReport, report_of_answers}
use Rattle.imap_answers.specs.declared.fixed_words.CompletedWord.TheVariants as words
use Rattle.imap_commands.specs.CommandRules.{brief_rule}
use Rattle.imap_commands.specs.declared.command_rule.CommandRule.{CommandRule}

-- ---- ENABLE (RFC 9051, section 6.3.1)

-- Whether a name is CONDSTORE, in any letter case.
abbrev pub is_condstore : List ℕ → Bool
is_condstore name = bytes_eq (map to_ascii_lowercase name) (codes "condstore")

-- Whether a name is IMAP4rev2, in any letter case.
abbrev pub is_imap4rev2 : List ℕ → Bool
is_imap4rev2 name = bytes_eq (map to_ascii_lowercase name) (codes "imap4rev2")

-- Whether one of the names is CONDSTORE.
abbrev pub asks_condstore : List (List ℕ) → Bool
asks_condstore names = list_any is_condstore names

-- Whether one of the names is IMAP4rev2.
abbrev pub asks_imap4rev2 : List (List ℕ) → Bool
asks_imap4rev2 names = list_any is_imap4rev2 names

-- Whether the first of the names is CONDSTORE.
abbrev pub begins_with_condstore : List (List ℕ) → Bool
begins_with_condstore [] = false
begins_with_condstore (name ∷ names) = is_condstore name

-- Whether CONDSTORE is the first of the two extensions among the names.
abbrev pub asks_condstore_first : List (List ℕ) → Bool
asks_condstore_first names =
    begins_with_condstore (filter (λ name. is_condstore name || is_imap4rev2 name) names)

-- The enabled extensions, given which of the two were requested and whether CONDSTORE was first.
abbrev pub extensions_of_requests : Bool → Bool → Bool → EnabledExtensions
extensions_of_requests false false first = Nothing
extensions_of_requests true false first = Condstore
extensions_of_requests false true first = Imap4Rev2
extensions_of_requests true true true = CondstoreImap4Rev2
extensions_of_requests true true false = Imap4Rev2Condstore

-- The extensions that ENABLE enables, in the order of their first requests.
abbrev pub enabled_extensions : List (List ℕ) → EnabledExtensions
enabled_extensions names =
    extensions_of_requests (asks_condstore names) (asks_imap4rev2 names)
    (asks_condstore_first names)

-- The report of ENABLE.
abbrev pub enable_report : List (List ℕ) → CommandReport
enable_report names = report_of_answers (EnabledAnswer (enabled_extensions names) ∷ [])

-- ---- the other commands that turn mod-sequences on (RFC 7162, section 3.1)

-- Whether STATUS asks for HIGHESTMODSEQ.
abbrev pub status_asks_modseq : List StatusItem → Bool
status_asks_modseq items = is_asked HighestModSeq items

-- Whether an item of FETCH is MODSEQ.
abbrev pub is_modseq_item : FetchItem → Bool
is_modseq_item Uid = false
is_modseq_item Flags = false
is_modseq_item InternalDate = false
is_modseq_item Size = false
is_modseq_item ModSeq = true
is_modseq_item (Body peek section partial) = false

-- Whether FETCH asks for MODSEQ or has CHANGEDSINCE.
abbrev pub fetch_asks_modseq : List FetchItem → Option ℕ → Bool
fetch_asks_modseq items changed_since = list_any is_modseq_item items || is_some changed_since

-- Whether the steps of a SEARCH have a MODSEQ test; by the law `searches_are_by_keys` they have one
-- exactly when its key does.
abbrev pub search_asks_modseq : List SearchStep → Bool
search_asks_modseq steps = list_any step_names_modseq steps

-- ENABLE turns mod-sequences on if one of its names is CONDSTORE.
abbrev pub enable_rule : List (List ℕ) → CommandRule
enable_rule names =
    record (brief_rule words.Enable) { enables_condstore = asks_condstore names }
