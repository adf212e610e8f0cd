-- SEARCH (RFC 9051, section 6.4.4; RFC 7162, section 3.1.5).

use Rattle.std.specs.Prelude.{◌≡◌, ℕ, ◌+◌, Bool, true, false, ◌&&◌, List, [], ◌∷◌, Result, Ok, Err}
use Rattle.std.specs.Prelude.{Some, if◌then◌else◌}
use Rattle.std.specs.List.{list_all}
use Rattle.crdt_ops.specs.declared.kind.Kind.{Kind}
use Rattle.imap_answers.specs.declared.answer.Answer.TheVariants.{Search}
use Rattle.imap_answers.specs.declared.mailbox.SearchResults.{SearchResults}
use Rattle.imap_answers.specs.declared.fixed_words.Refusal.{Refusal}
use Rattle.imap_answers.specs.declared.fixed_words.Refusal.TheVariants.{NoSuchMessage}
use Rattle.imap_syntax.specs.declared.search.SearchStep.{SearchStep}
use Rattle.imap_syntax.specs.declared.search.SearchStep.TheVariants.{Test, Not, Or, And}
use Rattle.imap_syntax.specs.declared.search.SearchTest.{SearchTest}
use Rattle.imap_syntax.specs.declared.search.SearchTest.TheVariants as tests
use Rattle.imap_query.specs.KeyHits.{Asks, Both, Either, Key, Lacks, steps_of}
use Rattle.imap_query.specs.Search.{asks_modseq, hits_in, results_of}
use Rattle.imap_query.specs.declared.viewed_message.ViewedMessage.{ViewedMessage}
use Rattle.session_view.specs.Sets.{is_in_range}
use Rattle.session_view.specs.declared.view_entry.ViewEntry.{ViewEntry}
use Rattle.imap_commands.specs.Arguments.{OpenMailbox}
use Rattle.imap_commands.specs.Report.{CommandReport, report_of_answers}
use Rattle.imap_answers.specs.declared.fixed_words.CompletedWord.TheVariants as words
use Rattle.imap_syntax.specs.declared.arguments.Search.{Search as Request}
use Rattle.imap_commands.specs.EnableCommand.{search_asks_modseq}
use Rattle.imap_commands.specs.CommandRules.{plain_rule, sync_kind_by}
use Rattle.imap_commands.specs.declared.command_rule.CommandRule.{CommandRule}
use Rattle.imap_commands.specs.MailStates.{MailState, open_mailbox}
use Rattle.imap_commands.specs.SessionStates.{if_selected}
use Rattle.imap_commands.specs.declared.session.State.{State}
use Rattle.imap_commands.specs.declared.session.State.TheVariants.{Selected}
use Rattle.imap_commands.specs.Report.{empty_report}

-- Whether a test may be asked: a set of message numbers names only numbers that messages have. A
-- set of UIDs may name any.
abbrev pub test_is_in_range : List ViewEntry → SearchTest → Bool
test_is_in_range view (tests.Numbers numbers) = is_in_range false numbers view
test_is_in_range view tests.All = true
test_is_in_range view (tests.System flag is_set) = true
test_is_in_range view (tests.Keyword keyword is_set) = true
test_is_in_range view (tests.Holds place word) = true
test_is_in_range view (tests.Header name word) = true
test_is_in_range view (tests.Dated order day) = true
test_is_in_range view (tests.Larger octets) = true
test_is_in_range view (tests.Smaller octets) = true
test_is_in_range view (tests.ModSeq value) = true
test_is_in_range view (tests.Uids uids) = true

-- Whether a key may be asked: each test anywhere in it may (RFC 9051, section 6.4.4).
abbrev pub key_is_in_range : List ViewEntry → Key → Bool
key_is_in_range view (Asks test) = test_is_in_range view test
key_is_in_range view (Lacks key) = key_is_in_range view key
key_is_in_range view (Either this that) = key_is_in_range view this && key_is_in_range view that
key_is_in_range view (Both this that) = key_is_in_range view this && key_is_in_range view that

-- The intent of SEARCH by its key: it issues nothing, and is refused if a set of message numbers
-- names one that no message has.
abbrev pub search_intent_by_key : List ViewEntry → Key → Result (List Kind) Refusal
search_intent_by_key view key = if key_is_in_range view key then Ok [] else Err NoSuchMessage

-- Whether a step may be asked.
abbrev pub step_is_in_range : List ViewEntry → SearchStep → Bool
step_is_in_range view (Test test) = test_is_in_range view test
step_is_in_range view Not = true
step_is_in_range view Or = true
step_is_in_range view And = true

-- The intent of SEARCH by the steps of its key; the law `searches_are_by_keys` says that it equals
-- the intent by the key.
abbrev pub search_intent : List ViewEntry → List SearchStep → Result (List Kind) Refusal
search_intent view steps =
    if list_all (step_is_in_range view) steps then Ok [] else Err NoSuchMessage

-- The messages of a view in the form that queries take, numbered from n.
abbrev pub viewed_messages_from : ℕ → List ViewEntry → List ViewedMessage
viewed_messages_from n [] = []
viewed_messages_from n (e ∷ es) =
    record { number = n; uid = e.uid } ∷ viewed_messages_from (n + 1) es

-- The results of SEARCH in a mailbox, by the key whose steps are given (RFC 9051, section 6.4.4;
-- RFC 7162, section 3.1.5).
pub record IsSearchResult (mailbox : OpenMailbox) (request : Request) (results : SearchResults) :
    Type 0 where
  pub key : Key
  pub steps_are : request.steps ≡ steps_of key
  pub results_are : results
      ≡ results_of request.options (asks_modseq key)
      (hits_in request.by_uid key mailbox.rows (viewed_messages_from 1 mailbox.view))

-- The report of SEARCH, which its arguments determine: a single answer with its results.
pub record IsSearchReport (mailbox : OpenMailbox) (tag : List ℕ) (request : Request)
    (report : CommandReport) : Type 0 where
  pub results : SearchResults
  pub finds : IsSearchResult mailbox request results
  pub only : report ≡ report_of_answers (Search tag request.by_uid results ∷ [])

-- The rule of SEARCH: a MODSEQ test turns mod-sequences on (RFC 7162, section 3.1).
abbrev pub search_rule : Request → CommandRule
search_rule request =
    record (plain_rule (if request.by_uid then words.UidSearch else words.Search)) {
      sync = Some (sync_kind_by request.by_uid);
      enables_condstore = search_asks_modseq request.steps;
    }

-- ---- in a session

-- The intent of SEARCH in a session.
abbrev pub intent_to_search : State → List SearchStep → Result (List Kind) Refusal
intent_to_search state steps =
    if_selected state (λ view read_only. search_intent view.entries steps)

-- The report of SEARCH in a session, given the replica after the command.
abbrev pub IsReportOfSearch : MailState → State → List ℕ → Request → CommandReport → Type 0
IsReportOfSearch after (Selected view read_only) tag request report =
    IsSearchReport (open_mailbox after view read_only) tag request report
IsReportOfSearch after _ tag request report = report ≡ empty_report
