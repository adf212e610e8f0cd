-- FETCH and SEARCH as the code computes them from heads of rows; proofs/HeadLemmas proves them
-- equal to FetchCommand and Search.

use Rattle.std.specs.Prelude.{ℕ, Bool, true, not, ◌&&◌, ◌||◌, nat_lt, List, [], ◌∷◌, Option, Some}
use Rattle.std.specs.Prelude.{None, if◌then◌else◌}
use Rattle.imap_answers.specs.declared.answer.Answer.{Answer}
use Rattle.imap_answers.specs.declared.answer.Answer.TheVariants.{Fetch}
use Rattle.imap_answers.specs.declared.fetch_items.FetchItems.{FetchItems}
use Rattle.imap_syntax.specs.declared.fetch.FetchItem.{FetchItem}
use Rattle.imap_syntax.specs.declared.search.SearchTest.TheVariants.{System}
use Rattle.mailbox_rows.specs.ListedMessage.{ListedHead}
use Rattle.imap_query.specs.FetchCommand.{asks_part, reports_modseq, if_reported}
use Rattle.imap_query.specs.KeyHits.{Asks, Key}
use Rattle.imap_query.specs.Messages.{has_flag, agrees_with}
use Rattle.imap_query.specs.Search.{number_or_uid}
use Rattle.imap_query.specs.declared.fetch_command.FetchMode.{FetchMode}
use Rattle.imap_query.specs.declared.fetch_command.Part.TheVariants as part
use Rattle.imap_query.specs.declared.fetch_command.FetchParts.{FetchParts}
use Rattle.imap_query.specs.declared.keys.FlagTest.{FlagTest}
use Rattle.imap_query.specs.declared.search_command.Hit.{Hit}
use Rattle.imap_query.specs.declared.viewed_message.ViewedMessage.{ViewedMessage}

-- Whether no date, no size and no section is asked for.
abbrev pub are_answerable_by_heads : FetchParts → Bool
are_answerable_by_heads parts =
    not parts.date && (not parts.size && (not parts.sections && not parts.seen))

-- Whether a message's mod-sequence is above that of CHANGEDSINCE, if one is given.
abbrev pub is_head_above_changed_since : Option ℕ → ListedHead → Bool
is_head_above_changed_since None head = true
is_head_above_changed_since (Some modseq) head = nat_lt modseq head.modseq

-- The items reported of a message, from its head.
abbrev pub head_items : List FetchItem → FetchMode → ListedHead → FetchItems
head_items items mode head = record {
  uid = if_reported (mode.by_uid || asks_part part.Uid items) head.uid;
  flags = if_reported (asks_part part.Flags items) head.flags;
  date = None;
  size = None;
  modseq = if_reported (reports_modseq items mode (asks_part part.Flags items)) head.modseq;
  sections = [];
}

-- The answer of FETCH for a message that a view shows, from its head.
abbrev pub head_answer : List FetchItem → FetchMode → ViewedMessage → Option ListedHead
    → List Answer
head_answer items mode shown None = []
head_answer items mode shown (Some head) =
    if is_head_above_changed_since mode.changed_since head
    then Fetch shown.number (head_items items mode head) ∷ []
    else []

-- The key that only tests a flag.
abbrev pub flag_key : FlagTest → Key
flag_key test = Asks (System test.flag test.is_set)

-- The hit for a message that a view shows, from its head.
abbrev pub head_hit : Bool → FlagTest → ViewedMessage → Option ListedHead → List Hit
head_hit by_uid test shown None = []
head_hit by_uid test shown (Some head) =
    if agrees_with test.is_set (has_flag test.flag head.flags)
    then record { number = number_or_uid by_uid shown; modseq = head.modseq } ∷ []
    else []
