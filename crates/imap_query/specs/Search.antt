-- The results of SEARCH (RFC 9051, section 6.4.4; RFC 7162, section 3.1.5).

use Rattle.std.specs.Prelude.{ℕ, Bool, true, false, not, ◌&&◌, ◌||◌, ◌==◌, List, [], ◌∷◌, length}
use Rattle.std.specs.Prelude.{map, flat_map, Option, Some, None, if◌then◌else◌}
use Rattle.std.specs.List.{list_any}
use Rattle.imap_types.specs.Numbers.{greatest}
use Rattle.imap_answers.specs.declared.mailbox.SearchResults.{SearchResults}
use Rattle.imap_syntax.specs.declared.search.SearchOption.{SearchOption}
use Rattle.imap_syntax.specs.declared.search.SearchOption.TheVariants.{Min, Max, All, Count}
use Rattle.imap_syntax.specs.declared.search.SearchTest.{SearchTest}
use Rattle.imap_syntax.specs.declared.search.SearchTest.TheVariants as tests
use Rattle.mailbox_rows.specs.ListedMessage.{ListedMessage}
use Rattle.mailbox_rows.specs.RowViews.{row_of}
use Rattle.imap_query.specs.KeyHits.{Asks, Both, Either, Key, Lacks, hits}
use Rattle.imap_query.specs.Tests.{test_holds}
use Rattle.imap_query.specs.declared.search_command.Hit.{Hit}
use Rattle.imap_query.specs.declared.viewed_message.ViewedMessage.{ViewedMessage}

-- The last message that a view shows, numbered 0 if the view is empty.
abbrev pub last_shown : List ViewedMessage → ViewedMessage
last_shown [] = record { number = 0; uid = 0 }
last_shown (shown ∷ []) = shown
last_shown (shown ∷ next ∷ view) = last_shown (next ∷ view)

-- The number by which a SEARCH names a message: its UID or its message number.
abbrev pub number_or_uid : Bool → ViewedMessage → ℕ
number_or_uid by_uid shown = if by_uid then shown.uid else shown.number

-- The hit of a message, if it matches the key.
abbrev pub hit_by : Bool → Key → ViewedMessage → ViewedMessage → ListedMessage → List Hit
hit_by by_uid key last shown row =
    if hits (test_holds last shown row) key
    then record { number = number_or_uid by_uid shown; modseq = row.modseq } ∷ []
    else []

-- The hit of a message, if the listing has it and it matches the key.
abbrev pub hit_of : Bool → Key → ViewedMessage → ViewedMessage → Option ListedMessage → List Hit
hit_of by_uid key last shown None = []
hit_of by_uid key last shown (Some row) = hit_by by_uid key last shown row

-- The messages that a view shows, that the listing has and that match the key, in the view's order;
-- `*` is the message `last`.
abbrev pub hits_of_rows : Bool → Key → ViewedMessage → List ListedMessage → List ViewedMessage
    → List Hit
hits_of_rows by_uid key last rows view =
    flat_map (λ shown. hit_of by_uid key last shown (row_of shown.uid rows)) view

-- The messages that match the key, in the view's order.
abbrev pub hits_in : Bool → Key → List ListedMessage → List ViewedMessage → List Hit
hits_in by_uid key rows view = hits_of_rows by_uid key (last_shown view) rows view

-- Whether a test is a MODSEQ test (RFC 7162, section 3.1.5).
abbrev pub names_modseq : SearchTest → Bool
names_modseq (tests.ModSeq value) = true
names_modseq tests.All = false
names_modseq (tests.System flag is_set) = false
names_modseq (tests.Keyword keyword is_set) = false
names_modseq (tests.Holds place word) = false
names_modseq (tests.Header name word) = false
names_modseq (tests.Dated order day) = false
names_modseq (tests.Larger octets) = false
names_modseq (tests.Smaller octets) = false
names_modseq (tests.Uids uids) = false
names_modseq (tests.Numbers numbers) = false

-- Whether a key has a MODSEQ test anywhere.
abbrev pub asks_modseq : Key → Bool
asks_modseq (Asks test) = names_modseq test
asks_modseq (Lacks key) = asks_modseq key
asks_modseq (Either this that) = asks_modseq this || asks_modseq that
asks_modseq (Both this that) = asks_modseq this || asks_modseq that

-- A number for each option.
abbrev pub option_number : SearchOption → ℕ
option_number Min = 0
option_number Max = 1
option_number All = 2
option_number Count = 3

-- Whether an option is given.
abbrev pub asks_option : SearchOption → List SearchOption → Bool
asks_option option options = list_any (λ other. option_number other == option_number option) options

-- Whether all hits are asked for: by ALL, or by no option at all (RFC 9051, section 6.4.4).
abbrev pub asks_all : List SearchOption → Bool
asks_all options = (length options == 0) || asks_option All options

-- Whether there are options, and each is MIN or MAX.
abbrev pub asks_only_min_or_max : List SearchOption → Bool
asks_only_min_or_max options = not (asks_all options) && not (asks_option Count options)

-- The first hit.
abbrev pub first_hit : List Hit → Option Hit
first_hit [] = None
first_hit (hit ∷ hits) = Some hit

-- The last hit.
abbrev pub last_hit : List Hit → Option Hit
last_hit [] = None
last_hit (hit ∷ []) = Some hit
last_hit (hit ∷ next ∷ hits) = last_hit (next ∷ hits)

-- The number of a hit.
abbrev pub number_in : Option Hit → Option ℕ
number_in None = None
number_in (Some hit) = Some hit.number

-- The mod-sequence of a hit, 0 if there is none.
abbrev pub modseq_in : Option Hit → ℕ
modseq_in None = 0
modseq_in (Some hit) = hit.modseq

-- A value, if it is asked for.
abbrev pub if_requested : {A : Type 0} → Bool → Option A → Option A
if_requested requested result = if requested then result else None

-- The mod-sequence of the results: the greatest among the hits that MIN and MAX name, if only these
-- are asked for, and among all hits otherwise (RFC 7162, section 3.1.5).
abbrev pub modseq_of_result : List SearchOption → List Hit → ℕ
modseq_of_result options hits =
    if asks_only_min_or_max options
    then greatest (modseq_in (if_requested (asks_option Min options) (first_hit hits))
    ∷ modseq_in (if_requested (asks_option Max options) (last_hit hits)) ∷ [])
    else greatest (map (λ hit. hit.modseq) hits)

-- The results of SEARCH for its hits, which ascend; if there are none, at most their number (RFC
-- 9051, section 6.4.4; RFC 7162, section 3.1.5).
abbrev pub results_of : List SearchOption → Bool → List Hit → SearchResults
results_of options with_modseq hits = record {
  min = if_requested (asks_option Min options) (number_in (first_hit hits));
  max = if_requested (asks_option Max options) (number_in (last_hit hits));
  all = if asks_all options then map (λ hit. hit.number) hits else [];
  count = if_requested (asks_option Count options) (Some (length hits));
  modseq =
      if_requested (with_modseq && not (length hits == 0))
      (Some (modseq_of_result options hits));
}
