-- The arguments of SEARCH, read token by token, and what they are in the profile (RFC 3501, section
-- 6.4.4; RFC 7162, section 3.1.5).

use Rattle.std.specs.Prelude.{ℕ, zero, suc, ◌+◌, ◌-◌, min, Bool, true, false, not, ◌||◌, ◌==◌, List}
use Rattle.std.specs.Prelude.{[], ◌∷◌, ◌++◌, codes, decimal, length, take, drop, map, Option, Some}
use Rattle.std.specs.Prelude.{None, if◌then◌else◌}
use Rattle.std.specs.List.{list_any}
use Rattle.std.specs.Str.{bytes_eq}
use Rattle.imap_types.specs.Keywords.{to_lower_case}
use Rattle.imap_types.specs.declared.day.Day.{Day}
use Rattle.imap_answers.specs.Strings.{separated_by}
use Rattle.imap_syntax.specs.declared.octet_class.OctetClass.TheVariants.{Pattern}
use Rattle.imap_syntax.specs.declared.search.DateRelation.{DateRelation}
use Rattle.imap_syntax.specs.declared.search.DateRelation.TheVariants as order
use Rattle.imap_grammar.specs.Reading.{date_at, is_nil, span, text_at}
use Rattle.mail_text.specs.TextSearch.{is_prefix}
use Rattle.rev1_front.specs.SearchForms.{sent_uids}
use Rattle.rev1_front.specs.declared.search_days.SentDay.{SentDay}
use Rattle.rev1_front.specs.declared.search_keys.KeyWord.{KeyWord}
use Rattle.rev1_front.specs.declared.search_keys.KeyWord.TheVariants as words

-- The length of the token that octets begin with: a string, a word, or one octet.
abbrev pub token_end : List ℕ → Option (List ℕ × List ℕ) → ℕ
token_end octets None = min (length octets) 1
token_end octets (Some read) = length octets - length read.1

abbrev pub token_len : List ℕ → ℕ
token_len octets = token_end octets (text_at Pattern octets)

-- The length of a space and a token; 0 if no space is there.
abbrev pub text_len : List ℕ → ℕ
text_len [] = 0
text_len (octet ∷ octets) = if octet == 32 then suc (token_len octets) else 0

-- The length of this number of tokens, each after a space.
abbrev pub texts_len : ℕ → List ℕ → ℕ
texts_len zero octets = 0
texts_len (suc count) octets = text_len octets + texts_len count (drop (text_len octets) octets)

-- Whether a token is this word, in any letter case.
abbrev pub is_word : List ℕ → List ℕ → Bool
is_word letters token = bytes_eq (to_lower_case token) (to_lower_case letters)

-- The relation that a key about the day on which a message was sent asks for.
abbrev pub sent_order : List ℕ → Option DateRelation
sent_order token =
    if is_word (codes "SENTBEFORE") token then Some order.Before
    else (if is_word (codes "SENTON") token then Some order.On
    else (if is_word (codes "SENTSINCE") token then Some order.Since else None))

-- The keys with one text after them.
abbrev pub text_keys : List (List ℕ)
text_keys =
    codes "BCC"
    ∷ codes "BEFORE"
    ∷ codes "BODY"
    ∷ codes "CC"
    ∷ codes "FROM"
    ∷ codes "KEYWORD"
    ∷ codes "LARGER"
    ∷ codes "ON"
    ∷ codes "SINCE"
    ∷ codes "SMALLER"
    ∷ codes "SUBJECT"
    ∷ codes "TEXT"
    ∷ codes "TO"
    ∷ codes "UID"
    ∷ codes "UNKEYWORD"
    ∷ []

-- How many texts follow a key.
abbrev pub text_count : List ℕ → ℕ
text_count token =
    if is_word (codes "HEADER") token then 2
    else (if list_any (λ key. is_word key token) text_keys then 1 else 0)

-- What a token asks for as a key.
abbrev pub word_or_texts : Option DateRelation → List ℕ → KeyWord
word_or_texts (Some relation) token = words.Sent relation
word_or_texts None token = words.Texts (text_count token)

abbrev pub key_word : List ℕ → KeyWord
key_word token =
    if is_word (codes "OLD") token then words.Old
    else (if is_word (codes "NEW") token || is_word (codes "RECENT") token then words.Recent
    else (if is_word (codes "MODSEQ") token then words.ModSeq
    else word_or_texts (sent_order token) token))

-- A key: how many octets it has, what it is in the profile, and whether it depends on the days on
-- which messages were sent.
pub record ReadKey : Type 0 where
  pub len : ℕ
  pub text : List ℕ
  pub asks : Bool

-- Octets that are the same in the profile.
abbrev pub same_key : ℕ → List ℕ → ReadKey
same_key len octets = record { len = len; text = take len octets; asks = false }

-- MODSEQ of this length, with its number and without an entry.
abbrev pub entry_len : List ℕ → ℕ
entry_len octets =
    if bytes_eq (take 2 octets) (codes " \"") then texts_len 2 octets else 0

abbrev pub modseq_from : ℕ → ℕ → List ℕ → ReadKey
modseq_from len start octets = record {
  len = start + text_len (drop start octets);
  text = take len octets ++ take (text_len (drop start octets)) (drop start octets);
  asks = false;
}

abbrev pub modseq_key : ℕ → List ℕ → ReadKey
modseq_key len octets = modseq_from len (len + entry_len (drop len octets)) octets

-- The day that a whole text names.
abbrev pub whole_day : Option (Day × List ℕ) → Option Day
whole_day None = None
whole_day (Some read) = if is_nil read.1 then Some read.0 else None

abbrev pub day_after_space : List ℕ → Option Day
day_after_space [] = None
day_after_space (octet ∷ octets) = if octet == 32 then whole_day (date_at octets) else None

-- UID with these; NOT ALL if there are none.
abbrev pub uids_text : List ℕ → List ℕ
uids_text [] = codes "NOT ALL"
uids_text (uid ∷ uids) = codes "UID " ++ separated_by 44 (map decimal (uid ∷ uids))

-- A key about days of this length with what follows it; the same in the profile if no date does.
abbrev pub sent_text : DateRelation → List SentDay → ℕ → List ℕ → Option Day → ReadKey
sent_text relation days len octets None = same_key len octets
sent_text relation days len octets (Some day) =
    record { len = len; text = uids_text (sent_uids relation day days); asks = true }

abbrev pub sent_key_read : DateRelation → List SentDay → ℕ → List ℕ → ReadKey
sent_key_read relation days len octets =
    sent_text relation days (len + text_len (drop len octets)) octets
    (day_after_space (take (text_len (drop len octets)) (drop len octets)))

-- The key that octets begin with, or one token that is no key.
abbrev pub key_of_word : List SentDay → List ℕ → ℕ → KeyWord → ReadKey
key_of_word days octets len words.Old = record { len = len; text = codes "ALL"; asks = false }
key_of_word days octets len words.Recent =
    record { len = len; text = codes "NOT ALL"; asks = false }
key_of_word days octets len words.ModSeq = modseq_key len octets
key_of_word days octets len (words.Sent relation) = sent_key_read relation days len octets
key_of_word days octets len (words.Texts count) =
    same_key (len + texts_len count (drop len octets)) octets

abbrev pub first_key : List SentDay → List ℕ → ReadKey
first_key days octets =
    key_of_word days octets (token_len octets) (key_word (take (token_len octets) octets))

-- At most `count` keys: what they are in the profile, and whether one depends on days.
abbrev pub keys_read : ℕ → List SentDay → List ℕ → List ℕ × Bool
keys_read zero days octets = ([], false)
keys_read (suc count) days octets =
    if is_nil octets then ([], false)
    else (
      (first_key days octets).text
          ++ (keys_read count days (drop (first_key days octets).len octets)).0,
      (first_key days octets).asks
          || (keys_read count days (drop (first_key days octets).len octets)).1,
    )

-- Keys in the profile, and whether they depend on the days on which messages were sent. There are
-- at most as many as octets.
abbrev pub profile_keys : List SentDay → List ℕ → List ℕ × Bool
profile_keys days octets = keys_read (length octets) days octets

-- ---- The arguments of SEARCH, after its word.

-- Whether they begin with RETURN, which asks for ESEARCH (RFC 4731, section 3.1).
abbrev pub asks_return : List ℕ → Bool
asks_return rest = is_prefix (codes " RETURN ") rest

-- The length up to the first `)` (41), with it; 0 if there is none.
abbrev pub closed_len : List ℕ × List ℕ → ℕ
closed_len parts = if is_nil parts.1 then 0 else suc (length parts.0)

abbrev pub paren_len : List ℕ → ℕ
paren_len octets = closed_len (span (λ octet. not (octet == 41)) octets)

-- The length of RETURN with its options, after a space; 0 without it.
abbrev pub returned_len : List ℕ → ℕ
returned_len rest = if asks_return rest then paren_len rest else 0

-- The octets after the first LF (10).
abbrev pub after_line : List ℕ → List ℕ
after_line octets = drop 1 (span (λ octet. not (octet == 10)) octets).1

-- The name in a token: without quotes (34), after the line of a literal (123), or as it is.
abbrev pub charset_name : List ℕ → List ℕ
charset_name [] = []
charset_name (octet ∷ octets) =
    if octet == 34 then take (length octets - 1) octets
    else (if octet == 123 then after_line octets else octet ∷ octets)

-- Whether this charset is known (RFC 3501, section 6.4.4).
abbrev pub is_charset : List ℕ → Bool
is_charset name = is_word (codes "UTF-8") name || is_word (codes "US-ASCII") name

-- The length of CHARSET with its name, after a space; 0 without it, none if it isn't known.
abbrev pub known_len : List ℕ → Option ℕ
known_len octets =
    if is_charset (charset_name (take (token_len octets) octets)) then Some (9 + token_len octets)
    else None

abbrev pub charset_len : List ℕ → Option ℕ
charset_len rest =
    if is_prefix (codes " CHARSET ") rest then known_len (drop 9 rest) else Some 0

-- The arguments in the profile, and whether they depend on the days on which messages were sent.
abbrev pub with_front : List ℕ → List ℕ × Bool → List ℕ × Bool
with_front front keys = (front ++ keys.0, keys.1)

abbrev pub program_read : List SentDay → List ℕ → List ℕ → Option ℕ → Option (List ℕ × Bool)
program_read days returned program None = None
program_read days returned program (Some len) =
    Some (with_front (returned ++ take len program) (profile_keys days (drop len program)))

-- The same; none if the charset isn't known.
abbrev pub search_read : List SentDay → List ℕ → Option (List ℕ × Bool)
search_read days rest =
    program_read days (take (returned_len rest) rest) (drop (returned_len rest) rest)
    (charset_len (drop (returned_len rest) rest))
