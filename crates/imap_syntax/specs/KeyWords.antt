-- The words of SEARCH: its return options and keys (RFC 9051, section 9, search).

use Rattle.std.specs.Prelude.{ℕ, Bool, true, false, List, [], ◌∷◌, codes}
use Rattle.imap_syntax.specs.declared.flags.SystemFlag.{SystemFlag}
use Rattle.imap_syntax.specs.declared.flags.SystemFlag.TheVariants as system
use Rattle.imap_syntax.specs.declared.search.DateRelation.{DateRelation}
use Rattle.imap_syntax.specs.declared.search.DateRelation.TheVariants as order
use Rattle.imap_syntax.specs.declared.search.SearchKeyWord.{SearchKeyWord}
use Rattle.imap_syntax.specs.declared.search.SearchKeyWord.TheVariants as key
use Rattle.imap_syntax.specs.declared.search.SearchOption.{SearchOption}
use Rattle.imap_syntax.specs.declared.search.SearchOption.TheVariants as option
use Rattle.imap_syntax.specs.declared.search.TextPlace.{TextPlace}
use Rattle.imap_syntax.specs.declared.search.TextPlace.TheVariants as place

-- The return options of SEARCH (RFC 9051, section 9, search-return-opt).
abbrev pub option_word : SearchOption → List ℕ
option_word option.Min = codes "MIN"
option_word option.Max = codes "MAX"
option_word option.All = codes "ALL"
option_word option.Count = codes "COUNT"

abbrev pub search_options : List SearchOption
search_options = option.Min ∷ option.Max ∷ option.All ∷ option.Count ∷ []

-- The words with which keys begin (RFC 9051, section 9, search-key; RFC 7162, section 7, for
-- MODSEQ).
abbrev pub flag_key : SystemFlag → Bool → List ℕ
flag_key system.Answered true = codes "ANSWERED"
flag_key system.Answered false = codes "UNANSWERED"
flag_key system.Flagged true = codes "FLAGGED"
flag_key system.Flagged false = codes "UNFLAGGED"
flag_key system.Deleted true = codes "DELETED"
flag_key system.Deleted false = codes "UNDELETED"
flag_key system.Seen true = codes "SEEN"
flag_key system.Seen false = codes "UNSEEN"
flag_key system.Draft true = codes "DRAFT"
flag_key system.Draft false = codes "UNDRAFT"

abbrev pub place_key : TextPlace → List ℕ
place_key place.Bcc = codes "BCC"
place_key place.Cc = codes "CC"
place_key place.From = codes "FROM"
place_key place.Subject = codes "SUBJECT"
place_key place.To = codes "TO"
place_key place.Body = codes "BODY"
place_key place.Text = codes "TEXT"

abbrev pub order_key : DateRelation → List ℕ
order_key order.Before = codes "BEFORE"
order_key order.On = codes "ON"
order_key order.Since = codes "SINCE"

abbrev pub key_word : SearchKeyWord → List ℕ
key_word key.All = codes "ALL"
key_word (key.System flag is_set) = flag_key flag is_set
key_word (key.Keyword true) = codes "KEYWORD"
key_word (key.Keyword false) = codes "UNKEYWORD"
key_word (key.Place this) = place_key this
key_word key.Header = codes "HEADER"
key_word (key.Dated this) = order_key this
key_word key.Larger = codes "LARGER"
key_word key.Smaller = codes "SMALLER"
key_word key.ModSeq = codes "MODSEQ"
key_word key.Uid = codes "UID"
key_word key.Not = codes "NOT"
key_word key.Or = codes "OR"

abbrev pub key_words : List SearchKeyWord
key_words =
    key.All
    ∷ key.System system.Answered true
    ∷ key.System system.Answered false
    ∷ key.System system.Flagged true
    ∷ key.System system.Flagged false
    ∷ key.System system.Deleted true
    ∷ key.System system.Deleted false
    ∷ key.System system.Seen true
    ∷ key.System system.Seen false
    ∷ key.System system.Draft true
    ∷ key.System system.Draft false
    ∷ key.Keyword true
    ∷ key.Keyword false
    ∷ key.Place place.Bcc
    ∷ key.Place place.Cc
    ∷ key.Place place.From
    ∷ key.Place place.Subject
    ∷ key.Place place.To
    ∷ key.Place place.Body
    ∷ key.Place place.Text
    ∷ key.Header
    ∷ key.Dated order.Before
    ∷ key.Dated order.On
    ∷ key.Dated order.Since
    ∷ key.Larger
    ∷ key.Smaller
    ∷ key.ModSeq
    ∷ key.Uid
    ∷ key.Not
    ∷ key.Or
    ∷ []
