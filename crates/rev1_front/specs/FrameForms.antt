-- The words of the commands that IMAP4rev1 has beside the profile, and frames with other words
-- (RFC 3501, section 6; RFC 2971).

use Rattle.std.specs.Prelude.{ℕ, List, [], ◌∷◌, ◌++◌, codes}
use Rattle.rev1_front.specs.declared.frame_parts.FrontWord.{FrontWord}
use Rattle.rev1_front.specs.declared.frame_parts.FrontWord.TheVariants as words

-- The word in capitals.
abbrev pub front_word_text : FrontWord → List ℕ
front_word_text words.Check = codes "CHECK"
front_word_text words.Id = codes "ID"
front_word_text words.Authenticate = codes "AUTHENTICATE"
front_word_text words.Lsub = codes "LSUB"
front_word_text words.Rename = codes "RENAME"
front_word_text words.Status = codes "STATUS"
front_word_text words.Search = codes "SEARCH"
front_word_text words.Uid = codes "UID"

abbrev pub front_words : List FrontWord
front_words =
    words.Check
    ∷ words.Id
    ∷ words.Authenticate
    ∷ words.Lsub
    ∷ words.Rename
    ∷ words.Status
    ∷ words.Search
    ∷ words.Uid
    ∷ []

-- A frame with this tag, this word and this rest.
abbrev pub reworded : List ℕ → List ℕ → List ℕ → List ℕ
reworded tag word rest = tag ++ (codes " " ++ (word ++ rest))
