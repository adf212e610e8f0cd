-- STATUS with RECENT (RFC 3501, section 6.3.10).

use Rattle.std.specs.Prelude.{◌≡◌, ℕ, Bool, true, false, not, ◌==◌, List, [], ◌∷◌, ◌++◌, codes}
use Rattle.std.specs.List.{filter, list_any, slice_split}
use Rattle.std.specs.Str.{bytes_eq}
use Rattle.imap_answers.specs.Strings.{separated_by}
use Rattle.imap_types.specs.Keywords.{to_lower_case}

-- The words of a text, which spaces (32) divide.
abbrev pub words_of : List ℕ → List (List ℕ)
words_of text = slice_split (λ octet. octet == 32) text

-- Whether a text has a `(` (40).
abbrev pub has_parenthesis : List ℕ → Bool
has_parenthesis text = list_any (λ octet. octet == 40) text

-- Whether a word is RECENT.
abbrev pub is_recent : List ℕ → Bool
is_recent word = bytes_eq (to_lower_case word) (codes "recent")

-- Whether there are no words.
abbrev pub has_no_words : List (List ℕ) → Bool
has_no_words [] = true
has_no_words (word ∷ words) = false

-- The other words.
abbrev pub other_words : List (List ℕ) → List (List ℕ)
other_words words = filter (λ word. not (is_recent word)) words

-- What the profile is asked for: the other items, or MESSAGES if there are none.
abbrev pub asked_words : List (List ℕ) → List (List ℕ)
asked_words [] = codes "MESSAGES" ∷ []
asked_words (word ∷ words) = word ∷ words

-- Arguments of STATUS that end with this text between parentheses.
abbrev pub with_items : List ℕ → List ℕ → List ℕ
with_items front text = front ++ (codes "(" ++ (text ++ codes ")\r\n"))

-- Arguments of STATUS, after its word, with RECENT among the items after the last parenthesis; the
-- same without; and whether nothing else is asked for.
pub record HasRecent (rest inner : List ℕ) (only_recent : Bool) : Type 0 where
  pub front : List ℕ
  pub items : List ℕ
  pub written : rest ≡ with_items front items
  pub is_last : has_parenthesis items ≡ false
  pub has_recent : list_any is_recent (words_of items) ≡ true
  pub asked :
      inner ≡ with_items front (separated_by 32 (asked_words (other_words (words_of items))))
  pub only : only_recent ≡ has_no_words (other_words (words_of items))

-- The other words of a text joined by spaces, whether it has RECENT, and whether it has no others.
pub record AreOthers (words : List (List ℕ)) (joined : List ℕ) (has_recent is_empty : Bool)
    : Type 0 where
  pub text : joined ≡ separated_by 32 (other_words words)
  pub recent : has_recent ≡ list_any is_recent words
  pub none : is_empty ≡ has_no_words (other_words words)
