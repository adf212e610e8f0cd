-- Which words are among others.

use Rattle.std.specs.Prelude.{ℕ, Bool, List}
use Rattle.std.specs.List.{list_all, list_any}
use Rattle.std.specs.Str.{bytes_eq}

-- Whether the word is one of these.
abbrev pub has_word : List (List ℕ) → List ℕ → Bool
has_word words word = list_any (λ other. bytes_eq word other) words

-- Whether each of the words is one of the others.
abbrev pub are_within : List (List ℕ) → List (List ℕ) → Bool
are_within words others = list_all (has_word others) words
