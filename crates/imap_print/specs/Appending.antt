-- The effect of printing on the octets before it: a text is appended, or joins a list of texts
-- separated by spaces (RFC 9051, section 9).

use Rattle.std.specs.Prelude.{◌≡◌, ℕ, Bool, true, false, ◌&&◌, List, [], ◌∷◌, ◌++◌, flat_map}
use Rattle.std.specs.Prelude.{length, take}
use Rattle.imap_answers.specs.Strings.{separated_by}

-- The new octets are the old ones and a text after them.
abbrev pub AppendsText : List ℕ → List ℕ → List ℕ → Type 0
AppendsText old new text = new ≡ old ++ text

-- The new octets begin with the old ones.
abbrev pub IsPrefix : List ℕ → List ℕ → Type 0
IsPrefix old new = take (length old) new ≡ old

-- Whether a list has no texts.
abbrev pub has_none : List (List ℕ) → Bool
has_none [] = true
has_none (text ∷ texts) = false

-- Texts of a list, each after a space (32) unless it is the first of the list.
abbrev pub spaced : Bool → List (List ℕ) → List ℕ
spaced true texts = separated_by 32 texts
spaced false texts = flat_map (λ next. 32 ∷ next) texts

-- The texts were appended as part of a list; `none_yet` says whether the list is still empty.
pub record AppendsToList (is_first : Bool) (texts : List (List ℕ)) (old new : List ℕ)
    (none_yet : Bool) : Type 0 where
  pub none_yet_is : none_yet ≡ (is_first && has_none texts)
  pub text : new ≡ old ++ spaced is_first texts
