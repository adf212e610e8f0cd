-- Hits as the code computes them; proofs/HitLemmas ties them to Search.

use Rattle.std.specs.Prelude.{◌≡◌, ◌⊎◌, ℕ, Bool, false, List, [], ◌∷◌, ◌++◌}
use Rattle.imap_syntax.specs.declared.search.SearchStep.{SearchStep}
use Rattle.imap_syntax.specs.declared.search.SearchStep.TheVariants.{Test, Not, Or, And}
use Rattle.imap_query.specs.Search.{names_modseq}
use Rattle.imap_query.specs.declared.search_command.Hit.{Hit}

-- Whether a step is a MODSEQ test.
abbrev pub step_names_modseq : SearchStep → Bool
step_names_modseq (Test test) = names_modseq test
step_names_modseq Not = false
step_names_modseq Or = false
step_names_modseq And = false

-- The new list is the old one, or the old one with this number after it.
abbrev pub IsSameOrAppended : ℕ → List ℕ → List ℕ → Type 0
IsSameOrAppended number numbers new = (new ≡ numbers) ⊎ (new ≡ numbers ++ number ∷ [])

-- The number of the last hit, or the given number if there is no hit.
abbrev pub last_number : ℕ → List Hit → ℕ
last_number other [] = other
last_number other (hit ∷ hits) = last_number hit.number hits
