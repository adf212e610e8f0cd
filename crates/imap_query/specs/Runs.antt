-- The steps of a search key, evaluated on a stack (RFC 9051, section 6.4.4).

use Rattle.std.specs.Prelude.{Bool, not, ◌&&◌, ◌||◌, List, [], ◌∷◌}
use Rattle.imap_syntax.specs.declared.search.SearchStep.{SearchStep}
use Rattle.imap_syntax.specs.declared.search.SearchStep.TheVariants.{Test, Not, Or, And}
use Rattle.imap_syntax.specs.declared.search.SearchTest.{SearchTest}
use Rattle.imap_query.specs.KeyHits.{Key, Asks, Lacks, Either, Both}

-- The stack of results after a step, the last result first.
abbrev pub after_step : (SearchTest → Bool) → SearchStep → List Bool → List Bool
after_step holds (Test test) results = holds test ∷ results
after_step holds Not [] = []
after_step holds Not (a ∷ results) = not a ∷ results
after_step holds Or [] = []
after_step holds Or (b ∷ []) = []
after_step holds Or (b ∷ a ∷ results) = (a || b) ∷ results
after_step holds And [] = []
after_step holds And (b ∷ []) = []
after_step holds And (b ∷ a ∷ results) = (a && b) ∷ results

-- The stack of results after several steps.
abbrev pub run : (SearchTest → Bool) → List SearchStep → List Bool → List Bool
run holds [] results = results
run holds (step ∷ steps) results = run holds steps (after_step holds step results)

-- The stack of keys after a step, the last key first: `after_step` with keys in place of results.
abbrev pub key_step : SearchStep → List Key → List Key
key_step (Test test) keys = Asks test ∷ keys
key_step Not [] = []
key_step Not (a ∷ keys) = Lacks a ∷ keys
key_step Or [] = []
key_step Or (b ∷ []) = []
key_step Or (b ∷ a ∷ keys) = Either a b ∷ keys
key_step And [] = []
key_step And (b ∷ []) = []
key_step And (b ∷ a ∷ keys) = Both a b ∷ keys

-- The stack of keys after several steps.
abbrev pub key_stack : List SearchStep → List Key → List Key
key_stack [] keys = keys
key_stack (step ∷ steps) keys = key_stack steps (key_step step keys)
