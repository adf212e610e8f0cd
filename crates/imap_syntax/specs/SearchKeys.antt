-- The keys of SEARCH as trees, and their steps in postfix order (RFC 9051, section 6.4.4).

use Rattle.std.specs.Prelude.{◌≡◌, List, [], ◌∷◌, ◌++◌}
use Rattle.imap_syntax.specs.declared.search.SearchStep.{SearchStep}
use Rattle.imap_syntax.specs.declared.search.SearchStep.TheVariants.{Test, Not, Or, And}
use Rattle.imap_syntax.specs.declared.search.SearchTest.{SearchTest}

-- A key of SEARCH (RFC 9051, section 6.4.4).
pub data Key : Type 0 where
  Asks : SearchTest → Key
  Lacks : Key → Key
  Either : Key → Key → Key
  Both : Key → Key → Key

-- The steps of a key, each after the steps of its operands.
abbrev pub steps_of : Key → List SearchStep
steps_of (Asks test) = Test test ∷ []
steps_of (Lacks key) = steps_of key ++ Not ∷ []
steps_of (Either this that) = steps_of this ++ steps_of that ++ Or ∷ []
steps_of (Both this that) = steps_of this ++ steps_of that ++ And ∷ []

-- Steps that are those of a key.
pub record IsKey (steps : List SearchStep) : Type 0 where
  pub key : Key
  pub steps_are : steps ≡ steps_of key
