-- What the code that reads SEARCH keeps.

use Rattle.std.specs.Prelude.{ℕ, Bool, List, Option, Some, None}
use Rattle.rev1_front.specs.declared.search_frame.SearchArguments.{SearchArguments}
use Rattle.rev1_front.specs.declared.search_frame.SearchArguments.TheVariants.{Profile}
use Rattle.rev1_front.specs.declared.search_frame.SearchArguments.TheVariants.{UnknownCharset}

-- The arguments that were read, and whether they depend on days; none if the charset isn't known.
abbrev pub shown_arguments : SearchArguments → Option (List ℕ × Bool)
shown_arguments (Profile rest asks) = Some (rest.items, asks)
shown_arguments UnknownCharset = None
