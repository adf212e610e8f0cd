-- How the places of a text's parts lie in the text and in one another.

use Rattle.std.specs.Prelude.{ℕ, ◌≤◌, List, [], ◌∷◌, nat_lt, if◌then◌else◌}
use Rattle.mail_parts.specs.declared.part.Part.{Part}

-- The fact is true of each part of a list.
abbrev pub EachPart : (Part → Type 0) → List Part → Type 0
EachPart P [] = Unit {0}
EachPart P (part ∷ parts) = P part × EachPart P parts

-- A part's header and body follow one another within a text of this size.
pub record HasPlaces (size : ℕ) (part : Part) : Type 0 where
  pub header : part.start ≤ part.body
  pub body : part.body ≤ part.end
  pub text : part.end ≤ size

-- A part lies in the body of another.
pub record IsInside (outer part : Part) : Type 0 where
  pub begins : outer.body ≤ part.start
  pub ends : part.end ≤ outer.end

-- The parts at the beginning of a list that are deeper than this, and those after them.
abbrev pub parts_below : ℕ → List Part → List Part
parts_below depth [] = []
parts_below depth (part ∷ parts) =
    if nat_lt depth part.depth then part ∷ parts_below depth parts else []

abbrev pub parts_after : ℕ → List Part → List Part
parts_after depth [] = []
parts_after depth (part ∷ parts) =
    if nat_lt depth part.depth then parts_after depth parts else part ∷ parts

-- The parts that a part contains lie in its body, and those after them begin after its end.
abbrev pub AreNested : List Part → Type 0
AreNested [] = Unit {0}
AreNested (part ∷ parts) =
    EachPart (IsInside part) (parts_below part.depth parts)
    × EachPart (λ next. part.end ≤ next.start) (parts_after part.depth parts)
    × AreNested parts
