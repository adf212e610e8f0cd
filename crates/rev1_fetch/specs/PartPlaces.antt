-- The parts that have numbers (RFC 3501, section 6.4.5), among all parts of a message in the order
-- in which they begin, and the octets of parts.

use Rattle.std.specs.Prelude.{◌≡◌, ℕ, suc, ◌-◌, Bool, true, false, ◌&&◌, ◌==◌, nat_le, nat_lt, List}
use Rattle.std.specs.Prelude.{[], ◌∷◌, ◌++◌, length, take, drop, Option, Some, None, if◌then◌else◌}
use Rattle.std.specs.List.{filter, list_all}
use Rattle.mail_parts.specs.Nesting.{parts_below}
use Rattle.mail_parts.specs.declared.part.Part.{Part}
use Rattle.mail_parts.specs.declared.part.PartKind.{PartKind}
use Rattle.mail_parts.specs.declared.part.PartKind.TheVariants as kinds

-- The part whose number is `n` among the parts of one at this level, and those after it; these are
-- the parts after that one. `IsChild` says which it is among all of them.
abbrev pub child_at : ℕ → ℕ → List Part → Option (List Part)
child_at depth n [] = None
child_at depth n (part ∷ parts) =
    if nat_le part.depth depth then None
    else (if part.depth == suc depth then (
    if nat_le n 1 then Some (part ∷ parts) else child_at depth (n - 1) parts
    )
    else child_at depth n parts)

-- A part that is no multipart is its own only part.
abbrev pub only_part : ℕ → List Part → Option (List Part)
only_part n parts = if n == 1 then Some parts else None

-- The part with a number below a message: that among the parts of its multipart, or 1.
abbrev pub part_of_multipart : PartKind → ℕ → ℕ → List Part → List Part → Option (List Part)
part_of_multipart kinds.Multipart depth n parts inner = child_at depth n inner
part_of_multipart kind depth n parts inner = only_part n parts

abbrev pub part_of_message : ℕ → Option (List Part) → Option (List Part)
part_of_message n None = None
part_of_message n (Some []) = None
part_of_message n (Some (part ∷ parts)) =
    part_of_multipart part.kind part.depth n (part ∷ parts) parts

-- The part with a number below another, which is the first of these; the whole message is first.
abbrev pub numbered_by : PartKind → Bool → ℕ → ℕ → List Part → List Part → Option (List Part)
numbered_by kinds.Multipart is_first depth n parts inner = child_at depth n inner
numbered_by kinds.Message false depth n parts inner = part_of_message n (child_at depth 1 inner)
numbered_by kind is_first depth n parts inner = if is_first then only_part n parts else None

abbrev pub numbered : Bool → ℕ → List Part → Option (List Part)
numbered is_first n [] = None
numbered is_first n (part ∷ parts) =
    numbered_by part.kind is_first part.depth n (part ∷ parts) parts

-- The part with the number of these numbers.
abbrev pub part_at_from : Bool → List ℕ → Option (List Part) → Option (List Part)
part_at_from is_first path None = None
part_at_from is_first [] (Some parts) = Some parts
part_at_from is_first (n ∷ path) (Some parts) = part_at_from false path (numbered is_first n parts)

abbrev pub part_at : List ℕ → List Part → Option (List Part)
part_at path parts = part_at_from true path (Some parts)

-- The octets of a text between two places.
abbrev pub region_of : List ℕ → ℕ → ℕ → Option (List ℕ)
region_of text start end =
    if nat_le start end && nat_le end (length text) then Some (take (end - start) (drop start text))
    else None

-- ---- The same over all parts.

-- Whether a part is one level below this level.
abbrev pub is_child : ℕ → Part → Bool
is_child depth part = part.depth == suc depth

-- The parts of one at this level: of the parts below it, which follow it, those one level below.
abbrev pub children_of : ℕ → List Part → List Part
children_of depth parts = filter (is_child depth) (parts_below depth parts)

-- The part after `n` others of one at this level, and those after it, among the parts after that
-- one.
pub record IsChild (depth n : ℕ) (parts found : List Part) : Type 0 where
  pub front : List Part
  pub child : Part
  pub back : List Part
  pub found_is : found ≡ child ∷ back
  pub parts_are : parts ≡ front ++ found
  pub deeper : list_all (λ part. nat_lt depth part.depth) front ≡ true
  pub one_below : is_child depth child ≡ true
  pub before : length (filter (is_child depth) front) ≡ n
