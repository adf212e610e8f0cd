-- Ascending lists without repetitions, as sets of ids and of names.

use Rattle.std.specs.Prelude.{◌≡◌, ◌↔◌, Bool, false, ◌&&◌, ◌==◌, Option, None, Some, List, [], ◌∷◌}
use Rattle.std.specs.List.{fold}
use Rattle.std.specs.Ordering.{nat_cmp, ordering_then, match_ordering}
use Rattle.std.specs.declared.cmp.Ordering.{Ordering}
use Rattle.std.specs.declared.cmp.Ordering.TheVariants.{Less}
use Rattle.tags_clocks.specs.declared.id.OpId.{OpId}
use Rattle.merge_laws.specs.Orders.{IsIn}

-- Whether two ids are the same.
abbrev pub same_id : OpId → OpId → Bool
same_id a b = (a.replica == b.replica) && (a.number == b.number)

-- Whether this is the id, if there is one.
abbrev pub is_some_id : OpId → Option OpId → Bool
is_some_id id None = false
is_some_id id (Some other) = same_id id other

-- The order of ids: by replica, then by number.
abbrev pub id_order : OpId → OpId → Ordering
id_order a b = ordering_then (nat_cmp a.replica b.replica) (nat_cmp a.number b.number)

-- The element is below the first of the list, if any.
abbrev pub IsBelowFirst : {X : Type 0} → (X → X → Ordering) → X → List X → Type 0
IsBelowFirst order x [] = Unit {0}
IsBelowFirst order x (y ∷ rest) = order x y ≡ Less

-- Each element is below the next, so that none occurs twice.
abbrev pub IsAscending : {X : Type 0} → (X → X → Ordering) → List X → Type 0
IsAscending order [] = Unit {0}
IsAscending order (x ∷ rest) = IsBelowFirst order x rest × IsAscending order rest

-- An ascending list with another element in its place, if the list lacks it.
abbrev pub insert_ordered : {X : Type 0} → (X → X → Ordering) → X → List X → List X
insert_ordered order x [] = x ∷ []
insert_ordered order x (y ∷ rest) =
    match_ordering (order x y) (x ∷ y ∷ rest) (y ∷ rest) (y ∷ insert_ordered order x rest)

-- The distinct elements, strictly ascending.
abbrev pub sorted_set : {X : Type 0} → (X → X → Ordering) → List X → List X
sorted_set order xs = fold (λ done x. insert_ordered order x done) [] xs

-- The list has exactly the elements with a property, strictly ascending.
abbrev pub IsListOf : {X : Type 0} → (X → X → Ordering) → (X → Type 0) → List X → Type 0
IsListOf {X} order P xs = IsAscending order xs × ((x : X) → IsIn x xs ↔ P x)
