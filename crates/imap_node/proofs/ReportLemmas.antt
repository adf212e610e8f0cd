use Rattle.std.proofs.Common.{◌≡◌, ◌+◌, true, nat_eq, List, [], ◌∷◌, length, refl, arith}
use Rattle.std.proofs.lemmas.Bool.Decides.{nat_tests}

-- a list of length 0 is empty
pub empty_by_length : {X : Type 0} (xs : List X) → nat_eq (length xs) 0 ≡ true → xs ≡ []
empty_by_length [] h = refl
empty_by_length (x ∷ xs) h = let none : length xs + 1 ≡ 0 = grind (arith, nat_tests) in absurd (omega (arith, none))
