-- The octets before the first of a kind.
use Rattle.std.proofs.Common.{◌≡◌, ℕ, Bool, true, false, cond, not, eqb, List, [], ◌∷◌, ◌++◌, ◌||◌, refl, sym, ap, ◌∙◌}
use Rattle.std.specs.Prelude.{◌==◌}
use Rattle.std.specs.List.{list_any}
use Rattle.imap_grammar.specs.Reading.{span}

module _ (stop : ℕ) (is_same : eqb stop stop ≡ true) where
  abbrev other : ℕ → Bool
  other octet = not (octet == stop)

  -- one more octet before it
  one_more : (octet : ℕ) (front back : List ℕ) (b : Bool) → eqb octet stop ≡ b → list_any (λ octet. octet == stop) (octet ∷ front) ≡ false → (list_any (λ octet. octet == stop) front ≡ false → span other (front ++ stop ∷ back) ≡ (front, stop ∷ back))
      → span other (octet ∷ (front ++ stop ∷ back)) ≡ (octet ∷ front, stop ∷ back)
  one_more octet front back true t h more = let z : true ≡ false = sym (ap (λ b. b || list_any (λ octet. octet == stop) front) t) ∙ h in cc
  one_more octet front back false f h more =
      ap (λ b. cond {A = List ℕ × List ℕ} (not b) (octet ∷ (span other (front ++ stop ∷ back)).0, (span other (front ++ stop ∷ back)).1) ([], octet ∷ (front ++ stop ∷ back))) f
      ∙ ap (λ (cut : List ℕ × List ℕ). (octet ∷ cut.0, cut.1)) (more (sym (ap (λ b. b || list_any (λ octet. octet == stop) front) f) ∙ h))

  before : (front back : List ℕ) → list_any (λ octet. octet == stop) front ≡ false → span other (front ++ stop ∷ back) ≡ (front, stop ∷ back)
  before [] back h = ap (λ b. cond {A = List ℕ × List ℕ} (not b) (stop ∷ (span other back).0, (span other back).1) ([], stop ∷ back)) is_same
  before (octet ∷ front) back h = one_more octet front back (eqb octet stop) refl h (λ k. before front back k)

pub before_bracket : (front back : List ℕ) → list_any (λ octet. octet == 91) front ≡ false → span (λ octet. not (octet == 91)) (front ++ 91 ∷ back) ≡ (front, 91 ∷ back)
before_bracket front back h = before 91 refl front back h

pub before_space : (front back : List ℕ) → list_any (λ octet. octet == 32) front ≡ false → span (λ octet. not (octet == 32)) (front ++ 32 ∷ back) ≡ (front, 32 ∷ back)
before_space front back h = before 32 refl front back h
