use Rattle.std.proofs.Common.{◌≡◌, ℕ, ◌+◌, ◌-◌, ◌*◌, ◌≤◌, List, [], ◌∷◌, min, ap, ◌∙◌, arith, inl, inr, refl}
use Rattle.std.proofs.lemmas.Bool.{cases_lt}
use Rattle.imap_syntax.specs.Strings.{number_of}

-- the number spelled by n and the digits, or the cap once it is exceeded
abbrev pub capped : ℕ → ℕ → List ℕ → ℕ
capped cap n [] = n
capped cap n (d ∷ ds) = capped cap (min (min (n * 10) cap + (d - 48)) cap) ds

grows : (n : ℕ) (ds : List ℕ) → n ≤ number_of n ds
grows n [] = omega arith
grows n (d ∷ ds) = omega (arith, grows (n * 10 + (d - 48)) ds)

at_cap : (cap : ℕ) (ds : List ℕ) → capped cap cap ds ≡ cap
at_cap cap [] = refl
at_cap cap (d ∷ ds) = let e : min (min (cap * 10) cap + (d - 48)) cap ≡ cap = omega arith in ap (λ n. capped cap n ds) e ∙ at_cap cap ds

-- the capped number is the lesser of the number and the cap
pub capped_is : (cap n : ℕ) (ds : List ℕ) → n ≤ cap → capped cap n ds ≡ min (number_of n ds) cap
capped_is cap n [] h = omega arith
capped_is cap n (d ∷ ds) h =
    elim (cases_lt (n * 10 + (d - 48)) cap) [
      | inl l ↦ let e : min (min (n * 10) cap + (d - 48)) cap ≡ n * 10 + (d - 48) = omega arith in ap (λ k. capped cap k ds) e ∙ capped_is cap (n * 10 + (d - 48)) ds (omega arith)
      | inr l ↦
          let e : min (min (n * 10) cap + (d - 48)) cap ≡ cap = omega arith in
          let g : n * 10 + (d - 48) ≤ number_of (n * 10 + (d - 48)) ds = grows (n * 10 + (d - 48)) ds in
          let f : cap ≡ min (number_of (n * 10 + (d - 48)) ds) cap = omega arith in
          ap (λ k. capped cap k ds) e ∙ at_cap cap ds ∙ f
    ]
