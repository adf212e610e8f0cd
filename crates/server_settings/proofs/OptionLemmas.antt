use Rattle.std.proofs.Common.{◌≡◌, ℕ, List, Option, None, Some, Result, Ok, refl, subst, ◌<◌, ◌≤◌}
use Rattle.std.specs.Str.Parse.{ExplainsUnsignedError, HasUnsignedDigitsIfOk, ParsesUnsigned}
use Rattle.std.specs.declared.num.ParseIntError.{ParseIntError}
use Rattle.clap.specs.Words.{TriesOne}
use Rattle.server_settings.specs.Settings.{IsNumberOption}

-- ---- the number of an option, as clap's matches give it

-- what reading a text as a number of 32 bits gives
abbrev gives : List ℕ → Result ℕ ParseIntError → Type 0
gives t r = ParsesUnsigned 32 10 t r × ExplainsUnsignedError 10 t r × HasUnsignedDigitsIfOk t r

module _ (text : Option (List ℕ)) (r : Result (Option ℕ) ParseIntError) (otherwise most : ℕ)
    (none : text ≡ None → r ≡ Ok None) (value : (t : List ℕ) → text ≡ Some t → TriesOne gives t r) where
  pub number_otherwise : r ≡ Ok None → IsNumberOption text otherwise most otherwise
  number_otherwise is = go text (λ t e. subst (TriesOne gives t) is (value t e))
    where
      go : (o : Option (List ℕ)) → ((t : List ℕ) → o ≡ Some t → TriesOne gives t (Ok None)) → IsNumberOption o otherwise most otherwise
      go None h = refl
      go (Some t) h = absurd (h t refl)

  pub number_given : (n : ℕ) → r ≡ Ok (Some n) → 0 < n → n ≤ most → IsNumberOption text otherwise most n
  number_given n is positive small = go text (λ e. none e) (λ t e. subst (TriesOne gives t) is (value t e))
    where
      go : (o : Option (List ℕ)) → (o ≡ None → r ≡ Ok None) → ((t : List ℕ) → o ≡ Some t → gives t (Ok n)) → IsNumberOption o otherwise most n
      go None h g = let e = h refl in absurd cc
      go (Some t) h g = let p = (g t refl).0 in ((p.0.0, p.1), positive, small)
