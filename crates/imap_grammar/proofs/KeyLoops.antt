-- Keys, as the loop of the code reads them.
use Rattle.std.proofs.Common.{◌≡◌, ◌≢◌, ℕ, zero, suc, ◌-◌, ◌+◌, ◌<◌, List, [], ◌∷◌, ◌++◌, Option, Some, None, refl, sym, ap, ◌∙◌, arith}
use Rattle.imap_grammar.specs.KeyReading.{below_at, level_at, more_keys_at, or_more}
use Rattle.imap_grammar.specs.Reading.{◌>>=◌, IsFaultOfReading, next_at}
use Rattle.imap_grammar.specs.declared.fault.ParseFault.{ParseFault}
use Rattle.imap_grammar.specs.declared.fault.ParseFault.TheVariants.{NoMemory, BadSyntax, NotInProfile, NoTag, UnknownCommand}
use Rattle.imap_syntax.specs.declared.search.SearchStep.{SearchStep}
use Rattle.imap_syntax.specs.declared.search.SearchStep.TheVariants.{And}

pub below_zero : (n : ℕ) (octets : List ℕ) → n ≡ 0 → below_at n octets ≡ None
unfolding below_at
below_zero zero octets e = refl
below_zero (suc n) octets e = absurd (omega arith)

pub below_suc : (n : ℕ) (octets : List ℕ) → n ≢ 0 → level_at (below_at (n - 1)) octets ≡ below_at n octets
unfolding below_at
below_suc zero octets e = absurd (e refl)
below_suc (suc n) octets e = let k : suc n - 1 ≡ n = omega arith in ap (λ m. level_at (below_at m) octets) k

module _ (inner : List ℕ → Option (List SearchStep × List ℕ)) where
  one_more : (count i : ℕ) (steps : List SearchStep) (octets : List ℕ) (o : Option (List SearchStep × List ℕ)) → i < count → next_at 32 inner octets ≡ Some o
      → more_keys_at (count - i) inner steps octets ≡ or_more (more_keys_at (count - (i + 1)) inner) steps octets o
  one_more count i steps octets o lt h =
      let k : count - i ≡ suc (count - (i + 1)) = omega arith in
      ap (λ n. more_keys_at n inner steps octets) k ∙ ap (λ r. r >>= λ next. or_more (more_keys_at (count - (i + 1)) inner) steps octets next) h

  pub keys_continue : (steps : List SearchStep) (count i : ℕ) (octets after : List ℕ) (value : List SearchStep) (total : Option (List SearchStep × List ℕ)) → i < count → next_at 32 inner octets ≡ Some (Some (value, after))
      → more_keys_at (count - i) inner steps octets ≡ total → more_keys_at (count - (i + 1)) inner (steps ++ value ++ And ∷ []) after ≡ total
  keys_continue steps count i octets after value total lt h so_far = sym (one_more count i steps octets (Some (value, after)) lt h) ∙ so_far

  pub keys_stop : (steps : List SearchStep) (count i : ℕ) (octets : List ℕ) (total : Option (List SearchStep × List ℕ)) → i < count → next_at 32 inner octets ≡ Some None
      → more_keys_at (count - i) inner steps octets ≡ total → total ≡ Some (steps, octets)
  keys_stop steps count i octets total lt h so_far = sym so_far ∙ one_more count i steps octets None lt h

  fail_none : (steps : List SearchStep) (count i : ℕ) (octets : List ℕ) (total : Option (List SearchStep × List ℕ)) → i < count → next_at 32 inner octets ≡ None → more_keys_at (count - i) inner steps octets ≡ total → total ≡ None
  fail_none steps count i octets total lt h so_far =
      let k : count - i ≡ suc (count - (i + 1)) = omega arith in
      sym so_far ∙ ap (λ n. more_keys_at n inner steps octets) k ∙ ap (λ r. r >>= λ next. or_more (more_keys_at (count - (i + 1)) inner) steps octets next) h

  pub keys_fail : (e : ParseFault) (steps : List SearchStep) (count i : ℕ) (octets : List ℕ) (total : Option (List SearchStep × List ℕ)) → i < count → IsFaultOfReading e (next_at 32 inner octets) → more_keys_at (count - i) inner steps octets ≡ total → IsFaultOfReading e total
  keys_fail NoMemory steps count i octets total lt h so_far = tt
  keys_fail BadSyntax steps count i octets total lt h so_far = fail_none steps count i octets total lt h so_far
  keys_fail NotInProfile steps count i octets total lt h so_far = fail_none steps count i octets total lt h so_far
  keys_fail NoTag steps count i octets total lt h so_far = absurd h
  keys_fail UnknownCommand steps count i octets total lt h so_far = absurd h
