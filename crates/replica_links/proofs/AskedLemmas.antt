use Rattle.std.proofs.Common.{ℕ, ◌+◌, ◌<◌, List, [], ◌∷◌, ◌++◌, refl, sym, subst}
use Rattle.std.proofs.Common.{get_or, length, take}
use Rattle.std.proofs.lemmas.List.{take_more}
use Rattle.replica_links.specs.Links.{AreAsked, MayAsk}

module _ {S P : Type 0} (lacks : S → Type 0) (has : S → List (ℕ × ℕ) → Type 0) (asks : P → ℕ → List (ℕ × ℕ) → P → Type 0) (s : S) where
  -- one further replica is asked
  asked_append : (p : P) (front : List ℕ) (to : ℕ) (q r : P) → AreAsked lacks has asks s p front q → MayAsk lacks has asks s q to r → AreAsked lacks has asks s p (front ++ to ∷ []) r
  asked_append p [] to q r h step = (r, subst (λ (x : P). MayAsk lacks has asks s x to r) (sym h) step, refl)
  asked_append p (f ∷ front) to q r h step = (h.0, h.1, asked_append h.0 front to q r h.2 step)

  pub asked_next : (peers : List ℕ) (i : ℕ) (p q r : P) → i < length peers → AreAsked lacks has asks s p (take i peers) q → MayAsk lacks has asks s q (get_or peers i 0) r → AreAsked lacks has asks s p (take (i + 1) peers) r
  asked_next peers i p q r l h step = subst (λ (xs : List ℕ). AreAsked lacks has asks s p xs r) (sym (take_more peers i 0 l)) (asked_append p (take i peers) (get_or peers i 0) q r h step)
