use Rattle.std.proofs.Common.{◌≡◌, ◌↔◌, true, List, ℕ, [], subst, rules}
use Rattle.imap_types.proofs.NumbersLemmas.{no_numbers}
use Rattle.imap_types.proofs.number_set.NumberSet.is_empty.Goals as goal

pub returns : goal.returns
returns c =
    subst (λ (ns : List ℕ). (c.is_empty.result ≡ true) ↔ (ns ≡ [])) c.self.view_is (no_numbers c.self.inside.runs.items c.is_empty.result (search rules))
