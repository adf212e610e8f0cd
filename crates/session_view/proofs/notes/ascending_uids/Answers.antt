use Rattle.std.proofs.Common.{arith, rules, ap, sym, ◌∙◌, List, ℕ}
use Rattle.std.specs.Prelude.{nat_eq}
use Rattle.std.specs.List.{list_any}
use Rattle.std.proofs.lemmas.List.Sorted.{IsNonDecreasingBy-from_sort_by_key, list_any-IsPermutation}
use Rattle.session_view.proofs.ChangeLemmas.{ascending_from}
use Rattle.session_view.proofs.notes.ascending_uids.Goals as goal

pub returns-clause-ascending : goal.returns-clause-ascending
returns-clause-ascending c =
    ascending_from 0 c.sort_by_key.new.self.items (λ d k. omega arith)
    (IsNonDecreasingBy-from_sort_by_key (λ (uid : ℕ). uid) _ ((c.in_ok-sort_by_key.ensures {u = tt}).sorted) (λ a r q k. search rules))

pub returns-clause-same : goal.returns-clause-same
returns-clause-same c = λ uid.
    sym (list_any-IsPermutation (λ u. nat_eq u uid) c.in_ok-uids.uids.items c.sort_by_key.new.self.items c.sort_by_key.ensures.permutation)
    ∙ ap (λ (us : List ℕ). list_any (λ u. nat_eq u uid) us) (c.in_ok-uids.ensures {u = tt})
