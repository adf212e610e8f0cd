use Rattle.std.proofs.Common.{◌≡◌, true, sym, ◌∙◌}
use Rattle.imap_types.specs.Numbers.{are_runs_from}
use Rattle.imap_types.proofs.NumbersLemmas.{runs_from_test}
use Rattle.imap_types.proofs.number_set.NumberSet.from_runs.Goals as goal

pub invariant_of-result : goal.invariant_of-result
invariant_of-result c =
    let e : are_runs_from 1 c.deref.result.now ≡ true = sym c.are_runs.ensures ∙ c.if-are_runs.true in
    runs_from_test 1 _ (rw c.deref.ensures.value at e)
