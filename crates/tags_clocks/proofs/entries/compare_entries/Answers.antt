use Rattle.std.proofs.Common.{refl}
use Rattle.tags_clocks.proofs.ClockLemmas.{clocks_alike}
use Rattle.tags_clocks.proofs.entries.compare_entries.Goals as goal

pub returns-in-true-true-clause-equal : goal.returns-in-true-true-clause-equal
returns-in-true-true-clause-equal c =
    let w = c.in-true-true.ensures in
    let v = c.in-true-true.ensures' in
    (λ _. clocks_alike _ _ c.requires.clock c.requires.other_clock (w.0 refl) (v.0 refl), λ _. refl)
