use Rattle.std.proofs.Common.{◌∙◌, sym, ap, subst}
use Rattle.imap_types.specs.Numbers.{AreRisingFrom, runs_of}
use Rattle.imap_types.proofs.NumbersLemmas.{rising-numbers, runs_of-numbers}
use Rattle.imap_types.proofs.number_set.NumberSet.runs.Goals as goal

pub returns-clause-runs : goal.returns-clause-runs
returns-clause-runs c =
    c.deref.ensures.value ∙ sym (runs_of-numbers 1 c.self.inside.runs.items c.self.invariant) ∙ ap runs_of c.self.view_is

pub returns-clause-rising : goal.returns-clause-rising
returns-clause-rising c =
    subst (AreRisingFrom 1) c.self.view_is (rising-numbers 1 c.self.inside.runs.items c.self.invariant)
