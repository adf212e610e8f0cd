use Rattle.rev1_fetch.specs.ReadSteps.{items_in}
use Rattle.rev1_fetch.proofs.ItemLemmas.{ItemsUpTo}
use Rattle.rev1_fetch.proofs.plan.read_items.Given as goal

abbrev pub invariant-loop-end : goal.invariant-loop-end
invariant-loop-end l = ItemsUpTo l.items l.start l.end l.place (items_in l.read)
