use Rattle.std.proofs.Common.{sym, ◌∙◌}
use Rattle.rev1_front.proofs.RenameLemmas.{below_none, below_rest}
use Rattle.rev1_front.proofs.rename_plan.is_below.Goals as goal

pub returns-in-None : goal.returns-in-None
returns-in-None c = sym (below_none c.args.above.now c.args.name.now c.in-None.ensures)

pub returns-in-Some : goal.returns-in-Some
returns-in-Some c = c.begins_with_separator.ensures ∙ sym (below_rest c.args.above.now c.args.name.now c.in-Some.rest.now c.in-Some.ensures)
