use Rattle.rev1_front.proofs.LsubLemmas.{list_printed}
use Rattle.rev1_front.proofs.lsub.list_line.Goals as goal

pub returns : goal.returns
returns c = (
  c.in_ok-outer_name.field-0,
  c.in_ok-outer_name.ensures,
  list_printed c.in_ok-outer_name.field-0 c.print.new.out.items c.new-line.result.items c.listed_state.result c.args.is_absent c.listed_state.ensures c.new-line.ensures.items c.in_ok-print.ensures.ok,
)
