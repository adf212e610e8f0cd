use Rattle.link_wire.proofs.LineCutLemmas.{same_cuts}
use Rattle.link_wire.proofs.laws.cuts_change_nothing_after_lines.Goals as goal

pub returns : goal.returns
returns c = same_cuts
