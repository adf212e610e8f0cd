use Rattle.rev1_front.proofs.SliceLemmas.{stripped_end}
use Rattle.rev1_front.proofs.frame_parts.before_suffix.Goals as goal

pub returns : goal.returns
returns c = stripped_end (λ x. x.now) c.args.octets.now c.args.end.now c.strip_suffix.result c.strip_suffix.ensures.cases
