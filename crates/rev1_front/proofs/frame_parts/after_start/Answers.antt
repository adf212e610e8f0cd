use Rattle.rev1_front.proofs.SliceLemmas.{stripped_start}
use Rattle.rev1_front.proofs.frame_parts.after_start.Goals as goal

pub returns : goal.returns
returns c = stripped_start (λ x. x.now) c.args.octets.now c.args.start.now c.strip_prefix.result c.strip_prefix.ensures.cases
