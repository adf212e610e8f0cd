use Rattle.body_print.specs.Bodies.{body_of}
use Rattle.body_print.proofs.BoundLemmas.{body_bounded}
use Rattle.body_print.proofs.ReadBackLemmas.{reads_back}
use Rattle.body_print.proofs.laws.body_reads_back.Goals as goal

pub returns : goal.returns
returns c = record { bounded = body_bounded; reads_back = λ extended text parts. reads_back (body_of extended text parts) }
