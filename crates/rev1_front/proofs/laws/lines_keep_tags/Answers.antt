use Rattle.rev1_front.proofs.TagLemmas.{answers_tagged}
use Rattle.rev1_front.proofs.laws.lines_keep_tags.Goals as goal

pub returns : goal.returns
returns c = λ mode form given front text h. answers_tagged mode form given front text h
