use Rattle.rev1_fetch.proofs.InsideLemmas.{section_inside}
use Rattle.rev1_fetch.proofs.laws.sections_are_as_inside.Goals as goal

pub returns : goal.returns
returns c = λ section partial peek message parts. section_inside section partial peek message parts
