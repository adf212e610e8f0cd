use Rattle.std.proofs.Common.{[]}
use Rattle.rev1_fetch.proofs.NumberTexts.{header_read, section_read}
use Rattle.rev1_fetch.proofs.laws.sections_are_read.Goals as goal

pub returns-clause-words : goal.returns-clause-words
returns-clause-words c = λ front path name back section partial peek f h w k. section_read front path name back section partial peek f h w k

pub returns-clause-mime : goal.returns-clause-mime
returns-clause-mime c = λ front path back section partial peek f h some k. header_read front path [] back section partial peek f h some k
