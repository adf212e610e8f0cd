use Rattle.imap_lex.proofs.FrameLemmas.{cut_of_frames}
use Rattle.imap_lex.proofs.laws.frames_are_read.Goals as goal

pub returns : goal.returns
returns c limits stream rest items h = let g = cut_of_frames limits stream rest items h in (g.0, g.1, g.2)
