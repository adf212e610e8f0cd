use Rattle.imap_lex.proofs.ReadLemmas.{frames_by_given}
use Rattle.imap_lex.proofs.laws.read_items_are_frames.Goals as goal

pub returns : goal.returns
returns c = frames_by_given
