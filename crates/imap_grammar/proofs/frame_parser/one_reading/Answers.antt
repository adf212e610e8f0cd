use Rattle.imap_grammar.proofs.FrameLaws.{one_reading}
use Rattle.imap_grammar.proofs.frame_parser.one_reading.Goals as goal

pub returns : goal.returns
returns c = one_reading
