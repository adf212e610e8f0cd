use Rattle.std.proofs.Common.{sym}
use Rattle.imap_grammar.proofs.FrameLaws.{has_tag, no_tag}
use Rattle.imap_grammar.proofs.frame_parser.tag_of.Goals as goal

pub returns-in-Some : goal.returns-in-Some
returns-in-Some c = (c.in-Some.field-0-1.now, has_tag c.args.frame.now (c.in-Some.tag.now, c.in-Some.field-0-1.now) (sym c.in-Some.ensures))

pub returns-in-None : goal.returns-in-None
returns-in-None c = no_tag c.args.frame.now (sym c.in-None.ensures)
