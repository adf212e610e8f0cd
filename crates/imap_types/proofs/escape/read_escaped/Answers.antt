use Rattle.imap_types.proofs.EscapeLemmas.{spelling_of_read, only_by}
use Rattle.imap_types.proofs.escape.read_escaped.Goals as goal

pub returns-clause-spelling : goal.returns-clause-spelling
returns-clause-spelling c = spelling_of_read c.args.escape c.args.text.now c.unescape.result c.unescape.ensures

pub returns-clause-only : goal.returns-clause-only
returns-clause-only c = only_by c.args.escape c.args.text.now c.unescape.result c.unescape.ensures
