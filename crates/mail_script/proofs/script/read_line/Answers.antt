use Rattle.mail_script.proofs.ScriptLemmas.{ok_by, only_by}
use Rattle.mail_script.proofs.script.read_line.Goals as goal

pub returns-clause-ok : goal.returns-clause-ok
returns-clause-ok c = ok_by c.args.line.now c.parse_line.result c.parse_line.ensures

pub returns-clause-only : goal.returns-clause-only
returns-clause-only c = only_by c.args.line.now c.parse_line.result c.parse_line.ensures
