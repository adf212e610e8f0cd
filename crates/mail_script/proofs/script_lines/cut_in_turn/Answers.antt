use Rattle.mail_script.proofs.LineLemmas.{lines_last, lines_next}
use Rattle.mail_script.proofs.script_lines.cut_in_turn.Goals as goal

pub returns-clause-next : goal.returns-clause-next
returns-clause-next c = lines_next

pub returns-clause-last : goal.returns-clause-last
returns-clause-last c = lines_last
