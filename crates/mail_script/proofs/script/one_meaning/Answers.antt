use Rattle.mail_script.proofs.ScriptLemmas.{script_is_one}
use Rattle.mail_script.proofs.script.one_meaning.Goals as goal

pub returns : goal.returns
returns c = script_is_one
