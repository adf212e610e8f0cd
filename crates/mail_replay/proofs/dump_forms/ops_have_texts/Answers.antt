use Rattle.crdt_ops.specs.Form.{IsInForm}
use Rattle.mail_replay.proofs.FitLemmas.{each_in}
use Rattle.mail_replay.proofs.dump_forms.ops_have_texts.Goals as goal

pub returns : goal.returns
returns c = each_in IsInForm c.args.ops.now c.each_op_has_text.ensures
