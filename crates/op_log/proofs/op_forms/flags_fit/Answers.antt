use Rattle.op_log.proofs.FormLemmas.{words_lawful}
use Rattle.op_log.proofs.op_forms.flags_fit.Goals as goal

pub returns : goal.returns
returns c = (c.as_slice-words.ensures.ascending, words_lawful c.args.flags.now.keywords c.requires.1)
