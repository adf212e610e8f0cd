use Rattle.mail_replay.proofs.FitLemmas.{words_lawful}
use Rattle.mail_replay.proofs.dump_forms.flags_fit.Goals as goal

pub returns : goal.returns
returns c = (c.as_slice-words.ensures.ascending, words_lawful c.args.flags.now.keywords c.requires.1)
