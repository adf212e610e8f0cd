use Rattle.mail_replay.proofs.ReplayLemmas.{stopped_at_first}
use Rattle.mail_replay.proofs.replay_run.play.Goals as goal

pub returns-in_default-clause-err : goal.returns-in_default-clause-err
returns-in_default-clause-err g c = λ script e. stopped_at_first script (g.R.Read.remaining c.args.reader.now) (g.W.Write.contents c.args.writer.now)
