use Rattle.imap_connection.proofs.ReplyLemmas.{responds_open}
use Rattle.imap_connection.proofs.talk_steps.take_command.Goals as goal

pub returns-in-Ok-send_reply-clause-open : goal.returns-in-Ok-send_reply-clause-open
returns-in-Ok-send_reply-clause-open c = responds_open _ _ c.args.session _ _ c.command-reply.ensures

pub returns-in-Err-clause-open : goal.returns-in-Err-clause-open
returns-in-Err-clause-open c = responds_open _ _ c.args.session _ _ c.command-reply.ensures
