use Rattle.std.proofs.Common.{Err, ap, inr}
use Rattle.mail_replay.proofs.ScriptStateLemmas.{err_same, on_ok}
use Rattle.mail_replay.proofs.deliveries.deliver.Goals as goal

pub returns-in-Ok-clause-ok : goal.returns-in-Ok-clause-ok
returns-in-Ok-clause-ok c = on_ok c.deliver_and_print.result (λ h. (h.0, (c.in-Ok.op, (c.in-Ok.ensures {u = tt}).ok, h.1), h.2)) c.deliver_and_print.ensures.ok

pub returns-in-Err-clause-bad : goal.returns-in-Err-clause-bad
returns-in-Err-clause-bad c = λ e. inr ((c.in-Err.ensures {u = tt}).bad (ap Err (err_same _ _ e)))
