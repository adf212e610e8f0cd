use Rattle.std.proofs.Common.{◌∙◌, Some, None}
use Rattle.op_log.proofs.DamageLemmas.{line_by_text}
use Rattle.op_log.proofs.damage.line_synced.Goals as goal

pub returns-in_err-text : goal.returns-in_err-text
returns-in_err-text c = c.from_residual.ensures ∙ line_by_text c.args.line.now None c.in_err-text.ensures

pub returns : goal.returns
returns c = c.commit_synced.ensures ∙ line_by_text c.args.line.now (Some c.in_ok-text.text.now) c.in_ok-text.ensures
