use Rattle.std.proofs.Common.{inl, inr, arith, ◌∙◌}
use Rattle.session_view.proofs.ReplayLemmas.{without_number, without_out}
use Rattle.session_view.proofs.reply_replay.take_number.Goals as goal

pub returns-then-number-eq0 : goal.returns-then-number-eq0
returns-then-number-eq0 c = without_out c.args.entries.now.items c.args.number (inl (omega arith))

pub returns-then-number-len : goal.returns-then-number-len
returns-then-number-len c = without_out c.args.entries.now.items c.args.number (inr (omega arith))

pub returns : goal.returns
returns c = c.remove-gone.ensures.items ∙ without_number c.args.entries.now.items c.args.number (omega arith) (omega arith)
