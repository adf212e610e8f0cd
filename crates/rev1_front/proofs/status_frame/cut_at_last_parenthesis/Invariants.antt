use Rattle.std.proofs.Common.{◌≡◌, ◌-◌, false, length, drop}
use Rattle.rev1_front.specs.StatusForms.{has_parenthesis}
use Rattle.rev1_front.proofs.status_frame.cut_at_last_parenthesis.Given as goal

abbrev pub invariant-loop-past : goal.invariant-loop-past
invariant-loop-past l = has_parenthesis (drop (length l.text - l.past) l.text) ≡ false
