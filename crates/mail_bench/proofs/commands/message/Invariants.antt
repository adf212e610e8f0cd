use Rattle.std.proofs.Common.{◌≡◌, vec_len}
use Rattle.mail_bench.proofs.commands.message.Given as goal

abbrev pub invariant-loop-at : goal.invariant-loop-at
invariant-loop-at l = vec_len l.message ≡ l.at
