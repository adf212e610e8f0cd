use Rattle.std.proofs.Common.{arith}
use Rattle.rev1_front.proofs.PlainLemmas.{clean_next}
use Rattle.rev1_front.proofs.authentication.cut_at_nul.Goals as goal

pub loop-i-preserved : goal.loop-i-preserved
loop-i-preserved c = clean_next c.args.octets.now c.loop-i.i 0 (omega arith) c.if-octets-i-eq0.false c.loop-i.invariant
