use Rattle.std.proofs.Common.{arith}
use Rattle.rev1_front.proofs.ShownLemmas.{numbers_all, numbers_next}
use Rattle.rev1_front.proofs.shown.push_numbers.Goals as goal

pub loop-number-preserved : goal.loop-number-preserved
loop-number-preserved c =
    let inv = c.loop-number.invariant in
    (omega (arith, inv.0), numbers_next c.args.run.first c.loop-number.number c.args.line.now.items c.loop-number.line.items c.push_number.new.line.items inv.0 inv.1 c.in_ok-push_number.ensures)

pub returns : goal.returns
returns c = numbers_all c.args.run c.loop-number.number c.args.line.now.items c.loop-number.line.items (omega (arith, c.loop-number.invariant.0, c.max.ensures)) c.loop-number.invariant.1
