use Rattle.std.proofs.Common.{◌-◌, length, arith}
use Rattle.rev1_front.proofs.LsubLemmas.{level_found, level_missed, none_found, none_longer}
use Rattle.rev1_front.proofs.lsub.highest_level.Goals as goal

pub loop-past-init : goal.loop-past-init
loop-past-init c = none_longer c.args.pattern.now c.args.name.now (length c.args.name.now - 0) (omega arith)

pub returns-in-Some : goal.returns-in-Some
returns-in-Some c =
    level_found c.args.pattern.now c.args.name.now c.loop-past.past c.loop-past-test.true c.loop-past.invariant c.in_ok-level.field-0 c.in_ok-level.ensures c.in-Some.level c.in-Some.is

pub loop-past-preserved : goal.loop-past-preserved
loop-past-preserved c =
    level_missed c.args.pattern.now c.args.name.now c.loop-past.past c.loop-past-test.true c.loop-past.invariant c.in_ok-level.field-0 c.in_ok-level.ensures c.in_default.is

pub returns : goal.returns
returns c = none_found c.args.pattern.now c.args.name.now (length c.args.name.now - c.loop-past.past) (omega arith) c.loop-past.invariant
