use Rattle.durable_log.proofs.LogLemmas.{lawful_more, lines_of_op}
use Rattle.durable_log.proofs.lines.push_ops.Goals as goal

pub loop-op-preserved : goal.loop-op-preserved
loop-op-preserved c =
    let ops = c.args.ops.now in
    let i = c.loop-op.op-index in
    let op = c.op-item.result in
    record {
      lines = lines_of_op c.args.log.now.items c.loop-op.log.items c.push_op.new.log.items ops i op c.loop-op-test.true c.op-item.is c.loop-op.invariant.lines c.in_ok-push_op.ensures.line;
      lawful = lawful_more ops i op c.loop-op-test.true c.op-item.is c.loop-op.invariant.lawful c.in_ok-push_op.ensures.lawful;
    }
