use Rattle.crdt_ops.specs.Reading.{id_at}
use Rattle.crdt_ops.proofs.LoopLemmas.{all_ends, all_more}
use Rattle.crdt_ops.proofs.fields.ids_in.Goals as goal

pub loop-part-preserved : goal.loop-part-preserved
loop-part-preserved c = all_more id_at c.args.parts.now c.loop-part.part-index c.part-item.result c.as_bytes.result.now c.in_ok-read_id.field-0 c.loop-part.ids.items c.push.new.self.items c.loop-part-test.true c.part-item.is c.as_bytes.ensures c.in_ok-read_id.ensures c.in_ok-push.ensures.items c.loop-part.invariant

pub returns : goal.returns
returns c = all_ends id_at c.args.parts.now c.loop-part.part-index c.loop-part.ids.items c.loop-part-test.false c.loop-part.invariant
