use Rattle.crdt_ops.specs.Reading.{pair_at}
use Rattle.crdt_ops.proofs.LoopLemmas.{all_ends, all_more}
use Rattle.crdt_ops.proofs.fields.entries_in.Goals as goal

pub loop-part-preserved : goal.loop-part-preserved
loop-part-preserved c = all_more (pair_at 61) c.args.parts.now c.loop-part.part-index c.part-item.result c.as_bytes.result.now c.in_ok-read_pair.field-0 c.loop-part.entries.items c.push.new.self.items c.loop-part-test.true c.part-item.is c.as_bytes.ensures c.in_ok-read_pair.ensures c.in_ok-push.ensures.items c.loop-part.invariant

pub returns : goal.returns
returns c = all_ends (pair_at 61) c.args.parts.now c.loop-part.part-index c.loop-part.entries.items c.loop-part-test.false c.loop-part.invariant
