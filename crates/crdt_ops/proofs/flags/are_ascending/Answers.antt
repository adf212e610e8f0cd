use Rattle.std.proofs.Common.{false, true}
use Rattle.crdt_ops.proofs.LoopLemmas.{words_end, words_ascend_step}
use Rattle.crdt_ops.proofs.flags.are_ascending.Goals as goal

pub returns-then-not-is_word_below : goal.returns-then-not-is_word_below
returns-then-not-is_word_below c = words_ascend_step c.loop-rest.rest.now c.args.words.now c.first-item.result false c.in-len1-up.len_at_least c.first-item.is c.if-not-is_word_below.ensures c.loop-rest.invariant

pub loop-rest-preserved : goal.loop-rest-preserved
loop-rest-preserved c = words_ascend_step c.loop-rest.rest.now c.args.words.now c.first-item.result true c.in-len1-up.len_at_least c.first-item.is c.if-not-is_word_below.ensures c.loop-rest.invariant

pub returns : goal.returns
returns c = words_end c.loop-rest.rest.now c.args.words.now c.in_default.len_below c.loop-rest.invariant
