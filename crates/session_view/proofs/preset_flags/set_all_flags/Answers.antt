use Rattle.std.proofs.Common.{◌∙◌, arith}
use Rattle.session_view.proofs.FlagLemmas.{restored_front_after_exchange, silent_rest_after_exchange, length_set_is}
use Rattle.session_view.proofs.preset_flags.set_all_flags.Goals as goal

pub loop-i-preserved : goal.loop-i-preserved
loop-i-preserved c = record {
  len = length_set_is c.loop-i.silents c.loop-i.i c.exchange.new.silent ∙ c.loop-i.invariant.len;
  set = silent_rest_after_exchange c.loop-i.silents c.loop-i.i c.index-silents-i.result c.exchange.new.silent c.loop-i.entries.items c.exchange.new.entries.items (let k = c.loop-i.invariant.len in omega arith) c.exchange.ensures.set c.exchange.ensures.back ∙ c.loop-i.invariant.set;
  back = restored_front_after_exchange c.loop-i.silents c.loop-i.i c.index-silents-i.result c.exchange.new.silent c.loop-i.entries.items c.exchange.new.entries.items (let k = c.loop-i.invariant.len in omega arith) c.exchange.ensures.set c.exchange.ensures.back ∙ c.loop-i.invariant.back;
}
