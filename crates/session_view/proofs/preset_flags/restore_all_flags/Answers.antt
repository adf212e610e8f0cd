use Rattle.std.proofs.Common.{◌≡◌, ◌+◌, ◌-◌, ap, ◌∙◌, arith, take, drop}
use Rattle.session_view.specs.NoteChanges.{with_flags_restored}
use Rattle.session_view.specs.Replay.{after_silent}
use Rattle.session_view.proofs.FlagLemmas.{restored_front_after_exchange_back, silent_rest_after_exchange_back, length_set_is}
use Rattle.session_view.proofs.preset_flags.restore_all_flags.Goals as goal

pub loop-i-preserved : goal.loop-i-preserved
loop-i-preserved c =
    let k : c.loop-i.i - 1 + 1 ≡ c.loop-i.i = omega arith in
    record {
      len = length_set_is c.loop-i.silents (c.loop-i.i - 1) c.exchange.new.silent ∙ c.loop-i.invariant.len;
      back =
          restored_front_after_exchange_back c.loop-i.silents (c.loop-i.i - 1) c.index-silents-i.result c.exchange.new.silent c.loop-i.entries.items c.exchange.new.entries.items (let k = c.loop-i.invariant.len in omega arith) c.exchange.ensures.set c.exchange.ensures.back
          ∙ ap (λ n. with_flags_restored c.loop-i.entries.items (take n c.loop-i.silents)) k ∙ c.loop-i.invariant.back;
      set =
          silent_rest_after_exchange_back c.loop-i.silents (c.loop-i.i - 1) c.index-silents-i.result c.exchange.new.silent c.loop-i.entries.items c.exchange.new.entries.items (let k = c.loop-i.invariant.len in omega arith) c.exchange.ensures.set c.exchange.ensures.back
          ∙ ap (λ n. after_silent c.loop-i.entries.items (drop n c.loop-i.silents)) k ∙ c.loop-i.invariant.set;
    }
