use Rattle.std.proofs.Common.{◌≡◌, ◌-◌, ◌++◌, List, ◌∙◌, ap, sym, drop, arith}
use Rattle.replica_lock.specs.JournalState.{entries_of}
use Rattle.replica_lock.specs.declared.journal.Block.{Block}
use Rattle.replica_lock.proofs.BlockLemmas.{drop_block}
use Rattle.replica_lock.proofs.journal.Journal.forget.Goals as goal

pub loop-block-preserved : goal.loop-block-preserved
loop-block-preserved c =
    let newest = c.loop-block.self-inside.newest.entries.items in
    let others = c.pop_front.new.self.items in
    record {
      items = ap (λ k. drop (c.loop-block.rest - k) (entries_of others ++ newest)) c.len-rest.ensures
          ∙ drop_block c.in-Some.block others newest c.loop-block.rest (omega (arith, c.if-rest-len.false, c.len.ensures))
          ∙ ap (λ (bs : List Block). drop c.loop-block.rest (entries_of bs ++ newest)) (sym c.in-Some.ensures.items)
          ∙ c.loop-block.invariant.items;
      room = c.loop-block.invariant.room;
    }
