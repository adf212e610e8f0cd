use Rattle.std.proofs.Common.{◌≡◌, [], ◌∙◌, ap, sym, drop, arith}
use Rattle.replica_lock.proofs.BlockLemmas.{drop_from_none}
use Rattle.replica_lock.proofs.journal.Block.forget.Goals as goal
use Rattle.replica_lock.proofs.journal.Block.forget.Goals.{else-loop-test, then-loop-test+then-is_empty}

pub returns-clause-items : goal.returns-clause-items
returns-clause-items c = elim c.loop-test.branch [
  | else-loop-test w ↦
      let all : c.loop.counter ≡ c.args.count = omega (arith, w.loop-test.false, c.loop.auto.counter-end) in
      c.loop.invariant.items ∙ ap (λ n. drop n c.args.self.now.entries.items) all
  | then-loop-test+then-is_empty w ↦
      let none : c.loop.self.entries.items ≡ [] = w.is_empty.ensures.0 w.if-is_empty.true in
      none ∙ drop_from_none c.args.self.now.entries.items c.loop.counter c.args.count (sym c.loop.invariant.items ∙ none) (omega (arith, w.loop-test.true))
]
