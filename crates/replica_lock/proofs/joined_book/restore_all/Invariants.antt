use Rattle.std.proofs.Common.{◌≡◌, ℕ, drop, length, reverse, take}
use Rattle.replica_lock.proofs.JoinLemmas.{IsRestoredBook}
use Rattle.replica_lock.proofs.joined_book.restore_all.Given as goal

-- the first operations were delivered, and the others are left, the last one first
abbrev pub invariant-loop-op : goal.invariant-loop-op
invariant-loop-op l =
    (i : ℕ) × (drop i l.fn.ops.items ≡ reverse l.later.items)
    × IsRestoredBook l.initial.book.node.start.replica (take i l.fn.ops.items) l.book

abbrev pub decreases-loop-op : goal.decreases-loop-op
decreases-loop-op l = length l.later.items
