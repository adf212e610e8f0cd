-- The contents of the table of subscription tags, and when operations are prepared.

use Rattle.std.specs.Prelude.{ℕ, ◌≤◌, List, [], ◌∷◌, length}
use Rattle.std.specs.List.{filter}
use Rattle.std.proofs.Common.{Bool, true, false, cond, arith}
use Rattle.crdt_ops.specs.declared.op.Op.{Op}
use Rattle.subs_state.specs.declared.subs.Subs.{Subs}
use Rattle.subs_state.specs.Entries.{room_of, subscribes, tag_in}
use Rattle.subs_state.specs.Subscriptions.{Subscriptions}

-- The table's contents.
abbrev pub subscriptions_of : Subs → Subscriptions
subscriptions_of subs = tag_in subs.tags.entries

-- How many of the operations subscribe to a name.
abbrev pub times : List ℕ → List Op → ℕ
times name ops = length (filter (subscribes name) ops)

-- These operations can be applied in this order with no more memory: each name has room for as many
-- tags as they add to it.
pub record IsPrepared (subs : Subs) (ops : List Op) : Type 0 where
  pub room : (name : List ℕ) → times name ops ≤ room_of name subs.tags.entries

-- If some operations are prepared, the first of them is.
pub prepared_first : (subs : Subs) (o : Op) (os : List Op) → IsPrepared subs (o ∷ os)
    → IsPrepared subs (o ∷ [])
prepared_first subs o os p =
    record {
      room = λ n. at_first (subscribes n o) o (filter (subscribes n) os)
          (room_of n subs.tags.entries)
          (p.room n);
    }
  where
    at_first : (b : Bool) (o : Op) (rest : List Op) (room : ℕ)
        → length (cond b (o ∷ rest) rest) ≤ room
        → length (cond b (o ∷ []) []) ≤ room
    at_first true o rest room h = omega (arith, h)
    at_first false o rest room h = omega (arith, h)
