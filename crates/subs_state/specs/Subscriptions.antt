-- The contents of subscriptions, and the effect of an operation on them (Jungnickel, Oldenburg,
-- Loibl, OPODIS 2017).

use Rattle.std.specs.Prelude.{◌≡◌, ℕ, Bool, true, false, not, ◌&&◌, ◌||◌, List}
use Rattle.tags_clocks.specs.declared.id.OpId.{OpId}
use Rattle.merge_laws.specs.Orders.{AreSound, IsCausal, fold_of}
use Rattle.crdt_ops.specs.declared.op.Op.{Op}
use Rattle.crdt_ops.specs.Sound.{IsSound}
use Rattle.crdt_ops.specs.Tags.{SubscriptionTag, adds, is_present, removes}
use Rattle.crdt_ops.specs.Ops.{clock_of, id_of}

-- Whether the subscription tag of a name and id is present.
abbrev pub Subscriptions : Type 0
Subscriptions = List ℕ → OpId → Bool

-- No tags.
abbrev pub no_subscriptions : Subscriptions
no_subscriptions name id = false

-- The contents after an operation: without the tags that it removes, and then with the one that it
-- adds.
abbrev pub effect_of : Subscriptions → Op → Subscriptions
effect_of subscriptions op name id =
    adds (SubscriptionTag name id) op
    || (not (removes (SubscriptionTag name id) op) && subscriptions name id)

-- The contents by a set of operations: its present subscription tags.
abbrev pub subscriptions_by : List Op → Subscriptions
subscriptions_by ops name id = is_present ops (SubscriptionTag name id)

-- The name has a tag.
abbrev pub IsSubscribed : Subscriptions → List ℕ → Type 0
IsSubscribed subscriptions name = (id : OpId) × (subscriptions name id ≡ true)

-- The subscriptions are those after a causal list of sound operations.
pub record IsMadeBy (subscriptions : Subscriptions) (ops : List Op) : Type 0 where
  pub sound : AreSound IsSound ops
  pub causal : IsCausal id_of clock_of ops
  pub made : subscriptions ≡ fold_of effect_of no_subscriptions ops
