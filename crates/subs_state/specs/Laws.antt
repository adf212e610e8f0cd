-- Concurrent operations commute in their effects on subscriptions.

use Rattle.std.specs.Prelude.{◌≡◌}
use Rattle.merge_laws.specs.Orders.{IsConcurrent}
use Rattle.crdt_ops.specs.declared.op.Op.{Op}
use Rattle.crdt_ops.specs.Sound.{IsSound}
use Rattle.crdt_ops.specs.Tags.{SubscriptionTag, adds, removes}
use Rattle.crdt_ops.specs.TagLaws.{adds_apart, swap_tags}
use Rattle.subs_state.specs.Subscriptions.{Subscriptions, effect_of}
use Rattle.crdt_ops.specs.Ops.{clock_of, id_of}

-- Sound operations that are concurrent commute.
pub effects_commute : (v : Subscriptions) (a b : Op) → IsSound a → IsSound b
    → IsConcurrent id_of clock_of a b
    → effect_of (effect_of v a) b ≡ effect_of (effect_of v b) a
effects_commute v a b s t c = λ k name id.
    swap_tags (adds (SubscriptionTag name id) a) (removes (SubscriptionTag name id) a)
    (adds (SubscriptionTag name id) b) (removes (SubscriptionTag name id) b) (v name id)
    (adds_apart (SubscriptionTag name id) a b t c.not_before)
    (adds_apart (SubscriptionTag name id) b a s c.not_after) k
