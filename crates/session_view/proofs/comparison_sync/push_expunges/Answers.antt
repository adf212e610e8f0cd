use Rattle.std.proofs.Common.{◌≡◌, ℕ, ◌+◌, ◌-◌, ◌++◌, drop, subst, arith}
use Rattle.session_view.specs.Sync.{expunges}
use Rattle.session_view.proofs.WalkLemmas.{expunges_at_next_place}
use Rattle.session_view.proofs.comparison_sync.push_expunges.Goals as goal

pub loop-i-preserved : goal.loop-i-preserved
loop-i-preserved c =
    let rows = c.args.rows.now in
    let view = c.args.view.now.items in
    let old = c.args.answers.now.items in
    let k : c.loop-i.i ≡ c.loop-i.i - 1 + 1 = omega arith in
    expunges_at_next_place rows view (c.loop-i.i - 1) old c.loop-i.answers.items c.push_loss.new.answers.items (omega arith)
    (subst (λ (n : ℕ). c.loop-i.answers.items ≡ old ++ expunges rows (n + 1) (drop n view)) k c.loop-i.invariant)
    (c.in_ok-push_loss.ensures {u = tt})
