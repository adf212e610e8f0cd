use Rattle.std.proofs.Common.{◌≡◌, ℕ, ◌+◌, ◌-◌, [], drop, arith, sym, ap, subst, is_some}
use Rattle.std.specs.List.{filter}
use Rattle.session_view.specs.Sync.{is_listed}
use Rattle.session_view.proofs.WalkLemmas.{last_by_uid, none_by_uid}
use Rattle.session_view.proofs.sync_plan.last_listed.Goals as goal

pub returns-in-Some : goal.returns-in-Some
returns-in-Some c =
    let k : c.loop-i.i ≡ c.loop-i.i - 1 + 1 = omega arith in
    last_by_uid c.args.rows.now c.args.view.now.items (c.loop-i.i - 1) c.uid_at-uid.result (omega arith) c.uid_at-uid.ensures (ap is_some (sym (c.in-Some.ensures {u = tt})))
    (subst (λ (n : ℕ). filter (is_listed c.args.rows.now) (drop n c.args.view.now.items) ≡ []) k c.loop-i.invariant)

pub loop-i-preserved : goal.loop-i-preserved
loop-i-preserved c =
    let k : c.loop-i.i ≡ c.loop-i.i - 1 + 1 = omega arith in
    none_by_uid c.args.rows.now c.args.view.now.items (c.loop-i.i - 1) c.uid_at-uid.result (omega arith) c.uid_at-uid.ensures (ap is_some (sym (c.in_default.ensures {u = tt})))
    (subst (λ (n : ℕ). filter (is_listed c.args.rows.now) (drop n c.args.view.now.items) ≡ []) k c.loop-i.invariant)
