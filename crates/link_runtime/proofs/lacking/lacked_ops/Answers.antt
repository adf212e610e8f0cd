use Rattle.std.proofs.Common.{◌≡◌, ◌+◌, ◌-◌, ◌<◌, ◌∙◌, ℕ, ap, arith, get_or, length, min, subst, sym, take}
use Rattle.std.proofs.lemmas.List.Sums.{sum_by_more}
use Rattle.tags_clocks.specs.Clock.{count_of}
use Rattle.link_runtime.specs.Lacking.{lacked_ops}
use Rattle.link_runtime.proofs.lacking.lacked_ops.Goals as goal

capped : (sum next all count result : ℕ) → count ≡ min 18446744073709551615 sum → result ≡ min (count + next) 18446744073709551615 → all ≡ sum + next → result ≡ min 18446744073709551615 all
capped sum next all count result c r a = omega (arith, c, r, a)

pub loop-replica-preserved : goal.loop-replica-preserved
loop-replica-preserved c =
    let own = c.args.own.now in
    let covered = c.args.covered.now in
    let at = c.loop-replica.replica-index in
    let entry = c.loop-replica-item.result in
    let next = λ (e : ℕ × ℕ). e.1 - count_of covered e.0 in
    let here : get_or own at entry ≡ entry = sym (c.loop-replica-item.is ∙ ap (λ entries. get_or entries at entry) c.entries-replica-items.ensures.entries) in
    let inside : at < length own = subst (λ entries. at < length entries) c.entries-replica-items.ensures.entries c.loop-replica-test.true in
    let lacked : c.from.result ≡ next entry = c.from.ensures ∙ c.saturating_sub.ensures ∙ ap (λ (n : ℕ). entry.1 - n) c.get.ensures in
    capped (lacked_ops (take at own) covered) c.from.result (lacked_ops (take (at + 1) own) covered) c.loop-replica.count c.saturating_add-count.result c.loop-replica.invariant c.saturating_add-count.ensures
    (sum_by_more next own at entry inside ∙ ap (λ (e : ℕ × ℕ). lacked_ops (take at own) covered + next e) here ∙ ap (λ (n : ℕ). lacked_ops (take at own) covered + n) (sym lacked))
