use Rattle.std.proofs.Common.{◌≡◌, inr, ℕ, ◌+◌, ap, sym, ◌∙◌}
use Rattle.tags_clocks.specs.Clock.{count_of}
use Rattle.causal_inbox.proofs.Gapless.{in_take, next_of_position, not_in_front, not_in_keys}
use Rattle.causal_inbox.proofs.history.place_of_next.Goals as goal

pub returns-in-None-clause-lacks : goal.returns-in-None-clause-lacks
returns-in-None-clause-lacks c =
    let keys = c.args.ids.now.keys in
    let covered = c.get-covered.result in
    let next : ℕ × ℕ = (c.args.replica, count_of c.args.clock.now c.args.replica + 1) in
    let same : ◌≡◌ {A = ℕ × ℕ} (c.get.result, covered + 1) next = ap (λ (n : ℕ). (n, covered + 1)) c.get.ensures.number ∙ ap (λ (n : ℕ). (c.args.replica, n + 1)) c.get-covered.ensures in
    inr (λ t. not_in_keys (c.get.result, covered + 1) next keys same (sym (c.in-None.ensures {u = tt}).found) (in_take next c.len-in-None.result keys t))

pub returns-in-Some-clause-lacks : goal.returns-in-Some-clause-lacks
returns-in-Some-clause-lacks c =
    let covered = c.get-covered.result in
    let next : ℕ × ℕ = (c.args.replica, count_of c.args.clock.now c.args.replica + 1) in
    let same : ◌≡◌ {A = ℕ × ℕ} (c.get.result, covered + 1) next = ap (λ (n : ℕ). (n, covered + 1)) c.get.ensures.number ∙ ap (λ (n : ℕ). (c.args.replica, n + 1)) c.get-covered.ensures in
    inr (not_in_front (c.get.result, covered + 1) next c.args.ids.now.keys c.in-Some.at same (sym (c.in-Some.ensures {u = tt}).index))

pub returns-in-Some-clause-next : goal.returns-in-Some-clause-next
returns-in-Some-clause-next c =
    let number = ap (λ (n : ℕ). n + 1) (c.get-covered.ensures ∙ ap (count_of c.args.clock.now) (sym c.get.ensures.number)) in
    λ id member. next_of_position c.args.clock.now c.args.ids.now.keys c.in-Some.at (c.get.result, c.get-covered.result + 1) id (sym (c.in-Some.ensures {u = tt}).index) member number
