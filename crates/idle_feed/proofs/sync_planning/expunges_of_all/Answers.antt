use Rattle.std.proofs.Common.{◌≡◌, ℕ, ◌+◌, ◌-◌, ◌<◌, List, [], ◌∷◌, ◌++◌, length, drop, sym, ap, ◌∙◌, arith}
use Rattle.imap_answers.specs.declared.answer.Answer.{Answer}
use Rattle.imap_answers.specs.declared.answer.Answer.TheVariants.{Expunge}
use Rattle.session_view.specs.Sync.{expunges}
use Rattle.idle_feed.proofs.EndLemmas.{expunges_drop}
use Rattle.idle_feed.proofs.sync_planning.expunges_of_all.Goals as goal

pub loop-place-preserved : goal.loop-place-preserved
loop-place-preserved c = λ view e.
    let n = c.loop-place.place in
    let t = c.loop-place-test.true in
    let fits = c.loop-place.auto.place in
    let k : n ≡ n - 1 + 1 = omega (arith, t) in
    let below : n - 1 < length view = omega (arith, t, e, fits) in
    (c.in_ok-push.ensures {u = tt}).items
    ∙ ap (λ (as' : List Answer). as' ++ Expunge (n - 1 + 1) ∷ []) (c.loop-place.invariant view e ∙ ap (λ (m : ℕ). expunges [] (m + 1) (drop m view)) k)
    ∙ sym (expunges_drop view (n - 1 + 1) (n - 1) below)
