use Rattle.std.proofs.Common.{◌≡◌, ◌∙◌, subst, ap}
use Rattle.tags_clocks.specs.Clock.{IsClock}
use Rattle.causal_inbox.specs.CauseIndex.{first_beyond}
use Rattle.causal_inbox.proofs.Beyond.{waits}
use Rattle.causal_inbox.proofs.search.awaited_cause.Goals as goal

pub returns : goal.returns
returns g c = λ applied k.
    waits g.O.Caused.id g.O.Caused.clock applied c.args.op.now c.args.clock.now c.first_above.result (subst IsClock c.clock.ensures c.entries.ensures.is_clock) k
    (c.first_above.ensures ∙ ap (first_beyond c.args.clock.now) (c.entries.ensures.entries ∙ c.clock.ensures))
