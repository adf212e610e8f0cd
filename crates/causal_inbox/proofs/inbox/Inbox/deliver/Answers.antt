use Rattle.std.proofs.Common.{◌∙◌, ap, subst, Ok}
use Rattle.causal_inbox.specs.Delivery.{IsArrival}
use Rattle.causal_inbox.specs.declared.delivery.Arrival.{Arrival}
use Rattle.causal_inbox.proofs.ReleasesLemmas.{applied_and_released}
use Rattle.causal_inbox.proofs.inbox.Inbox.deliver.Goals as goal

pub returns-in-Applied-clause-answer : goal.returns-in-Applied-clause-answer
returns-in-Applied-clause-answer g c =
    let o = g.R.Op.Caused in
    let x = g.F.Follower.exhausts in
    let old = c.args.self.now.received in
    let mid = c.receive.new.self.received in
    let first = subst (λ (a : Arrival). IsArrival o.id o.clock x old c.args.op a mid) c.in-Applied.is (c.in_ok-arrival.ensures {u = tt}).answer in
    let one = c.receive.ensures.one c.in-Applied.field-0 (c.in_ok-arrival.was ∙ ap Ok c.in-Applied.is) in
    applied_and_released o.id o.clock x old mid _ c.args.op c.in-Applied.field-0 c.drain-drained.result.applied first one c.drain-drained.ensures.released
