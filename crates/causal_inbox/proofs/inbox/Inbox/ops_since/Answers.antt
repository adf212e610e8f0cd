use Rattle.std.proofs.Common.{◌≡◌, length, ap, ◌∙◌}
use Rattle.std.proofs.lemmas.Result.{IfOk-weaker}
use Rattle.causal_inbox.proofs.UncoveredLemmas.{uncovered_within}
use Rattle.causal_inbox.proofs.inbox.Inbox.ops_since.Goals as goal

pub returns : goal.returns
returns g c =
    let o = g.R.Op.Caused in
    IfOk-weaker c.ops_after.result _ _ (λ ops h. h ∙ uncovered_within o.id o.clock c.args.self.now.received.applied c.args.clock.now _ (ap (λ xs. length xs) c.op_list-count.ensures.applied)) c.ops_after.ensures
