use Rattle.std.proofs.Common.{refl, sym}
use Rattle.causal_inbox.proofs.ReceivedLemmas.{id_received}
use Rattle.causal_inbox.proofs.inbox.Inbox.knows.Goals as goal

pub returns-else-same : goal.returns-else-same
returns-else-same g c =
    let o = g.R.Op.Caused in
    let f = c.in-Some.ensures in (
      λ h. let t = c.same.ensures.1 (sym (f.2 c.args.op.now h refl)) in let n = c.if-same.false in absurd (cc (t, n)),
      id_received o.id o.clock c.args.self.now.received _ _ f.0 f.1,
    )
