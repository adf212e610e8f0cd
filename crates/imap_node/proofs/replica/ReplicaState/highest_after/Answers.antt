use Rattle.std.proofs.Common.{refl, subst, sym}
use Rattle.imap_node.proofs.PlanLemmas.{not_empty}
use Rattle.imap_node.proofs.replica.ReplicaState.highest_after.Goals as goal
use Rattle.uid_projection.specs.Following.{IsReadyFor}
use Rattle.uid_projection.specs.declared.charts.Charts.{Charts}

pub returns : goal.returns
returns c =
    c.highest_after.ensures.ready c.args.self.now.applied c.charts_now-2.ensures.follows c.folders_now.ensures
    (subst (λ (x : Charts). IsReadyFor x c.args.self.now.applied c.args.ops.now) (sym c.charts_now-2.ensures.room) ((c.requires.room (λ none. not_empty c.args.ops.now c.args.ops.now c.is_empty.result c.if-is_empty.false c.is_empty.ensures refl none)).ready c.requires.follow.causal.causal))
