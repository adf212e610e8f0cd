use Rattle.std.proofs.Common.{◌≡◌, ◌++◌, ℕ, Some, refl, sym, subst}
use Rattle.imap_node.specs.Nodes.{NodeWithRoom}
use Rattle.imap_node.specs.Plans.{IsPlanned}
use Rattle.imap_node.proofs.SessionChangeLemmas.{noted_as}
use Rattle.imap_node.proofs.node.Node.commit.Goals as goal

pub set_next-requires-clause-can : goal.set_next-requires-clause-can
set_next-requires-clause-can c =
    let inside = c.self.inside in
    let node : NodeWithRoom = record { state = record { start = inside.replica.start; applied = inside.replica.applied; held = inside.replica.held; sessions = inside.sessions }; room = inside.replica.room } in
    let planned : IsPlanned node c.args.plan = subst (λ (k : NodeWithRoom). IsPlanned k c.args.plan) (sym c.self.view_is) c.requires in
    (node.state.start, node.state.applied ++ c.args.plan.ops, planned.can)

pub invariant_of-self : goal.invariant_of-self
invariant_of-self c =
    let inside = c.self.inside in
    let node : NodeWithRoom = record { state = record { start = inside.replica.start; applied = inside.replica.applied; held = inside.replica.held; sessions = inside.sessions }; room = inside.replica.room } in
    let planned : IsPlanned node c.args.plan = subst (λ (k : NodeWithRoom). IsPlanned k c.args.plan) (sym c.self.view_is) c.requires in
    let start = inside.replica.start in
    let before = inside.replica.applied in
    let after = before ++ c.args.plan.ops in
    noted_as start c.issue.new.replica.start after c.issue.new.replica.applied c.set_next.new.sessions c.set_next.new.sessions c.set_next.new.feeds c.set_next.new.feeds c.issue.ensures.start c.issue.ensures.applied refl (λ n. refl)
    (c.set_next.ensures.noted start after planned.can (c.note.ensures start before after planned.change_notes c.self.invariant))
