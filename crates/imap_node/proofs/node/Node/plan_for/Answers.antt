use Rattle.std.proofs.Common.{◌≡◌, List, Some, IfOk, refl, sym, ap, ◌∙◌, subst}
use Rattle.std.proofs.lemmas.Result.{IfOk-weaker}
use Rattle.imap_node.specs.declared.plan.Plan.{Plan}
use Rattle.imap_node.specs.Nodes.{NodeWithRoom, NodeState}
use Rattle.imap_node.specs.Plans.{IsPlanned, IsPlanOf}
use Rattle.imap_node.specs.Sessions.{IsOpen, Places, session_at}
use Rattle.imap_node.proofs.SessionChangeLemmas.{noted_as}
use Rattle.imap_node.proofs.SessionLemmas.{awaits_open}
use Rattle.imap_node.proofs.PlanLemmas.{plan_by_planned, plan_responds}
use Rattle.imap_node.proofs.node.Node.plan_for.Goals as goal

pub returns-clause-planned : goal.returns-clause-planned
returns-clause-planned c =
    let old = c.self.inside in
    let done = c.prepare_input-outcome in
    let replica = done.new.replica in
    let session = c.in-Some.entry.now in
    let node : NodeWithRoom = record { state = record { start = replica.start; applied = replica.applied; held = replica.held; sessions = done.new.sessions }; room = replica.room } in
    let opened : IsOpen old.sessions c.args.session = subst (λ (k : NodeWithRoom). IsOpen k.state.sessions c.args.session) (sym c.self.view_is) (awaits_open c.args.self.now.state c.args.session c.args.input.now c.requires) in
    let at : session_at old.sessions c.args.session ≡ Some session = ap (λ (places : Places). session_at places c.args.session) (sym done.ensures.sessions) ∙ sym (c.in-Some.ensures {u = tt}) in
    subst (λ (plan : Plan). IsPlanned node plan) (sym c.plan_by.ensures)
    (plan_by_planned old.replica replica old.sessions done.new.sessions c.args.session session c.args.input.now done.ensures.start done.ensures.applied done.ensures.sessions at done.result opened (done.ensures.ok session at))

pub returns-clause-responds : goal.returns-clause-responds
returns-clause-responds c =
    let done = c.prepare_input-outcome in
    let replica = c.self.inside.replica in
    let old : NodeState = record { start = replica.start; applied = replica.applied; held = replica.held; sessions = c.self.inside.sessions } in
    let session = c.in-Some.entry.now in
    let at : session_at old.sessions c.args.session ≡ Some session = ap (λ (places : Places). session_at places c.args.session) (sym done.ensures.sessions) ∙ sym (c.in-Some.ensures {u = tt}) in
    subst (λ (k : NodeWithRoom). IsPlanOf k.state c.args.session c.args.input.now c.plan_by.result) c.self.view_is
    (subst (λ (plan : Plan). IsPlanOf old c.args.session c.args.input.now plan) (sym c.plan_by.ensures)
    (plan_responds old c.args.session session c.args.input.now at done.result (IfOk-weaker done.result _ _ (λ p h. h.reply) (done.ensures.ok session at)) (done.ensures.err session at)))

pub invariant_of-self : goal.invariant_of-self
invariant_of-self c =
    let old = c.self.inside in
    let done = c.prepare_input-outcome in
    noted_as old.replica.start done.new.replica.start old.replica.applied done.new.replica.applied old.sessions done.new.sessions old.feeds c.make_room.new.feeds done.ensures.start done.ensures.applied done.ensures.sessions c.make_room.ensures
    c.self.invariant
