use Rattle.std.proofs.Common.{refl, sym}
use Rattle.world_core.proofs.AgreeLemmas.{different, node_means, same_lists}
use Rattle.world_core.proofs.agreement.agree.Goals as goal

pub returns-then-are_same-clause-exact : goal.returns-then-are_same-clause-exact
returns-then-are_same-clause-exact c =
    (λ e. same_lists c.op_list.result.now c.op_list-2.result.now c.args.one.now.state.applied c.args.other.now.state.applied c.op_list.ensures.applied c.op_list-2.ensures.applied (c.are_same.ensures.yes c.if-are_same.true), λ h. refl)

pub returns-then-are_same-clause-means : goal.returns-then-are_same-clause-means
returns-then-are_same-clause-means c = λ e. node_means c.args.one.now.state c.args.other.now.state.applied c.op_list.ensures.orderly
    (same_lists c.op_list.result.now c.op_list-2.result.now c.args.one.now.state.applied c.args.other.now.state.applied c.op_list.ensures.applied c.op_list-2.ensures.applied (c.are_same.ensures.yes c.if-are_same.true))

pub returns-else-are_same-clause-exact : goal.returns-else-are_same-clause-exact
returns-else-are_same-clause-exact c = (
  λ e. absurd (different e),
  λ h. absurd (c.are_same.ensures.no c.if-are_same.false
      (same_lists c.args.one.now.state.applied c.args.other.now.state.applied c.op_list.result.now c.op_list-2.result.now (sym c.op_list.ensures.applied) (sym c.op_list-2.ensures.applied) h)),
)
