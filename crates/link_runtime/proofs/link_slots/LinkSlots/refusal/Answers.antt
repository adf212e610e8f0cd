use Rattle.std.proofs.Common.{◌≡◌, List, MatchOption, ap, subst, ◌∙◌}
use Rattle.link_runtime.specs.declared.link_slots.RefusedPeer.{RefusedPeer}
use Rattle.link_runtime.specs.Slots.{IsRefusedFor, IsUnrefused, SlotsState}
use Rattle.link_runtime.proofs.link_slots.LinkSlots.refusal.Goals as goal

pub returns : goal.returns
returns c =
    subst (λ (refused : List RefusedPeer). MatchOption c.refusal_of.result (IsUnrefused c.args.peer refused) (λ reason. IsRefusedFor c.args.peer refused reason))
    (c.deref.ensures.value ∙ ap (λ (s : SlotsState). s.refused) c.self.view_is) c.refusal_of.ensures
