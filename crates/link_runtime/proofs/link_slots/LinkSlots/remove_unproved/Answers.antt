use Rattle.std.proofs.Common.{ℕ, List, map, ap, subst}
use Rattle.std.specs.Arc.{arc_value}
use Rattle.link_runtime.specs.Slots.{IsTakenOut, SlotsState, number_of}
use Rattle.link_runtime.proofs.SlotLemmas.{numbers_taken_out}
use Rattle.link_runtime.proofs.link_slots.LinkSlots.remove_unproved.Goals as goal

pub returns-clause-taken : goal.returns-clause-taken
returns-clause-taken c =
    subst (λ (ns : List ℕ). IsTakenOut (λ (n : ℕ). n) c.args.number ns (map (λ x. number_of (arc_value x)) c.take_numbered.new.connections.items)) (ap (λ (s : SlotsState). s.unproved) c.self.view_is)
    (numbers_taken_out (λ x. number_of (arc_value x)) c.args.number c.self.inside.unproved.items c.take_numbered.new.connections.items c.take_numbered.ensures)
