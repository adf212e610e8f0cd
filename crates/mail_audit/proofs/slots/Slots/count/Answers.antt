use Rattle.std.proofs.Common.{◌≡◌, ◌-◌, length, ap, ◌∙◌, arith}
use Rattle.mail_audit.specs.KnownUids.{places_from}
use Rattle.mail_audit.specs.SlotSteps.{SlotKnowledge}
use Rattle.mail_audit.proofs.SlotLemmas.{few}
use Rattle.mail_audit.proofs.slots.Slots.count.Goals as goal
use Rattle.mail_audit.proofs.ExpungedLemmas.{length_expunged, length_places}

pub overflow_cast-result : goal.overflow_cast-result
overflow_cast-result c =
    let s = c.self.inside in
    let l = length_expunged 0 s.expunged s.total c.self.invariant.expunged_ascend in
    let f = few s.expunged s.entries s.total c.self.invariant in
    grind (arith, l, f, c.len.ensures)

pub overflow_sub-result : goal.overflow_sub-result
overflow_sub-result c =
    let s = c.self.inside in
    let l = length_expunged 0 s.expunged s.total c.self.invariant.expunged_ascend in
    grind (arith, l, c.len.ensures)

pub returns : goal.returns
returns c =
    let s = c.self.inside in
    let l = length_expunged 0 s.expunged s.total c.self.invariant.expunged_ascend in
    let n = length_places 0 s.expunged s.total c.self.invariant.expunged_ascend in
    let e : s.total - c.len.result ≡ length (places_from 0 s.expunged s.total) = grind (arith, l, n, c.len.ensures) in
    e ∙ ap (λ (k : SlotKnowledge). length k.live) c.self.view_is
