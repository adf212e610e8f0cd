use Rattle.std.proofs.Common.{ℕ, ◌+◌, ◌-◌, ◌<◌, ◌≤◌, get_or, length, sym, ap, ◌∙◌, subst, arith}
use Rattle.mail_audit.specs.Explanations.{IsNumberOf}
use Rattle.mail_audit.specs.KnownUids.{places_from}
use Rattle.mail_audit.specs.SlotSteps.{SlotKnowledge}
use Rattle.mail_audit.proofs.SlotLemmas.{out_below_total, out_place, out_small, slots_count}
use Rattle.mail_audit.proofs.slots.Slots.place_of.Goals as goal

pub overflow_cast-result : goal.overflow_cast-result
overflow_cast-result c =
    let s = c.self.inside in
    let n : IsNumberOf c.args.number (places_from 0 s.expunged s.total) = subst (λ (k : SlotKnowledge). IsNumberOf c.args.number k.live) (sym c.self.view_is) (c.requires) in
    let b = c.expunged_before-before.ensures in
    let w : c.expunged_before-before.result ≤ length s.expunged = b.within in
    let f : (i : ℕ) → i < c.expunged_before-before.result → get_or s.expunged i 0 ≤ c.args.number - 1 + i = b.front in
    let h : (i : ℕ) → c.expunged_before-before.result ≤ i → i < length s.expunged → c.args.number - 1 + i < get_or s.expunged i 0 = b.back in
    let l = out_small s.expunged s.entries s.total c.args.number c.expunged_before-before.result c.self.invariant n w f h in
    grind (arith, l)

pub overflow_add-result : goal.overflow_add-result
overflow_add-result c =
    let s = c.self.inside in
    let n : IsNumberOf c.args.number (places_from 0 s.expunged s.total) = subst (λ (k : SlotKnowledge). IsNumberOf c.args.number k.live) (sym c.self.view_is) (c.requires) in
    let b = c.expunged_before-before.ensures in
    let w : c.expunged_before-before.result ≤ length s.expunged = b.within in
    let f : (i : ℕ) → i < c.expunged_before-before.result → get_or s.expunged i 0 ≤ c.args.number - 1 + i = b.front in
    let h : (i : ℕ) → c.expunged_before-before.result ≤ i → i < length s.expunged → c.args.number - 1 + i < get_or s.expunged i 0 = b.back in
    let l = out_small s.expunged s.entries s.total c.args.number c.expunged_before-before.result c.self.invariant n w f h in
    grind (arith, l)

pub returns : goal.returns
returns c =
    let s = c.self.inside in
    let n : IsNumberOf c.args.number (places_from 0 s.expunged s.total) = subst (λ (k : SlotKnowledge). IsNumberOf c.args.number k.live) (sym c.self.view_is) (c.requires) in
    let b = c.expunged_before-before.ensures in
    let w : c.expunged_before-before.result ≤ length s.expunged = b.within in
    let f : (i : ℕ) → i < c.expunged_before-before.result → get_or s.expunged i 0 ≤ c.args.number - 1 + i = b.front in
    let h : (i : ℕ) → c.expunged_before-before.result ≤ i → i < length s.expunged → c.args.number - 1 + i < get_or s.expunged i 0 = b.back in
    let count = slots_count s.expunged s.entries s.total c.self.invariant in
    let total = out_below_total s.expunged s.entries s.total c.args.number c.expunged_before-before.result c.self.invariant n w f h in
    record {
      place = out_place s.expunged s.entries s.total c.args.number c.expunged_before-before.result c.self.invariant n w f h ∙ ap (λ (k : SlotKnowledge). get_or k.live (c.args.number - 1) 0) c.self.view_is;
      total = subst (λ (k : SlotKnowledge). c.args.number - 1 + c.expunged_before-before.result < length k.slots) c.self.view_is (omega (arith, count, total));
    }
