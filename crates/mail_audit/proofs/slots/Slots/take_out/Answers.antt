use Rattle.std.proofs.Common.{ℕ, ◌+◌, ◌-◌, ◌<◌, ◌≤◌, List, get_or, length, sym, ap, ◌∙◌, subst, arith, rules}
use Rattle.mail_audit.specs.Explanations.{IsNumberOf, without}
use Rattle.mail_audit.specs.KnownUids.{AreKnownUids, places_from}
use Rattle.mail_audit.specs.SlotSteps.{SlotKnowledge}
use Rattle.mail_audit.proofs.SlotLemmas.{known_by, out_invariant, out_next, out_small}
use Rattle.mail_audit.proofs.slots.Slots.take_out.Goals as goal

pub overflow_cast-before : goal.overflow_cast-before
overflow_cast-before c =
    let s = c.self.inside in
    let n : IsNumberOf c.args.number (places_from 0 s.expunged s.total) = subst (λ (k : SlotKnowledge). IsNumberOf c.args.number k.live) (sym c.self.view_is) (c.has.ensures.0 (search rules)) in
    let b = c.expunged_before-before.ensures in
    let w : c.expunged_before-before.result ≤ length s.expunged = b.within in
    let f : (i : ℕ) → i < c.expunged_before-before.result → get_or s.expunged i 0 ≤ c.args.number - 1 + i = b.front in
    let h : (i : ℕ) → c.expunged_before-before.result ≤ i → i < length s.expunged → c.args.number - 1 + i < get_or s.expunged i 0 = b.back in
    let l = out_small s.expunged s.entries s.total c.args.number c.expunged_before-before.result c.self.invariant n w f h in
    grind (arith, l)

pub overflow_add-number : goal.overflow_add-number
overflow_add-number c =
    let s = c.self.inside in
    let n : IsNumberOf c.args.number (places_from 0 s.expunged s.total) = subst (λ (k : SlotKnowledge). IsNumberOf c.args.number k.live) (sym c.self.view_is) (c.has.ensures.0 (search rules)) in
    let b = c.expunged_before-before.ensures in
    let w : c.expunged_before-before.result ≤ length s.expunged = b.within in
    let f : (i : ℕ) → i < c.expunged_before-before.result → get_or s.expunged i 0 ≤ c.args.number - 1 + i = b.front in
    let h : (i : ℕ) → c.expunged_before-before.result ≤ i → i < length s.expunged → c.args.number - 1 + i < get_or s.expunged i 0 = b.back in
    let l = out_small s.expunged s.entries s.total c.args.number c.expunged_before-before.result c.self.invariant n w f h in
    grind (arith, l)

pub invariant_of-self-2 : goal.invariant_of-self-2
invariant_of-self-2 c =
    let s = c.self.inside in
    let n : IsNumberOf c.args.number (places_from 0 s.expunged s.total) = subst (λ (k : SlotKnowledge). IsNumberOf c.args.number k.live) (sym c.self.view_is) (c.has.ensures.0 (search rules)) in
    let b = c.expunged_before-before.ensures in
    let w : c.expunged_before-before.result ≤ length s.expunged = b.within in
    let f : (i : ℕ) → i < c.expunged_before-before.result → get_or s.expunged i 0 ≤ c.args.number - 1 + i = b.front in
    let h : (i : ℕ) → c.expunged_before-before.result ≤ i → i < length s.expunged → c.args.number - 1 + i < get_or s.expunged i 0 = b.back in
    let stored = out_invariant s.expunged s.entries s.total c.args.number c.expunged_before-before.result c.self.invariant n w f h in
    subst (λ (xs : List ℕ). AreKnownUids xs s.entries s.total) (sym (c.in_ok-insert.ensures {u = tt}).ok) stored

pub returns-clause-next : goal.returns-clause-next
returns-clause-next c = λ t.
    let s = c.self.inside in
    let n : IsNumberOf c.args.number (places_from 0 s.expunged s.total) = subst (λ (k : SlotKnowledge). IsNumberOf c.args.number k.live) (sym c.self.view_is) (c.has.ensures.0 (search rules)) in
    let b = c.expunged_before-before.ensures in
    let w : c.expunged_before-before.result ≤ length s.expunged = b.within in
    let f : (i : ℕ) → i < c.expunged_before-before.result → get_or s.expunged i 0 ≤ c.args.number - 1 + i = b.front in
    let h : (i : ℕ) → c.expunged_before-before.result ≤ i → i < length s.expunged → c.args.number - 1 + i < get_or s.expunged i 0 = b.back in
    let after = out_next s.expunged s.entries s.total c.args.number c.expunged_before-before.result c.self.invariant n w f h in
    ap (λ (xs : List ℕ). known_by xs s.entries s.total) (c.in_ok-insert.ensures {u = tt}).ok
    ∙ after ∙ ap (λ (k : SlotKnowledge). record k { live = without c.args.number k.live }) c.self.view_is
