use Rattle.std.proofs.Common.{◌≡◌, ◌↔◌, ℕ, ◌+◌, ◌≤◌, true, false, IsTrue, sym, ap, ◌∙◌, subst, arith, rules}
use Rattle.mail_audit.specs.Gaps.{HasRoomFor}
use Rattle.mail_audit.specs.KnownUids.{AreKnownUids, places_from, slots_from}
use Rattle.mail_audit.specs.EventPasses.{HasRoomAbove}
use Rattle.mail_audit.specs.SlotSteps.{SlotKnowledge, with_more}
use Rattle.mail_audit.proofs.SlotLemmas.{add_fits, add_invariant, add_next, add_none, iff_at, iff_false}
use Rattle.mail_audit.proofs.slots.Slots.add.Goals as goal

pub returns-in_default-clause-fits : goal.returns-in_default-clause-fits
returns-in_default-clause-fits c =
    let s = c.self.inside in
    let big : 4294967296 ≤ s.total + c.args.more = grind (arith, c.in_default.ensures) in
    subst (λ (k : SlotKnowledge). IsTrue false ↔ HasRoomAbove 0 (with_more k c.args.more).slots) c.self.view_is (iff_false (add_none s.expunged s.entries s.total c.args.more c.self.invariant big))

pub returns-then-not-has_room-clause-fits : goal.returns-then-not-has_room-clause-fits
returns-then-not-has_room-clause-fits c =
    let s = c.self.inside in
    let e : c.in-Some.total ≡ s.total + c.args.more = grind (arith, c.in-Some.ensures) in
    let f = add_fits s.expunged s.entries s.total c.args.more c.self.invariant in
    let r : IsTrue c.has_room.result ↔ HasRoomFor 0 0 s.entries (s.total + c.args.more) = rw (sym e) c.has_room.ensures in
    subst (λ (k : SlotKnowledge). IsTrue false ↔ HasRoomAbove 0 (with_more k c.args.more).slots) c.self.view_is (iff_at c.has_room.result false c.if-not-has_room.true r f)

pub invariant_of-self : goal.invariant_of-self
invariant_of-self c =
    let s = c.self.inside in
    let e : c.in-Some.total ≡ s.total + c.args.more = grind (arith, c.in-Some.ensures) in
    let r : IsTrue c.has_room.result ↔ HasRoomFor 0 0 s.entries (s.total + c.args.more) = rw (sym e) c.has_room.ensures in
    subst (λ (n : ℕ). AreKnownUids s.expunged s.entries n) (sym e) (add_invariant s.expunged s.entries s.total c.args.more c.self.invariant (r.0 (search rules)))

pub returns-clause-fits : goal.returns-clause-fits
returns-clause-fits c =
    let s = c.self.inside in
    let e : c.in-Some.total ≡ s.total + c.args.more = grind (arith, c.in-Some.ensures) in
    let f = add_fits s.expunged s.entries s.total c.args.more c.self.invariant in
    let r : IsTrue c.has_room.result ↔ HasRoomFor 0 0 s.entries (s.total + c.args.more) = rw (sym e) c.has_room.ensures in
    subst (λ (k : SlotKnowledge). IsTrue true ↔ HasRoomAbove 0 (with_more k c.args.more).slots) c.self.view_is (iff_at c.has_room.result true c.if-not-has_room.false r f)

pub returns-clause-next : goal.returns-clause-next
returns-clause-next c = λ t.
    let s = c.self.inside in
    let e : c.in-Some.total ≡ s.total + c.args.more = grind (arith, c.in-Some.ensures) in
    ap (λ (n : ℕ). record { live = places_from 0 s.expunged n; slots = slots_from 0 s.entries n }) e
    ∙ add_next s.expunged s.entries s.total c.args.more c.self.invariant
    ∙ ap (λ (k : SlotKnowledge). with_more k c.args.more) c.self.view_is
