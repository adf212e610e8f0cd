use Rattle.std.proofs.Common.{◌≡◌, ◌↔◌, ◌<◌, ◌≤◌, true, false, IsTrue, List, get_or, set, length, None, Some, sym, ap, ◌∙◌, subst, arith, rules}
use Rattle.mail_audit.specs.Gaps.{FitsAt, IsUidKnown, IsUidUnknown}
use Rattle.mail_audit.specs.KnownUids.{AreKnownUids, slots_from}
use Rattle.mail_audit.specs.EventPasses.{HasRoomAbove, MayBeUid}
use Rattle.std.specs.Prelude.{nat_eq}
use Rattle.mail_audit.specs.SlotSteps.{SlotKnowledge}
use Rattle.mail_audit.specs.declared.slots.KnownUid.{KnownUid}
use Rattle.mail_audit.proofs.SlotLemmas.{iff_at, iff_both, known_by, same_test, slots_count, record_again, record_again_next, record_first, record_invariant, record_next}
use Rattle.mail_audit.proofs.slots.Slots.record_uid_at.Goals as goal

pub returns-in-Some-clause-fits : goal.returns-in-Some-clause-fits
returns-in-Some-clause-fits c =
    let s = c.self.inside in
    let t : IsUidKnown c.count_of_lower_places-at.result c.args.place c.in-Some.known s.entries = c.in-Some.ensures {u = tt} in
    subst (λ (k : SlotKnowledge). IsTrue (nat_eq c.in-Some.known c.args.uid) ↔ (MayBeUid (get_or k.slots c.args.place None) c.args.uid × HasRoomAbove 0 (set k.slots c.args.place (Some c.args.uid)))) c.self.view_is
    (iff_both (same_test c.in-Some.known c.args.uid) (record_again s.expunged s.entries s.total c.count_of_lower_places-at.result c.args.place c.args.uid c.self.invariant c.in-Some.known t))

pub returns-in-Some-clause-next : goal.returns-in-Some-clause-next
returns-in-Some-clause-next c = λ i.
    let s = c.self.inside in
    let t : IsUidKnown c.count_of_lower_places-at.result c.args.place c.in-Some.known s.entries = c.in-Some.ensures {u = tt} in
    subst (λ (k : SlotKnowledge). k ≡ record k { slots = set k.slots c.args.place (Some c.args.uid) }) c.self.view_is
    (record_again_next s.expunged s.entries s.total c.count_of_lower_places-at.result c.args.place c.args.uid c.self.invariant c.in-Some.known t ((same_test c.in-Some.known c.args.uid).0 i))

pub returns-then-not-fits_between-clause-fits : goal.returns-then-not-fits_between-clause-fits
returns-then-not-fits_between-clause-fits c =
    let s = c.self.inside in
    let u : IsUidUnknown c.count_of_lower_places-at.result c.args.place s.entries = c.in_default.ensures {u = tt} in
    let fits : IsTrue c.fits_between.result ↔ FitsAt 0 0 c.count_of_lower_places-at.result s.entries (record { place = c.args.place; uid = c.args.uid }) s.total = c.fits_between.ensures in
    let small : c.args.uid ≤ 4294967295 = grind (arith, c.ranges.uid.fits) in
    let count = slots_count s.expunged s.entries s.total c.self.invariant in
    let r : c.args.place < length (slots_from 0 s.entries s.total) = subst (λ (k : SlotKnowledge). c.args.place < length k.slots) (sym c.self.view_is) c.requires in
    let total : c.args.place < s.total = omega (arith, r, count) in
    subst (λ (k : SlotKnowledge). IsTrue false ↔ (MayBeUid (get_or k.slots c.args.place None) c.args.uid × HasRoomAbove 0 (set k.slots c.args.place (Some c.args.uid)))) c.self.view_is
    (iff_at c.fits_between.result false c.if-not-fits_between.true fits (record_first s.expunged s.entries s.total c.count_of_lower_places-at.result c.args.place c.args.uid c.self.invariant u small total))

pub invariant_of-self-2 : goal.invariant_of-self-2
invariant_of-self-2 c =
    let s = c.self.inside in
    let u : IsUidUnknown c.count_of_lower_places-at.result c.args.place s.entries = c.in_default.ensures {u = tt} in
    let fits : IsTrue c.fits_between.result ↔ FitsAt 0 0 c.count_of_lower_places-at.result s.entries (record { place = c.args.place; uid = c.args.uid }) s.total = c.fits_between.ensures in
    let small : c.args.uid ≤ 4294967295 = grind (arith, c.ranges.uid.fits) in
    let count = slots_count s.expunged s.entries s.total c.self.invariant in
    let r : c.args.place < length (slots_from 0 s.entries s.total) = subst (λ (k : SlotKnowledge). c.args.place < length k.slots) (sym c.self.view_is) c.requires in
    let total : c.args.place < s.total = omega (arith, r, count) in
    subst (λ (ts : List KnownUid). AreKnownUids s.expunged ts s.total) (sym (c.in_ok-insert.ensures {u = tt}).ok)
    (record_invariant s.expunged s.entries s.total c.count_of_lower_places-at.result c.args.place c.args.uid c.self.invariant u small total (fits.0 (search rules)))

pub returns-clause-fits : goal.returns-clause-fits
returns-clause-fits c =
    let s = c.self.inside in
    let u : IsUidUnknown c.count_of_lower_places-at.result c.args.place s.entries = c.in_default.ensures {u = tt} in
    let fits : IsTrue c.fits_between.result ↔ FitsAt 0 0 c.count_of_lower_places-at.result s.entries (record { place = c.args.place; uid = c.args.uid }) s.total = c.fits_between.ensures in
    let small : c.args.uid ≤ 4294967295 = grind (arith, c.ranges.uid.fits) in
    let count = slots_count s.expunged s.entries s.total c.self.invariant in
    let r : c.args.place < length (slots_from 0 s.entries s.total) = subst (λ (k : SlotKnowledge). c.args.place < length k.slots) (sym c.self.view_is) c.requires in
    let total : c.args.place < s.total = omega (arith, r, count) in
    subst (λ (k : SlotKnowledge). IsTrue true ↔ (MayBeUid (get_or k.slots c.args.place None) c.args.uid × HasRoomAbove 0 (set k.slots c.args.place (Some c.args.uid)))) c.self.view_is
    (iff_at c.fits_between.result true c.if-not-fits_between.false fits (record_first s.expunged s.entries s.total c.count_of_lower_places-at.result c.args.place c.args.uid c.self.invariant u small total))

pub returns-clause-next : goal.returns-clause-next
returns-clause-next c = λ i.
    let s = c.self.inside in
    let u : IsUidUnknown c.count_of_lower_places-at.result c.args.place s.entries = c.in_default.ensures {u = tt} in
    let fits : IsTrue c.fits_between.result ↔ FitsAt 0 0 c.count_of_lower_places-at.result s.entries (record { place = c.args.place; uid = c.args.uid }) s.total = c.fits_between.ensures in
    let small : c.args.uid ≤ 4294967295 = grind (arith, c.ranges.uid.fits) in
    let count = slots_count s.expunged s.entries s.total c.self.invariant in
    let r : c.args.place < length (slots_from 0 s.entries s.total) = subst (λ (k : SlotKnowledge). c.args.place < length k.slots) (sym c.self.view_is) c.requires in
    let total : c.args.place < s.total = omega (arith, r, count) in
    ap (λ (ts : List KnownUid). known_by s.expunged ts s.total) (c.in_ok-insert.ensures {u = tt}).ok
    ∙ record_next s.expunged s.entries s.total c.count_of_lower_places-at.result c.args.place c.args.uid c.self.invariant u small total
    ∙ ap (λ (k : SlotKnowledge). record k { slots = set k.slots c.args.place (Some c.args.uid) }) c.self.view_is
