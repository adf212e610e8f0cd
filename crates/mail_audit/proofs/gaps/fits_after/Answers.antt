use Rattle.std.proofs.Common.{◌≡◌, ◌↔◌, ℕ, suc, ◌<◌, ◌+◌, ◌-◌, IsTrue, get_or, length, arith, subst, sym}
use Rattle.mail_audit.specs.Gaps.{FitsAfter}
use Rattle.mail_audit.specs.declared.slots.KnownUid.{KnownUid}
use Rattle.mail_audit.proofs.KnownUidLemmas.{fits_after_one}
use Rattle.mail_audit.proofs.gaps.fits_after.Goals as goal

pub returns : goal.returns
returns c =
    let h = c.in-Some.ensures {u = tt} in
    let low = h.0 in
    let one = h.1 in
    let most = c.requires in
    let e : c.args.at ≡ suc c.in-Some.before = omega (arith, low, one) in
    let l : c.in-Some.before < length c.args.entries.now = omega (arith, low, one, most) in
    let item = (c.in-Some-get.ensures {u = tt}).item in
    let is : c.in-Some-get.before.now ≡ get_or c.args.entries.now c.in-Some.before c.in-Some-get.before.now = item.1 in
    subst (λ (n : ℕ). IsTrue c.has_room_between.result ↔ FitsAfter 0 0 n c.args.entries.now c.args.entry) (sym e)
    (subst (λ (P : Type 0). IsTrue c.has_room_between.result ↔ P) (sym (fits_after_one 0 0 c.in-Some.before c.args.entry c.in-Some-get.before.now c.args.entries.now l))
    (subst (λ (t : KnownUid). IsTrue c.has_room_between.result ↔ (t.uid + (c.args.entry.place - (t.place + 1)) < c.args.entry.uid)) is c.has_room_between.ensures))
