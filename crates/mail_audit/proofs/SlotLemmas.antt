use Rattle.std.proofs.Common.{◌≡◌, ◌↔◌, ℕ, ◌+◌, ◌-◌, ◌<◌, ◌≤◌, true, false, Bool, IsTrue, List, ◌++◌, Option, Some, None, length, get_or, set, sym, ap, ◌∙◌, subst, arith, rules}
use Rattle.std.specs.Prelude.{nat_eq}
use Rattle.std.specs.List.{insert}
use Rattle.std.proofs.lemmas.Bool.Decides.{nat_tests}
use Rattle.mail_audit.specs.Explanations.{IsNumberOf, without}
use Rattle.mail_audit.specs.Gaps.{FitsAt, HasRoomFor, IsUidKnown, IsUidUnknown}
use Rattle.mail_audit.specs.KnownUids.{AreKnownUids, places_from, slots_from}
use Rattle.mail_audit.specs.EventPasses.{HasRoomAbove, MayBeUid, numbers_upward}
use Rattle.mail_audit.specs.SlotSteps.{SlotKnowledge, with_more}
use Rattle.mail_audit.specs.declared.slots.KnownUid.{KnownUid}
use Rattle.mail_audit.proofs.ExpungedLemmas.{AreBefore, expunged_add, expunged_with, place_after, place_below_total, places_append, places_without}
use Rattle.mail_audit.proofs.SlotStepLemmas.{room_in_gaps}
use Rattle.mail_audit.proofs.KnownUidLemmas.{gaps_for, gaps_low, gaps_with, length_slots, places_add, places_with, set_known, set_unknown, slot_known, slot_unknown, slots_append}

-- the knowledge that the stored places and UIDs represent
abbrev pub known_by : List ℕ → List KnownUid → ℕ → SlotKnowledge
known_by expunged entries total = record { live = places_from 0 expunged total; slots = slots_from 0 entries total }

-- an equal test decides an equivalent proposition
pub iff_at : (b d : Bool) {P Q : Type 0} → b ≡ d → (IsTrue b ↔ P) → (P ↔ Q) → IsTrue d ↔ Q
iff_at b d {P} {Q} e h k = subst (λ (x : Bool). IsTrue x ↔ Q) e (λ t. k.0 (h.0 t), λ q. h.1 (k.1 q))

pub refuted : (b : Bool) {P : Type 0} → b ≡ false → (P → IsTrue b) → P → ⊥
refuted b e h p = let f : IsTrue false = subst (λ (x : Bool). IsTrue x) e (h p) in search rules

pub iff_both : {P Q R : Type 0} → (P ↔ Q) → (Q ↔ R) → P ↔ R
iff_both h k = (λ p. k.0 (h.0 p), λ r. h.1 (k.1 r))

pub iff_true : {Q : Type 0} → Q → IsTrue true ↔ Q
iff_true q = (λ t. q, λ x. search rules)

pub iff_false : {Q : Type 0} → (Q → ⊥) → IsTrue false ↔ Q
iff_false n = (λ t. absurd (search rules), λ q. absurd (n q))

pub few : (expunged : List ℕ) (entries : List KnownUid) (total : ℕ) → AreKnownUids expunged entries total → total ≤ 4294967295
few expunged entries total k = let l = gaps_low 0 0 entries total k.places_ascend k.gaps in omega (arith, l)

pub slots_count : (expunged : List ℕ) (entries : List KnownUid) (total : ℕ) → AreKnownUids expunged entries total → length (slots_from 0 entries total) ≡ total
slots_count expunged entries total k = let l = length_slots 0 entries total k.places_ascend in omega (arith, l)

-- ---- further messages

pub add_fits : (expunged : List ℕ) (entries : List KnownUid) (total m : ℕ) → AreKnownUids expunged entries total → HasRoomFor 0 0 entries (total + m) ↔ HasRoomAbove 0 (with_more (known_by expunged entries total) m).slots
add_fits expunged entries total m k =
    let e = slots_append 0 entries total m k.places_ascend in
    let r = room_in_gaps 0 0 entries (total + m) (omega arith) in
    let g = gaps_for 0 0 entries total (total + m) k.gaps in
    (λ h. subst (HasRoomAbove 0) (sym e) (r.1 (g.1 h)), λ h. g.0 (r.0 (subst (HasRoomAbove 0) e h)))

pub add_none : (expunged : List ℕ) (entries : List KnownUid) (total m : ℕ) → AreKnownUids expunged entries total → 4294967296 ≤ total + m → HasRoomAbove 0 (with_more (known_by expunged entries total) m).slots → ⊥
add_none expunged entries total m k big h =
    let e = slots_append 0 entries total m k.places_ascend in
    let r = (room_in_gaps 0 0 entries (total + m) (omega arith)).0 (subst (HasRoomAbove 0) e h) in
    let l = gaps_low 0 0 entries (total + m) (places_add 0 entries total m k.places_ascend) r in
    omega (arith, l, big)

pub add_invariant : (expunged : List ℕ) (entries : List KnownUid) (total m : ℕ) → AreKnownUids expunged entries total → HasRoomFor 0 0 entries (total + m) → AreKnownUids expunged entries (total + m)
add_invariant expunged entries total m k h = record {
  expunged_ascend = expunged_add 0 expunged total m k.expunged_ascend;
  places_ascend = places_add 0 entries total m k.places_ascend;
  gaps = (gaps_for 0 0 entries total (total + m) k.gaps).1 h;
}

pub add_next : (expunged : List ℕ) (entries : List KnownUid) (total m : ℕ) → AreKnownUids expunged entries total → known_by expunged entries (total + m) ≡ with_more (known_by expunged entries total) m
add_next expunged entries total m k =
    let n = slots_count expunged entries total k in
    let t = sym (places_append 0 expunged total m k.expunged_ascend) ∙ ap (λ (c : ℕ). places_from 0 expunged total ++ numbers_upward c m) (sym n) in
    let s = sym (slots_append 0 entries total m k.places_ascend) in
    λ i. record { live = t i; slots = s i }

-- ---- an expunged message

before_of : (k at : ℕ) (expunged : List ℕ) → ((i : ℕ) → i < at → get_or expunged i 0 ≤ k + i) → ((i : ℕ) → at ≤ i → i < length expunged → k + i < get_or expunged i 0) → AreBefore 0 k at expunged
before_of k at expunged f b = (λ i l. let r = f i l in omega (arith, r), λ i l m. let r = b i l m in omega (arith, r))

module _ (expunged : List ℕ) (entries : List KnownUid) (total n at : ℕ) (k : AreKnownUids expunged entries total) (number : IsNumberOf n (places_from 0 expunged total)) (within : at ≤ length expunged) (front : (i : ℕ) → i < at → get_or expunged i 0 ≤ n - 1 + i) (back : (i : ℕ) → at ≤ i → i < length expunged → n - 1 + i < get_or expunged i 0) where
  inside : n - 1 < length (places_from 0 expunged total)
  inside = omega (arith, number.0, number.1)

  pub out_place : n - 1 + at ≡ get_or (places_from 0 expunged total) (n - 1) 0
  out_place = let p = place_after 0 (n - 1) at expunged total k.expunged_ascend within (before_of (n - 1) at expunged front back) inside in omega (arith, p)

  pub out_below_total : n - 1 + at < total
  out_below_total = let p = place_below_total 0 (n - 1) at expunged total k.expunged_ascend within (before_of (n - 1) at expunged front back) inside in omega (arith, p)

  pub out_small : n - 1 + at < 4294967296
  out_small = let p = out_below_total in let f = few expunged entries total k in omega (arith, p, f)

  pub out_invariant : AreKnownUids (insert expunged at (n - 1 + at)) entries total
  out_invariant = record {
    expunged_ascend = expunged_with 0 (n - 1) at (n - 1 + at) expunged total (omega arith) k.expunged_ascend within (before_of (n - 1) at expunged front back) inside;
    places_ascend = k.places_ascend;
    gaps = k.gaps;
  }

  pub out_next : known_by (insert expunged at (n - 1 + at)) entries total ≡ record (known_by expunged entries total) { live = without n (places_from 0 expunged total) }
  out_next =
      let p = places_without 0 n at (n - 1 + at) expunged total (omega arith) number.0 k.expunged_ascend within (before_of (n - 1) at expunged front back) number.1 in
      λ i. record { live = p i; slots = slots_from 0 entries total }

-- ---- a message whose UID is reported

same_number : (a b : ℕ) → nat_eq a b ≡ true → a ≡ b
same_number a b h = grind (arith, nat_tests)

pub same_test : (a b : ℕ) → IsTrue (nat_eq a b) ↔ (a ≡ b)
same_test a b = (λ t. search (rules, same_number), λ e. search rules)

module _ (expunged : List ℕ) (entries : List KnownUid) (total at place uid : ℕ) (k : AreKnownUids expunged entries total) where
  from_start : place - 0 ≡ place
  from_start = omega arith

  room_now : HasRoomAbove 0 (slots_from 0 entries total)
  room_now = (room_in_gaps 0 0 entries total (omega arith)).1 k.gaps

  pub record_again : (known : ℕ) → IsUidKnown at place known entries → (known ≡ uid) ↔ (MayBeUid (get_or (slots_from 0 entries total) place None) uid × HasRoomAbove 0 (set (slots_from 0 entries total) place (Some uid)))
  record_again known h =
      let g : get_or (slots_from 0 entries total) place None ≡ Some known = ap (λ (i : ℕ). get_or (slots_from 0 entries total) i None) (sym from_start) ∙ slot_known 0 at place known entries total k.places_ascend (omega arith) h in (
        λ e.
            let s : set (slots_from 0 entries total) place (Some uid) ≡ slots_from 0 entries total =
            ap (λ (i : ℕ). set (slots_from 0 entries total) i (Some uid)) (sym from_start) ∙ set_known 0 at place uid entries total k.places_ascend (omega arith) (subst (λ (u : ℕ). IsUidKnown at place u entries) e h) in
            (subst (λ (o : Option ℕ). MayBeUid o uid) (sym g) (sym e), subst (HasRoomAbove 0) (sym s) room_now),
        λ m. sym (subst (λ (o : Option ℕ). MayBeUid o uid) g m.0),
      )

  pub record_again_next : (known : ℕ) → IsUidKnown at place known entries → known ≡ uid → known_by expunged entries total ≡ record (known_by expunged entries total) { slots = set (slots_from 0 entries total) place (Some uid) }
  record_again_next known h e =
      let s : set (slots_from 0 entries total) place (Some uid) ≡ slots_from 0 entries total =
      ap (λ (i : ℕ). set (slots_from 0 entries total) i (Some uid)) (sym from_start) ∙ set_known 0 at place uid entries total k.places_ascend (omega arith) (subst (λ (u : ℕ). IsUidKnown at place u entries) e h) in
      λ i. record { live = places_from 0 expunged total; slots = sym s i }

  module _ (unknown : IsUidUnknown at place entries) (small : uid ≤ 4294967295) (inside : place < total) where
    abbrev pub now : KnownUid
    now = record { place = place; uid = uid }

    slots_then : set (slots_from 0 entries total) place (Some uid) ≡ slots_from 0 (insert entries at now) total
    slots_then = ap (λ (i : ℕ). set (slots_from 0 entries total) i (Some uid)) (sym from_start) ∙ set_unknown 0 at now entries total k.places_ascend (omega arith) inside unknown

    pub record_first : FitsAt 0 0 at entries now total ↔ (MayBeUid (get_or (slots_from 0 entries total) place None) uid × HasRoomAbove 0 (set (slots_from 0 entries total) place (Some uid)))
    record_first =
        let g : get_or (slots_from 0 entries total) place None ≡ None = ap (λ (i : ℕ). get_or (slots_from 0 entries total) i None) (sym from_start) ∙ slot_unknown 0 at place entries total k.places_ascend (omega arith) unknown in
        let r = room_in_gaps 0 0 (insert entries at now) total (omega arith) in
        let w = gaps_with 0 0 at now entries total small k.gaps unknown in (
          λ f. (subst (λ (o : Option ℕ). MayBeUid o uid) (sym g) tt, subst (HasRoomAbove 0) (sym slots_then) (r.1 (w.1 f))),
          λ m. w.0 (r.0 (subst (HasRoomAbove 0) slots_then m.1)),
        )

    pub record_invariant : FitsAt 0 0 at entries now total → AreKnownUids expunged (insert entries at now) total
    record_invariant f = record {
      expunged_ascend = k.expunged_ascend;
      places_ascend = places_with 0 at now entries total k.places_ascend (omega arith) inside unknown;
      gaps = (gaps_with 0 0 at now entries total small k.gaps unknown).1 f;
    }

    pub record_next : known_by expunged (insert entries at now) total ≡ record (known_by expunged entries total) { slots = set (slots_from 0 entries total) place (Some uid) }
    record_next = λ i. record { live = places_from 0 expunged total; slots = sym slots_then i }
