use Rattle.std.proofs.Common.{◌≡◌, ◌↔◌, ℕ, zero, suc, ◌+◌, ◌-◌, ◌≤◌, List, [], ◌∷◌, ◌++◌, Option, Some, None, replicate, sym, subst, arith, append-nil}
use Rattle.mail_audit.specs.declared.event.SlotEvent.{SlotEvent}
use Rattle.mail_audit.specs.declared.event.SlotEvent.TheVariants.{Selects, Exists, Expunge, Names, ReportsUid, Passes}
use Rattle.mail_audit.specs.Explanations.{AreFitting, IsExplained}
use Rattle.mail_audit.specs.EventPasses.{HasRoomAbove, PassesFrom}
use Rattle.mail_audit.specs.KnownUids.{HaveGaps, slots_from}
use Rattle.mail_audit.specs.SlotSteps.{EventFits, SlotKnowledge, after_events, after_event, no_slots}
use Rattle.mail_audit.specs.declared.slots.KnownUid.{KnownUid}
use Rattle.mail_audit.proofs.DecisionLemmas.{explained}

-- a prefix of explained events is explained
fitting_front : (live later : List ℕ) (front back : List SlotEvent) → AreFitting live later (front ++ back) → AreFitting live later front
fitting_front live later [] back f = tt
fitting_front live later (Selects ∷ front) back f = (f.0, f.1, fitting_front [] f.0 front back f.2)
fitting_front live later (Exists n ∷ front) back f = (f.0, f.1, fitting_front _ _ front back f.2)
fitting_front live later (Expunge k ∷ front) back f = (f.0, fitting_front _ _ front back f.1)
fitting_front live later (Names k ∷ front) back f = (f.0, fitting_front _ _ front back f.1)
fitting_front live later (ReportsUid k uid ∷ front) back f = (f.0, f.1, fitting_front _ _ front back f.2)
fitting_front live later (Passes ∷ front) back f = fitting_front live later front back f

pub explained_front : (front back : List SlotEvent) → IsExplained (front ++ back) → IsExplained front
explained_front front back h = (h.0, h.1, fitting_front [] h.0 front back h.2)

-- events pass if the first fits and the others pass after it
pub passes_one : (known : SlotKnowledge) (event : SlotEvent) (events : List SlotEvent) → PassesFrom known.live known.slots (event ∷ events) ↔ (EventFits known event × PassesFrom (after_event known event).live (after_event known event).slots events)
passes_one known Selects events = (λ p. (tt, p), λ p. p.1)
passes_one known (Exists n) events = (λ p. ((p.0, p.1), p.2), λ p. (p.0.0, p.0.1, p.1))
passes_one known (Expunge k) events = (λ p. p, λ p. p)
passes_one known (Names k) events = (λ p. p, λ p. p)
passes_one known (ReportsUid k uid) events = (λ p. ((p.0, p.1, p.2), p.3), λ p. (p.0.0, p.0.1, p.0.2, p.1))
passes_one known Passes events = (λ p. (tt, p), λ p. p.1)

passes_last : (known : SlotKnowledge) (events : List SlotEvent) (event : SlotEvent) → PassesFrom known.live known.slots (events ++ event ∷ []) ↔ (PassesFrom known.live known.slots events × EventFits (after_events known events) event)
passes_last known [] event = (λ p. (tt, ((passes_one known event []).0 p).0), λ p. (passes_one known event []).1 (p.1, tt))
passes_last known (first ∷ events) event = (
  λ p.
      let q = (passes_one known first (events ++ event ∷ [])).0 p in
      let r = (passes_last (after_event known first) events event).0 q.1 in
      ((passes_one known first events).1 (q.0, r.0), r.1),
  λ p.
      let q = (passes_one known first events).0 p.0 in
      (passes_one known first (events ++ event ∷ [])).1 (q.0, (passes_last (after_event known first) events event).1 (q.1, p.1)),
)

-- a further event is explained exactly when it fits
pub explained_last : (events : List SlotEvent) (event : SlotEvent) → IsExplained events → IsExplained (events ++ event ∷ []) ↔ EventFits (after_events no_slots events) event
explained_last events event h = (
  λ g. ((passes_last no_slots events event).0 ((explained (events ++ event ∷ [])).0 g)).1,
  λ f. (explained (events ++ event ∷ [])).1 ((passes_last no_slots events event).1 ((explained events).0 h, f)),
)

-- UIDs after slots with unknown UIDs
room_unknown : (low m : ℕ) (slots : List (Option ℕ)) → low ≤ 4294967295 → HasRoomAbove low (replicate m None ++ slots) ↔ ((low + m ≤ 4294967295) × HasRoomAbove (low + m) slots)
room_unknown low zero slots l =
    let e : low + zero ≡ low = omega arith in
    (λ h. (omega (arith, l), subst (λ (n : ℕ). HasRoomAbove n slots) (sym e) h), λ h. subst (λ (n : ℕ). HasRoomAbove n slots) e h.1)
room_unknown low (suc m) slots l =
    let e : low + 1 + m ≡ low + suc m = omega arith in (
      λ h. let r = (room_unknown (low + 1) m slots (omega (arith, h.0))).0 h.1 in (omega (arith, r.0), subst (λ (n : ℕ). HasRoomAbove n slots) e r.1),
      λ h. (omega (arith, h.0), (room_unknown (low + 1) m slots (omega (arith, h.0))).1 (omega (arith, h.0), subst (λ (n : ℕ). HasRoomAbove n slots) (sym e) h.1)),
    )

-- enough UIDs are left exactly when the gaps are wide enough
pub room_in_gaps : (low from : ℕ) (entries : List KnownUid) (total : ℕ) → low ≤ 4294967295 → HasRoomAbove low (slots_from from entries total) ↔ HaveGaps low from entries total
room_in_gaps low from [] total l =
    let e : replicate (total - from) None ++ [] ≡ slots_from from [] total = append-nil (replicate (total - from) None) in
    let r = room_unknown low (total - from) [] l in
    (λ h. (r.0 (subst (HasRoomAbove low) (sym e) h)).0, λ h. subst (HasRoomAbove low) e (r.1 (h, tt)))
room_in_gaps low from (t ∷ entries) total l =
    let r = room_unknown low (t.place - from) (Some t.uid ∷ slots_from (t.place + 1) entries total) l in (
      λ h. let q = (r.0 h).1 in (q.0, q.1, (room_in_gaps t.uid (t.place + 1) entries total q.1).0 q.2),
      λ h. r.1 (omega (arith, h.0, h.1), (h.0, h.1, (room_in_gaps t.uid (t.place + 1) entries total h.1).1 h.2)),
    )
