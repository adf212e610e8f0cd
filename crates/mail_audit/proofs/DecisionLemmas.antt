use Rattle.std.proofs.Common.{◌≡◌, ◌↔◌, ℕ, zero, suc, ◌+◌, ◌-◌, ◌<◌, ◌≤◌, List, [], ◌∷◌, ◌++◌, Option, Some, None, length, get_or, set, take, drop, replicate, sym, ap, ◌∙◌, subst, arith}
use Rattle.std.proofs.lemmas.List.{length-append, length-drop, length-map, length-replicate, length-set, get_or-map, map-append, take-map, drop-map}
use Rattle.mail_audit.specs.declared.event.SlotEvent.{SlotEvent}
use Rattle.mail_audit.specs.declared.event.SlotEvent.TheVariants.{Selects, Exists, Expunge, Names, ReportsUid, Passes}
use Rattle.mail_audit.specs.Explanations.{AreFitting, AreUidsAbove, IsExplained, IsNumberOf, without}
use Rattle.mail_audit.specs.EventPasses.{HasRoomAbove, PassesFrom, numbers_upward}
use Rattle.mail_audit.proofs.RoomLemmas.{Agree, agree_before, agree_front, agree_length, agree_more, agree_known, arrived, room_from, uids_at, uids_from}

-- all places are below a bound
abbrev pub Below : ℕ → List ℕ → Type 0
Below n [] = Unit {0}
Below n (at ∷ places) = (at < n) × Below n places

below_get : (n : ℕ) (places : List ℕ) (i : ℕ) → Below n places → i < length places → get_or places i 0 < n
below_get n [] i b l = absurd (omega (arith, l))
below_get n (at ∷ places) zero b l = b.0
below_get n (at ∷ places) (suc i) b l = below_get n places i b.1 (omega (arith, l))

below_join : (n m : ℕ) (xs ys : List ℕ) → n ≤ m → Below n xs → Below m ys → Below m (xs ++ ys)
below_join n m [] ys l b c = c
below_join n m (x ∷ xs) ys l b c = (omega (arith, l, b.0), below_join n m xs ys l b.1 c)

below_take : (n i : ℕ) (xs : List ℕ) → Below n xs → Below n (take i xs)
below_take n zero xs b = tt
below_take n (suc i) [] b = tt
below_take n (suc i) (x ∷ xs) b = (b.0, below_take n i xs b.1)

below_drop : (n i : ℕ) (xs : List ℕ) → Below n xs → Below n (drop i xs)
below_drop n zero xs b = b
below_drop n (suc i) [] b = tt
below_drop n (suc i) (x ∷ xs) b = below_drop n i xs b.1

below_upward : (from m : ℕ) → Below (from + m) (numbers_upward from m)
below_upward from zero = tt
below_upward from (suc m) = (omega arith, subst (λ (k : ℕ). Below k (numbers_upward (suc from) m)) (let e : suc from + m ≡ from + suc m = omega arith in e) (below_upward (suc from) m))

below_without : (n k : ℕ) (xs : List ℕ) → Below n xs → Below n (without k xs)
below_without n k xs b = below_join n n (take (k - 1) xs) (drop k xs) (omega arith) (below_take n (k - 1) xs b) (below_drop n k xs b)

below_arrived : (slots : List (Option ℕ)) (live : List ℕ) (m : ℕ) → Below (length slots) live → Below (length (slots ++ replicate m None)) (live ++ numbers_upward (length slots) m)
below_arrived slots live m b =
    let count : length (slots ++ replicate m None) ≡ length slots + m = length-append slots (replicate m None) ∙ ap (λ k. length slots + k) (length-replicate m None) in
    subst (λ (k : ℕ). Below k (live ++ numbers_upward (length slots) m)) (sym count)
    (below_join (length slots) (length slots + m) live (numbers_upward (length slots) m) (omega arith) b (below_upward (length slots) m))

uids_without : (uids : List ℕ) (k : ℕ) (live : List ℕ) → uids_at uids (without k live) ≡ without k (uids_at uids live)
uids_without uids k live =
    map-append (λ at. get_or uids at 0) (take (k - 1) live) (drop k live)
    ∙ (λ i. sym (take-map (λ at. get_or uids at 0) (k - 1) live) i ++ sym (drop-map (λ at. get_or uids at 0) k live) i)

-- UIDs can be assigned that agree with what is known and with the events
abbrev pub IsOpen : List ℕ → List (Option ℕ) → List SlotEvent → Type 0
IsOpen live slots events = (uids : List ℕ) × AreUidsAbove 0 uids × Agree slots uids × AreFitting (uids_at uids live) (drop (length slots) uids) events

number_at : (uids live : List ℕ) (k : ℕ) → IsNumberOf k live → IsNumberOf k (uids_at uids live)
number_at uids live k h = (h.0, let e : length (uids_at uids live) ≡ length live = length-map live (λ at. get_or uids at 0) in omega (arith, e, h.1))

at_number : (uids live : List ℕ) (k : ℕ) → IsNumberOf k (uids_at uids live) → IsNumberOf k live
at_number uids live k h = (h.0, let e : length (uids_at uids live) ≡ length live = length-map live (λ at. get_or uids at 0) in omega (arith, e, h.1))

uid_live : (uids live : List ℕ) (k : ℕ) → IsNumberOf k live → get_or (uids_at uids live) (k - 1) 0 ≡ get_or uids (get_or live (k - 1) 0) 0
uid_live uids live k h = get_or-map (λ at. get_or uids at 0) live (k - 1) 0 0 (omega (arith, h.0, h.1))

pub opens : (live : List ℕ) (slots : List (Option ℕ)) (events : List SlotEvent) → Below (length slots) live → HasRoomAbove 0 slots → PassesFrom live slots events → IsOpen live slots events
opens live slots [] b r p = let u = uids_from 0 slots r in (u.0, u.1, u.2, tt)
opens live slots (Selects ∷ events) b r p =
    let u = uids_from 0 slots r in
    let v = opens [] [] events tt tt p in
    (u.0, u.1, u.2, (v.0, v.1, v.3))
opens live slots (Exists n ∷ events) b r p =
    let m = n - length live in
    let u = opens (live ++ numbers_upward (length slots) m) (slots ++ replicate m None) events (below_arrived slots live m b) p.1 p.2 in
    let e : length (uids_at u.0 live) ≡ length live = length-map live (λ at. get_or u.0 at 0) in
    let count : length (slots ++ replicate m None) ≡ length slots + m = length-append slots (replicate m None) ∙ ap (λ k. length slots + k) (length-replicate m None) in
    let l = agree_length (slots ++ replicate m None) u.0 u.2 in
    let d : length (drop (length slots) u.0) ≡ length u.0 - length slots = length-drop (length slots) u.0 in
    let f = subst (λ (q : List ℕ × List ℕ). AreFitting q.0 q.1 events) (arrived u.0 live slots m (omega (arith, l, count))) u.3 in
    (u.0, u.1, agree_front slots (replicate m None) u.0 u.2, (omega (arith, e, p.0), omega (arith, e, d, l, count, p.0), rw e f))
opens live slots (Expunge k ∷ events) b r p =
    let u = opens (without k live) slots events (below_without (length slots) k live b) r p.1 in
    (u.0, u.1, u.2, (number_at u.0 live k p.0, subst (λ (q : List ℕ). AreFitting q (drop (length slots) u.0) events) (uids_without u.0 k live) u.3))
opens live slots (Names k ∷ events) b r p =
    let u = opens live slots events b r p.1 in
    (u.0, u.1, u.2, (number_at u.0 live k p.0, u.3))
opens live slots (ReportsUid k uid ∷ events) b r p =
    let at = get_or live (k - 1) 0 in
    let e : length (set slots at (Some uid)) ≡ length slots = length-set slots at (Some uid) in
    let u = opens live (set slots at (Some uid)) events (subst (λ (n : ℕ). Below n live) (sym e) b) p.2 p.3 in
    let g = agree_before slots at uid u.0 (below_get (length slots) live (k - 1) b (omega (arith, p.0.0, p.0.1))) p.1 u.2 in
    (u.0, u.1, g.1, (number_at u.0 live k p.0, uid_live u.0 live k p.0 ∙ g.0, subst (λ (n : ℕ). AreFitting (uids_at u.0 live) (drop n u.0) events) e u.3))
opens live slots (Passes ∷ events) b r p = opens live slots events b r p

pub passes : (live : List ℕ) (slots : List (Option ℕ)) (events : List SlotEvent) → Below (length slots) live → IsOpen live slots events → PassesFrom live slots events
passes live slots [] b u = tt
passes live slots (Selects ∷ events) b u = passes [] [] events tt (u.3.0, u.3.1, tt, u.3.2)
passes live slots (Exists n ∷ events) b u =
    let m = n - length live in
    let e : length (uids_at u.0 live) ≡ length live = length-map live (λ at. get_or u.0 at 0) in
    let d : length (drop (length slots) u.0) ≡ length u.0 - length slots = length-drop (length slots) u.0 in
    let l = agree_length slots u.0 u.2 in
    let f = u.3 in
    let low : length live ≤ n = omega (arith, e, f.0) in
    let fits : length slots + m ≤ length u.0 = omega (arith, e, d, l, f.1, low) in
    let g = agree_more slots m u.0 u.2 fits in
    let t : AreFitting (uids_at u.0 live ++ take m (drop (length slots) u.0)) (drop m (drop (length slots) u.0)) events = rw e at f.2 in (
      low,
      room_from 0 0 (slots ++ replicate m None) u.0 (omega arith) u.1 g,
      passes (live ++ numbers_upward (length slots) m) (slots ++ replicate m None) events (below_arrived slots live m b)
          (u.0, u.1, g, subst (λ (q : List ℕ × List ℕ). AreFitting q.0 q.1 events) (sym (arrived u.0 live slots m fits)) t),
    )
passes live slots (Expunge k ∷ events) b u = (
  at_number u.0 live k u.3.0,
  passes (without k live) slots events (below_without (length slots) k live b)
      (u.0, u.1, u.2, subst (λ (q : List ℕ). AreFitting q (drop (length slots) u.0) events) (sym (uids_without u.0 k live)) u.3.1),
)
passes live slots (Names k ∷ events) b u = (at_number u.0 live k u.3.0, passes live slots events b (u.0, u.1, u.2, u.3.1))
passes live slots (ReportsUid k uid ∷ events) b u =
    let at = get_or live (k - 1) 0 in
    let e : length (set slots at (Some uid)) ≡ length slots = length-set slots at (Some uid) in
    let h = at_number u.0 live k u.3.0 in
    let g = agree_known slots at uid u.0 (below_get (length slots) live (k - 1) b (omega (arith, h.0, h.1))) u.2 (sym (uid_live u.0 live k h) ∙ u.3.1) in (
      h,
      g.0,
      room_from 0 0 (set slots at (Some uid)) u.0 (omega arith) u.1 g.1,
      passes live (set slots at (Some uid)) events (subst (λ (n : ℕ). Below n live) (sym e) b)
          (u.0, u.1, g.1, subst (λ (n : ℕ). AreFitting (uids_at u.0 live) (drop n u.0) events) (sym e) u.3.2),
    )
passes live slots (Passes ∷ events) b u = passes live slots events b u

pub explained : (events : List SlotEvent) → IsExplained events ↔ PassesFrom [] [] events
explained events = (
  λ h. passes [] [] events tt (h.0, h.1, tt, h.2),
  λ p. let u = opens [] [] events tt tt p in (u.0, u.1, u.3),
)
