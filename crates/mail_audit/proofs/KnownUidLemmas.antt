use Rattle.std.proofs.Common.{◌≡◌, ◌↔◌, ℕ, zero, suc, ◌+◌, ◌-◌, ◌<◌, ◌≤◌, true, false, ltb, List, [], ◌∷◌, ◌++◌, Option, Some, None, length, get_or, set, replicate, refl, sym, ap, ◌∙◌, arith, append_assoc}
use Rattle.std.specs.List.{insert, slice_get}
use Rattle.std.specs.List.Sorted.{IsNonDecreasingBy}
use Rattle.std.proofs.lemmas.Bool.Decides.{nat_tests}
use Rattle.std.proofs.lemmas.List.{length-append, length-replicate, replicate-append-replicate, get_or-append_right, set-append_left, set-append_right}
use Rattle.mail_audit.specs.Gaps.{FitsAt, FitsAfter, HasRoomFor, IsUidKnown, IsUidUnknown, SplitsAt}
use Rattle.mail_audit.specs.KnownUids.{ArePlaces, HaveGaps, slots_from}
use Rattle.mail_audit.specs.declared.slots.KnownUid.{KnownUid}

pub places_low : (from : ℕ) (entries : List KnownUid) (total : ℕ) → ArePlaces from entries total → from ≤ total
places_low from [] total a = a
places_low from (t ∷ entries) total a = let r = places_low (t.place + 1) entries total a.1 in let l : from ≤ t.place = a.0 in omega (arith, r, l)

-- there are no more messages than UIDs
pub gaps_low : (low from : ℕ) (entries : List KnownUid) (total : ℕ) → ArePlaces from entries total → HaveGaps low from entries total → low + (total - from) ≤ 4294967295
gaps_low low from [] total a h = h
gaps_low low from (t ∷ entries) total a h =
    let r = gaps_low t.uid (t.place + 1) entries total a.1 h.2 in
    let p = places_low (t.place + 1) entries total a.1 in
    let l : from ≤ t.place = a.0 in
    let g : low + (t.place - from) < t.uid = h.0 in
    omega (arith, r, p, l, g)

pub length_slots : (from : ℕ) (entries : List KnownUid) (total : ℕ) → ArePlaces from entries total → length (slots_from from entries total) ≡ total - from
length_slots from [] total a = length-replicate (total - from) None
length_slots from (t ∷ entries) total a =
    let s = length-append (replicate (t.place - from) None) (Some t.uid ∷ slots_from (t.place + 1) entries total) in
    let n = length-replicate {A = Option ℕ} (t.place - from) None in
    let r = length_slots (t.place + 1) entries total a.1 in
    let p = places_low (t.place + 1) entries total a.1 in
    let l : from ≤ t.place = a.0 in
    omega (arith, s, n, r, p, l)

-- ---- further messages

pub slots_append : (from : ℕ) (entries : List KnownUid) (total m : ℕ) → ArePlaces from entries total → slots_from from entries total ++ replicate m None ≡ slots_from from entries (total + m)
slots_append from [] total m a =
    let l : from ≤ total = a in
    let f : total - from + m ≡ total + m - from = omega (arith, l) in
    replicate-append-replicate (total - from) m None ∙ ap (λ (n : ℕ). replicate n None) f
slots_append from (t ∷ entries) total m a =
    append_assoc (replicate (t.place - from) None) (Some t.uid ∷ slots_from (t.place + 1) entries total) (replicate m None)
    ∙ ap (λ ss. replicate (t.place - from) None ++ Some t.uid ∷ ss) (slots_append (t.place + 1) entries total m a.1)

pub places_add : (from : ℕ) (entries : List KnownUid) (total m : ℕ) → ArePlaces from entries total → ArePlaces from entries (total + m)
places_add from [] total m a = let l : from ≤ total = a in omega (arith, l)
places_add from (t ∷ entries) total m a = (a.0, places_add (t.place + 1) entries total m a.1)

pub gaps_for : (low from : ℕ) (entries : List KnownUid) (total other : ℕ) → HaveGaps low from entries total → HaveGaps low from entries other ↔ HasRoomFor low from entries other
gaps_for low from [] total other h = (λ g. g, λ g. g)
gaps_for low from (t ∷ entries) total other h =
    let r = gaps_for t.uid (t.place + 1) entries total other h.2 in
    (λ g. r.0 g.2, λ g. (h.0, h.1, r.1 g))

-- the last known UID decides whether UIDs are left
pub room_after_last : (low from : ℕ) (entries : List KnownUid) (total : ℕ) (t : KnownUid) → Some t ≡ slice_get entries (length entries - 1) → HasRoomFor low from entries total ≡ (t.uid + (total - (t.place + 1)) ≤ 4294967295)
room_after_last low from [] total t e = cc
room_after_last low from (x ∷ []) total t e = let k : t ≡ x = cc in ap (λ (y : KnownUid). y.uid + (total - (y.place + 1)) ≤ 4294967295) (sym k)
room_after_last low from (x ∷ y ∷ entries) total t e =
    let k : suc (suc (length entries)) - 1 ≡ suc (suc (length entries) - 1) = omega arith in
    room_after_last x.uid (x.place + 1) (y ∷ entries) total t (rw k at e)

-- ---- a UID that is reported

slot_before : (n k : ℕ) (slot : Option ℕ) (slots : List (Option ℕ)) → k < n → get_or (replicate n None ++ slot ∷ slots) k None ≡ None
slot_before zero k slot slots l = absurd (omega (arith, l))
slot_before (suc n) zero slot slots l = refl
slot_before (suc n) (suc k) slot slots l = slot_before n k slot slots (omega (arith, l))

slot_in_none : (n k : ℕ) → get_or {A = Option ℕ} (replicate n None) k None ≡ None
slot_in_none zero k = refl
slot_in_none (suc n) zero = refl
slot_in_none (suc n) (suc k) = slot_in_none n k

-- the slots after the first known one
get_after_first : (from place : ℕ) (t : KnownUid) (slots : List (Option ℕ)) → from ≤ t.place → t.place < place → get_or (replicate (t.place - from) None ++ Some t.uid ∷ slots) (place - from) None ≡ get_or slots (place - (t.place + 1)) None
get_after_first from place t slots f l =
    let n = length-replicate {A = Option ℕ} (t.place - from) None in
    let e : place - from - (t.place - from) ≡ suc (place - (t.place + 1)) = omega (arith, f, l) in
    get_or-append_right (replicate (t.place - from) None) (Some t.uid ∷ slots) (t.place - from) (place - from) None n (omega (arith, f, l))
    ∙ ap (λ (i : ℕ). get_or (Some t.uid ∷ slots) i None) e

set_after_first : (from place uid : ℕ) (t : KnownUid) (slots : List (Option ℕ)) → from ≤ t.place → t.place < place → set (replicate (t.place - from) None ++ Some t.uid ∷ slots) (place - from) (Some uid) ≡ replicate (t.place - from) None ++ Some t.uid ∷ set slots (place - (t.place + 1)) (Some uid)
set_after_first from place uid t slots f l =
    let n = length-replicate {A = Option ℕ} (t.place - from) None in
    let e : place - from - (t.place - from) ≡ suc (place - (t.place + 1)) = omega (arith, f, l) in
    set-append_right (replicate (t.place - from) None) (Some t.uid ∷ slots) (t.place - from) (place - from) (Some uid) n (omega (arith, f, l))
    ∙ ap (λ (i : ℕ). replicate (t.place - from) None ++ set (Some t.uid ∷ slots) i (Some uid)) e

pub slot_unknown : (from at place : ℕ) (entries : List KnownUid) (total : ℕ) → ArePlaces from entries total → from ≤ place → IsUidUnknown at place entries → get_or (slots_from from entries total) (place - from) None ≡ None
slot_unknown from zero place [] total a f h = slot_in_none (total - from) (place - from)
slot_unknown from zero place (t ∷ entries) total a f h =
    let l : place < t.place = h in
    slot_before (t.place - from) (place - from) (Some t.uid) (slots_from (t.place + 1) entries total) (omega (arith, f, l))
slot_unknown from (suc at) place [] total a f h = absurd h
slot_unknown from (suc at) place (t ∷ entries) total a f h =
    let l : t.place < place = h.0 in
    get_after_first from place t (slots_from (t.place + 1) entries total) a.0 l
    ∙ slot_unknown (t.place + 1) at place entries total a.1 (omega (arith, l)) h.1

pub slot_known : (from at place uid : ℕ) (entries : List KnownUid) (total : ℕ) → ArePlaces from entries total → from ≤ place → IsUidKnown at place uid entries → get_or (slots_from from entries total) (place - from) None ≡ Some uid
slot_known from at place uid [] total a f h = absurd h
slot_known from zero place uid (t ∷ entries) total a f h =
    let n = length-replicate {A = Option ℕ} (t.place - from) None in
    let k : t.place ≡ place = h.0 in
    let e : place - from - (t.place - from) ≡ zero = omega (arith, k) in
    get_or-append_right (replicate (t.place - from) None) (Some t.uid ∷ slots_from (t.place + 1) entries total) (t.place - from) (place - from) None n (omega (arith, k))
    ∙ ap (λ (i : ℕ). get_or (Some t.uid ∷ slots_from (t.place + 1) entries total) i None) e
    ∙ ap Some h.1
slot_known from (suc at) place uid (t ∷ entries) total a f h =
    let l : t.place < place = h.0 in
    get_after_first from place t (slots_from (t.place + 1) entries total) a.0 l
    ∙ slot_known (t.place + 1) at place uid entries total a.1 (omega (arith, l)) h.1

-- a reported UID may be reported again
pub set_known : (from at place uid : ℕ) (entries : List KnownUid) (total : ℕ) → ArePlaces from entries total → from ≤ place → IsUidKnown at place uid entries → set (slots_from from entries total) (place - from) (Some uid) ≡ slots_from from entries total
set_known from at place uid [] total a f h = absurd h
set_known from zero place uid (t ∷ entries) total a f h =
    let n = length-replicate {A = Option ℕ} (t.place - from) None in
    let k : t.place ≡ place = h.0 in
    let e : place - from - (t.place - from) ≡ zero = omega (arith, k) in
    set-append_right (replicate (t.place - from) None) (Some t.uid ∷ slots_from (t.place + 1) entries total) (t.place - from) (place - from) (Some uid) n (omega (arith, k))
    ∙ ap (λ (i : ℕ). replicate (t.place - from) None ++ set (Some t.uid ∷ slots_from (t.place + 1) entries total) i (Some uid)) e
    ∙ ap (λ (u : ℕ). replicate (t.place - from) None ++ Some u ∷ slots_from (t.place + 1) entries total) (sym h.1)
set_known from (suc at) place uid (t ∷ entries) total a f h =
    let l : t.place < place = h.0 in
    set_after_first from place uid t (slots_from (t.place + 1) entries total) a.0 l
    ∙ ap (λ ss. replicate (t.place - from) None ++ Some t.uid ∷ ss) (set_known (t.place + 1) at place uid entries total a.1 (omega (arith, l)) h.1)

-- setting a slot among unknown ones
set_none : (n k uid : ℕ) → k < n → set {A = Option ℕ} (replicate n None) k (Some uid) ≡ replicate k None ++ Some uid ∷ replicate (n - (k + 1)) None
set_none zero k uid l = absurd (omega (arith, l))
set_none (suc n) zero uid l = let e : n ≡ suc n - (zero + 1) = omega arith in ap (λ (m : ℕ). Some uid ∷ replicate m None) e
set_none (suc n) (suc k) uid l =
    let e : n - (k + 1) ≡ suc n - (suc k + 1) = omega arith in
    ap (λ ss. None ∷ ss) (set_none n k uid (omega (arith, l))) ∙ ap (λ (m : ℕ). None ∷ (replicate k None ++ Some uid ∷ replicate m None)) e

-- a UID that wasn't reported before is added
pub set_unknown : (from at : ℕ) (entry : KnownUid) (entries : List KnownUid) (total : ℕ) → ArePlaces from entries total → from ≤ entry.place → entry.place < total → IsUidUnknown at entry.place entries → set (slots_from from entries total) (entry.place - from) (Some entry.uid) ≡ slots_from from (insert entries at entry) total
set_unknown from zero entry [] total a f c h =
    let e : total - from - (entry.place - from + 1) ≡ total - (entry.place + 1) = omega (arith, f, c) in
    set_none (total - from) (entry.place - from) entry.uid (omega (arith, f, c))
    ∙ ap (λ (m : ℕ). replicate (entry.place - from) None ++ Some entry.uid ∷ replicate m None) e
set_unknown from zero entry (t ∷ entries) total a f c h =
    let l : entry.place < t.place = h in
    let rest = Some t.uid ∷ slots_from (t.place + 1) entries total in
    let n = length-replicate {A = Option ℕ} (t.place - from) None in
    let e : t.place - from - (entry.place - from + 1) ≡ t.place - (entry.place + 1) = omega (arith, f, l) in
    set-append_left (replicate (t.place - from) None) rest (entry.place - from) (Some entry.uid) (omega (arith, n, f, l))
    ∙ ap (λ ss. ss ++ rest) (set_none (t.place - from) (entry.place - from) entry.uid (omega (arith, f, l)))
    ∙ append_assoc (replicate (entry.place - from) None) (Some entry.uid ∷ replicate (t.place - from - (entry.place - from + 1)) None) rest
    ∙ ap (λ (m : ℕ). replicate (entry.place - from) None ++ Some entry.uid ∷ (replicate m None ++ rest)) e
set_unknown from (suc at) entry [] total a f c h = absurd h
set_unknown from (suc at) entry (t ∷ entries) total a f c h =
    let l : t.place < entry.place = h.0 in
    set_after_first from entry.place entry.uid t (slots_from (t.place + 1) entries total) a.0 l
    ∙ ap (λ ss. replicate (t.place - from) None ++ Some t.uid ∷ ss) (set_unknown (t.place + 1) at entry entries total a.1 (omega (arith, l)) c h.1)

pub places_with : (from at : ℕ) (entry : KnownUid) (entries : List KnownUid) (total : ℕ) → ArePlaces from entries total → from ≤ entry.place → entry.place < total → IsUidUnknown at entry.place entries → ArePlaces from (insert entries at entry) total
places_with from zero entry [] total a f c h = (f, omega (arith, c))
places_with from zero entry (t ∷ entries) total a f c h = let l : entry.place < t.place = h in (f, (omega (arith, l), a.1))
places_with from (suc at) entry [] total a f c h = absurd h
places_with from (suc at) entry (t ∷ entries) total a f c h = let l : t.place < entry.place = h.0 in (a.0, places_with (t.place + 1) at entry entries total a.1 (omega (arith, l)) c h.1)

-- with one more UID the gaps are wide enough exactly when it fits between its neighbours
pub gaps_with : (low from at : ℕ) (entry : KnownUid) (entries : List KnownUid) (total : ℕ) → entry.uid ≤ 4294967295 → HaveGaps low from entries total → IsUidUnknown at entry.place entries → HaveGaps low from (insert entries at entry) total ↔ FitsAt low from at entries entry total
gaps_with low from zero entry [] total u h n = (λ g. (g.0, g.2), λ g. (g.0, u, g.1))
gaps_with low from zero entry (t ∷ entries) total u h n = (λ g. (g.0, g.2.0), λ g. (g.0, u, (g.1, h.1, h.2)))
gaps_with low from (suc at) entry [] total u h n = absurd n
gaps_with low from (suc at) entry (t ∷ entries) total u h n =
    let r = gaps_with t.uid (t.place + 1) at entry entries total u h.2 n.1 in
    (λ g. r.0 g.2, λ g. (h.0, h.1, r.1 g))

pub fits_after_one : (low from j : ℕ) (entry d : KnownUid) (entries : List KnownUid) → j < length entries → FitsAfter low from (suc j) entries entry ≡ ((get_or entries j d).uid + (entry.place - ((get_or entries j d).place + 1)) < entry.uid)
fits_after_one low from j entry d [] l = absurd (omega (arith, l))
fits_after_one low from zero entry d (t ∷ entries) l = refl
fits_after_one low from (suc j) entry d (t ∷ entries) l = fits_after_one t.uid (t.place + 1) j entry d entries (omega (arith, l))

pub fits_first : (low from : ℕ) (entries : List KnownUid) (entry : KnownUid) → FitsAfter low from zero entries entry ≡ (low + (entry.place - from) < entry.uid)
fits_first low from entries entry = refl

-- ---- the result of a search

known_above : (from : ℕ) (entries : List KnownUid) (total : ℕ) → ArePlaces from entries total → (j : ℕ) (d : KnownUid) → j < length entries → from ≤ (get_or entries j d).place
known_above from [] total a j d l = absurd (omega (arith, l))
known_above from (t ∷ entries) total a zero d l = a.0
known_above from (t ∷ entries) total a (suc j) d l =
    let first : from ≤ t.place = a.0 in
    let rest : t.place + 1 ≤ (get_or entries j d).place = known_above (t.place + 1) entries total a.1 j d (omega (arith, l)) in
    omega (arith, first, rest)

pub places_ordered : (from : ℕ) (entries : List KnownUid) (total : ℕ) → ArePlaces from entries total → IsNonDecreasingBy (λ (t : KnownUid). t.place) entries
places_ordered from [] total a i j d le k = absurd (omega arith)
places_ordered from (t ∷ entries) total a zero zero d le k = omega arith
places_ordered from (t ∷ entries) total a zero (suc j) d le k =
    let rest : t.place + 1 ≤ (get_or entries j d).place = known_above (t.place + 1) entries total a.1 j d (omega arith) in
    omega arith
places_ordered from (t ∷ entries) total a (suc i) zero d le k = absurd (omega arith)
places_ordered from (t ∷ entries) total a (suc i) (suc j) d le k = places_ordered (t.place + 1) entries total a.1 i j d (omega arith) (omega arith)

below_of : (n m : ℕ) → ltb n m ≡ true → n < m
below_of n m h = grind (arith, nat_tests)

above_of : (n m : ℕ) → ltb n m ≡ false → m ≤ n
above_of n m h = grind (arith, nat_tests)

parts_rest : (place at : ℕ) (t : KnownUid) (entries : List KnownUid) → SplitsAt place (t ∷ entries) (suc at) → SplitsAt place entries at
parts_rest place at t entries p = ((λ k d l r. p.0 (suc k) d (omega arith) (omega arith)), (λ k d l r. p.1 (suc k) d (omega arith) (omega arith)))

pub known_at : (place at : ℕ) (t : KnownUid) (entries : List KnownUid) → SplitsAt place entries at → Some t ≡ slice_get entries at → t.place ≡ place → IsUidKnown at place t.uid entries
known_at place at t [] p e k = cc
known_at place zero t (x ∷ entries) p e k = let s : x ≡ t = cc in (ap (λ (y : KnownUid). y.place) s ∙ k, ap (λ (y : KnownUid). y.uid) s)
known_at place (suc at) t (x ∷ entries) p e k = (below_of x.place place (p.0 0 x (omega arith) (omega arith)), known_at place at t entries (parts_rest place at x entries p) e k)

pub unknown_at : (place at : ℕ) (entries : List KnownUid) → at ≤ length entries → SplitsAt place entries at → ((t : KnownUid) → Some t ≡ slice_get entries at → t.place ≡ place → ⊥) → IsUidUnknown at place entries
unknown_at place zero [] b p n = tt
unknown_at place (suc at) [] b p n = absurd (omega (arith, b))
unknown_at place zero (x ∷ entries) b p n =
    let l : place ≤ x.place = above_of x.place place (p.1 0 x (omega arith) (omega arith)) in
    let ne : x.place ≡ place → ⊥ = n x refl in
    omega (arith, l, ne)
unknown_at place (suc at) (x ∷ entries) b p n = (below_of x.place place (p.0 0 x (omega arith) (omega arith)), unknown_at place at entries (omega (arith, b)) (parts_rest place at x entries p) n)

-- ---- the entry at a place

pub no_entry_at : (entries : List KnownUid) (at : ℕ) (t : KnownUid) → length entries ≤ at → Some t ≡ slice_get entries at → ⊥
no_entry_at [] at t l e = let n : Some t ≡ None = e in cc
no_entry_at (x ∷ entries) zero t l e = omega (arith, l)
no_entry_at (x ∷ entries) (suc at) t l e = no_entry_at entries at t (omega (arith, l)) e

pub entry_at : (entries : List KnownUid) (at : ℕ) (t : KnownUid) → at < length entries → t ≡ get_or entries at t → Some t ≡ slice_get entries at
entry_at [] at t l e = absurd (omega (arith, l))
entry_at (x ∷ entries) zero t l e = ap Some e
entry_at (x ∷ entries) (suc at) t l e = entry_at entries at t (omega (arith, l)) e

same_entry : (t u : KnownUid) → Some t ≡ Some u → t ≡ u
same_entry t u e = cc

pub unknown_end : (place at : ℕ) (entries : List KnownUid) → at ≤ length entries → SplitsAt place entries at → length entries ≤ at → IsUidUnknown at place entries
unknown_end place at entries b p l = unknown_at place at entries b p (λ t e k. no_entry_at entries at t l e)

pub unknown_at_place : (place at : ℕ) (entries : List KnownUid) (u : KnownUid) → at ≤ length entries → SplitsAt place entries at → at < length entries → u ≡ get_or entries at u → (u.place ≡ place → ⊥) → IsUidUnknown at place entries
unknown_at_place place at entries u b p l g n = unknown_at place at entries b p (λ t e k. n (ap (λ (x : KnownUid). x.place) (sym (same_entry t u (e ∙ sym (entry_at entries at u l g)))) ∙ k))

pub known_at_place : (place at : ℕ) (entries : List KnownUid) (u : KnownUid) → SplitsAt place entries at → at < length entries → u ≡ get_or entries at u → u.place ≡ place → IsUidKnown at place u.uid entries
known_at_place place at entries u p l g k = known_at place at u entries p (entry_at entries at u l g) k
