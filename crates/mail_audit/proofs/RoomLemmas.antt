use Rattle.std.proofs.Common.{◌≡◌, ℕ, zero, suc, ◌+◌, ◌<◌, ◌≤◌, List, [], ◌∷◌, ◌++◌, Option, Some, None, map, length, get_or, set, take, drop, replicate, refl, sym, ap, ◌∙◌, subst, arith}
use Rattle.std.proofs.Math.Seq.{drop-cons}
use Rattle.std.proofs.lemmas.List.{length-append, length-replicate, map-append, drop-drop}
use Rattle.mail_audit.specs.Explanations.{AreUidsAbove}
use Rattle.mail_audit.specs.EventPasses.{HasRoomAbove, MayBeUid, numbers_upward}

-- the UIDs agree with the known UIDs of the first slots
abbrev pub Agree : List (Option ℕ) → List ℕ → Type 0
Agree [] uids = Unit {0}
Agree (slot ∷ slots) [] = ⊥
Agree (slot ∷ slots) (uid ∷ uids) = MayBeUid slot uid × Agree slots uids

-- if UIDs can be assigned to the slots, enough UIDs are left
pub room_from : (low least : ℕ) (slots : List (Option ℕ)) (uids : List ℕ) → least ≤ low → AreUidsAbove low uids → Agree slots uids → HasRoomAbove least slots
room_from low least [] uids l a g = tt
room_from low least (slot ∷ slots) [] l a g = absurd g
room_from low least (None ∷ slots) (uid ∷ uids) l a g = (omega (arith, l, a.0, a.1), room_from uid (least + 1) slots uids (omega (arith, l, a.0)) a.2 g.1)
room_from low least (Some known ∷ slots) (uid ∷ uids) l a g =
    let e : uid ≡ known = g.0 in
    (omega (arith, l, a.0, e), omega (arith, a.1, e), room_from uid known slots uids (omega (arith, e)) a.2 g.1)

-- if enough UIDs are left, they can be assigned to the slots
pub uids_from : (low : ℕ) (slots : List (Option ℕ)) → HasRoomAbove low slots → (uids : List ℕ) × AreUidsAbove low uids × Agree slots uids
uids_from low [] h = ([], tt, tt)
uids_from low (None ∷ slots) h =
    let r = uids_from (low + 1) slots h.1 in
    ((low + 1) ∷ r.0, (omega arith, omega (arith, h.0), r.1), (tt, r.2))
uids_from low (Some known ∷ slots) h =
    let r = uids_from known slots h.2 in
    (known ∷ r.0, (h.0, h.1, r.1), (refl, r.2))

pub agree_length : (slots : List (Option ℕ)) (uids : List ℕ) → Agree slots uids → length slots ≤ length uids
agree_length [] uids g = omega arith
agree_length (slot ∷ slots) [] g = absurd g
agree_length (slot ∷ slots) (uid ∷ uids) g = omega (arith, agree_length slots uids g.1)

pub agree_front : (slots more : List (Option ℕ)) (uids : List ℕ) → Agree (slots ++ more) uids → Agree slots uids
agree_front [] more uids g = tt
agree_front (slot ∷ slots) more [] g = absurd g
agree_front (slot ∷ slots) more (uid ∷ uids) g = (g.0, agree_front slots more uids g.1)

agree_unknown : (m : ℕ) (uids : List ℕ) → m ≤ length uids → Agree (replicate m None) uids
agree_unknown zero uids l = tt
agree_unknown (suc m) [] l = absurd (omega (arith, l))
agree_unknown (suc m) (uid ∷ uids) l = (tt, agree_unknown m uids (omega (arith, l)))

pub agree_more : (slots : List (Option ℕ)) (m : ℕ) (uids : List ℕ) → Agree slots uids → length slots + m ≤ length uids → Agree (slots ++ replicate m None) uids
agree_more [] m uids g l = agree_unknown m uids (omega (arith, l))
agree_more (slot ∷ slots) m [] g l = absurd g
agree_more (slot ∷ slots) m (uid ∷ uids) g l = (g.0, agree_more slots m uids g.1 (omega (arith, l)))

-- one more UID is known
pub agree_known : (slots : List (Option ℕ)) (at : ℕ) (uid : ℕ) (uids : List ℕ) → at < length slots → Agree slots uids → get_or uids at 0 ≡ uid → MayBeUid (get_or slots at None) uid × Agree (set slots at (Some uid)) uids
agree_known [] at uid uids l g e = absurd (omega (arith, l))
agree_known (slot ∷ slots) at uid [] l g e = absurd g
agree_known (slot ∷ slots) zero uid (u ∷ uids) l g e = (subst (MayBeUid slot) e g.0, (e, g.1))
agree_known (slot ∷ slots) (suc at) uid (u ∷ uids) l g e = let r = agree_known slots at uid uids (omega (arith, l)) g.1 e in (r.0, (g.0, r.1))

pub agree_before : (slots : List (Option ℕ)) (at : ℕ) (uid : ℕ) (uids : List ℕ) → at < length slots → MayBeUid (get_or slots at None) uid → Agree (set slots at (Some uid)) uids → (get_or uids at 0 ≡ uid) × Agree slots uids
agree_before [] at uid uids l m g = absurd (omega (arith, l))
agree_before (slot ∷ slots) zero uid [] l m g = absurd g
agree_before (slot ∷ slots) (suc at) uid [] l m g = absurd g
agree_before (slot ∷ slots) zero uid (u ∷ uids) l m g = (g.0, (subst (MayBeUid slot) (sym g.0) m, g.1))
agree_before (slot ∷ slots) (suc at) uid (u ∷ uids) l m g = let r = agree_before slots at uid uids (omega (arith, l)) m g.1 in (r.0, (g.0, r.1))

-- the UIDs of places
abbrev pub uids_at : List ℕ → List ℕ → List ℕ
uids_at uids places = map (λ at. get_or uids at 0) places

uids_upward : (uids : List ℕ) (from m : ℕ) → from + m ≤ length uids → uids_at uids (numbers_upward from m) ≡ take m (drop from uids)
uids_upward uids from zero l = refl
uids_upward uids from (suc m) l =
    ap (λ us. get_or uids from 0 ∷ us) (uids_upward uids (suc from) m (omega (arith, l)))
    ∙ sym (ap (take (suc m)) (drop-cons uids from 0 (omega (arith, l))))

-- the existing messages and later ones, after `m` further ones arrived
pub arrived : (uids live : List ℕ) (slots : List (Option ℕ)) (m : ℕ) → length slots + m ≤ length uids
    → ◌≡◌ {A = List ℕ × List ℕ}
    (uids_at uids (live ++ numbers_upward (length slots) m), drop (length (slots ++ replicate m None)) uids)
    (uids_at uids live ++ take m (drop (length slots) uids), drop m (drop (length slots) uids))
arrived uids live slots m l =
    let one = map-append (λ at. get_or uids at 0) live (numbers_upward (length slots) m) ∙ ap (λ us. uids_at uids live ++ us) (uids_upward uids (length slots) m l) in
    let count : length (slots ++ replicate m None) ≡ length slots + m = length-append slots (replicate m None) ∙ ap (λ k. length slots + k) (length-replicate m None) in
    let two = ap (λ k. drop k uids) count ∙ sym (drop-drop m (length slots) uids) in
    λ i. (one i, two i)
