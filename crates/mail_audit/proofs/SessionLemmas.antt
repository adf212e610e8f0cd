use Rattle.std.proofs.Common.{◌≡◌, Bool, Some, None, inl, inr, ℕ, zero, suc, ◌<◌, ◌≤◌, true, false, List, [], ◌∷◌, ◌++◌, length, length-append, get_or, set, refl, sym, ap, ◌∙◌, arith}
use Rattle.std.specs.Global.{Vec}
use Rattle.std.specs.Prelude.{nat_lt, slice_get}
use Rattle.std.specs.List.{position, position_or_len}
use Rattle.std.specs.Map.{keys_of, values_of}
use Rattle.std.specs.Str.{bytes_eq}
use Rattle.indexmap.specs.IndexMap.{insert_entry, set_value_at}
use Rattle.std.proofs.lemmas.Bool.{cases_Bool}
use Rattle.std.proofs.lemmas.List.{length-map}
use Rattle.std.proofs.lemmas.Bool.Decides.{nat_tests}
use Rattle.std.proofs.lemmas.Slice.Eq.{bytes_eq-Decides}
use Rattle.mail_audit.specs.KnownSessions.{SessionKnowledge, nothing_known}
use Rattle.mail_audit.specs.Sessions.{Session, known_for, place_or_end, sessions_of}

pub same_name : (xs ys : List ℕ) → bytes_eq xs ys ≡ true → xs ≡ ys
same_name xs ys e = (bytes_eq-Decides xs ys).0 e

pub own_name : (xs ys : List ℕ) → xs ≡ ys → bytes_eq xs ys ≡ true
own_name xs ys e = (bytes_eq-Decides xs ys).1 e

-- ---- sessions stored by name

abbrev Stored : Type 0
Stored = Vec ℕ × SessionKnowledge

pub length_sessions : (stored : List Stored) → length (sessions_of stored) ≡ length stored
length_sessions [] = refl
length_sessions (k ∷ stored) = ap suc (length_sessions stored)

-- a name's place among the keys
pub place_among : (name : List ℕ) (stored : List Stored) → position_or_len (λ (k : Vec ℕ). bytes_eq name k.items) (keys_of stored) ≡ place_or_end name (sessions_of stored)
place_among name [] = refl
place_among name (k ∷ stored) =
    elim (cases_Bool (bytes_eq name k.0.items)) [
      | inl t ↦ rw t refl
      | inr f ↦ let rest = place_among name stored in rw f (omega (arith, rest))
    ]

-- the first place that passes a test, if any
pub position_some : {X : Type 0} (p : X → Bool) (xs : List X) (i : ℕ) → Some i ≡ position p xs → (i < length xs) × (i ≡ position_or_len p xs)
position_some p xs i e =
    elim (cases_Bool (nat_lt (position_or_len p xs) (length xs))) [
      | inl t ↦ let k = rw t at e in let q : i ≡ position_or_len p xs = cc k in (grind (arith, nat_tests, t, q), q)
      | inr f ↦ absurd (let k = rw f at e in cc k)
    ]

pub position_none : {X : Type 0} (p : X → Bool) (xs : List X) → None ≡ position p xs → length xs ≤ position_or_len p xs
position_none p xs e =
    elim (cases_Bool (nat_lt (position_or_len p xs) (length xs))) [
      | inl t ↦ absurd (let k = rw t at e in cc k)
      | inr f ↦ grind (arith, nat_tests, f)
    ]

-- a name that is stored
pub stored_place : (name : List ℕ) (stored : List Stored) (i : ℕ) → Some i ≡ position (λ (k : Vec ℕ). bytes_eq name k.items) (keys_of stored) → (i < length (sessions_of stored)) × (i ≡ place_or_end name (sessions_of stored))
stored_place name stored i e =
    let at = position_some (λ (k : Vec ℕ). bytes_eq name k.items) (keys_of stored) i e in
    let keys : length (keys_of stored) ≡ length stored = length-map stored (λ (k : Stored). k.0) in
    let count = length_sessions stored in
    (omega (arith, at.0, keys, count), at.1 ∙ place_among name stored)

-- a name that isn't stored
pub missing : (name : List ℕ) (stored : List Stored) → None ≡ position (λ (k : Vec ℕ). bytes_eq name k.items) (keys_of stored) → length stored ≤ place_or_end name (sessions_of stored)
missing name stored e =
    let none = position_none (λ (k : Vec ℕ). bytes_eq name k.items) (keys_of stored) e in
    let keys : length (keys_of stored) ≡ length stored = length-map stored (λ (k : Stored). k.0) in
    let among = place_among name stored in
    omega (arith, none, keys, among)

-- a name that isn't stored is added at the end
pub stored_new : (name : Vec ℕ) (stored : List Stored) (h : SessionKnowledge) → length stored ≤ place_or_end name.items (sessions_of stored)
    → sessions_of (insert_entry (λ (a b : Vec ℕ). bytes_eq a.items b.items) stored name h) ≡ sessions_of stored ++ (record { name = name.items; transcript = h }) ∷ []
stored_new name [] h l = refl
stored_new name (k ∷ stored) h l =
    elim (cases_Bool (bytes_eq name.items k.0.items)) [
      | inl t ↦ absurd (let m = rw t at l in omega (arith, m))
      | inr f ↦ let m = rw f at l in rw f (ap (λ (ss : List Session). (record { name = k.0.items; transcript = k.1 }) ∷ ss) (stored_new name stored h (omega (arith, m))))
    ]

-- another transcript at a place
pub stored_set : (stored : List Stored) (i : ℕ) (d : Session) (h : SessionKnowledge) → i < length stored
    → sessions_of (set_value_at stored i h) ≡ set (sessions_of stored) i (record { name = (get_or (sessions_of stored) i d).name; transcript = h })
stored_set [] i d h l = absurd (omega (arith, l))
stored_set (k ∷ stored) zero d h l = refl
stored_set (k ∷ stored) (suc i) d h l = ap (λ (ss : List Session). (record { name = k.0.items; transcript = k.1 }) ∷ ss) (stored_set stored i d h (omega (arith, l)))

pub stored_at : (stored : List Stored) (i : ℕ) (d : Session) (h : SessionKnowledge) → Some h ≡ slice_get (values_of stored) i → (i < length stored) × (h ≡ (get_or (sessions_of stored) i d).transcript)
stored_at [] i d h e = absurd (cc e)
stored_at (k ∷ stored) zero d h e = (omega arith, cc)
stored_at (k ∷ stored) (suc i) d h e = let r = stored_at stored i d h e in (omega (arith, r.0), r.1)

-- a new session is added at the end
pub placed_new : (name : List ℕ) (ss : List Session) (s : Session) → name ≡ s.name → place_or_end name ss ≡ length ss → length ss ≡ place_or_end name (ss ++ s ∷ [])
placed_new name [] s q e = rw (own_name name s.name q) refl
placed_new name (x ∷ ss) s q e =
    elim (cases_Bool (bytes_eq name x.name)) [
      | inl t ↦ absurd (let k = rw t at e in omega (arith, k))
      | inr f ↦
          let k = rw f at e in
          let h = placed_new name ss s q (omega (arith, k)) in
          rw f (omega (arith, h))
    ]

place_most : (name : List ℕ) (ss : List Session) → place_or_end name ss ≤ length ss
place_most name [] = omega arith
place_most name (x ∷ ss) =
    let m = place_most name ss in
    elim (cases_Bool (bytes_eq name x.name)) [
      | inl t ↦ rw t (omega arith)
      | inr f ↦ rw f (omega (arith, m))
    ]

-- the new session's place is in the list, and the session is the first with its name
pub placed_last : (name : List ℕ) (ss new : List Session) (s : Session) (place : ℕ) → new ≡ ss ++ s ∷ [] → name ≡ s.name → place ≡ place_or_end name ss → length ss ≤ place → (place < length new) × (place ≡ place_or_end name new)
placed_last name ss new s place i q p l =
    let m = place_most name ss in
    let e : place_or_end name ss ≡ length ss = omega (arith, p, m, l) in
    let n = ap length i in
    let k = length-append ss (s ∷ []) in
    let one : length (s ∷ []) ≡ 1 = refl in
    (omega (arith, p, e, n, k, one), p ∙ e ∙ placed_new name ss s q e ∙ ap (place_or_end name) (sym i))

-- after a session is added, its place is that of its name
pub placed_stored : (name : Vec ℕ) (stored new : List Stored) (h : SessionKnowledge) (place : ℕ) → length stored ≤ place_or_end name.items (sessions_of stored)
    → new ≡ insert_entry (λ (a b : Vec ℕ). bytes_eq a.items b.items) stored name h → place ≡ position_or_len (λ (k : Vec ℕ). bytes_eq name.items k.items) (keys_of stored)
    → (place < length (sessions_of new)) × (place ≡ place_or_end name.items (sessions_of new))
placed_stored name stored new h place none is at =
    let e = ap sessions_of is ∙ stored_new name stored h none in
    let count = length_sessions stored in
    let among = place_among name.items stored in
    placed_last name.items (sessions_of stored) (sessions_of new) (record { name = name.items; transcript = h }) place e refl (at ∙ among) (omega (arith, none, at, among, count))

pub knowledge_new : (other : List ℕ) (ss : List Session) (s : Session) → s.transcript ≡ nothing_known → known_for other (ss ++ s ∷ []) ≡ known_for other ss
knowledge_new other [] s e =
    elim (cases_Bool (bytes_eq other s.name)) [
      | inl t ↦ rw t e
      | inr f ↦ rw f refl
    ]
knowledge_new other (x ∷ ss) s e =
    elim (cases_Bool (bytes_eq other x.name)) [
      | inl t ↦ rw t refl
      | inr f ↦ rw f (knowledge_new other ss s e)
    ]

-- what is known of the session at a name's place
pub knowledge_at : (name : List ℕ) (ss : List Session) (p : ℕ) (d : Session) → p ≡ place_or_end name ss → p < length ss → known_for name ss ≡ (get_or ss p d).transcript
knowledge_at name [] p d e l = absurd (omega (arith, l))
knowledge_at name (s ∷ ss) zero d e l =
    elim (cases_Bool (bytes_eq name s.name)) [
      | inl t ↦ rw t refl
      | inr f ↦ absurd (let k = rw f at e in omega (arith, k))
    ]
knowledge_at name (s ∷ ss) (suc p) d e l =
    elim (cases_Bool (bytes_eq name s.name)) [
      | inl t ↦ absurd (let k = rw t at e in omega (arith, k))
      | inr f ↦ let k = rw f at e in rw f (knowledge_at name ss p d (omega (arith, k)) (omega (arith, l)))
    ]

-- replacing the transcript at that place replaces what is known of that session
pub knowledge_set : (name : List ℕ) (ss : List Session) (p : ℕ) (d new : Session) → p ≡ place_or_end name ss → p < length ss → new.name ≡ (get_or ss p d).name → known_for name (set ss p new) ≡ new.transcript
knowledge_set name [] p d new e l q = absurd (omega (arith, l))
knowledge_set name (s ∷ ss) zero d new e l q =
    elim (cases_Bool (bytes_eq name s.name)) [
      | inl t ↦ rw (ap (bytes_eq name) q ∙ t) refl
      | inr f ↦ absurd (let k = rw f at e in omega (arith, k))
    ]
knowledge_set name (s ∷ ss) (suc p) d new e l q =
    elim (cases_Bool (bytes_eq name s.name)) [
      | inl t ↦ absurd (let k = rw t at e in omega (arith, k))
      | inr f ↦ let k = rw f at e in rw f (knowledge_set name ss p d new (omega (arith, k)) (omega (arith, l)) q)
    ]

-- and what is known of the other sessions stays unchanged
pub knowledge_elsewhere : (name other : List ℕ) (ss : List Session) (p : ℕ) (d new : Session) → p ≡ place_or_end name ss → p < length ss → new.name ≡ (get_or ss p d).name → bytes_eq other name ≡ false → known_for other (set ss p new) ≡ known_for other ss
knowledge_elsewhere name other [] p d new e l q o = absurd (omega (arith, l))
knowledge_elsewhere name other (s ∷ ss) zero d new e l q o =
    elim (cases_Bool (bytes_eq name s.name)) [
      | inl t ↦
          let one : bytes_eq other s.name ≡ false = ap (bytes_eq other) (sym (same_name name s.name t)) ∙ o in
          let two : bytes_eq other new.name ≡ false = ap (bytes_eq other) q ∙ one in
          rw (one, two) refl
      | inr f ↦ absurd (let k = rw f at e in omega (arith, k))
    ]
knowledge_elsewhere name other (s ∷ ss) (suc p) d new e l q o =
    elim (cases_Bool (bytes_eq name s.name)) [
      | inl t ↦ absurd (let k = rw t at e in omega (arith, k))
      | inr f ↦
          let k = rw f at e in
          let h = knowledge_elsewhere name other ss p d new (omega (arith, k)) (omega (arith, l)) q o in
          elim (cases_Bool (bytes_eq other s.name)) [
            | inl y ↦ rw y refl
            | inr n ↦ rw n h
          ]
    ]
