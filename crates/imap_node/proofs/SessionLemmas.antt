use Rattle.std.proofs.Common.{◌≡◌, inl, inr, ℕ, ◌-◌, ◌<◌, zero, suc, Bool, true, false, cond, eqb, [], ◌∷◌, get_or, set, ap, refl, sym, subst, arith, Option, None, Some, IsSome}
use Rattle.std.proofs.lemmas.Bool.{cases_lt}
use Rattle.imap_commands.specs.declared.session.Session.{Session}
use Rattle.imap_node.specs.Nodes.{IsAwaitedInput, IsIdlingAt, NodeState}
use Rattle.imap_node.specs.Sessions.{IsOpen, OthersStay, Places, session_at, with_session}
use Rattle.imap_node.specs.declared.input.Input.{Input}
use Rattle.imap_node.specs.declared.input.Input.TheVariants.{Command, Line, Poll}

-- an existing place has the session that is put there
get_set_place : (places : Places) (i : ℕ) (place : Option Session) (s : Session) → get_or places i None ≡ Some s → get_or (set places i place) i None ≡ place
get_set_place [] i place s h = let e : ◌≡◌ {A = Option Session} None (Some s) = h in cc
get_set_place (p ∷ places) zero place s h = refl
get_set_place (p ∷ places) (suc i) place s h = get_set_place places i place s h

-- every other place stays as it was
put_elsewhere : (places : Places) (i j : ℕ) (place : Option Session) → (i ≡ j → ⊥) → get_or (set places i place) j None ≡ get_or places j None
put_elsewhere [] i j place d = refl
put_elsewhere (p ∷ places) zero zero place d = absurd (d refl)
put_elsewhere (p ∷ places) zero (suc j) place d = refl
put_elsewhere (p ∷ places) (suc i) zero place d = refl
put_elsewhere (p ∷ places) (suc i) (suc j) place d = put_elsewhere places i j place (λ e. d (ap (λ (k : ℕ). suc k) e))

get_set_unless : (zeroed : Bool) (places : Places) (i : ℕ) (place : Option Session) (s : Session) → cond zeroed None (get_or places i None) ≡ Some s → cond zeroed None (get_or (set places i place) i None) ≡ place
get_set_unless true places i place s h = let e : ◌≡◌ {A = Option Session} None (Some s) = h in cc
get_set_unless false places i place s h = get_set_place places i place s h

elsewhere : (zeroed : Bool) (places : Places) (i j : ℕ) (place : Option Session) → (i ≡ j → ⊥) → cond zeroed None (get_or (set places i place) j None) ≡ cond zeroed None (get_or places j None)
elsewhere true places i j place d = refl
elsewhere false places i j place d = put_elsewhere places i j place d

-- an open session is replaced
pub session_put : (places : Places) (n : ℕ) (place : Option Session) (s : Session) → session_at places n ≡ Some s → session_at (with_session places n place) n ≡ place
session_put places n place s h = get_set_unless (eqb n 0) places (n - 1) place s h

-- no session has the number 0
pub numbered_from_one : (places : Places) (n : ℕ) (s : Session) → session_at places n ≡ Some s → 0 < n
numbered_from_one places n s h =
    elim (cases_lt 0 n) [
      | inl l ↦ l
      | inr z ↦
          let none : n ≡ 0 = omega (arith, z) in
          let k : session_at places 0 ≡ Some s = subst (λ (m : ℕ). session_at places m ≡ Some s) none h in
          let e : ◌≡◌ {A = Option Session} None (Some s) = k in
          cc
    ]

-- the other sessions are as they were
pub others_stay : (places : Places) (n : ℕ) (place : Option Session) (s : Session) → session_at places n ≡ Some s → OthersStay places n (with_session places n place)
others_stay places n place s h = λ m d.
    let from = numbered_from_one places n s h in
    elim (cases_lt 0 m) [
      | inl l ↦ elsewhere (eqb m 0) places (n - 1) (m - 1) place (λ e. d (let same : m ≡ n = omega (arith, l, from, e) in same))
      | inr z ↦
          let none : 0 ≡ m = omega (arith, z) in
          subst (λ (k : ℕ). session_at (with_session places n place) k ≡ session_at places k) none refl
    ]

-- an open session exists
pub open_is : (o : Option Session) → IsSome o → (s : Session) × (o ≡ Some s)
open_is None h = absurd cc
open_is (Some s) h = (s, refl)

-- a session that idles, or that awaits an input, is open
pub idles_open : (node : NodeState) (n : ℕ) → IsIdlingAt node n → IsOpen node.sessions n
idles_open node n h = subst (λ (o : Option Session). IsSome o) (sym h.1) refl

pub awaits_open : (node : NodeState) (n : ℕ) (input : Input) → IsAwaitedInput node n input → IsOpen node.sessions n
awaits_open node n (Command moment tagged) h = h.0
awaits_open node n (Line line) h = idles_open node n h
awaits_open node n Poll h = idles_open node n h
