use Rattle.std.proofs.Common.{◌≡◌, ◌⊎◌, inl, inr, ℕ, ◌-◌, zero, suc, Bool, true, false, cond, eqb, [], ◌∷◌, get_or, set, ap, refl, sym, ◌∙◌, Option, None, Some}
use Rattle.imap_commands.specs.declared.session.Session.{Session}
use Rattle.imap_commands.specs.declared.session.State.{State}
use Rattle.imap_commands.specs.declared.session.State.TheVariants.{NotAuthenticated, Authenticated, Selected, LoggedOut}
use Rattle.imap_node.specs.Nodes.{HasLoggedOut, IsActive, NodeState, with_session_closed}
use Rattle.imap_node.specs.Sessions.{Places, session_at, with_session}

-- ---- places

-- an existing place contains what is put in it
get_set_place : (places : Places) (i : ℕ) (place : Option Session) (s : Session) → get_or places i None ≡ Some s → get_or (set places i place) i None ≡ place
get_set_place [] i place s h = let e : ◌≡◌ {A = Option Session} None (Some s) = h in cc
get_set_place (p ∷ places) zero place s h = refl
get_set_place (p ∷ places) (suc i) place s h = get_set_place places i place s h

-- putting the content of a place in it again changes nothing
put_again : (places : Places) (i : ℕ) (s : Session) → get_or places i None ≡ Some s → set places i (Some s) ≡ places
put_again [] i s h = refl
put_again (p ∷ places) zero s h = ap (λ (q : Option Session). q ∷ places) (sym h)
put_again (p ∷ places) (suc i) s h = ap (λ (qs : Places). p ∷ qs) (put_again places i s h)

-- of two changes of a place only the later one counts
put_twice : (places : Places) (i : ℕ) (first second : Option Session) → set (set places i first) i second ≡ set places i second
put_twice [] i first second = refl
put_twice (p ∷ places) zero first second = refl
put_twice (p ∷ places) (suc i) first second = ap (λ (qs : Places). p ∷ qs) (put_twice places i first second)

-- the open session with a number
cond_set_place : (zeroed : Bool) (places : Places) (i : ℕ) (place : Option Session) (s : Session) → cond zeroed None (get_or places i None) ≡ Some s → cond zeroed None (get_or (set places i place) i None) ≡ place
cond_set_place true places i place s h = let e : ◌≡◌ {A = Option Session} None (Some s) = h in cc
cond_set_place false places i place s h = get_set_place places i place s h

again : (zeroed : Bool) (places : Places) (i : ℕ) (s : Session) → cond zeroed None (get_or places i None) ≡ Some s → set places i (Some s) ≡ places
again true places i s h = let e : ◌≡◌ {A = Option Session} None (Some s) = h in cc
again false places i s h = put_again places i s h

pub session_put : (places : Places) (n : ℕ) (place : Option Session) (s : Session) → session_at places n ≡ Some s → session_at (with_session places n place) n ≡ place
session_put places n place s h = cond_set_place (eqb n 0) places (n - 1) place s h

pub session_again : (places : Places) (n : ℕ) (s : Session) → session_at places n ≡ Some s → with_session places n (Some s) ≡ places
session_again places n s h = again (eqb n 0) places (n - 1) s h

-- a place that is emptied is vacant
vacated : (places : Places) (i : ℕ) → get_or (set places i None) i None ≡ None
vacated [] i = refl
vacated (place ∷ places) zero = refl
vacated (place ∷ places) (suc i) = vacated places i

-- ---- sessions that have not logged out

out_or_not : (state : State) → (state ≡ LoggedOut) ⊎ ((state ≡ LoggedOut) → ⊥)
out_or_not (NotAuthenticated credentials) = inr (λ e. cc)
out_or_not Authenticated = inr (λ e. cc)
out_or_not (Selected view read_only) = inr (λ e. cc)
out_or_not LoggedOut = inl refl

abbrev state_in : Option Session → State
state_in None = LoggedOut
state_in (Some s) = s.state

-- an open session has logged out or not
pub open_active : (node : NodeState) (n : ℕ) (s : Session) → session_at node.sessions n ≡ Some s → IsActive node n ⊎ HasLoggedOut node n
open_active node n s h = elim (out_or_not s.state) [ inl out ↦ inr (s, h, out) | inr on ↦ inl (s, h, on) ]

-- a session that logged out doesn't continue
pub out_stops : (node : NodeState) (n : ℕ) (s : Session) → session_at node.sessions n ≡ Some s → s.state ≡ LoggedOut → IsActive node n → ⊥
out_stops node n s h out g = g.2 (sym (ap state_in (sym h ∙ g.1)) ∙ out)

-- a session that isn't open doesn't continue
pub vacant_stops : (node : NodeState) (n : ℕ) → session_at node.sessions n ≡ None → IsActive node n → ⊥
vacant_stops node n h g = let e : ◌≡◌ {A = Option Session} None (Some g.0) = sym h ∙ g.1 in cc

-- a session continues, or it doesn't
active_or_not_at : (node : NodeState) (n : ℕ) (place : Option Session) → session_at node.sessions n ≡ place → IsActive node n ⊎ (IsActive node n → ⊥)
active_or_not_at node n None h = inr (vacant_stops node n h)
active_or_not_at node n (Some s) h = elim (out_or_not s.state) [ inl out ↦ inr (out_stops node n s h out) | inr on ↦ inl (s, h, on) ]

pub active_or_not : (node : NodeState) (n : ℕ) → IsActive node n ⊎ (IsActive node n → ⊥)
active_or_not node n = active_or_not_at node n (session_at node.sessions n) refl

-- a closed session doesn't continue
pub closed_stops : (node : NodeState) (n : ℕ) → IsActive (with_session_closed node n) n → ⊥
closed_stops node n = vacant_stops (with_session_closed node n) n (either (eqb n 0) (vacated node.sessions (n - 1)))
  where
    either : (b : Bool) → {o : Option Session} → o ≡ None → cond b None o ≡ None
    either true e = refl
    either false e = e
