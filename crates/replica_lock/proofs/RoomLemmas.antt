-- What is known of a call that wasn't made since the log lacked room.
use Rattle.std.proofs.Common.{◌≡◌, ◌⊎◌, inl, inr, ℕ, Some, sym, subst}
use Rattle.replica_lock.specs.Passes.{LacksRoomInCall, LacksRoomInSession, PassState}
use Rattle.replica_lock.specs.declared.event.BookEvent.{BookEvent}
use Rattle.replica_lock.specs.declared.faults.CallFault.{CallFault}
use Rattle.replica_lock.specs.declared.faults.CallFault.TheVariants.{NoRoom, NoStoreRoom, Torn}

-- a call of a pass's own session
pub lacking_in_session : (p : PassState) (event : ℕ → BookEvent) (n : ℕ) (fault : CallFault) → p.session ≡ Some n → LacksRoomInCall (event n) fault → LacksRoomInSession p event fault
lacking_in_session p event n NoRoom e h = tt
lacking_in_session p event n (NoStoreRoom octets) e h = (n, e, h)
lacking_in_session p event n (Torn seen actual) e h = tt

-- the fault that remains if no room can be made
pub lacking_still : (p : PassState) (event : ℕ → BookEvent) (why fault : CallFault) → (why ≡ fault) ⊎ (why ≡ NoRoom) → LacksRoomInSession p event fault → LacksRoomInSession p event why
lacking_still p event why fault (inl e) h = subst (λ (f : CallFault). LacksRoomInSession p event f) (sym e) h
lacking_still p event why fault (inr e) h = subst (λ (f : CallFault). LacksRoomInSession p event f) (sym e) tt
