use Rattle.std.proofs.Common.{◌≡◌, ◌⊎◌, ◌≤◌, ◌<◌, inl, inr, ℕ, Bool, true, false, List, [], ◌∷◌, length, Option, Some, Result, Ok, Err, refl, sym, ap, ◌∙◌, subst, arith}
use Rattle.std.specs.Prelude.{IfOk, IsOk, IsSome}
use Rattle.std.proofs.lemmas.Bool.{false≢true}
use Rattle.imap_answers.specs.declared.fixed_words.Login.{Login}
use Rattle.imap_syntax.specs.declared.command.Tagged.{Tagged}
use Rattle.imap_syntax.specs.declared.idle.IdleLine.{IdleLine}
use Rattle.imap_answers.specs.declared.fixed_words.Refusal.TheVariants.{NoStoreRoom}
use Rattle.imap_node.specs.declared.reply.Reply.{Reply}
use Rattle.imap_node.specs.declared.reply.Reply.TheVariants.{Refused}
use Rattle.imap_node.specs.declared.sessions.Auth.{Auth}
use Rattle.imap_node.specs.declared.sessions.OpenFault.TheVariants as refusals
use Rattle.imap_connection.specs.PortCalls.{PortCall}
use Rattle.imap_connection.specs.PortCalls as calls
use Rattle.imap_connection.specs.Batches.{CarriesCommands}
use Rattle.imap_connection.specs.declared.fault.PortFault.{PortFault}
use Rattle.imap_connection.specs.declared.fault.PortFault.TheVariants.{NoMemory, NoRoom, PassedOver, ServerEnded, TooManySessions, Torn}
use Rattle.imap_connection.proofs.NodeTalkLemmas.{some_is}
use Rattle.server_runtime.specs.Calls.{BeginsFrom, CallsOnceIn, CommandsOnce, ContinuesFrom, OpensByCall, OpensIn, StepsByCall, StepsIn, StepsOnce}
use Rattle.server_runtime.specs.Logins.{auth_of, login_of}
use Rattle.server_runtime.specs.declared.session_port.SessionPosition.{SessionPosition}
use Rattle.server_settings.specs.declared.settings.Access.{Access}
use Rattle.replica_lock.specs.Passes.{PassState, IsCalled, IsCalledIn, LacksRoomInSession, session_after}
use Rattle.replica_lock.specs.declared.event.BookEvent.{BookEvent}
use Rattle.replica_lock.specs.declared.event.BookEvent.TheVariants as events
use Rattle.replica_lock.specs.declared.faults.CallFault.{CallFault}
use Rattle.replica_lock.specs.declared.faults.CallFault.TheVariants as faults
use Rattle.replica_lock.specs.declared.outcome.Outcome.{Outcome}
use Rattle.replica_lock.specs.declared.outcome.Outcome.TheVariants.{Opened, Replied}

not_below_zero : 0 < 0 → ⊥
not_below_zero h = omega (arith, h)

-- the result of a call that opens a session
pub opens_by : (access : Access) (login : Login) (auth : Auth) (r : Result Login PortFault) (p q : PassState) (last : Option Outcome) → login ≡ login_of access → auth ≡ auth_of access
    → IsCalled p (events.Open auth) q → last ≡ q.last
    → IfOk r (λ (response : Login). (response ≡ login) × ((n : ℕ) × (last ≡ Some (Opened (Ok n)))))
    → (r ≡ Err TooManySessions → last ≡ Some (Opened (Err refusals.TooManySessions)))
    → OpensIn access p r q
opens_by access login auth (Ok response) p q last l a c e h f = (h.0 ∙ l, subst (λ (x : Auth). IsCalled p (events.Open x) q) a c, (h.1.0, sym e ∙ h.1.1))
opens_by access login auth (Err TooManySessions) p q last l a c e h f = (subst (λ (x : Auth). IsCalled p (events.Open x) q) a c, sym e ∙ f refl)
opens_by access login auth (Err NoMemory) p q last l a c e h f = tt
opens_by access login auth (Err NoRoom) p q last l a c e h f = tt
opens_by access login auth (Err Torn) p q last l a c e h f = tt
opens_by access login auth (Err PassedOver) p q last l a c e h f = tt
opens_by access login auth (Err ServerEnded) p q last l a c e h f = tt

-- no call was made
pub opens_by_none : (access : Access) (p q : PassState) (fault : PortFault) → (fault ≡ NoRoom) ⊎ (fault ≡ Torn) → OpensIn access p (Err fault) q
opens_by_none access p q fault (inl h) = subst (λ (x : PortFault). OpensIn access p (Err x) q) (sym h) tt
opens_by_none access p q fault (inr h) = subst (λ (x : PortFault). OpensIn access p (Err x) q) (sym h) tt

-- the result of a call with a command, and of one with a line
pub command_by : (stores : Bool) (tagged : Tagged) (moment : ℕ) (r : Result Reply PortFault) (p q : PassState) (last : Option Outcome)
    → IsCalledIn p (λ n. events.Command n moment tagged) q → last ≡ q.last → IfOk r (λ (reply : Reply). last ≡ Some (Replied reply)) → StepsIn stores p (calls.Command tagged) r q
command_by stores tagged moment (Ok reply) p q last c e h = inl (moment, c, sym e ∙ h)
command_by stores tagged moment (Err fault) p q last c e h = tt

-- what was lacking for the command that is given again
pub lacking_again : (p q : PassState) (tagged again : Tagged) (moment : ℕ) (fault : CallFault) → q ≡ p → again ≡ tagged → LacksRoomInSession q (λ n. events.Command n moment again) fault → LacksRoomInSession p (λ n. events.Command n moment tagged) fault
lacking_again p q tagged again moment fault e f h =
    subst (λ (t : Tagged). LacksRoomInSession p (λ n. events.Command n moment t) fault) f
    (subst (λ (x : PassState). LacksRoomInSession x (λ n. events.Command n moment again) fault) e h)

-- a command for which the store has no room
pub command_refused : (stores : Bool) (tagged : Tagged) (moment octets : ℕ) (r : Result Reply PortFault) (p q : PassState)
    → IfOk r (λ (reply : Reply). (reply ≡ Refused NoStoreRoom false) × (stores ≡ true)) → q ≡ p → LacksRoomInSession p (λ n. events.Command n moment tagged) (faults.NoStoreRoom octets) → StepsIn stores p (calls.Command tagged) r q
command_refused stores tagged moment octets (Ok reply) p q h e l = inr (h.1, (h.0, e, (moment, octets, l)))
command_refused stores tagged moment octets (Err fault) p q h e l = tt

pub line_by : (stores : Bool) (line : IdleLine) (r : Result Reply PortFault) (p q : PassState) (last : Option Outcome)
    → IsCalledIn p (λ n. events.Line n line) q → last ≡ q.last → IfOk r (λ (reply : Reply). last ≡ Some (Replied reply)) → StepsIn stores p (calls.Line line) r q
line_by stores line (Ok reply) p q last c e h = (c, sym e ∙ h)
line_by stores line (Err fault) p q last c e h = tt

-- a result by the passes before and after a call is one between these passes' positions
pub opens_by_call : (access : Access) (from to : SessionPosition) (r : Result Login PortFault) (p q : PassState) → BeginsFrom from p q to → OpensIn access p r q → OpensByCall access from r to
opens_by_call access from to (Ok login) p q g h = (p, q, g, h)
opens_by_call access from to (Err TooManySessions) p q g h = (p, q, g, h)
opens_by_call access from to (Err NoMemory) p q g h = tt
opens_by_call access from to (Err NoRoom) p q g h = tt
opens_by_call access from to (Err Torn) p q g h = tt
opens_by_call access from to (Err PassedOver) p q g h = tt
opens_by_call access from to (Err ServerEnded) p q g h = tt

pub steps_by_call : (stores : Bool) (call : PortCall) (from to : SessionPosition) (r : Result Reply PortFault) (p q : PassState) → ContinuesFrom from p q to → p.seen ≤ q.seen → StepsIn stores p call r q → StepsByCall stores from call r to
steps_by_call stores call from to (Ok reply) p q g l h = (p, q, g, h)
steps_by_call stores call from to (Err fault) p q g l h = (g.2, subst (λ (n : ℕ). from.seen ≤ n) (sym g.3) (omega (arith, g.1, l)))

-- at most one call never moves a pass back in the journal
seen_after_call : (p q : PassState) (event : BookEvent) → IsCalled p event q → p.seen ≤ q.seen
seen_after_call p q event c = omega (arith, c.5, ap (λ (pass : PassState). pass.seen) c.6)

pub seen_after_command : (p q : PassState) (tagged : Tagged) → CommandsOnce p tagged q → p.seen ≤ q.seen
seen_after_command p q tagged (inl e) = omega (arith, ap (λ (pass : PassState). pass.seen) e)
seen_after_command p q tagged (inr c) = seen_after_call p q (events.Command c.1.0 c.0 tagged) c.1.2

pub seen_after_line : (p q : PassState) (line : IdleLine) → CallsOnceIn p (λ n. events.Line n line) q → p.seen ≤ q.seen
seen_after_line p q line (inl e) = omega (arith, ap (λ (pass : PassState). pass.seen) e)
seen_after_line p q line (inr c) = seen_after_call p q (events.Line c.0 line) c.2

-- ---- commands of one turn

-- the pass has its session after a reply
session_stays : (p q : PassState) (event : BookEvent) (reply : Reply) → IsCalled p event q → q.last ≡ Some (Replied reply) → q.session ≡ p.session
session_stays p q event reply c response =
    let outcome : c.2 ≡ Replied reply = some_is (sym (ap (λ (pass : PassState). pass.last) c.6) ∙ response) in
    ap (λ (pass : PassState). pass.session) c.6 ∙ ap (λ (o : Outcome). session_after p.session o) outcome

pub command_stays : (stores : Bool) (p q : PassState) (tagged : Tagged) (reply : Reply) → StepsIn stores p (calls.Command tagged) (Ok reply) q → q.session ≡ p.session
command_stays stores p q tagged reply (inl h) = session_stays p q (events.Command h.1.0 h.0 tagged) reply h.1.2 h.2
command_stays stores p q tagged reply (inr h) = ap (λ (pass : PassState). pass.session) h.1.1

pub stays_open : (stores : Bool) (r : Result Reply PortFault) (p q : PassState) (tagged : Tagged) → IsSome p.session → StepsIn stores p (calls.Command tagged) r q → IsOk r → IsSome q.session
stays_open stores (Ok reply) p q tagged s h o = subst (λ (x : Option ℕ). IsSome x) (sym (command_stays stores p q tagged reply h)) s
stays_open stores (Err fault) p q tagged s h o = absurd (false≢true o)

-- what holds of a replica without a store holds of any
pub steps_of_any : (stores : Bool) (p q : PassState) (tagged : Tagged) (r : Result Reply PortFault) → StepsOnce false p (calls.Command tagged) r q → StepsOnce stores p (calls.Command tagged) r q
steps_of_any stores p q tagged (Ok reply) (inl h, once) = (inl h, once)
steps_of_any stores p q tagged (Ok reply) (inr h, once) = absurd (false≢true h.0)
steps_of_any stores p q tagged (Err fault) h = h

pub carries_at_any : (stores : Bool) (all : List Tagged) (replies : List Reply) (result : Result (Unit {0}) PortFault) (p q : PassState) → CarriesCommands (StepsOnce false) p all replies result q → CarriesCommands (StepsOnce stores) p all replies result q
carries_at_any stores [] [] (Ok u) p q c = c
carries_at_any stores [] [] (Err fault) p q c = absurd c
carries_at_any stores [] (reply ∷ replies) result p q c = absurd c
carries_at_any stores (tagged ∷ all) [] (Ok u) p q c = absurd c
carries_at_any stores (tagged ∷ all) [] (Err fault) p q c = steps_of_any stores p q tagged (Err fault) c
carries_at_any stores (tagged ∷ all) (reply ∷ replies) result p q c = (c.0, steps_of_any stores p c.0 tagged (Ok reply) c.1, carries_at_any stores all replies result c.0 q c.2)

-- no command was given
pub none_given : (stores : Bool) (all : List Tagged) (replies : List Reply) (fault : PortFault) (p : PassState) → 0 < length all → replies ≡ [] → CarriesCommands (StepsOnce stores) p all replies (Err fault) p
none_given stores [] replies fault p some none = absurd (not_below_zero some)
none_given stores (tagged ∷ all) [] fault p some none = (tt, inl refl)
none_given stores (tagged ∷ all) (reply ∷ replies) fault p some none = cc

once_replied : (stores : Bool) (from : SessionPosition) (p q : PassState) (tagged : Tagged) (reply : Reply) → from.session ≡ p.session → from.seen ≤ p.seen → StepsOnce stores p (calls.Command tagged) (Ok reply) q
    → StepsByCall stores from (calls.Command tagged) (Ok reply) (record { session = from.session; seen = q.seen })
once_replied stores from p q tagged reply own low h = (p, q, (own, low, refl, refl), h.0)

once_refused : (stores : Bool) (from : SessionPosition) (p q : PassState) (tagged : Tagged) (fault : PortFault) → from.seen ≤ p.seen → StepsOnce stores p (calls.Command tagged) (Err fault) q
    → StepsByCall stores from (calls.Command tagged) (Err fault) (record { session = from.session; seen = q.seen })
once_refused stores from p q tagged fault low h = let on = seen_after_command p q tagged h.1 in (refl, omega (arith, low, on))

-- commands of a connection that is at its pass's position
carries_from_pass : (stores : Bool) (all : List Tagged) (replies : List Reply) (result : Result (Unit {0}) PortFault) (p q : PassState) (session : Option ℕ) → session ≡ p.session → CarriesCommands (StepsOnce stores) p all replies result q
    → CarriesCommands (StepsByCall stores) (record { session = session; seen = p.seen }) all replies result (record { session = session; seen = q.seen })
carries_from_pass stores [] [] (Ok u) p q session own c = ap (λ (pass : PassState). record { session = session; seen = pass.seen }) c
carries_from_pass stores [] [] (Err fault) p q session own c = absurd c
carries_from_pass stores [] (reply ∷ replies) result p q session own c = absurd c
carries_from_pass stores (tagged ∷ all) [] (Ok u) p q session own c = absurd c
carries_from_pass stores (tagged ∷ all) [] (Err fault) p q session own c = once_refused stores (record { session = session; seen = p.seen }) p q tagged fault (omega arith) c
carries_from_pass stores (tagged ∷ all) (reply ∷ replies) result p q session own c = (
  record { session = session; seen = c.0.seen },
  once_replied stores (record { session = session; seen = p.seen }) p c.0 tagged reply own (omega arith) c.1,
  carries_from_pass stores all replies result c.0 q session (own ∙ sym (command_stays stores p c.0 tagged reply c.1.0)) c.2,
)

-- commands of a connection whose position isn't after its pass's
pub carries_from : (stores : Bool) (all : List Tagged) (replies : List Reply) (result : Result (Unit {0}) PortFault) (from : SessionPosition) (p q : PassState) → 0 < length all → from.session ≡ p.session → from.seen ≤ p.seen
    → CarriesCommands (StepsOnce stores) p all replies result q → CarriesCommands (StepsByCall stores) from all replies result (record { session = from.session; seen = q.seen })
carries_from stores [] replies result from p q some own low c = absurd (not_below_zero some)
carries_from stores (tagged ∷ all) [] (Ok u) from p q some own low c = absurd c
carries_from stores (tagged ∷ all) [] (Err fault) from p q some own low c = once_refused stores from p q tagged fault low c
carries_from stores (tagged ∷ all) (reply ∷ replies) result from p q some own low c = (
  record { session = from.session; seen = c.0.seen },
  once_replied stores from p c.0 tagged reply own low c.1,
  carries_from_pass stores all replies result c.0 q from.session (own ∙ sym (command_stays stores p c.0 tagged reply c.1.0)) c.2,
)

-- what holds at a position holds at an equal one
module _ {S : Type 0} (stores : S → Bool) (at : S → SessionPosition) (put : S → SessionPosition → S) (at_put : (s : S) (x : SessionPosition) → at (put s x) ≡ x) (same : (s : S) → put s (at s) ≡ s)
    (stores_put : (s : S) (x : SessionPosition) → stores (put s x) ≡ stores s) where
  abbrev steps_at : S → PortCall → Result Reply PortFault → S → Type 0
  steps_at s call response t = StepsByCall (stores s) (at s) call response (at t)

  carries_rest : (all : List Tagged) (replies : List Reply) (result : Result (Unit {0}) PortFault) (from : SessionPosition) (new : S) → CarriesCommands (StepsByCall (stores new)) from all replies result (at new) → CarriesCommands steps_at (put new from) all replies result new
  carries_rest [] [] (Ok u) from new c = sym (same new) ∙ ap (λ (x : SessionPosition). put new x) c
  carries_rest [] [] (Err fault) from new c = absurd c
  carries_rest [] (reply ∷ replies) result from new c = absurd c
  carries_rest (tagged ∷ all) [] (Ok u) from new c = absurd c
  carries_rest (tagged ∷ all) [] (Err fault) from new c = subst (λ (x : SessionPosition). StepsByCall (stores new) x (calls.Command tagged) (Err fault) (at new)) (sym (at_put new from)) c
  carries_rest (tagged ∷ all) (reply ∷ replies) result from new c =
      let moved = subst (λ (x : SessionPosition). StepsByCall (stores new) x (calls.Command tagged) (Ok reply) c.0) (sym (at_put new from)) c.1 in
      let placed = subst (λ (b : Bool). StepsByCall b (at (put new from)) (calls.Command tagged) (Ok reply) c.0) (sym (stores_put new from)) moved in (
        put new c.0,
        subst (λ (x : SessionPosition). StepsByCall (stores (put new from)) (at (put new from)) (calls.Command tagged) (Ok reply) x) (sym (at_put new c.0)) placed,
        carries_rest all replies result c.0 new c.2,
      )

  carries_at : (all : List Tagged) (replies : List Reply) (result : Result (Unit {0}) PortFault) (old new : S) → stores old ≡ stores new → 0 < length all → CarriesCommands (StepsByCall (stores new)) (at old) all replies result (at new)
      → CarriesCommands steps_at old all replies result new
  carries_at [] replies result old new e some c = absurd (not_below_zero some)
  carries_at (tagged ∷ all) [] (Ok u) old new e some c = absurd c
  carries_at (tagged ∷ all) [] (Err fault) old new e some c = c
  carries_at (tagged ∷ all) (reply ∷ replies) result old new e some c =
      let placed = subst (λ (b : Bool). StepsByCall b (at old) (calls.Command tagged) (Ok reply) c.0) (sym e) c.1 in (
        put new c.0,
        subst (λ (x : SessionPosition). StepsByCall (stores old) (at old) (calls.Command tagged) (Ok reply) x) (sym (at_put new c.0)) placed,
        carries_rest all replies result c.0 new c.2,
      )

pub carries_by_port : {S : Type 0} (stores : S → Bool) (old new : S) (at : S → SessionPosition) (put : S → SessionPosition → S) → ((s : S) (x : SessionPosition) → at (put s x) ≡ x) → ((s : S) → put s (at s) ≡ s)
    → ((s : S) (x : SessionPosition) → stores (put s x) ≡ stores s) → stores old ≡ stores new → (all : List Tagged) (replies : List Reply) (result : Result (Unit {0}) PortFault) → 0 < length all
    → CarriesCommands (StepsByCall (stores new)) (at old) all replies result (at new)
    → CarriesCommands (λ (s : S) (call : PortCall) (response : Result Reply PortFault) (t : S). StepsByCall (stores s) (at s) call response (at t)) old all replies result new
carries_by_port stores old new at put at_put same stores_put e all replies result some c = carries_at stores at put at_put same stores_put all replies result old new e some c

pub refused_by_port : {S : Type 0} (stores : S → Bool) (old new : S) (at : S → SessionPosition) → (all : List Tagged) (replies : List Reply) (fault : PortFault) → 0 < length all → replies ≡ [] → at new ≡ at old
    → CarriesCommands (λ (s : S) (call : PortCall) (response : Result Reply PortFault) (t : S). StepsByCall (stores s) (at s) call response (at t)) old all replies (Err fault) new
refused_by_port stores old new at [] replies fault some none e = absurd (not_below_zero some)
refused_by_port stores old new at (tagged ∷ all) [] fault some none e = (ap (λ (x : SessionPosition). x.session) e, omega (arith, ap (λ (x : SessionPosition). x.seen) e))
refused_by_port stores old new at (tagged ∷ all) (reply ∷ replies) fault some none e = cc
