use Rattle.std.proofs.Common.{◌≡◌, ◌≢◌, Bool, true, false, List, [], ◌∷◌, ◌++◌, ℕ, Result, Ok, Err, refl, sym, subst}
use Rattle.std.specs.Prelude.{IsErrAnd, MatchResult}
use Rattle.link_wire.specs.declared.line_fault.LineFault.{LineFault}
use Rattle.link_wire.specs.declared.line_fault.LineFault.TheVariants.{NotInForm, Unsound, NoMemory as NoLineMemory}
use Rattle.link_wire.specs.declared.wire_message.WireMessage.{WireMessage}
use Rattle.link_wire.specs.MessageForm.{IsPayloadFault}
use Rattle.link_connection.specs.declared.receive_end.ReceiveEnd.{ReceiveEnd}
use Rattle.link_connection.specs.declared.receive_end.ReceiveEnd.TheVariants.{Closed, ReadFailed, BadFrame, BadLine, Stopped, NoMemory}
use Rattle.link_connection.specs.Received.{ActsOnPayloads, AreActedOn, AreRead, EndsAtOneOf, EndsAtPayload, IsByOctets, IsStoppedBy, end_of_line_fault}

-- what a `?` returns
pub match_err : {T E : Type 0} (r : Result T E) (fault : E) (Q : T → Type 0) (P : E → Type 0) → IsErrAnd r (λ e. e ≡ fault) → P fault → MatchResult r Q P
match_err (Ok x) fault Q P h p = absurd h
match_err (Err e) fault Q P h p = subst P (sym h) p

module _ {S : Type 0} (acts : S → WireMessage → Bool → S → Type 0) where
  -- one more message
  pub acted_more : (s m t : S) (front : List WireMessage) (message : WireMessage) → AreActedOn acts s front m → acts m message true t → AreActedOn acts s (front ++ message ∷ []) t
  acted_more s m t [] message h k = (t, subst (λ (u : S). acts u message true t) (sym h) k, refl)
  acted_more s m t (first ∷ front) message h k = (h.0, h.1, acted_more h.0 m t front message h.2 k)

  -- the messages of a payload, with the result of acting on them
  pub read_acted : (r : Result (Unit {0}) ReceiveEnd) (s t : S) (messages : List WireMessage) (payload : List ℕ) → AreRead messages payload
      → MatchResult r (λ done. AreActedOn acts s messages t) (λ end. (end ≡ Stopped) × IsStoppedBy acts s messages t)
      → MatchResult r (λ done. (read : List WireMessage) × AreRead read payload × AreActedOn acts s read t) (λ end. EndsAtPayload acts end s payload t)
  read_acted (Ok done) s t messages payload k h = (messages, k, h)
  read_acted (Err end) s t messages payload k h = subst (λ (e : ReceiveEnd). EndsAtPayload acts e s payload t) (sym h.0) (messages, k, h.1)

  -- a payload that can't be read
  pub not_read : (fault : LineFault) (s : S) (payload : List ℕ) → IsPayloadFault fault payload → EndsAtPayload acts (end_of_line_fault fault) s payload s
  not_read NotInForm s payload h = ((λ e. cc), h, refl)
  not_read (Unsound rule) s payload h = ((λ e. cc), h, refl)
  not_read NoLineMemory s payload h = refl

  -- payloads after payloads
  pub acts_append : (s m t : S) (front back : List (List ℕ)) → ActsOnPayloads acts s front m → ActsOnPayloads acts m back t → ActsOnPayloads acts s (front ++ back) t
  acts_append s m t [] back h k = subst (λ (u : S). ActsOnPayloads acts u back t) (sym h) k
  acts_append s m t (payload ∷ front) back h k = (h.0, h.1, h.2, h.3, acts_append h.1 m t front back h.4 k)

  -- one more payload
  pub acts_more : (s m t : S) (front : List (List ℕ)) (payload : List ℕ) → ActsOnPayloads acts s front m → ((messages : List WireMessage) × AreRead messages payload × AreActedOn acts m messages t) → ActsOnPayloads acts s (front ++ payload ∷ []) t
  acts_more s m t front payload h k = acts_append s m t front (payload ∷ []) h (k.0, t, k.1, k.2, refl)

  payload_is_by_octets : (end : ReceiveEnd) (s t : S) (payload : List ℕ) → EndsAtPayload acts end s payload t → IsByOctets end
  payload_is_by_octets Closed s t payload h = absurd h
  payload_is_by_octets ReadFailed s t payload h = absurd h
  payload_is_by_octets (BadFrame why) s t payload h = tt
  payload_is_by_octets (BadLine fault) s t payload h = tt
  payload_is_by_octets Stopped s t payload h = tt
  payload_is_by_octets NoMemory s t payload h = tt

  -- an end at a payload isn't one of the source
  pub one_is_by_octets : (end : ReceiveEnd) (s t : S) (payloads : List (List ℕ)) → EndsAtOneOf acts end s payloads t → IsByOctets end
  one_is_by_octets end s t payloads h = payload_is_by_octets end h.between t h.payload h.ends
