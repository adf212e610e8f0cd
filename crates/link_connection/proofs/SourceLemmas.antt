use Rattle.std.proofs.Common.{◌≡◌, ℕ, Bool, List, [], ◌∷◌, ◌++◌, Option, Some, None, refl, sym, ap, ◌∙◌, subst, append_assoc, append-nil}
use Rattle.imap_connection.specs.Devices.{GivesOctets}
use Rattle.link_wire.specs.declared.limits.Limits.{Limits}
use Rattle.link_wire.specs.declared.wire_message.WireMessage.{WireMessage}
use Rattle.link_wire.specs.Digests.{frame_digest}
use Rattle.link_wire.specs.Framing.{FramerState}
use Rattle.link_connection.specs.declared.receive_end.ReceiveEnd.{ReceiveEnd}
use Rattle.link_connection.specs.declared.receive_end.ReceiveEnd.TheVariants.{Closed, ReadFailed, BadFrame, BadLine, Stopped, NoMemory}
use Rattle.link_connection.specs.Received.{HasReceived, IsByOctets, IsReceiving, failed_reads}
use Rattle.link_connection.proofs.PieceLemmas.{source_closed, source_failed}

-- ---- ends that the octets made

pub no_failed_reads : (end : ReceiveEnd) → IsByOctets end → failed_reads end ≡ 0
no_failed_reads Closed h = absurd h
no_failed_reads ReadFailed h = absurd h
no_failed_reads (BadFrame why) h = refl
no_failed_reads (BadLine fault) h = refl
no_failed_reads Stopped h = refl
no_failed_reads NoMemory h = refl

pub not_closed : (end : ReceiveEnd) → IsByOctets end → end ≡ Closed → ⊥
not_closed end h e = subst IsByOctets e h

-- ---- octets of a source

gives_append : (a b c : Option (List ℕ)) (x y : List ℕ) → GivesOctets a x b → GivesOctets b y c → GivesOctets a (x ++ y) c
gives_append None b c x y h k = tt
gives_append (Some old) b c x y h k =
    let k' : GivesOctets (Some h.0) y c = subst (λ (o : Option (List ℕ)). GivesOctets o y c) h.1 k in
    (k'.0, k'.1, h.2 ∙ (ap (λ t. x ++ t) k'.2 ∙ sym (append_assoc x y k'.0)))

pub gives_nothing : (a : Option (List ℕ)) → GivesOctets a [] a
gives_nothing None = tt
gives_nothing (Some old) = (old, refl, refl)

module _ {S : Type 0} (acts : S → WireMessage → Bool → S → Type 0) where
  -- From a framer and a state on, the source gave octets, and all was acted on.
  abbrev pub HasRead : Option (List ℕ) → FramerState → S → Option (List ℕ) → FramerState → S → Type 0
  HasRead left framer s further now t =
      (limits : Limits) (key : List ℕ) (first : S) (stream : List ℕ) → IsReceiving acts limits key first stream framer s
      → (given : List ℕ) × GivesOctets left given further × IsReceiving acts limits key first (stream ++ given) now t

  -- The same until the link ended.
  abbrev pub HasEnded : Option (List ℕ) → FramerState → S → Option (List ℕ) → ReceiveEnd → S → Type 0
  HasEnded left framer s further end t =
      (limits : Limits) (key : List ℕ) (first : S) (stream : List ℕ) → IsReceiving acts limits key first stream framer s
      → (given : List ℕ) × GivesOctets left given further × HasReceived acts limits (frame_digest key) first (stream ++ given) end t

  pub read_nothing : (left : Option (List ℕ)) (framer : FramerState) (s : S) → HasRead left framer s left framer s
  read_nothing left framer s limits key first stream h =
      ([], gives_nothing left, subst (λ (octets : List ℕ). IsReceiving acts limits key first octets framer s) (sym (append-nil stream)) h)

  pub read_more : (left further last : Option (List ℕ)) (framer now next : FramerState) (s m t : S) (octets : List ℕ)
      → HasRead left framer s further now m → GivesOctets further octets last
      → ((limits : Limits) (key : List ℕ) (first : S) (stream : List ℕ) → IsReceiving acts limits key first stream now m → IsReceiving acts limits key first (stream ++ octets) next t)
      → HasRead left framer s last next t
  read_more left further last framer now next s m t octets h gives more limits key first stream k =
      let r = h limits key first stream k in (
        r.0 ++ octets,
        gives_append left further last r.0 octets r.1 gives,
        subst (λ (all : List ℕ). IsReceiving acts limits key first all next t) (append_assoc stream r.0 octets) (more limits key first (stream ++ r.0) r.2),
      )

  pub ended : (left further last : Option (List ℕ)) (framer now : FramerState) (s m t : S) (octets : List ℕ) (end : ReceiveEnd)
      → HasRead left framer s further now m → GivesOctets further octets last
      → ((limits : Limits) (key : List ℕ) (first : S) (stream : List ℕ) → IsReceiving acts limits key first stream now m → HasReceived acts limits (frame_digest key) first (stream ++ octets) end t)
      → HasEnded left framer s last end t
  ended left further last framer now s m t octets end h gives ends limits key first stream k =
      let r = h limits key first stream k in (
        r.0 ++ octets,
        gives_append left further last r.0 octets r.1 gives,
        subst (λ (all : List ℕ). HasReceived acts limits (frame_digest key) first all end t) (append_assoc stream r.0 octets) (ends limits key first (stream ++ r.0) r.2),
      )

  -- the source reported its end
  pub ended_closed : (left further last : Option (List ℕ)) (framer now : FramerState) (s t : S) (octets : List ℕ) → HasRead left framer s further now t → GivesOctets further octets last → octets ≡ [] → HasEnded left framer s last Closed t
  ended_closed left further last framer now s t octets h gives none limits key first stream k =
      let r = h limits key first stream k in
      let gave : GivesOctets further [] last = subst (λ (o : List ℕ). GivesOctets further o last) none gives in (
        r.0,
        subst (λ (o : List ℕ). GivesOctets left o last) (append-nil r.0) (gives_append left further last r.0 [] r.1 gave),
        source_closed acts limits key first t (stream ++ r.0) now r.2,
      )

  -- the source failed
  pub ended_failed : (left further last : Option (List ℕ)) (framer now : FramerState) (s t : S) → HasRead left framer s further now t → last ≡ further → HasEnded left framer s last ReadFailed t
  ended_failed left further last framer now s t h same limits key first stream k =
      let r = h limits key first stream k in (
        r.0,
        subst (λ (o : Option (List ℕ)). GivesOctets left r.0 o) (sym same) r.1,
        source_failed acts limits key first t (stream ++ r.0) now r.2,
      )
