use Rattle.std.proofs.Common.{◌≡◌, ℕ, ◌+◌, ◌-◌, ◌<◌, ◌≤◌, eqb, ltb, leb, List, [], ◌∷◌, ◌++◌, length, take, drop, get_or, Option, Some, None, Result, Ok, Err, ◌⊎◌, inl, inr, sym, refl, ap, ◌∙◌, subst, append_assoc, arith}
use Rattle.std.specs.Option.{option_to_list}
use Rattle.std.specs.Str.{bytes_eq}
use Rattle.std.proofs.lemmas.List.{append-nil, length_push, take-append-drop}
use Rattle.std.proofs.lemmas.Bool.{cases_Bool, le-ltb, lt-ltb, ne_eqb}
use Rattle.link_wire.specs.declared.fault.FrameFault.{FrameFault}
use Rattle.link_wire.specs.declared.fault.FrameFault.TheVariants.{BadHeader, TooManyFrames, BadDigest, NoMemory, Failed}
use Rattle.link_wire.specs.declared.header.Header.{Header}
use Rattle.link_wire.specs.declared.limits.Limits.{Limits}
use Rattle.link_wire.specs.Digests.{Digest}
use Rattle.link_wire.specs.Framing.{FrameProgress, Outcome, Cut, after_header, after_header_octet, after_octet, after_octets, awaited_octets, end_by, end_of_payload, cut_of_pieces_from, cut_of_outcome, cut_from, header_at, concat_pieces, after_octet_of, with_payloads, Faults}

with_both : (front payloads : List (List ℕ)) (cut : Cut) → with_payloads front (with_payloads payloads cut) ≡ with_payloads (front ++ payloads) cut
with_both front payloads cut = ap (λ all. (all, cut.1)) (sym (append_assoc front payloads cut.0))

-- A stretch and what comes after it are read one after the other.
pub cut_from-append : (limits : Limits) (digest : Digest) (state : Result FrameProgress FrameFault) (xs ys : List ℕ) → cut_from limits digest state (xs ++ ys) ≡ with_payloads (cut_from limits digest state xs).0 (cut_from limits digest (cut_from limits digest state xs).1 ys)
cut_from-append limits digest state [] ys = refl
cut_from-append limits digest state (x ∷ xs) ys =
    let n : Cut = after_octet_of limits digest state x in
    ap (with_payloads n.0) (cut_from-append limits digest n.1 xs ys)
    ∙ with_both n.0 (cut_from limits digest n.1 xs).0 (cut_from limits digest (cut_from limits digest n.1 xs).1 ys)

-- After a fault nothing comes.
pub cut_from-fault : (limits : Limits) (digest : Digest) (why : FrameFault) (xs : List ℕ) → cut_from limits digest (Err why) xs ≡ ([], Err why)
cut_from-fault limits digest why [] = refl
cut_from-fault limits digest why (x ∷ xs) = ap (with_payloads []) (cut_from-fault limits digest why xs)

-- Piece by piece it is the whole.
pub cut_of_pieces_from-concat_pieces : (limits : Limits) (digest : Digest) (state : Result FrameProgress FrameFault) (pieces : List (List ℕ)) → cut_of_pieces_from limits digest state pieces ≡ cut_from limits digest state (concat_pieces pieces)
cut_of_pieces_from-concat_pieces limits digest state [] = refl
cut_of_pieces_from-concat_pieces limits digest state (piece ∷ pieces) =
    ap (with_payloads (cut_from limits digest state piece).0) (cut_of_pieces_from-concat_pieces limits digest (cut_from limits digest state piece).1 pieces)
    ∙ sym (cut_from-append limits digest state piece (concat_pieces pieces))

-- One octet more.
pub cut_from-step : (limits : Limits) (digest : Digest) (p : FrameProgress) (octet : ℕ) (octets : List ℕ) (outcome : Outcome) → after_octet limits digest p octet ≡ outcome → cut_from limits digest (Ok p) (octet ∷ octets) ≡ with_payloads (cut_of_outcome outcome).0 (cut_from limits digest (cut_of_outcome outcome).1 octets)
cut_from-step limits digest p octet octets outcome e = ap (λ o. with_payloads (cut_of_outcome o).0 (cut_from limits digest (cut_of_outcome o).1 octets)) e

-- The faults that an octet makes.
pub IsOctetFault : FrameFault → Type 0
IsOctetFault BadHeader = Unit {0}
IsOctetFault TooManyFrames = Unit {0}
IsOctetFault BadDigest = Unit {0}
IsOctetFault NoMemory = ⊥
IsOctetFault Failed = ⊥

header_fault : (limits : Limits) (p : FrameProgress) (header : Option Header) (why : FrameFault) → after_header limits p header ≡ Err why → IsOctetFault why
unfolding IsOctetFault
header_fault limits p None why e = let k : BadHeader ≡ why = cc in subst IsOctetFault k tt
header_fault limits p (Some header) why e =
    elim (cases_Bool (leb limits.frames p.number)) [
      | inl t ↦ let h = rw t at e in let k : TooManyFrames ≡ why = cc in subst IsOctetFault k tt
      | inr f ↦ let h = rw f at e in absurd cc
    ]

header_octet_fault : (limits : Limits) (p : FrameProgress) (octet : ℕ) (why : FrameFault) → after_header_octet limits p octet ≡ Err why → IsOctetFault why
unfolding IsOctetFault
header_octet_fault limits p octet why e =
    elim (cases_Bool (eqb octet 10)) [
      | inl t ↦ header_fault limits p (header_at limits p.line) why (rw t at e)
      | inr f ↦ let h = rw f at e in elim (cases_Bool (leb limits.header (length p.line))) [
        | inl t ↦ let i = rw t at h in let k : BadHeader ≡ why = cc in subst IsOctetFault k tt
        | inr g ↦ let i = rw g at h in absurd cc
      ]
    ]

end_fault : (digest : Digest) (p : FrameProgress) (header : Header) (why : FrameFault) → end_of_payload digest p header ≡ Err why → IsOctetFault why
unfolding IsOctetFault
end_fault digest p header why e =
    elim (cases_Bool (eqb (length p.payload) header.announced)) [
      | inl t ↦ let h = rw t at e in elim (cases_Bool (bytes_eq (digest p.number header.announced p.payload) header.tag)) [
        | inl u ↦ let i = rw u at h in absurd cc
        | inr g ↦ let i = rw g at h in let k : BadDigest ≡ why = cc in subst IsOctetFault k tt
      ]
      | inr f ↦ let h = rw f at e in absurd cc
    ]

by_fault : (digest : Digest) (p : FrameProgress) (header : Option Header) (why : FrameFault) → end_by digest p header ≡ Err why → IsOctetFault why
by_fault digest p None why e = absurd cc
by_fault digest p (Some header) why e = end_fault digest p header why e

octets_fault : (digest : Digest) (p : FrameProgress) (octets : List ℕ) (why : FrameFault) → after_octets digest p octets ≡ Err why → IsOctetFault why
octets_fault digest p octets why e = by_fault digest (record p { payload = p.payload ++ octets }) p.header why e

pub octet_fault : (limits : Limits) (digest : Digest) (p : FrameProgress) (octet : ℕ) (why : FrameFault) → after_octet limits digest p octet ≡ Err why → IsOctetFault why
octet_fault limits digest p octet why e =
    elim (cases_Bool (ltb 0 (awaited_octets p))) [
      | inl t ↦ octets_fault digest p (octet ∷ []) why (rw t at e)
      | inr f ↦ header_octet_fault limits p octet why (rw f at e)
    ]

fault_by : (why : FrameFault) (payloads : List (List ℕ)) (cut : Cut) → IsOctetFault why → cut ≡ (payloads, Err why) → Faults why payloads cut
unfolding IsOctetFault
fault_by BadHeader payloads cut h e = e
fault_by TooManyFrames payloads cut h e = e
fault_by BadDigest payloads cut h e = e
fault_by NoMemory payloads cut h e = absurd h
fault_by Failed payloads cut h e = absurd h

-- If memory runs out, the payloads so far begin those of the cut.
pub lacks_memory : (payloads : List (List ℕ)) (cut whole : Cut) → with_payloads payloads cut ≡ whole → Faults NoMemory payloads whole
lacks_memory payloads cut whole e = (cut.0, ap (λ c. c.0) (sym e))

-- A stretch that ends in a fault ends the cut with it.
ends_so : (limits : Limits) (digest : Digest) (p : FrameProgress) (octets rest piece : List ℕ) (why : FrameFault) (payloads : List (List ℕ)) → IsOctetFault why → piece ≡ octets ++ rest → cut_from limits digest (Ok p) octets ≡ ([], Err why) → Faults why payloads (with_payloads payloads (cut_from limits digest (Ok p) piece))
ends_so limits digest p octets rest piece why payloads h e f =
    let g : cut_from limits digest (Ok p) piece ≡ ([], Err why) =
    ap (cut_from limits digest (Ok p)) e
    ∙ cut_from-append limits digest (Ok p) octets rest
    ∙ ap (λ c. with_payloads c.0 (cut_from limits digest c.1 rest)) f
    ∙ ap (with_payloads []) (cut_from-fault limits digest why rest)
    in
    fault_by why payloads _ h (ap (with_payloads payloads) g ∙ ap (λ all. (all, Err why)) (append-nil payloads))

-- Either memory runs out, or the stretch ends in a fault.
stops : (limits : Limits) (digest : Digest) (p : FrameProgress) (octets rest piece : List ℕ) (why : FrameFault) (payloads : List (List ℕ)) → piece ≡ octets ++ rest → (why ≡ NoMemory) ⊎ (IsOctetFault why × (cut_from limits digest (Ok p) octets ≡ ([], Err why))) → Faults why payloads (with_payloads payloads (cut_from limits digest (Ok p) piece))
stops limits digest p octets rest piece why payloads e fails =
    let cut : Cut = with_payloads payloads (cut_from limits digest (Ok p) piece) in
    elim fails [
      | inl k ↦ subst (λ (w : FrameFault). Faults w payloads cut) (sym k) (lacks_memory payloads (cut_from limits digest (Ok p) piece) cut refl)
      | inr k ↦ ends_so limits digest p octets rest piece why payloads k.0 e k.1
    ]

-- The stretch gives this and goes on so.
goes_so : (limits : Limits) (digest : Digest) (p q : FrameProgress) (octets rest piece : List ℕ) (payloads more : List (List ℕ)) → piece ≡ octets ++ rest → cut_from limits digest (Ok p) octets ≡ (more, Ok q) → with_payloads payloads (cut_from limits digest (Ok p) piece) ≡ with_payloads (payloads ++ more) (cut_from limits digest (Ok q) rest)
goes_so limits digest p q octets rest piece payloads more e f =
    ap (with_payloads payloads) (
    ap (cut_from limits digest (Ok p)) e
    ∙ cut_from-append limits digest (Ok p) octets rest
    ∙ ap (λ c. with_payloads c.0 (cut_from limits digest c.1 rest)) f
    )
    ∙ with_both payloads more (cut_from limits digest (Ok q) rest)

-- One octet by itself.
one : (limits : Limits) (digest : Digest) (p : FrameProgress) (octet : ℕ) → cut_from limits digest (Ok p) (octet ∷ []) ≡ cut_of_outcome (after_octet limits digest p octet)
one limits digest p octet = ap (λ t. (t, (cut_of_outcome (after_octet limits digest p octet)).1)) (append-nil (cut_of_outcome (after_octet limits digest p octet)).0)

-- ---- octets of a payload

-- This much of a payload has come.
abbrev pub inside : ℕ → List ℕ → Header → List ℕ → FrameProgress
inside number line header payload = record { number = number; line = line; header = Some header; payload = payload }

pub payload_octet : (limits : Limits) (digest : Digest) (number : ℕ) (line : List ℕ) (h : Header) (payload : List ℕ) (octet : ℕ) → length payload < h.announced → after_octet limits digest (inside number line h payload) octet ≡ end_of_payload digest (inside number line h (payload ++ octet ∷ [])) h
payload_octet limits digest number line h payload octet l = rw (lt-ltb 0 (h.announced - length payload) (omega arith)) refl

pub payload_more : (digest : Digest) (number : ℕ) (line : List ℕ) (h : Header) (payload : List ℕ) → length payload < h.announced → end_of_payload digest (inside number line h payload) h ≡ Ok (None, inside number line h payload)
payload_more digest number line h payload l = rw (ne_eqb (length payload) h.announced (λ e. omega arith)) refl

pub payload_read : (limits : Limits) (digest : Digest) (number : ℕ) (line : List ℕ) (h : Header) (payload : List ℕ) (octet : ℕ) (octets : List ℕ) → length payload + length (octet ∷ octets) ≤ h.announced → cut_from limits digest (Ok (inside number line h payload)) (octet ∷ octets) ≡ cut_of_outcome (end_of_payload digest (inside number line h (payload ++ octet ∷ octets)) h)
payload_read limits digest number line h payload octet [] l =
    one limits digest (inside number line h payload) octet ∙ ap cut_of_outcome (payload_octet limits digest number line h payload octet (omega arith))
payload_read limits digest number line h payload octet (follower ∷ octets) l =
    let more : List ℕ = payload ++ octet ∷ [] in
    let n : length more ≡ length payload + 1 = length_push payload octet in
    cut_from-step limits digest (inside number line h payload) octet (follower ∷ octets) (Ok (None, inside number line h more))
    (payload_octet limits digest number line h payload octet (omega arith) ∙ payload_more digest number line h more (omega arith))
    ∙ ap (with_payloads []) (payload_read limits digest number line h more follower octets (omega arith))
    ∙ ap (λ t. cut_of_outcome (end_of_payload digest (inside number line h t) h)) (append_assoc payload (octet ∷ []) (follower ∷ octets))

payload_taken : (limits : Limits) (digest : Digest) (number : ℕ) (line : List ℕ) (header : Option Header) (payload octets : List ℕ) → let p : FrameProgress = record { number = number; line = line; header = header; payload = payload } in 0 < length octets → length octets ≤ awaited_octets p → cut_from limits digest (Ok p) octets ≡ cut_of_outcome (after_octets digest p octets)
payload_taken limits digest number line None payload octets h l = absurd (omega arith)
payload_taken limits digest number line (Some header) payload [] h l = absurd (omega arith)
payload_taken limits digest number line (Some header) payload (octet ∷ octets) h l = payload_read limits digest number line header payload octet octets (omega arith)

whole_by : (n : ℕ) (octets rest piece : List ℕ) → octets ≡ take n piece → rest ≡ drop n piece → piece ≡ octets ++ rest
whole_by n octets rest piece e f = sym (take-append-drop n piece) ∙ ap (λ t. t ++ drop n piece) (sym e) ∙ ap (λ t. octets ++ t) (sym f)

-- Octets of a payload at the front of a piece.
pub payload_front : (limits : Limits) (digest : Digest) (p q : FrameProgress) (payloads : List (List ℕ)) (found : Option (List ℕ)) (n : ℕ) (octets rest piece : List ℕ) → octets ≡ take n piece → rest ≡ drop n piece → 0 < length octets → length octets ≤ awaited_octets p → after_octets digest p octets ≡ Ok (found, q) →
    with_payloads payloads (cut_from limits digest (Ok p) piece) ≡ with_payloads (payloads ++ option_to_list found) (cut_from limits digest (Ok q) rest)
payload_front limits digest p q payloads found n octets rest piece e f h l g =
    goes_so limits digest p q octets rest piece payloads (option_to_list found) (whole_by n octets rest piece e f)
    (payload_taken limits digest p.number p.line p.header p.payload octets h l ∙ ap cut_of_outcome g)

pub payload_stops : (limits : Limits) (digest : Digest) (p : FrameProgress) (payloads : List (List ℕ)) (n : ℕ) (octets piece : List ℕ) (why : FrameFault) → octets ≡ take n piece → 0 < length octets → length octets ≤ awaited_octets p → (why ≡ NoMemory) ⊎ (after_octets digest p octets ≡ Err why) → Faults why payloads (with_payloads payloads (cut_from limits digest (Ok p) piece))
payload_stops limits digest p payloads n octets piece why e h l fails =
    stops limits digest p octets (drop n piece) piece why payloads (whole_by n octets (drop n piece) piece e refl) (elim fails [
      | inl k ↦ inl k
      | inr k ↦ inr (octets_fault digest p octets why k, payload_taken limits digest p.number p.line p.header p.payload octets h l ∙ ap cut_of_outcome k)
    ])

-- ---- an octet of a header

header_taken : (limits : Limits) (digest : Digest) (p : FrameProgress) (octet : ℕ) → awaited_octets p ≡ 0 → after_octet limits digest p octet ≡ after_header_octet limits p octet
header_taken limits digest p octet z = rw (le-ltb 0 (awaited_octets p) (omega arith)) refl

first_of_piece : (piece : List ℕ) → 0 < length piece → piece ≡ get_or piece 0 0 ∷ drop 1 piece
first_of_piece [] h = absurd (omega arith)
first_of_piece (octet ∷ octets) h = refl

pub header_front : (limits : Limits) (digest : Digest) (p q : FrameProgress) (payloads : List (List ℕ)) (piece : List ℕ) → 0 < length piece → awaited_octets p ≡ 0 → after_header_octet limits p (get_or piece 0 0) ≡ Ok (None, q) → with_payloads payloads (cut_from limits digest (Ok p) piece) ≡ with_payloads payloads (cut_from limits digest (Ok q) (drop 1 piece))
header_front limits digest p q payloads piece h z g =
    goes_so limits digest p q (get_or piece 0 0 ∷ []) (drop 1 piece) piece payloads [] (first_of_piece piece h)
    (one limits digest p (get_or piece 0 0) ∙ ap cut_of_outcome (header_taken limits digest p (get_or piece 0 0) z ∙ g))
    ∙ ap (λ all. with_payloads all (cut_from limits digest (Ok q) (drop 1 piece))) (append-nil payloads)

pub header_stops : (limits : Limits) (digest : Digest) (p : FrameProgress) (payloads : List (List ℕ)) (piece : List ℕ) (why : FrameFault) → 0 < length piece → awaited_octets p ≡ 0 → (why ≡ NoMemory) ⊎ (after_header_octet limits p (get_or piece 0 0) ≡ Err why) → Faults why payloads (with_payloads payloads (cut_from limits digest (Ok p) piece))
header_stops limits digest p payloads piece why h z fails =
    stops limits digest p (get_or piece 0 0 ∷ []) (drop 1 piece) piece why payloads (first_of_piece piece h) (elim fails [
      | inl k ↦ inl k
      | inr k ↦ inr (header_octet_fault limits p (get_or piece 0 0) why k, one limits digest p (get_or piece 0 0) ∙ ap cut_of_outcome (header_taken limits digest p (get_or piece 0 0) z ∙ k))
    ])
