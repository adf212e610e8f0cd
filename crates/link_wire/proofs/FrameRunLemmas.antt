use Rattle.std.proofs.Common.{◌≡◌, ℕ, ◌+◌, ◌^◌, ◌<◌, ◌≤◌, true, false, not, eqb, eq-eqb, le-leb, List, [], ◌∷◌, ◌++◌, length, Option, Some, None, Result, Ok, Err, inl, inr, sym, refl, ap, ◌∙◌, subst, append_assoc, arith}
use Rattle.std.specs.Str.{bytes_eq}
use Rattle.std.proofs.lemmas.Bool.{and_parts, cases_Bool, lt-leb, ne_eqb, not-true}
use Rattle.std.proofs.lemmas.List.{append-nil, length_push}
use Rattle.std.proofs.lemmas.Slice.Eq.{bytes_eq-Decides}
use Rattle.link_wire.specs.declared.fault.FrameFault.{FrameFault}
use Rattle.link_wire.specs.declared.fault.FrameFault.TheVariants.{BadHeader, TooManyFrames, BadDigest, NoMemory, Failed}
use Rattle.link_wire.specs.declared.header.Header.{Header}
use Rattle.link_wire.specs.declared.limits.Limits.{Limits}
use Rattle.link_wire.specs.Digests.{Digest, has_no_lf}
use Rattle.link_wire.specs.Frames.{AreFrames, AreFramesAfter, FailsAt, IsFrame, IsHeader, IsHeaderLine, IsOpenHeader, IsOpenPayload, IsRest, MakesFault, MakesBadHeader, MakesBadDigest, frame_text, frames_text, header_line, header_text}
use Rattle.link_wire.specs.Framing.{Cut, FrameProgress, after_octet, end_of_payload, cut_of_outcome, cut_from, header_at, octets_so_far, start, with_payloads}
use Rattle.link_wire.proofs.CutLemmas.{cut_from-append, cut_from-fault, cut_from-step, payload_more, payload_octet, payload_read}
use Rattle.link_wire.proofs.HeaderLemmas.{header_complete, header_line_is, header_no_lf}
use Rattle.link_wire.proofs.FrameStepLemmas.{at_line, at_payload, header_of}

-- A stretch that gives this, and what comes after it.
run_on : (limits : Limits) (digest : Digest) (p q : FrameProgress) (xs ys : List ℕ) (payloads : List (List ℕ)) → cut_from limits digest (Ok p) xs ≡ (payloads, Ok q) → cut_from limits digest (Ok p) (xs ++ ys) ≡ with_payloads payloads (cut_from limits digest (Ok q) ys)
run_on limits digest p q xs ys payloads e =
    cut_from-append limits digest (Ok p) xs ys ∙ ap (λ (c : Cut). with_payloads c.0 (cut_from limits digest c.1 ys)) e

-- ---- headers

line_octet : (limits : Limits) (digest : Digest) (count : ℕ) (line : List ℕ) (octet : ℕ) → not (eqb octet 10) ≡ true → length line < limits.header → after_octet limits digest (at_line count line) octet ≡ Ok (None, at_line count (line ++ octet ∷ []))
line_octet limits digest count line octet n l = rw (not-true (eqb octet 10) n, lt-leb limits.header (length line) l) refl

run_line : (limits : Limits) (digest : Digest) (count : ℕ) (line more : List ℕ) → length line + length more ≤ limits.header → has_no_lf more ≡ true → cut_from limits digest (Ok (at_line count line)) more ≡ ([], Ok (at_line count (line ++ more)))
run_line limits digest count line [] l h = ap (λ (t : List ℕ). ([], Ok (at_line count t))) (sym (append-nil line))
run_line limits digest count line (octet ∷ more) l h =
    let parts = and_parts (not (eqb octet 10)) (has_no_lf more) h in
    let n : length (line ++ octet ∷ []) ≡ length line + 1 = length_push line octet in
    cut_from-step limits digest (at_line count line) octet more (Ok (None, at_line count (line ++ octet ∷ []))) (line_octet limits digest count line octet parts.0 (omega arith))
    ∙ ap (with_payloads []) (run_line limits digest count (line ++ octet ∷ []) more (omega arith) parts.1)
    ∙ ap (λ (t : List ℕ). ([], Ok (at_line count t))) (append_assoc line (octet ∷ []) more)

run_lf : (limits : Limits) (digest : Digest) (count announced : ℕ) (tag : List ℕ) → limits.payload < 2 ^ 64 → IsHeader limits announced tag → count + 1 ≤ limits.frames → cut_from limits digest (Ok (at_line count (header_line announced tag))) (10 ∷ []) ≡ ([], Ok (at_payload (count + 1) announced tag []))
run_lf limits digest count announced tag l h c =
    let e : after_octet limits digest (at_line count (header_line announced tag)) 10 ≡ Ok (None, at_payload (count + 1) announced tag []) =
    rw (header_complete limits announced tag l h, lt-leb limits.frames count (omega arith)) refl
    in
    cut_from-step limits digest (at_line count (header_line announced tag)) 10 [] (Ok (None, at_payload (count + 1) announced tag [])) e

run_header : (limits : Limits) (digest : Digest) (count announced : ℕ) (tag : List ℕ) → limits.payload < 2 ^ 64 → IsHeader limits announced tag → count + 1 ≤ limits.frames → cut_from limits digest (Ok (start count)) (header_text announced tag) ≡ ([], Ok (at_payload (count + 1) announced tag []))
run_header limits digest count announced tag l h c =
    let within = h.within in
    run_on limits digest (start count) (at_line count (header_line announced tag)) (header_line announced tag) (10 ∷ []) []
    (run_line limits digest count [] (header_line announced tag) (omega arith) (header_no_lf limits announced tag l h))
    ∙ ap (with_payloads []) (run_lf limits digest count announced tag l h c)

-- ---- payloads

run_payload : (limits : Limits) (digest : Digest) (number announced : ℕ) (tag payload : List ℕ) → length payload < announced → cut_from limits digest (Ok (at_payload number announced tag [])) payload ≡ ([], Ok (at_payload number announced tag payload))
run_payload limits digest number announced tag [] l = refl
run_payload limits digest number announced tag (octet ∷ octets) l =
    payload_read limits digest number (header_text announced tag) (header_of announced tag) [] octet octets (omega arith)
    ∙ ap cut_of_outcome (payload_more digest number (header_text announced tag) (header_of announced tag) (octet ∷ octets) l)

last_payload : (digest : Digest) (number : ℕ) (payload : List ℕ) → let announced : ℕ = length payload in let tag : List ℕ = digest number announced payload in end_of_payload digest (at_payload number announced tag payload) (header_of announced tag) ≡ Ok (Some payload, start number)
last_payload digest number payload =
    let same : bytes_eq (digest number (length payload) payload) (digest number (length payload) payload) ≡ true = (bytes_eq-Decides (digest number (length payload) payload) (digest number (length payload) payload)).1 refl in
    rw (eq-eqb (length payload) (length payload) refl, same) refl

run_last : (limits : Limits) (digest : Digest) (number : ℕ) (payload : List ℕ) → 0 < length payload → cut_from limits digest (Ok (at_payload number (length payload) (digest number (length payload) payload) [])) payload ≡ (payload ∷ [], Ok (start number))
run_last limits digest number [] l = absurd (omega arith)
run_last limits digest number (octet ∷ octets) l =
    let payload : List ℕ = octet ∷ octets in
    let tag : List ℕ = digest number (length payload) payload in
    payload_read limits digest number (header_text (length payload) tag) (header_of (length payload) tag) [] octet octets (omega arith)
    ∙ ap cut_of_outcome (last_payload digest number payload)

-- ---- frames and rests

run_frame : (limits : Limits) (digest : Digest) (count : ℕ) (payload : List ℕ) → limits.payload < 2 ^ 64 → IsFrame limits digest (count + 1) payload → cut_from limits digest (Ok (start count)) (frame_text digest (count + 1) payload) ≡ (payload ∷ [], Ok (start (count + 1)))
run_frame limits digest count payload l h =
    let tag : List ℕ = digest (count + 1) (length payload) payload in
    run_on limits digest (start count) (at_payload (count + 1) (length payload) tag []) (header_text (length payload) tag) payload [] (run_header limits digest count (length payload) tag l h.header h.counted)
    ∙ ap (with_payloads []) (run_last limits digest (count + 1) payload h.header.some)

run_open_header : (limits : Limits) (digest : Digest) (count : ℕ) (text : List ℕ) → IsOpenHeader limits text → cut_from limits digest (Ok (start count)) text ≡ ([], Ok (at_line count text))
run_open_header limits digest count text h = let within = h.within in run_line limits digest count [] text (omega arith) h.no_lf

run_open_payload : (limits : Limits) (digest : Digest) (count : ℕ) (text : List ℕ) → limits.payload < 2 ^ 64 → (o : IsOpenPayload limits (count + 1) text) → cut_from limits digest (Ok (start count)) text ≡ ([], Ok (at_payload (count + 1) o.announced o.tag o.payload))
run_open_payload limits digest count text l o =
    ap (cut_from limits digest (Ok (start count))) o.text_is
    ∙ run_on limits digest (start count) (at_payload (count + 1) o.announced o.tag []) (header_text o.announced o.tag) o.payload [] (run_header limits digest count o.announced o.tag l o.header o.counted)
    ∙ ap (with_payloads []) (run_payload limits digest (count + 1) o.announced o.tag o.payload o.short)

run_rest : (limits : Limits) (digest : Digest) (count : ℕ) (text : List ℕ) → limits.payload < 2 ^ 64 → IsRest limits count text → (p : FrameProgress) × (cut_from limits digest (Ok (start count)) text ≡ ([], Ok p)) × (octets_so_far p ≡ text)
run_rest limits digest count text l h =
    elim h [
      | inl o ↦ (at_line count text, run_open_header limits digest count text o, append-nil text)
      | inr o ↦ (at_payload (count + 1) o.announced o.tag o.payload, run_open_payload limits digest count text l o, sym o.text_is)
    ]

-- The frames of these payloads and this rest give these payloads.
pub given_after : (limits : Limits) (digest : Digest) (count : ℕ) (stream : List ℕ) (payloads : List (List ℕ)) (rest : List ℕ) → limits.payload < 2 ^ 64 → AreFramesAfter limits digest count stream payloads rest →
    (p : FrameProgress) × (cut_from limits digest (Ok (start count)) stream ≡ (payloads, Ok p)) × (octets_so_far p ≡ rest) × (cut_from limits digest (Ok (start (count + length payloads))) rest ≡ ([], Ok p))
given_after limits digest count stream [] rest l h =
    let same : count + length {A = List ℕ} [] ≡ count = omega arith in
    let r = run_rest limits digest count rest l (subst (λ (n : ℕ). IsRest limits n rest) same h.is_rest) in (
      r.0,
      ap (cut_from limits digest (Ok (start count))) h.stream_is ∙ r.1,
      r.2,
      subst (λ (n : ℕ). cut_from limits digest (Ok (start n)) rest ≡ ([], Ok r.0)) (sym same) r.1,
    )
given_after limits digest count stream (payload ∷ payloads) rest l h =
    let after : List ℕ = frames_text digest (count + 1) payloads ++ rest in
    let same : count + length (payload ∷ payloads) ≡ count + 1 + length payloads = omega arith in
    let whole : stream ≡ frame_text digest (count + 1) payload ++ after = h.stream_is ∙ append_assoc (frame_text digest (count + 1) payload) (frames_text digest (count + 1) payloads) rest in
    let r = given_after limits digest (count + 1) after payloads rest l (record {
      are_frames = h.are_frames.1;
      is_rest = subst (λ (n : ℕ). IsRest limits n rest) same h.is_rest;
      stream_is = refl;
    }) in (
      r.0,
      ap (cut_from limits digest (Ok (start count))) whole
          ∙ run_on limits digest (start count) (start (count + 1)) (frame_text digest (count + 1) payload) after (payload ∷ []) (run_frame limits digest count payload l h.are_frames.0)
          ∙ ap (with_payloads (payload ∷ [])) r.1,
      r.2,
      subst (λ (n : ℕ). cut_from limits digest (Ok (start n)) rest ≡ ([], Ok r.0)) (sym same) r.3,
    )

-- ---- faults

same_progress : (p q : FrameProgress) (cut : Cut) → cut ≡ ([], Ok p) → cut ≡ ([], Ok q) → p ≡ q
same_progress p q cut e f =
    let k : ◌≡◌ {A = Result FrameProgress FrameFault} (Ok p) (Ok q) = sym (ap (λ (c : Cut). c.1) e) ∙ ap (λ (c : Cut). c.1) f in
    cc

no_header : (limits : Limits) (line : List ℕ) (found : Option Header) → limits.payload < 2 ^ 64 → IsOpenHeader limits line → (IsHeaderLine limits line → ⊥) → header_at limits line ≡ found → found ≡ None
no_header limits line None l o n e = refl
no_header limits line (Some h) l o n e =
    let is = header_line_is limits line h l e o.within o.no_lf in
    absurd (n (record { announced = h.announced; tag = h.tag; header = is.0; line_is = is.1 }))

made_bad_header : (limits : Limits) (digest : Digest) (count : ℕ) (line : List ℕ) (octet : ℕ) → limits.payload < 2 ^ 64 → IsOpenHeader limits line → MakesBadHeader limits line octet → after_octet limits digest (at_line count line) octet ≡ Err BadHeader
made_bad_header limits digest count line octet l o h =
    elim h [
      | inl e ↦
          let none : header_at limits line ≡ None = no_header limits line (header_at limits line) l o e.1 refl in
          rw (eq-eqb octet 10 e.0, none) refl
      | inr e ↦
          let full = e.1 in
          rw (ne_eqb octet 10 e.0, le-leb limits.header (length line) (omega arith)) refl
    ]

too_many : (limits : Limits) (digest : Digest) (count : ℕ) (line : List ℕ) (octet : ℕ) → limits.payload < 2 ^ 64 → octet ≡ 10 → IsHeaderLine limits line → limits.frames ≤ count → after_octet limits digest (at_line count line) octet ≡ Err TooManyFrames
too_many limits digest count line octet l e h m =
    let found : header_at limits line ≡ Some (header_of h.announced h.tag) = ap (header_at limits) h.line_is ∙ header_complete limits h.announced h.tag l h.header in
    rw (eq-eqb octet 10 e, found, le-leb limits.frames count m) refl

made_bad_digest : (limits : Limits) (digest : Digest) (number : ℕ) (rest : List ℕ) (octet : ℕ) (s : MakesBadDigest limits digest number rest octet) → let o = s.open_payload in after_octet limits digest (at_payload number o.announced o.tag o.payload) octet ≡ Err BadDigest
made_bad_digest limits digest number rest octet s =
    let o = s.open_payload in
    let last = s.last in
    let n : length (o.payload ++ octet ∷ []) ≡ length o.payload + 1 = length_push o.payload octet in
    let differs : bytes_eq (digest number o.announced (o.payload ++ octet ∷ [])) o.tag ≡ false = elim (cases_Bool (bytes_eq (digest number o.announced (o.payload ++ octet ∷ [])) o.tag)) [
      | inl t ↦ absurd (s.differs ((bytes_eq-Decides (digest number o.announced (o.payload ++ octet ∷ [])) o.tag).0 t))
      | inr f ↦ f
    ] in
    payload_octet limits digest number (header_text o.announced o.tag) (header_of o.announced o.tag) o.payload octet o.short
    ∙ rw (eq-eqb (length (o.payload ++ octet ∷ [])) o.announced (omega arith), differs) refl

-- The rest determines what has come, so the octet makes its fault.
fault_complete : (limits : Limits) (digest : Digest) (count : ℕ) (rest : List ℕ) (p : FrameProgress) (octet : ℕ) (why : FrameFault) → limits.payload < 2 ^ 64 → cut_from limits digest (Ok (start count)) rest ≡ ([], Ok p) → MakesFault limits digest count rest octet why → after_octet limits digest p octet ≡ Err why
fault_complete limits digest count rest p octet BadHeader l e h =
    ap (λ (q : FrameProgress). after_octet limits digest q octet) (same_progress p (at_line count rest) (cut_from limits digest (Ok (start count)) rest) e (run_open_header limits digest count rest h.0))
    ∙ made_bad_header limits digest count rest octet l h.0 h.1
fault_complete limits digest count rest p octet TooManyFrames l e h =
    ap (λ (q : FrameProgress). after_octet limits digest q octet) (same_progress p (at_line count rest) (cut_from limits digest (Ok (start count)) rest) e (run_open_header limits digest count rest h.0))
    ∙ too_many limits digest count rest octet l h.1 h.2 h.3
fault_complete limits digest count rest p octet BadDigest l e h =
    let o = h.open_payload in
    ap (λ (q : FrameProgress). after_octet limits digest q octet) (same_progress p (at_payload (count + 1) o.announced o.tag o.payload) (cut_from limits digest (Ok (start count)) rest) e (run_open_payload limits digest count rest l o))
    ∙ made_bad_digest limits digest (count + 1) rest octet h
fault_complete limits digest count rest p octet NoMemory l e h = absurd h
fault_complete limits digest count rest p octet Failed l e h = absurd h

pub given_by_fault : (limits : Limits) (digest : Digest) (stream : List ℕ) (payloads : List (List ℕ)) (why : FrameFault) → limits.payload < 2 ^ 64 → FailsAt limits digest stream payloads why → cut_from limits digest (Ok (start 0)) stream ≡ (payloads, Err why)
given_by_fault limits digest stream payloads why l h =
    let g = given_after limits digest 0 h.front payloads h.rest l h.before in
    let e : after_octet limits digest g.0 h.octet ≡ Err why = fault_complete limits digest (0 + length payloads) h.rest g.0 h.octet why l g.3 h.fault in
    ap (cut_from limits digest (Ok (start 0))) h.stream_is
    ∙ run_on limits digest (start 0) g.0 h.front (h.octet ∷ h.after) payloads g.1
    ∙ ap (with_payloads payloads) (cut_from-step limits digest g.0 h.octet h.after (Err why) e ∙ ap (with_payloads []) (cut_from-fault limits digest why h.after))
    ∙ ap (λ (all : List (List ℕ)). (all, Err why)) (append-nil payloads)

pub given_by_frames : (limits : Limits) (digest : Digest) (stream rest : List ℕ) (payloads : List (List ℕ)) → limits.payload < 2 ^ 64 → AreFrames limits digest stream payloads rest → (progress : FrameProgress) × (cut_from limits digest (Ok (start 0)) stream ≡ (payloads, Ok progress)) × (octets_so_far progress ≡ rest)
given_by_frames limits digest stream rest payloads l h =
    let g = given_after limits digest 0 stream payloads rest l h in (g.0, g.1, g.2)
