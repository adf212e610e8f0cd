use Rattle.std.proofs.Common.{◌≡◌, ℕ, zero, suc, not, ◌+◌, ◌-◌, ◌<◌, ◌≤◌, true, false, eqb, ltb, leb, List, [], ◌∷◌, ◌++◌, length, take, drop, get_or, None, Result, Ok, Err, ◌⊎◌, inl, inr, sym, refl, ap, ◌∙◌, subst, append_assoc, arith}
use Rattle.std.proofs.lemmas.List.{append-nil, at_drop_more, take-append-drop}
use Rattle.std.specs.List.{prefix_len}
use Rattle.std.proofs.lemmas.Bool.{and_parts, cases_Bool, le-ltb, lt-leb, lt-ltb, not-true, or_parts}
use Rattle.imap_lex.specs.declared.fault.FrameFaultKind.{FrameFaultKind}
use Rattle.imap_lex.specs.declared.fault.FrameFaultKind.TheVariants.{LineTooLong, LiteralTooLong, NulByte, NoMemory, Failed}
use Rattle.imap_lex.specs.declared.item.Item.{Item}
use Rattle.imap_lex.specs.declared.limits.Limits.{Limits}
use Rattle.imap_lex.specs.declared.literal_mark.LineEffect.{LineEffect}
use Rattle.imap_lex.specs.declared.literal_mark.LineEffect.TheVariants.{Whole, Literal, TooLong}
use Rattle.imap_lex.specs.MarkReading.{line_effect_of}
use Rattle.imap_lex.specs.Framing.{FrameProgress, Cut, with_items, cut_from, after_octet_of, cut_of_stream, has_nul, is_inside, with_octets, after_literal, after_octet, after_line_octet, after_line_end, is_end, with_octet, cut_of_pieces, concat_pieces, Faults}

pub with_items-with_items : (front items : List Item) (cut : Cut) → with_items front (with_items items cut) ≡ with_items (front ++ items) cut
with_items-with_items front items cut = ap (λ all. (all, cut.1)) (sym (append_assoc front items cut.0))

-- The octets `xs` and those after them are read one after another.
pub cut_of-append : (limits : Limits) (state : Result FrameProgress FrameFaultKind) (xs ys : List ℕ) → cut_from limits state (xs ++ ys) ≡ with_items (cut_from limits state xs).0 (cut_from limits (cut_from limits state xs).1 ys)
cut_of-append limits state [] ys = refl
cut_of-append limits state (x ∷ xs) ys =
    let n : Cut = after_octet_of limits state x in
    ap (with_items n.0) (cut_of-append limits n.1 xs ys)
    ∙ with_items-with_items n.0 (cut_from limits n.1 xs).0 (cut_from limits (cut_from limits n.1 xs).1 ys)

-- Nothing follows a fault.
pub cut_of-fault : (limits : Limits) (why : FrameFaultKind) (xs : List ℕ) → cut_from limits (Err why) xs ≡ ([], Err why)
cut_of-fault limits why [] = refl
cut_of-fault limits why (x ∷ xs) = ap (with_items []) (cut_of-fault limits why xs)

-- Pieces give what the whole gives.
pub cut_pieces-joined : (limits : Limits) (state : Result FrameProgress FrameFaultKind) (pieces : List (List ℕ)) → cut_of_pieces limits state pieces ≡ cut_from limits state (concat_pieces pieces)
cut_pieces-joined limits state [] = refl
cut_pieces-joined limits state (piece ∷ pieces) =
    ap (with_items (cut_from limits state piece).0) (cut_pieces-joined limits (cut_from limits state piece).1 pieces)
    ∙ sym (cut_of-append limits state piece (concat_pieces pieces))

-- The faults that an octet makes.
pub IsOctetFault : FrameFaultKind → Type 0
IsOctetFault LineTooLong = Unit {0}
IsOctetFault LiteralTooLong = Unit {0}
IsOctetFault NulByte = Unit {0}
IsOctetFault NoMemory = ⊥
IsOctetFault Failed = ⊥

line_end_fault : (p : FrameProgress) (effect : LineEffect) (why : FrameFaultKind) → after_line_end p effect ≡ Err why → IsOctetFault why
unfolding IsOctetFault
line_end_fault p Whole why e = absurd cc
line_end_fault p (Literal n plus) why e = absurd cc
line_end_fault p (TooLong true) why e = let k : LiteralTooLong ≡ why = cc in subst IsOctetFault k tt
line_end_fault p (TooLong false) why e = absurd cc

line_octet_fault : (limits : Limits) (p : FrameProgress) (octet : ℕ) (why : FrameFaultKind) → after_line_octet limits p octet ≡ Err why → IsOctetFault why
unfolding IsOctetFault
line_octet_fault limits p octet why e =
    elim (cases_Bool (leb limits.line p.outside)) [
      | inl t ↦ let h = rw t at e in let k : LineTooLong ≡ why = cc in subst IsOctetFault k tt
      | inr f ↦ let h = rw f at e in elim (cases_Bool (is_end p.line octet)) [
        | inl t ↦ line_end_fault (with_octet p octet) (line_effect_of (p.line ++ octet ∷ []) (limits.literals - p.announced)) why (rw t at h)
        | inr g ↦ let i = rw g at h in absurd cc
      ]
    ]

pub octet_fault : (limits : Limits) (p : FrameProgress) (octet : ℕ) (why : FrameFaultKind) → after_octet limits p octet ≡ Err why → IsOctetFault why
unfolding IsOctetFault
octet_fault limits p octet why e =
    elim (cases_Bool (eqb octet 0)) [
      | inl t ↦ let h = rw t at e in let k : NulByte ≡ why = cc in subst IsOctetFault k tt
      | inr f ↦ let h = rw f at e in elim (cases_Bool (ltb 0 p.awaited)) [
        | inl t ↦ let i = rw t at h in absurd cc
        | inr g ↦ line_octet_fault limits p octet why (rw g at h)
      ]
    ]

fault_by : (why : FrameFaultKind) (items : List Item) (cut : Cut) → IsOctetFault why → cut ≡ (items, Err why) → Faults why items cut
unfolding IsOctetFault
fault_by LineTooLong items cut h e = e
fault_by LiteralTooLong items cut h e = e
fault_by NulByte items cut h e = e
fault_by NoMemory items cut h e = absurd h
fault_by Failed items cut h e = absurd h

-- If memory runs out, the items so far are the first of the cut.
lacks_memory : (items : List Item) (cut whole : Cut) → with_items items cut ≡ whole → Faults NoMemory items whole
lacks_memory items cut whole e = (cut.0, ap (λ c. c.0) (sym e))

-- An octet that makes a fault ends the cut with it.
faults_at : (limits : Limits) (p : FrameProgress) (octet : ℕ) (octets : List ℕ) (why : FrameFaultKind) (items : List Item) (cut : Cut) → after_octet limits p octet ≡ Err why → with_items items (cut_from limits (Ok p) (octet ∷ octets)) ≡ cut → Faults why items cut
faults_at limits p octet octets why items cut e f =
    let g : cut_from limits (Ok p) (octet ∷ octets) ≡ ([], Err why) =
    ap (λ o. with_items (cut_of_stream o).0 (cut_from limits (cut_of_stream o).1 octets)) e ∙ ap (with_items []) (cut_of-fault limits why octets)
    in
    fault_by why items cut (octet_fault limits p octet why e) (sym f ∙ ap (with_items items) g ∙ ap (λ all. (all, Err why)) (append-nil items))

-- The rest of a piece if its next octet makes a fault.
pub stops_at : (limits : Limits) (p : FrameProgress) (i : ℕ) (piece : List ℕ) (why : FrameFaultKind) (items : List Item) (cut : Cut) → i < length piece → (why ≡ NoMemory) ⊎ (after_octet limits p (get_or piece i 0) ≡ Err why) → with_items items (cut_from limits (Ok p) (drop i piece)) ≡ cut → Faults why items cut
stops_at limits p i piece why items cut h fails e =
    elim fails [
      | inl k ↦ subst (λ (w : FrameFaultKind). Faults w items cut) (sym k) (lacks_memory items (cut_from limits (Ok p) (drop i piece)) cut e)
      | inr k ↦
          let step : cut_from limits (Ok p) (drop i piece) ≡ cut_from limits (Ok p) (get_or piece i 0 ∷ drop (i + 1) piece) = at_drop_more (cut_from limits (Ok p)) piece i 0 h in
          faults_at limits p (get_or piece i 0) (drop (i + 1) piece) why items cut k (sym (ap (with_items items) step) ∙ e)
    ]

-- Octets of a literal, read one by one.
literal_step : (limits : Limits) (p : FrameProgress) (octet : ℕ) → eqb octet 0 ≡ false → 0 < p.awaited → after_octet limits p octet ≡ Ok (None, after_literal p (octet ∷ []))
literal_step limits p octet nul l = rw (nul, lt-ltb 0 p.awaited l) refl

literal_join : (p : FrameProgress) (octet : ℕ) (octets : List ℕ) → after_literal (after_literal p (octet ∷ [])) octets ≡ after_literal p (octet ∷ octets)
literal_join p octet octets =
    let e : p.awaited - 1 - length octets ≡ p.awaited - length (octet ∷ octets) = omega arith in
    let f : (p.front ++ octet ∷ []) ++ octets ≡ p.front ++ octet ∷ octets = append_assoc p.front (octet ∷ []) octets in
    λ k. record p { front = f k; awaited = e k }

literal_empty : (p : FrameProgress) → p ≡ after_literal p []
literal_empty p =
    let e : p.awaited ≡ p.awaited - 0 = omega arith in
    λ k. record p { front = sym (append-nil p.front) k; awaited = e k }

literal_read : (limits : Limits) (p : FrameProgress) (octets : List ℕ) → length octets ≤ p.awaited → has_nul octets ≡ false → cut_from limits (Ok p) octets ≡ ([], Ok (after_literal p octets))
literal_read limits p [] l h = ap (λ q. ([], Ok q)) (literal_empty p)
literal_read limits p (b ∷ bs) l h =
    let parts = or_parts (eqb b 0) (has_nul bs) h in
    ap (λ o. with_items (cut_of_stream o).0 (cut_from limits (cut_of_stream o).1 bs)) (literal_step limits p b parts.0 (omega arith))
    ∙ ap (with_items []) (literal_read limits (after_literal p (b ∷ [])) bs (omega arith) parts.1)
    ∙ ap (λ q. ([], Ok q)) (literal_join p b bs)

literal_nul : (limits : Limits) (p : FrameProgress) (octets : List ℕ) → length octets ≤ p.awaited → has_nul octets ≡ true → cut_from limits (Ok p) octets ≡ ([], Err NulByte)
literal_nul limits p [] l h = absurd cc
literal_nul limits p (b ∷ bs) l h =
    elim (cases_Bool (eqb b 0)) [
      | inl t ↦
          let s : after_octet limits p b ≡ Err NulByte = rw t refl in
          ap (λ o. with_items (cut_of_stream o).0 (cut_from limits (cut_of_stream o).1 bs)) s ∙ ap (with_items []) (cut_of-fault limits NulByte bs)
      | inr f ↦
          ap (λ o. with_items (cut_of_stream o).0 (cut_from limits (cut_of_stream o).1 bs)) (literal_step limits p b f (omega arith))
          ∙ ap (with_items []) (literal_nul limits (after_literal p (b ∷ [])) bs (omega arith) (rw f at h))
    ]

-- Octets of a literal at the beginning of a piece.
pub literal_front : (limits : Limits) (p q : FrameProgress) (items : List Item) (n : ℕ) (octets rest piece : List ℕ) → octets ≡ take n piece → rest ≡ drop n piece → length octets ≤ p.awaited → has_nul octets ≡ false → q ≡ after_literal p octets → with_items items (cut_from limits (Ok p) piece) ≡ with_items items (cut_from limits (Ok q) rest)
literal_front limits p q items n octets rest piece e f l h g =
    let whole : piece ≡ octets ++ rest = sym (take-append-drop n piece) ∙ ap (λ t. t ++ drop n piece) (sym e) ∙ ap (λ t. octets ++ t) (sym f) in
    ap (with_items items) (
    ap (cut_from limits (Ok p)) whole
    ∙ cut_of-append limits (Ok p) octets rest
    ∙ ap (λ c. with_items c.0 (cut_from limits c.1 rest)) (literal_read limits p octets l h)
    ∙ ap (λ q. with_items [] (cut_from limits (Ok q) rest)) (sym g)
    )

pub literal_stops : (limits : Limits) (p : FrameProgress) (items : List Item) (n : ℕ) (octets piece : List ℕ) (why : FrameFaultKind) → octets ≡ take n piece → length octets ≤ p.awaited → (why ≡ NoMemory) ⊎ ((why ≡ NulByte) × (has_nul octets ≡ true)) → Faults why items (with_items items (cut_from limits (Ok p) piece))
literal_stops limits p items n octets piece why e l fails =
    let whole : piece ≡ octets ++ drop n piece = sym (take-append-drop n piece) ∙ ap (λ t. t ++ drop n piece) (sym e) in
    let cut : Cut = with_items items (cut_from limits (Ok p) piece) in
    elim fails [
      | inl k ↦ subst (λ (w : FrameFaultKind). Faults w items cut) (sym k) (lacks_memory items (cut_from limits (Ok p) piece) cut refl)
      | inr k ↦
          let g : cut_from limits (Ok p) piece ≡ ([], Err NulByte) =
          ap (cut_from limits (Ok p)) whole
          ∙ cut_of-append limits (Ok p) octets (drop n piece)
          ∙ ap (λ c. with_items c.0 (cut_from limits c.1 (drop n piece))) (literal_nul limits p octets l k.1)
          ∙ ap (with_items []) (cut_of-fault limits NulByte (drop n piece))
          in
          let all : cut ≡ (items, Err NulByte) = ap (with_items items) g ∙ ap (λ all. (all, Err NulByte)) (append-nil items) in
          subst (λ (w : FrameFaultKind). Faults w items cut) (sym k.0) all
    ]

-- Octets inside a line, read one by one.
inside_step : (limits : Limits) (p : FrameProgress) (octet : ℕ) → is_inside octet ≡ true → p.awaited ≡ 0 → p.outside < limits.line → after_octet limits p octet ≡ Ok (None, with_octet p octet)
inside_step limits p octet h e l =
    let parts = and_parts (not (eqb octet 10)) (not (eqb octet 0)) h in
    let no_end : eqb octet 10 ≡ false = not-true (eqb octet 10) parts.0 in
    let no_nul : eqb octet 0 ≡ false = not-true (eqb octet 0) parts.1 in
    let z : ltb 0 p.awaited ≡ false = le-ltb 0 p.awaited (omega arith) in
    rw (no_nul, z, lt-leb limits.line p.outside l, no_end) refl

inside_join : (p : FrameProgress) (octet : ℕ) (octets : List ℕ) → with_octets (with_octet p octet) octets ≡ with_octets p (octet ∷ octets)
inside_join p octet octets =
    let e : p.outside + 1 + length octets ≡ p.outside + length (octet ∷ octets) = omega arith in
    let f : (p.line ++ octet ∷ []) ++ octets ≡ p.line ++ octet ∷ octets = append_assoc p.line (octet ∷ []) octets in
    λ k. record p { line = f k; outside = e k }

inside_empty : (p : FrameProgress) → p ≡ with_octets p []
inside_empty p =
    let e : p.outside ≡ p.outside + 0 = omega arith in
    λ k. record p { line = sym (append-nil p.line) k; outside = e k }

inside_read : (limits : Limits) (p : FrameProgress) (n : ℕ) (octets : List ℕ) → n ≤ prefix_len is_inside octets → p.awaited ≡ 0 → p.outside + n ≤ limits.line → cut_from limits (Ok p) (take n octets) ≡ ([], Ok (with_octets p (take n octets)))
inside_read limits p zero octets h e l = ap (λ q. ([], Ok q)) (inside_empty p)
inside_read limits p (suc n) [] h e l = absurd (omega arith)
inside_read limits p (suc n) (b ∷ bs) h e l =
    elim (cases_Bool (is_inside b)) [
      | inl t ↦
          let k : n ≤ prefix_len is_inside bs = let g = rw t at h in omega arith in
          ap (λ o. with_items (cut_of_stream o).0 (cut_from limits (cut_of_stream o).1 (take n bs))) (inside_step limits p b t e (omega arith))
          ∙ ap (with_items []) (inside_read limits (with_octet p b) n bs k e (omega arith))
          ∙ ap (λ q. ([], Ok q)) (inside_join p b (take n bs))
      | inr f ↦ let g = rw f at h in absurd (omega arith)
    ]

-- Octets of a line at the beginning of a piece.
pub inside_front : (limits : Limits) (p q : FrameProgress) (items : List Item) (n : ℕ) (octets rest piece : List ℕ) → octets ≡ take n piece → rest ≡ drop n piece → n ≤ prefix_len is_inside piece → p.awaited ≡ 0 → p.outside + n ≤ limits.line → q ≡ with_octets p octets → with_items items (cut_from limits (Ok p) piece) ≡ with_items items (cut_from limits (Ok q) rest)
inside_front limits p q items n octets rest piece e f h z l g =
    let read : cut_from limits (Ok p) octets ≡ ([], Ok (with_octets p octets)) =
    subst (λ (t : List ℕ). cut_from limits (Ok p) t ≡ ([], Ok (with_octets p t))) (sym e) (inside_read limits p n piece h z l)
    in
    let whole : piece ≡ octets ++ rest = sym (take-append-drop n piece) ∙ ap (λ t. t ++ drop n piece) (sym e) ∙ ap (λ t. octets ++ t) (sym f) in
    ap (with_items items) (
    ap (cut_from limits (Ok p)) whole
    ∙ cut_of-append limits (Ok p) octets rest
    ∙ ap (λ c. with_items c.0 (cut_from limits c.1 rest)) read
    ∙ ap (λ q. with_items [] (cut_from limits (Ok q) rest)) (sym g)
    )

-- Memory runs out at the beginning of a piece.
pub lacks_here : (items : List Item) (cut : Cut) (why : FrameFaultKind) → why ≡ NoMemory → Faults why items (with_items items cut)
lacks_here items cut why e = subst (λ (w : FrameFaultKind). Faults w items (with_items items cut)) (sym e) (lacks_memory items cut (with_items items cut) refl)
