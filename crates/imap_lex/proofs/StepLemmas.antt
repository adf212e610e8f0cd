use Rattle.std.proofs.Common.{◌≡◌, ◌≢◌, ℕ, ◌+◌, ◌-◌, ◌<◌, ◌≤◌, Bool, true, false, List, [], ◌∷◌, ◌++◌, length, None, Ok, Err, sym, refl, ap, ◌∙◌, append_assoc, arith}
use Rattle.std.specs.Option.{option_to_list}
use Rattle.std.proofs.lemmas.Bool.{eq-eqb, ne_eqb, lt-ltb, le-leb, lt-leb}
use Rattle.std.proofs.lemmas.List.{append-nil, length_push}
use Rattle.std.proofs.lemmas.List.Concat.{flat_map-append}
use Rattle.std.proofs.lemmas.List.Sums.{sum_by-append}
use Rattle.imap_lex.specs.declared.fault.FrameFaultKind.TheVariants.{LineTooLong, NulByte}
use Rattle.imap_lex.specs.declared.limits.Limits.{Limits}
use Rattle.imap_lex.specs.declared.literal_mark.LineEffect.TheVariants.{Whole, TooLong}
use Rattle.imap_lex.specs.Marks.{IsMarked, IsUnmarked}
use Rattle.imap_lex.specs.Frames.{Part, octets_of, octets_outside, announced_octets, ready, readies}
use Rattle.imap_lex.specs.MarkReading.{line_effect_of}
use Rattle.imap_lex.specs.Framing.{FrameProgress, Outcome, after_octet, after_line_end, is_end, with_octet, ready_item}
use Rattle.imap_lex.proofs.MarkLemmas.{line_mark_marked, line_mark_unmarked}

-- The progress after these parts and this much of a line.
abbrev pub at_line : List Part → List ℕ → FrameProgress
at_line parts line =
    record { front = octets_of parts; line = line; outside = octets_outside parts + length line; announced = announced_octets parts; awaited = 0 }

-- The progress after these parts, a line with a mark of n octets, and this much of its literal.
abbrev pub at_literal : List Part → List ℕ → ℕ → List ℕ → FrameProgress
at_literal parts line n literal =
    record { front = octets_of parts ++ (line ++ literal); line = []; outside = octets_outside parts + length line; announced = announced_octets parts + n; awaited = n - length literal }

-- No item, and this progress.
abbrev pub quietly : FrameProgress → Outcome
quietly p = Ok (None, p)

-- One further part.
pub octets_of-push : (parts : List Part) (part : Part) → octets_of (parts ++ part ∷ []) ≡ octets_of parts ++ (part.line ++ part.literal)
octets_of-push parts part = flat_map-append (λ (p : Part). p.line ++ p.literal) parts (part ∷ []) ∙ ap (λ t. octets_of parts ++ t) (append-nil (part.line ++ part.literal))

pub outside_of-push : (parts : List Part) (part : Part) → octets_outside (parts ++ part ∷ []) ≡ octets_outside parts + length part.line
outside_of-push parts part = let e : octets_outside (parts ++ part ∷ []) ≡ octets_outside parts + octets_outside (part ∷ []) = sum_by-append (λ (p : Part). length p.line) parts (part ∷ []) in omega arith

pub announced_of-push : (parts : List Part) (part : Part) → announced_octets (parts ++ part ∷ []) ≡ announced_octets parts + length part.literal
announced_of-push parts part = let e : announced_octets (parts ++ part ∷ []) ≡ announced_octets parts + announced_octets (part ∷ []) = sum_by-append (λ (p : Part). length p.literal) parts (part ∷ []) in omega arith

pub readies-push : (parts : List Part) (part : Part) → readies (parts ++ part ∷ []) ≡ readies parts ++ ready part.plus
readies-push parts part = flat_map-append (λ (p : Part). ready p.plus) parts (part ∷ []) ∙ ap (λ t. readies parts ++ t) (append-nil (ready part.plus))

-- One further octet of a line.
line_append : (parts : List Part) (line : List ℕ) (octet : ℕ) → with_octet (at_line parts line) octet ≡ at_line parts (line ++ octet ∷ [])
line_append parts line octet =
    let e : octets_outside parts + length line + 1 ≡ octets_outside parts + length (line ++ octet ∷ []) = omega (arith, length_push line octet) in
    λ k. record { front = octets_of parts; line = line ++ octet ∷ []; outside = e k; announced = announced_octets parts; awaited = 0 }

-- One further octet of a literal.
literal_append : (parts : List Part) (line : List ℕ) (n : ℕ) (literal : List ℕ) (octet : ℕ) → record (at_literal parts line n literal) { front = (octets_of parts ++ (line ++ literal)) ++ octet ∷ []; awaited = n - length literal - 1 } ≡ at_literal parts line n (literal ++ octet ∷ [])
literal_append parts line n literal octet =
    let e : n - length literal - 1 ≡ n - length (literal ++ octet ∷ []) = omega (arith, length_push literal octet) in
    let f : (octets_of parts ++ (line ++ literal)) ++ octet ∷ [] ≡ octets_of parts ++ (line ++ (literal ++ octet ∷ [])) =
    append_assoc (octets_of parts) (line ++ literal) (octet ∷ []) ∙ ap (λ t. octets_of parts ++ t) (append_assoc line literal (octet ∷ []))
    in
    λ k. record { front = f k; line = []; outside = octets_outside parts + length line; announced = announced_octets parts + n; awaited = e k }

-- A complete literal makes a part.
pub literal_whole : (parts : List Part) (part : Part) (n : ℕ) → length part.literal ≡ n → at_literal parts part.line n part.literal ≡ at_line (parts ++ part ∷ []) []
literal_whole parts part n h =
    let e : octets_outside parts + length part.line ≡ octets_outside (parts ++ part ∷ []) + 0 = omega (arith, outside_of-push parts part) in
    let f : octets_of parts ++ (part.line ++ part.literal) ≡ octets_of (parts ++ part ∷ []) = sym (octets_of-push parts part) in
    let g : announced_octets parts + n ≡ announced_octets (parts ++ part ∷ []) = omega (arith, announced_of-push parts part) in
    let z : n - length part.literal ≡ 0 = omega arith in
    λ k. record { front = f k; line = []; outside = e k; announced = g k; awaited = z k }

-- The result of each octet.
pub step_nul : (limits : Limits) (p : FrameProgress) (octet : ℕ) → octet ≡ 0 → after_octet limits p octet ≡ Err NulByte
step_nul limits p octet e = rw (eq-eqb octet 0 e) refl

pub step_literal : (limits : Limits) (parts : List Part) (line : List ℕ) (n : ℕ) (literal : List ℕ) (octet : ℕ) → octet ≢ 0 → length literal < n → after_octet limits (at_literal parts line n literal) octet ≡ quietly (at_literal parts line n (literal ++ octet ∷ []))
step_literal limits parts line n literal octet h l =
    rw (ne_eqb octet 0 h, lt-ltb 0 (n - length literal) (omega arith)) (ap quietly (literal_append parts line n literal octet))

pub step_line : (limits : Limits) (parts : List Part) (line : List ℕ) (octet : ℕ) → octet ≢ 0 → octets_outside parts + length line < limits.line → is_end line octet ≡ false → after_octet limits (at_line parts line) octet ≡ quietly (at_line parts (line ++ octet ∷ []))
step_line limits parts line octet h l e =
    rw (ne_eqb octet 0 h, lt-leb limits.line (octets_outside parts + length line) l, e) (ap quietly (line_append parts line octet))

pub step_full : (limits : Limits) (parts : List Part) (line : List ℕ) (octet : ℕ) → octet ≢ 0 → limits.line ≤ octets_outside parts + length line → after_octet limits (at_line parts line) octet ≡ Err LineTooLong
step_full limits parts line octet h l = rw (ne_eqb octet 0 h, le-leb limits.line (octets_outside parts + length line) l) refl

-- The result of the end of this line.
abbrev pub ended : Limits → List Part → List ℕ → Outcome
ended limits parts text = after_line_end (at_line parts text) (line_effect_of text (limits.literals - announced_octets parts))

pub step_end : (limits : Limits) (parts : List Part) (line : List ℕ) → octets_outside parts + length line < limits.line → is_end line 10 ≡ true → after_octet limits (at_line parts line) 10 ≡ ended limits parts (line ++ 10 ∷ [])
step_end limits parts line l e =
    rw (lt-leb limits.line (octets_outside parts + length line) l, e)
    (ap (λ p. after_line_end p (line_effect_of (line ++ 10 ∷ []) (limits.literals - announced_octets parts))) (line_append parts line 10))

-- The result of a line's end in each case.
pub ended_whole : (limits : Limits) (parts : List Part) (text : List ℕ) → IsUnmarked text → ended limits parts text ≡ after_line_end (at_line parts text) Whole
ended_whole limits parts text h = rw (line_mark_unmarked text h) refl

pub ended_too_long : (limits : Limits) (parts : List Part) (text : List ℕ) (n : ℕ) (plus : Bool) → IsMarked n plus text → limits.literals - announced_octets parts < n → ended limits parts text ≡ after_line_end (at_line parts text) (TooLong plus)
ended_too_long limits parts text n plus h l = rw (line_mark_marked text n plus h, lt-leb n (limits.literals - announced_octets parts) l) refl

pub ended_literal : (limits : Limits) (parts : List Part) (text : List ℕ) (n : ℕ) (plus : Bool) → IsMarked n plus text → n ≤ limits.literals - announced_octets parts → ended limits parts text ≡ Ok (ready_item plus, at_literal parts text n [])
ended_literal limits parts text n plus h l =
    let f : octets_of parts ++ text ≡ octets_of parts ++ (text ++ []) = ap (λ t. octets_of parts ++ t) (sym (append-nil text)) in
    let z : n ≡ n - 0 = omega arith in
    rw (line_mark_marked text n plus h, le-leb n (limits.literals - announced_octets parts) l)
    (λ k. Ok (ready_item plus, record { front = f k; line = []; outside = octets_outside parts + length text; announced = announced_octets parts + n; awaited = z k }))

pub ready_is : (plus : Bool) → option_to_list (ready_item plus) ≡ ready plus
ready_is true = refl
ready_is false = refl
