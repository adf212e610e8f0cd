use Rattle.std.proofs.Common.{◌≡◌, ℕ, ◌+◌, ◌≤◌, Bool, false, List, [], ◌∷◌, ◌++◌, length, Some, Result, Ok, ◌⊎◌, inl, inr, sym, refl, ap, ◌∙◌, subst, append_assoc, arith, length-append}
use Rattle.std.specs.List.{flat_map}
use Rattle.std.specs.Option.{option_to_list}
use Rattle.std.proofs.lemmas.List.{append-nil, length_push}
use Rattle.std.proofs.lemmas.List.Sums.{sum_by-append}
use Rattle.imap_lex.specs.declared.fault.FrameFaultKind.{FrameFaultKind}
use Rattle.imap_lex.specs.declared.item.Item.{Item}
use Rattle.imap_lex.specs.declared.item.Item.TheVariants.{Frame, Refused}
use Rattle.imap_lex.specs.declared.limits.Limits.{Limits}
use Rattle.imap_lex.specs.Marks.{IsMarked}
use Rattle.imap_lex.specs.Frames.{Part, HasNoCrlf, HasNoNul, IsLine, IsPart, ArePartsOfCommand, AreWithinLimits, AreCommands, IsFrame, IsRefusedFront, IsRest, octets_of, octets_outside, announced_octets, ready, readies}
use Rattle.imap_lex.specs.Framing.{FrameProgress, Outcome, Cut, with_items, cut_of_stream, cut_from, after_octet, ready_item, start, octets_so_far}
use Rattle.imap_lex.proofs.CutLemmas.{cut_of-append}
use Rattle.imap_lex.proofs.LineLemmas.{line_parts, open_step, no_nul_parts}
use Rattle.imap_lex.proofs.StepLemmas.{at_line, at_literal, quietly, ended, step_literal, step_line, step_end, ended_whole, ended_too_long, ended_literal, literal_whole, ready_is, outside_of-push, announced_of-push}

-- One octet, and those after it.
pub run_step : (limits : Limits) (p : FrameProgress) (octet : ℕ) (octets : List ℕ) (o : Outcome) → after_octet limits p octet ≡ o → cut_from limits (Ok p) (octet ∷ octets) ≡ with_items (cut_of_stream o).0 (cut_from limits (cut_of_stream o).1 octets)
run_step limits p octet octets o e = ap (λ o. with_items (cut_of_stream o).0 (cut_from limits (cut_of_stream o).1 octets)) e

run_last : (limits : Limits) (p : FrameProgress) (octet : ℕ) (o : Outcome) → after_octet limits p octet ≡ o → cut_from limits (Ok p) (octet ∷ []) ≡ cut_of_stream o
run_last limits p octet o e = run_step limits p octet [] o e ∙ ap (λ items. (items, (cut_of_stream o).1)) (append-nil (cut_of_stream o).0)

-- Octets that are read to this state, and those after them.
pub run_on : (limits : Limits) (state : Result FrameProgress FrameFaultKind) (xs ys : List ℕ) (cut : Cut) → cut_from limits state xs ≡ cut → cut_from limits state (xs ++ ys) ≡ with_items cut.0 (cut_from limits cut.1 ys)
run_on limits state xs ys cut e = cut_of-append limits state xs ys ∙ ap (λ c. with_items c.0 (cut_from limits c.1 ys)) e

-- The octets of an open line.
pub run_open : (limits : Limits) (parts : List Part) (line more whole : List ℕ) → whole ≡ line ++ more → HasNoCrlf whole → HasNoNul more → octets_outside parts + length whole ≤ limits.line → cut_from limits (Ok (at_line parts line)) more ≡ ([], Ok (at_line parts whole))
run_open limits parts line [] whole e h nul l = ap (λ t. ([], Ok (at_line parts t))) (sym (append-nil line) ∙ sym e)
run_open limits parts line (b ∷ bs) whole e h nul l =
    let n : length whole ≡ length line + length (b ∷ bs) = ap length e ∙ length-append line (b ∷ bs) in
    let open_here : HasNoCrlf (line ++ b ∷ bs) = subst HasNoCrlf e h in
    let s = step_line limits parts line b nul.0 (omega arith) (open_step line bs b open_here) in
    run_step limits (at_line parts line) b bs (quietly (at_line parts (line ++ b ∷ []))) s
    ∙ ap (with_items []) (run_open limits parts (line ++ b ∷ []) bs whole (e ∙ sym (append_assoc line (b ∷ []) bs)) h nul.1 l)

-- A whole line.
pub run_line : (limits : Limits) (parts : List Part) (text : List ℕ) → IsLine text → HasNoNul text → octets_outside parts + length text ≤ limits.line → cut_from limits (Ok (at_line parts [])) text ≡ cut_of_stream (ended limits parts text)
run_line limits parts text h nul l =
    let s = line_parts text h in
    let n : length text ≡ length s.0 + 1 = ap length s.1 ∙ length_push s.0 10 in
    let nul' = no_nul_parts s.0 (10 ∷ []) (subst HasNoNul s.1 nul) in
    let front : cut_from limits (Ok (at_line parts [])) s.0 ≡ ([], Ok (at_line parts s.0)) = run_open limits parts [] s.0 s.0 refl s.2 nul'.0 (omega arith) in
    ap (cut_from limits (Ok (at_line parts []))) s.1
    ∙ run_on limits (Ok (at_line parts [])) s.0 (10 ∷ []) ([], Ok (at_line parts s.0)) front
    ∙ run_last limits (at_line parts s.0) 10 (ended limits parts (s.0 ++ 10 ∷ [])) (step_end limits parts s.0 (omega arith) s.3)
    ∙ ap (λ t. cut_of_stream (ended limits parts t)) (sym s.1)

-- The octets of a literal.
pub run_literal : (limits : Limits) (parts : List Part) (line : List ℕ) (n : ℕ) (literal more whole : List ℕ) → whole ≡ literal ++ more → length whole ≤ n → HasNoNul more → cut_from limits (Ok (at_literal parts line n literal)) more ≡ ([], Ok (at_literal parts line n whole))
run_literal limits parts line n literal [] whole e l nul = ap (λ t. ([], Ok (at_literal parts line n t))) (sym (append-nil literal) ∙ sym e)
run_literal limits parts line n literal (b ∷ bs) whole e l nul =
    let m : length whole ≡ length literal + length (b ∷ bs) = ap length e ∙ length-append literal (b ∷ bs) in
    run_step limits (at_literal parts line n literal) b bs (quietly (at_literal parts line n (literal ++ b ∷ []))) (step_literal limits parts line n literal b nul.0 (omega arith))
    ∙ ap (with_items []) (run_literal limits parts line n (literal ++ b ∷ []) bs whole (e ∙ sym (append_assoc literal (b ∷ []) bs)) l nul.1)

-- A line with a mark, and a prefix of its literal.
pub run_marked : (limits : Limits) (parts : List Part) (line : List ℕ) (n : ℕ) (plus : Bool) (literal : List ℕ) → IsLine line → IsMarked n plus line → HasNoNul line → HasNoNul literal → octets_outside parts + length line ≤ limits.line → announced_octets parts + n ≤ limits.literals → length literal ≤ n → cut_from limits (Ok (at_line parts [])) (line ++ literal) ≡ (ready plus, Ok (at_literal parts line n literal))
run_marked limits parts line n plus literal h m nul nul' l k short =
    let front : cut_from limits (Ok (at_line parts [])) line ≡ (option_to_list (ready_item plus), Ok (at_literal parts line n [])) =
    run_line limits parts line h nul l ∙ ap cut_of_stream (ended_literal limits parts line n plus m (omega arith))
    in
    run_on limits (Ok (at_line parts [])) line literal (option_to_list (ready_item plus), Ok (at_literal parts line n [])) front
    ∙ ap (with_items (option_to_list (ready_item plus))) (run_literal limits parts line n [] literal literal refl short nul')
    ∙ ap (λ items. (items, Ok (at_literal parts line n literal))) (append-nil (option_to_list (ready_item plus)) ∙ ready_is plus)

-- A part.
run_part : (limits : Limits) (parts : List Part) (part : Part) → IsPart part → HasNoNul (part.line ++ part.literal) → octets_outside parts + length part.line ≤ limits.line → announced_octets parts + length part.literal ≤ limits.literals → cut_from limits (Ok (at_line parts [])) (part.line ++ part.literal) ≡ (ready part.plus, Ok (at_line (parts ++ part ∷ []) []))
run_part limits parts part h nul l k =
    let p = no_nul_parts part.line part.literal nul in
    run_marked limits parts part.line (length part.literal) part.plus part.literal h.line h.mark p.0 p.1 l k (omega arith)
    ∙ ap (λ q. (ready part.plus, Ok q)) (literal_whole parts part (length part.literal) refl)

run_parts : (limits : Limits) (done parts : List Part) → ArePartsOfCommand parts → HasNoNul (octets_of parts) → octets_outside done + octets_outside parts ≤ limits.line → announced_octets done + announced_octets parts ≤ limits.literals → cut_from limits (Ok (at_line done [])) (octets_of parts) ≡ (readies parts, Ok (at_line (done ++ parts) []))
run_parts limits done [] h nul l k = ap (λ ps. ([], Ok (at_line ps []))) (sym (append-nil done))
run_parts limits done (part ∷ parts) h nul l k =
    let p = no_nul_parts (part.line ++ part.literal) (octets_of parts) nul in
    let o = outside_of-push done part in
    let a = announced_of-push done part in
    let so : octets_outside (part ∷ parts) ≡ octets_outside (part ∷ []) + octets_outside parts = sum_by-append (λ (p : Part). length p.line) (part ∷ []) parts in
    let sa : announced_octets (part ∷ parts) ≡ announced_octets (part ∷ []) + announced_octets parts = sum_by-append (λ (p : Part). length p.literal) (part ∷ []) parts in
    run_on limits (Ok (at_line done [])) (part.line ++ part.literal) (octets_of parts) (ready part.plus, Ok (at_line (done ++ part ∷ []) [])) (run_part limits done part h.0 p.0 (omega arith) (omega arith))
    ∙ ap (with_items (ready part.plus)) (run_parts limits (done ++ part ∷ []) parts h.1 p.1 (omega arith) (omega arith))
    ∙ ap (λ ps. (readies (part ∷ parts), Ok (at_line ps []))) (append_assoc done (part ∷ []) parts)

-- The parts of a command, and the octets after them.
pub run_front : (limits : Limits) (parts : List Part) (line after : List ℕ) → AreWithinLimits limits parts line → cut_from limits (Ok start) (octets_of parts ++ after) ≡ with_items (readies parts) (cut_from limits (Ok (at_line parts [])) after)
run_front limits parts line after h =
    let p = no_nul_parts (octets_of parts) line h.no_nul in
    let o = h.outside in
    let a = h.announced in
    run_on limits (Ok start) (octets_of parts) after (readies parts, Ok (at_line parts [])) (run_parts limits [] parts h.are_parts p.0 (omega arith) (omega arith))

-- A command with this last line.
run_command : (limits : Limits) (parts : List Part) (line : List ℕ) (text : List ℕ) (items : List Item) (last : Item) → AreWithinLimits limits parts line → IsLine line → text ≡ octets_of parts ++ line → items ≡ readies parts ++ last ∷ [] → ended limits parts line ≡ Ok (Some last, start) → cut_from limits (Ok start) text ≡ (items, Ok start)
run_command limits parts line text items last taken h e f g =
    let p = no_nul_parts (octets_of parts) line taken.no_nul in
    let o = taken.outside in
    ap (cut_from limits (Ok start)) e
    ∙ run_front limits parts line line taken
    ∙ ap (with_items (readies parts)) (run_line limits parts line h p.1 (omega arith) ∙ ap cut_of_stream g)
    ∙ ap (λ all. (all, Ok start)) (sym f)

run_one : (limits : Limits) (text : List ℕ) (items : List Item) → IsFrame limits text items ⊎ IsRefusedFront limits text items → cut_from limits (Ok start) text ≡ (items, Ok start)
run_one limits text items h =
    elim h [
      | inl f ↦
          run_command limits f.parts f.line text items (Frame text) f.taken f.ends f.text_is f.items_are
          (ended_whole limits f.parts f.line f.unmarked ∙ ap (λ t. Ok (Some (Frame t), start)) (sym f.text_is))
      | inr r ↦
          let k = r.too_long in
          let a = r.taken.announced in
          run_command limits r.parts r.line text items (Refused text) r.taken r.ends r.text_is r.items_are
          (ended_too_long limits r.parts r.line r.n false r.mark (omega arith) ∙ ap (λ t. Ok (Some (Refused t), start)) (sym r.text_is))
    ]

pub run_commands : (limits : Limits) (commands : List (List ℕ × List Item)) → AreCommands limits commands → cut_from limits (Ok start) (flat_map (λ c. c.0) commands) ≡ (flat_map (λ c. c.1) commands, Ok start)
run_commands limits [] h = refl
run_commands limits (c ∷ cs) h =
    run_on limits (Ok start) c.0 (flat_map (λ c. c.0) cs) (c.1, Ok start) (run_one limits c.0 c.1 h.0)
    ∙ ap (with_items c.1) (run_commands limits cs h.1)

-- Parts and an open line.
pub run_to_line : (limits : Limits) (parts : List Part) (line : List ℕ) → AreWithinLimits limits parts line → HasNoCrlf line → cut_from limits (Ok start) (octets_of parts ++ line) ≡ (readies parts, Ok (at_line parts line))
run_to_line limits parts line taken h =
    let p = no_nul_parts (octets_of parts) line taken.no_nul in
    run_front limits parts line line taken
    ∙ ap (with_items (readies parts)) (run_open limits parts [] line line refl h p.1 taken.outside)
    ∙ ap (λ all. (all, Ok (at_line parts line))) (append-nil (readies parts))

-- A rest, and the progress after it.
pub run_rest : (limits : Limits) (rest : List ℕ) (items : List Item) → IsRest limits rest items → (p : FrameProgress) × (cut_from limits (Ok start) rest ≡ (items, Ok p)) × (octets_so_far p ≡ rest)
run_rest limits rest items h =
    elim h [
      | inl o ↦ (
        at_line o.parts o.line,
        ap (cut_from limits (Ok start)) o.text_is ∙ run_to_line limits o.parts o.line o.taken o.open_line ∙ ap (λ all. (all, Ok (at_line o.parts o.line))) (sym o.items_are),
        sym o.text_is,
      )
      | inr o ↦
          let p = no_nul_parts (octets_of o.parts) o.line o.taken.no_nul in
          let short = o.short in (
            at_literal o.parts o.line o.n o.literal,
            ap (cut_from limits (Ok start)) o.text_is
                ∙ run_front limits o.parts o.line (o.line ++ o.literal) o.taken
                ∙ ap (with_items (readies o.parts)) (run_marked limits o.parts o.line o.n o.plus o.literal o.ends o.mark p.1 o.no_nul o.taken.outside o.fits (omega arith))
                ∙ ap (λ all. (all, Ok (at_literal o.parts o.line o.n o.literal))) (sym o.items_are),
            append-nil (octets_of o.parts ++ (o.line ++ o.literal)) ∙ sym o.text_is,
          )
    ]
