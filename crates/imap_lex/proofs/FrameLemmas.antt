use Rattle.std.proofs.Common.{◌≡◌, ◌≢◌, ℕ, true, List, [], ◌∷◌, ◌++◌, Ok, Err, sym, ap, ◌∙◌, subst, arith}
use Rattle.std.specs.List.{flat_map}
use Rattle.std.proofs.lemmas.List.{append-nil, length_push, same_from_push}
use Rattle.imap_lex.specs.declared.fault.FrameFaultKind.{FrameFaultKind}
use Rattle.imap_lex.specs.declared.fault.FrameFaultKind.TheVariants.{LineTooLong, LiteralTooLong, NulByte, NoMemory, Failed}
use Rattle.imap_lex.specs.declared.item.Item.{Item}
use Rattle.imap_lex.specs.declared.limits.Limits.{Limits}
use Rattle.imap_lex.specs.Frames.{AreFrames, AreWithinLimits, FailsAt, HasNoCrlf, IsFullLine, IsTooLongAtLf, MakesFault, octets_of}
use Rattle.imap_lex.specs.Framing.{FrameProgress, with_items, cut_from, after_octet, is_end, start, octets_so_far}
use Rattle.imap_lex.proofs.CutLemmas.{cut_of-fault}
use Rattle.imap_lex.proofs.LineLemmas.{line_parts, no_nul_parts, no_nul_both}
use Rattle.imap_lex.proofs.StepLemmas.{at_line, step_nul, step_full, step_end, ended_too_long}
use Rattle.imap_lex.proofs.RunLemmas.{run_on, run_step, run_commands, run_rest, run_to_line}

-- A stream of these frames and this rest gives these items.
pub cut_of_frames : (limits : Limits) (stream rest : List ℕ) (items : List Item) → AreFrames limits stream items rest → (p : FrameProgress) × (cut_from limits (Ok start) stream ≡ (items, Ok p)) × (octets_so_far p ≡ rest) × (cut_from limits (Ok start) rest).1 ≡ Ok p
cut_of_frames limits stream rest items h =
    let r = run_rest limits rest h.last h.is_rest in (
      r.0,
      ap (cut_from limits (Ok start)) h.stream_is
          ∙ run_on limits (Ok start) (flat_map (λ c. c.0) h.commands) rest (flat_map (λ c. c.1) h.commands, Ok start) (run_commands limits h.commands h.are_commands)
          ∙ ap (with_items (flat_map (λ c. c.1) h.commands)) r.1
          ∙ ap (λ all. (all, Ok r.0)) (sym h.items_are),
      r.2,
      ap (λ c. c.1) r.1,
    )

-- The progress when a line is full, and when LF ends a line whose mark announces too much.
at_full_line : (limits : Limits) (rest : List ℕ) (p : FrameProgress) (octet : ℕ) → (cut_from limits (Ok start) rest).1 ≡ Ok p → octet ≢ 0 → IsFullLine limits rest → after_octet limits p octet ≡ Err LineTooLong
at_full_line limits rest p octet e h f =
    let k : (cut_from limits (Ok start) rest).1 ≡ Ok (at_line f.parts f.line) = ap (λ t. (cut_from limits (Ok start) t).1) f.rest_is ∙ ap (λ c. c.1) (run_to_line limits f.parts f.line f.taken f.open_line) in
    let q : p ≡ at_line f.parts f.line = cc in
    let full = f.full in
    ap (λ p. after_octet limits p octet) q ∙ step_full limits f.parts f.line octet h (omega arith)

at_lf : (limits : Limits) (rest : List ℕ) (p : FrameProgress) → (cut_from limits (Ok start) rest).1 ≡ Ok p → IsTooLongAtLf limits rest → after_octet limits p 10 ≡ Err LiteralTooLong
at_lf limits rest p e f =
    let s = line_parts (f.line ++ 10 ∷ []) f.ends in
    let l : f.line ≡ s.0 = (same_from_push f.line s.0 10 10 s.1).0 in
    let open_line : HasNoCrlf f.line = subst HasNoCrlf (sym l) s.2 in
    let ends : is_end f.line 10 ≡ true = ap (λ t. is_end t 10) l ∙ s.3 in
    let n = length_push f.line 10 in
    let o = f.taken.outside in
    let a = f.taken.announced in
    let too_long = f.too_long in
    let nul = no_nul_parts (octets_of f.parts) (f.line ++ 10 ∷ []) f.taken.no_nul in
    let taken : AreWithinLimits limits f.parts f.line = record {
      are_parts = f.taken.are_parts;
      outside = omega arith;
      announced = f.taken.announced;
      no_nul = no_nul_both (octets_of f.parts) f.line nul.0 (no_nul_parts f.line (10 ∷ []) nul.1).0;
    } in
    let k : (cut_from limits (Ok start) rest).1 ≡ Ok (at_line f.parts f.line) = ap (λ t. (cut_from limits (Ok start) t).1) f.rest_is ∙ ap (λ c. c.1) (run_to_line limits f.parts f.line taken open_line) in
    let q : p ≡ at_line f.parts f.line = cc in
    ap (λ p. after_octet limits p 10) q
    ∙ step_end limits f.parts f.line (omega arith) ends
    ∙ ended_too_long limits f.parts (f.line ++ 10 ∷ []) f.n true f.mark (omega arith)

at_fault : (limits : Limits) (rest : List ℕ) (p : FrameProgress) (octet : ℕ) (why : FrameFaultKind) → (cut_from limits (Ok start) rest).1 ≡ Ok p → MakesFault limits rest octet why → after_octet limits p octet ≡ Err why
at_fault limits rest p octet NulByte e h = step_nul limits p octet h
at_fault limits rest p octet LineTooLong e h = at_full_line limits rest p octet e h.0 h.1
at_fault limits rest p octet LiteralTooLong e h = ap (after_octet limits p) h.0 ∙ at_lf limits rest p e h.1
at_fault limits rest p octet NoMemory e h = absurd h
at_fault limits rest p octet Failed e h = absurd h

-- A stream fails at an octet that makes a fault.
pub cut_of_fault : (limits : Limits) (stream : List ℕ) (items : List Item) (why : FrameFaultKind) → FailsAt limits stream items why → cut_from limits (Ok start) stream ≡ (items, Err why)
cut_of_fault limits stream items why h =
    let g = cut_of_frames limits h.front h.rest items h.before in
    ap (cut_from limits (Ok start)) h.stream_is
    ∙ run_on limits (Ok start) h.front (h.octet ∷ h.after) (items, Ok g.0) g.1
    ∙ ap (with_items items) (run_step limits g.0 h.octet h.after (Err why) (at_fault limits h.rest g.0 h.octet why g.3 h.fault) ∙ ap (with_items []) (cut_of-fault limits why h.after))
    ∙ ap (λ all. (all, Err why)) (append-nil items)
