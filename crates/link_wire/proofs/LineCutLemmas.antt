use Rattle.std.proofs.Common.{◌≡◌, ◌<◌, ◌≤◌, inl, inr, ℕ, true, not, eqb, eq-eqb, List, [], ◌∷◌, ◌++◌, Option, Some, None, Ok, length, drop, get_or, refl, sym, ap, ◌∙◌, subst, append_assoc, arith}
use Rattle.std.proofs.lemmas.Bool.{and_parts, false≢true}
use Rattle.std.proofs.lemmas.List.{append-nil}
use Rattle.text_fields.specs.FieldReading.{cut_at}
use Rattle.text_fields.proofs.FieldLemmas.{cut_complete, cut_sound}
use Rattle.crdt_ops.specs.Form.{Each}
use Rattle.link_wire.specs.declared.limits.Limits.{Limits}
use Rattle.link_wire.specs.Digests.{Digest, has_no_lf}
use Rattle.link_wire.specs.Framing.{concat_pieces, cut_of_pieces, cut_from, start}
use Rattle.link_wire.specs.LineCuts.{CutterState, EndsLine, ContinuesLine, IsLineWithin, IsOpenLine, IsTooLong, TakesLine, TakesLines, at_start, lines_text}
use Rattle.link_wire.proofs.CutLemmas.{cut_of_pieces_from-concat_pieces}
use Rattle.link_wire.proofs.HeaderLemmas.{no_lf_both}
use Rattle.link_wire.proofs.PayloadLemmas.{cut_lacks, lacks_uncut, no_cut, same_cut, uncut_lacks}

-- a piece ends the line
pub ends_line : (old middle new : CutterState) (piece : List ℕ) (parts : List ℕ × List ℕ) → cut_at 10 piece ≡ Some parts → ContinuesLine old parts.0 middle → new ≡ record middle { line = [] } → EndsLine old piece new middle.line parts.1
ends_line old middle new piece parts cut g e = record {
  within = subst (λ (limit : ℕ). length middle.line ≤ limit) g.limit g.open_line.within;
  no_lf = g.open_line.no_lf;
  stream_is = ap (λ (t : List ℕ). old.line ++ t) (cut_sound 10 piece parts cut) ∙ sym (append_assoc old.line parts.0 (10 ∷ parts.1)) ∙ ap (λ (t : List ℕ). t ++ 10 ∷ parts.1) (sym g.line_is);
  new_is = e ∙ ap (λ (limit : ℕ). record { limit = limit; line = [] }) g.limit;
}

-- octets make the line too long
pub too_long_open : (old : CutterState) (piece : List ℕ) → IsOpenLine old → has_no_lf piece ≡ true → old.limit < length (old.line ++ piece) → IsTooLong old piece
too_long_open old piece open_line no_lf beyond = record {
  front = old.line ++ piece;
  rest = [];
  no_lf = no_lf_both old.line piece open_line.no_lf no_lf;
  beyond = beyond;
  stream_is = sym (append-nil (old.line ++ piece));
}

-- so does a piece that begins with them
pub too_long_more : (old : CutterState) (piece : List ℕ) (parts : List ℕ × List ℕ) → cut_at 10 piece ≡ Some parts → IsTooLong old parts.0 → IsTooLong old piece
too_long_more old piece parts cut t = record {
  front = t.front;
  rest = t.rest ++ 10 ∷ parts.1;
  no_lf = t.no_lf;
  beyond = t.beyond;
  stream_is = ap (λ (text : List ℕ). old.line ++ text) (cut_sound 10 piece parts cut) ∙ sym (append_assoc old.line parts.0 (10 ∷ parts.1))
      ∙ ap (λ (text : List ℕ). text ++ 10 ∷ parts.1) t.stream_is ∙ append_assoc t.front t.rest (10 ∷ parts.1);
}

-- ---- lines of a stream

-- the line and what comes after it are the stream
line_by : (pieces : List (List ℕ)) (state : CutterState) (line : List ℕ) (rest : List (List ℕ)) → TakesLine state pieces line rest → (state.line ++ concat_pieces pieces ≡ line ++ 10 ∷ concat_pieces rest) × (has_no_lf line ≡ true) × (length line ≤ state.limit)
line_by [] state line rest t = absurd t
line_by (piece ∷ pieces) state line rest (inl t) =
    let r = line_by pieces t.0 line rest t.2 in (
      sym (append_assoc state.line piece (concat_pieces pieces)) ∙ ap (λ (xs : List ℕ). xs ++ concat_pieces pieces) (sym t.1.line_is) ∙ r.0,
      r.1,
      subst (λ (limit : ℕ). length line ≤ limit) t.1.limit r.2,
    )
line_by (piece ∷ pieces) state line rest (inr t) = (
  sym (append_assoc state.line piece (concat_pieces pieces)) ∙ ap (λ (xs : List ℕ). xs ++ concat_pieces pieces) t.2.stream_is ∙ append_assoc line (10 ∷ t.1) (concat_pieces pieces)
      ∙ ap (λ (r : List (List ℕ)). line ++ 10 ∷ concat_pieces r) (sym t.3),
  t.2.no_lf,
  t.2.within,
)

pub lines_by : (limit : ℕ) (pieces lines rest : List (List ℕ)) → TakesLines limit pieces lines rest → Each (IsLineWithin limit) lines × (concat_pieces pieces ≡ lines_text lines ++ concat_pieces rest)
lines_by limit pieces [] rest t = (tt, ap concat_pieces (sym t))
lines_by limit pieces (line ∷ lines) rest t =
    let first = line_by pieces (at_start limit) line t.0 t.1 in
    let others = lines_by limit t.0 lines rest t.2 in (
      ((first.1, first.2), others.0),
      first.0 ∙ ap (λ (xs : List ℕ). line ++ 10 ∷ xs) others.1 ∙ sym (append_assoc line (10 ∷ []) (lines_text lines ++ concat_pieces rest))
          ∙ sym (append_assoc (line ++ 10 ∷ []) (lines_text lines) (concat_pieces rest)),
    )

-- a stream has one first line
one_line : (line other rest left : List ℕ) → has_no_lf line ≡ true → has_no_lf other ≡ true → line ++ 10 ∷ rest ≡ other ++ 10 ∷ left → (line ≡ other) × (rest ≡ left)
one_line line other rest left n m e = same_cut line rest other left (cut_at 10 (line ++ 10 ∷ rest)) (cut_complete 10 line rest n) (ap (cut_at 10) e ∙ cut_complete 10 other left m)

same_lines : (limit : ℕ) (lines others pieces parts rest left : List (List ℕ)) → concat_pieces pieces ≡ concat_pieces parts → length lines ≡ length others → TakesLines limit pieces lines rest → TakesLines limit parts others left → (lines ≡ others) × (concat_pieces rest ≡ concat_pieces left)
same_lines limit [] [] pieces parts rest left e l t u = (refl, ap concat_pieces t ∙ e ∙ sym (ap concat_pieces u))
same_lines limit [] (other ∷ others) pieces parts rest left e l t u = absurd (omega (arith, l))
same_lines limit (line ∷ lines) [] pieces parts rest left e l t u = absurd (omega (arith, l))
same_lines limit (line ∷ lines) (other ∷ others) pieces parts rest left e l t u =
    let first = line_by pieces (at_start limit) line t.0 t.1 in
    let second = line_by parts (at_start limit) other u.0 u.1 in
    let same = one_line line other (concat_pieces t.0) (concat_pieces u.0) first.1 second.1 (sym first.0 ∙ e ∙ second.0) in
    let more = same_lines limit lines others t.0 u.0 rest left same.1 (omega (arith, l)) t.2 u.2 in
    (λ i. same.0 i ∷ more.0 i, more.1)

pub same_cuts : (limit : ℕ) (limits : Limits) (digest : Digest) (pieces parts lines others rest left : List (List ℕ)) → concat_pieces pieces ≡ concat_pieces parts → length lines ≡ length others → TakesLines limit pieces lines rest → TakesLines limit parts others left → (lines ≡ others) × (cut_of_pieces limits digest rest ≡ cut_of_pieces limits digest left)
same_cuts limit limits digest pieces parts lines others rest left e l t u =
    let same = same_lines limit lines others pieces parts rest left e l t u in (
      same.0,
      cut_of_pieces_from-concat_pieces limits digest (Ok (start 0)) rest ∙ ap (cut_from limits digest (Ok (start 0))) same.1 ∙ sym (cut_of_pieces_from-concat_pieces limits digest (Ok (start 0)) left),
    )

-- octets before an end of a line are no more than the line
no_longer : (xs ys line rest : List ℕ) → has_no_lf xs ≡ true → xs ++ ys ≡ line ++ 10 ∷ rest → length xs ≤ length line
no_longer [] ys line rest n e = omega arith
no_longer (x ∷ xs) ys [] rest n e =
    let same : x ≡ 10 = ap (λ (t : List ℕ). get_or t 0 0) e in
    let p = and_parts (not (eqb x 10)) (has_no_lf xs) n in
    absurd (false≢true (sym (ap not (eq-eqb x 10 same)) ∙ p.0))
no_longer (x ∷ xs) ys (y ∷ line) rest n e =
    let less = no_longer xs ys line rest (and_parts (not (eqb x 10)) (has_no_lf xs) n).1 (ap (λ (t : List ℕ). drop 1 t) e) in omega arith

-- a stream that begins with a line within the limit gives it
take_line : (pieces : List (List ℕ)) (state : CutterState) (line rest : List ℕ) → IsOpenLine state → has_no_lf line ≡ true → length line ≤ state.limit → state.line ++ concat_pieces pieces ≡ line ++ 10 ∷ rest → (left : List (List ℕ)) × TakesLine state pieces line left × (concat_pieces left ≡ rest)
take_line [] state line rest o n l e =
    absurd (no_cut (line, rest) (cut_at 10 state.line) (lacks_uncut 10 state.line o.no_lf) (ap (cut_at 10) (sym (append-nil state.line) ∙ e) ∙ cut_complete 10 line rest n))
take_line (piece ∷ pieces) state line rest o n l e = by_cut (λ new inside more e. take_line pieces new line rest inside n more e) (cut_at 10 piece) refl
  where
    by_cut : ((new : CutterState) → IsOpenLine new → length line ≤ new.limit → new.line ++ concat_pieces pieces ≡ line ++ 10 ∷ rest → (left : List (List ℕ)) × TakesLine new pieces line left × (concat_pieces left ≡ rest)) → (cut : Option (List ℕ × List ℕ)) → cut_at 10 piece ≡ cut → (left : List (List ℕ)) × TakesLine state (piece ∷ pieces) line left × (concat_pieces left ≡ rest)
    by_cut later None c =
        let text : List ℕ = state.line ++ piece in
        let no_lf : has_no_lf text ≡ true = no_lf_both state.line piece o.no_lf (uncut_lacks 10 piece c) in
        let stream : text ++ concat_pieces pieces ≡ line ++ 10 ∷ rest = append_assoc state.line piece (concat_pieces pieces) ∙ e in
        let short : length text ≤ length line = no_longer text (concat_pieces pieces) line rest no_lf stream in
        let new : CutterState = record { limit = state.limit; line = text } in
        let inside : IsOpenLine new = record { within = omega arith; no_lf = no_lf } in
        let more = later new inside l stream in
        (more.0, inl (new, record { open_line = inside; limit = refl; line_is = refl }, more.1), more.2)
    by_cut later (Some parts) c =
        let text : List ℕ = state.line ++ parts.0 in
        let no_lf : has_no_lf text ≡ true = no_lf_both state.line parts.0 o.no_lf (cut_lacks 10 piece parts c) in
        let whole : state.line ++ piece ≡ text ++ 10 ∷ parts.1 = ap (λ (t : List ℕ). state.line ++ t) (cut_sound 10 piece parts c) ∙ sym (append_assoc state.line parts.0 (10 ∷ parts.1)) in
        let stream : text ++ 10 ∷ (parts.1 ++ concat_pieces pieces) ≡ line ++ 10 ∷ rest =
        sym (append_assoc text (10 ∷ parts.1) (concat_pieces pieces)) ∙ ap (λ (t : List ℕ). t ++ concat_pieces pieces) (sym whole) ∙ append_assoc state.line piece (concat_pieces pieces) ∙ e in
        let same = one_line text line (parts.1 ++ concat_pieces pieces) rest no_lf n stream in
        let new : CutterState = record { limit = state.limit; line = [] } in
        let ends : EndsLine state piece new line parts.1 = record {
          within = l;
          no_lf = n;
          stream_is = whole ∙ ap (λ (t : List ℕ). t ++ 10 ∷ parts.1) same.0;
          new_is = refl;
        } in
        (parts.1 ∷ pieces, inr (new, parts.1, ends, refl), same.1)

pub line_found : (limit : ℕ) (pieces : List (List ℕ)) (line rest : List ℕ) → IsLineWithin limit line → concat_pieces pieces ≡ line ++ 10 ∷ rest → (left : List (List ℕ)) × TakesLine (at_start limit) pieces line left × (concat_pieces left ≡ rest)
line_found limit pieces line rest w e = take_line pieces (at_start limit) line rest (record { within = omega arith; no_lf = refl }) w.0 w.1 e
