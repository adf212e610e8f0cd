use Rattle.std.proofs.Common.{◌∙◌, sym, arith}
use Rattle.std.proofs.lemmas.Bool.{eqb-true}
use Rattle.mail_parts.proofs.LineLemmas.{end_empty, end_line, end_text, header_cut, header_line, header_none, header_whole}
use Rattle.mail_parts.proofs.part_lines.header_of.Goals as goal

pub loop-init : goal.loop-init
loop-init c = record { far = omega arith; passed = header_none c.args.boundaries.now c.args.text.now }

pub returns-then-is_empty : goal.returns-then-is_empty
returns-then-is_empty c =
    header_cut c.args.boundaries.now c.args.text.now c.loop.size _ _ c.loop.invariant.passed
    (end_empty c.args.boundaries.now c.args.text.now c.split_at.result.1.now c.loop.size c.split_at.ensures.back (eqb-true _ 0 (sym c.is_empty.ensures ∙ c.if-is_empty.true)))
    c.cut_header.ensures.size c.cut_header.ensures.whole

pub returns-then-is_delimiter : goal.returns-then-is_delimiter
returns-then-is_delimiter c =
    header_cut c.args.boundaries.now c.args.text.now c.loop.size _ _ c.loop.invariant.passed
    (end_line c.args.boundaries.now c.args.text.now c.split_at.result.1.now c.split_at-in-loop.result.0.now c.loop.size c.line_size-line.result c.split_at.ensures.back c.split_at-in-loop.ensures.front
    c.line_size-line.ensures.lines (sym c.is_delimiter.ensures ∙ c.if-is_delimiter.true))
    c.cut_header-then-is_delimiter.ensures.size c.cut_header-then-is_delimiter.ensures.whole

pub returns-then-is_empty_line : goal.returns-then-is_empty_line
returns-then-is_empty_line c =
    header_whole c.args.boundaries.now c.args.text.now c.split_at.result.1.now c.split_at-in-loop.result.0.now c.loop.size c.line_size-line.result c.loop.invariant.passed c.split_at.ensures.back
    c.split_at-in-loop.ensures.front c.line_size-line.ensures.within c.line_size-line.ensures.lines (sym c.is_delimiter.ensures ∙ c.if-is_delimiter.false) (sym c.is_empty_line.ensures ∙ c.if-is_empty_line.true)

pub loop-preserved : goal.loop-preserved
loop-preserved c =
    let i = c.loop.invariant.far in
    let s = c.line_size-line.ensures.some in
    record {
      far = omega arith;
      passed = header_line c.args.boundaries.now c.args.text.now c.split_at.result.1.now c.split_at-in-loop.result.0.now c.loop.size c.line_size-line.result c.loop.invariant.passed c.split_at.ensures.back
          c.split_at-in-loop.ensures.front c.line_size-line.ensures.within c.line_size-line.ensures.lines (sym c.is_delimiter.ensures ∙ c.if-is_delimiter.false) (sym c.is_empty_line.ensures ∙ c.if-is_empty_line.false);
    }

pub returns : goal.returns
returns c =
    let i = c.loop.invariant.far in
    header_cut c.args.boundaries.now c.args.text.now c.loop.size _ _ c.loop.invariant.passed (end_text c.args.boundaries.now c.args.text.now c.loop.size (omega arith)) c.cut_header-2.ensures.size c.cut_header-2.ensures.whole
