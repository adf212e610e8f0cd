use Rattle.std.proofs.Common.{◌∙◌, sym, arith}
use Rattle.mail_parts.proofs.LineLemmas.{passed_line}
use Rattle.mail_parts.proofs.part_lines.body_size.Goals as goal

pub loop-preserved : goal.loop-preserved
loop-preserved c =
    let i = c.loop.invariant.far in
    let s = c.line_size-line.ensures.some in
    record {
      far = omega arith;
      passed = passed_line c.args.boundaries.now c.args.text.now c.split_at.result.1.now c.split_at-in-loop.result.0.now c.loop.size c.line_size-line.result c.loop.invariant.passed c.split_at.ensures.back
          c.split_at-in-loop.ensures.front c.line_size-line.ensures.within c.line_size-line.ensures.lines (sym c.is_delimiter.ensures ∙ c.if-is_delimiter.false);
    }
