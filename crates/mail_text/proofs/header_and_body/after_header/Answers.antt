use Rattle.std.proofs.Common.{◌∙◌, sym, arith}
use Rattle.mail_text.proofs.PartLemmas.{ends, within_tail}
use Rattle.mail_text.proofs.header_and_body.after_header.Goals as goal

pub returns-then-is_empty_line-clause-cut : goal.returns-then-is_empty_line-clause-cut
returns-then-is_empty_line-clause-cut c =
    ends c.args.text.now c.loop.rest.now c.first_line.result.0.now c.first_line.result.1.now c.loop.invariant.1 c.first_line.ensures.lines c.first_line.ensures.parts
    (sym c.is_empty_line.ensures ∙ c.if-is_empty_line.true)

pub loop-preserved : goal.loop-preserved
loop-preserved c =
    let i = c.loop.invariant.0 in
    let s = c.first_line.ensures.shorter in (
      omega arith,
      within_tail c.args.text.now c.loop.rest.now c.first_line.result.0.now c.first_line.result.1.now c.loop.invariant.1 c.first_line.ensures.lines c.first_line.ensures.parts
          (sym c.is_empty_line.ensures ∙ c.if-is_empty_line.false),
    )
