use Rattle.std.proofs.Common.{◌∙◌, arith, sym}
use Rattle.mail_text.proofs.WordLemmas.{continuation_tail, after_continuation}
use Rattle.mail_fields.proofs.field_values.after_continuations.Goals as goal

pub returns-then-not-is_continuation-clause-cut : goal.returns-then-not-is_continuation-clause-cut
returns-then-not-is_continuation-clause-cut c = after_continuation c.args.text.now c.loop.rest.now c.loop.invariant.1 (sym c.is_continuation.ensures ∙ c.if-not-is_continuation.true)

pub loop-preserved : goal.loop-preserved
loop-preserved c =
    let i = c.loop.invariant.0 in
    let s = c.first_line.ensures.shorter in (
      omega arith,
      continuation_tail c.args.text.now c.loop.rest.now c.first_line.result.0.now c.first_line.result.1.now c.loop.invariant.1 c.first_line.ensures.lines c.first_line.ensures.parts
          (sym c.is_continuation.ensures ∙ c.if-not-is_continuation.false),
    )
