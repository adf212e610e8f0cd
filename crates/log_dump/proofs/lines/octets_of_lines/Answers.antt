use Rattle.std.proofs.Common.{◌≡◌, ◌<◌, arith, length, sym}
use Rattle.log_dump.proofs.LineCountLemmas.{line_is_left, line_passed, next_within}
use Rattle.log_dump.proofs.lines.octets_of_lines.Goals as goal

pub returns-in_default : goal.returns-in_default
returns-in_default c = λ texts after are whole count.
    let within : c.loop-line._line < length texts = omega (arith, count, c.loop-line-test.true) in
    absurd (line_is_left texts after c.loop-line.rest.now c.loop-line._line within (c.loop-line.invariant.left texts after are whole count) (sym c.in_default.ensures))

pub loop-line-preserved : goal.loop-line-preserved
loop-line-preserved c = record {
  within = next_within c.args.log.now c.loop-line.rest.now c.in-Some.field-0-0.now c.in-Some.after.now c.loop-line.invariant.within (sym c.in-Some.ensures);
  left = λ texts after are whole count.
      let within : c.loop-line._line < length texts = omega (arith, count, c.loop-line-test.true) in
      line_passed texts after c.loop-line.rest.now c.in-Some.field-0-0.now c.in-Some.after.now c.loop-line._line within (c.loop-line.invariant.left texts after are whole count) (sym c.in-Some.ensures);
}
