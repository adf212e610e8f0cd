use Rattle.std.proofs.Common.{◌≤◌, arith, refl}
use Rattle.op_log.proofs.ReaderLemmas.{is_rest_at_end, line_octets}
use Rattle.op_log.proofs.lines_read.LinesRead.read_lines.Goals as goal

pub loop-text-init : goal.loop-text-init
loop-text-init c = record { way = λ replica log h. h; grows = λ replica log h. omega arith }

pub returns-in-Err-clause-fault : goal.returns-in-Err-clause-fault
returns-in-Err-clause-fault c = λ replica log h.
    c.in-Err.ensures.fault replica log c.loop-text.rest.now c.in-Some.after.now (c.loop-text.invariant.way replica log h) c.in-Some.ensures.0 c.in-Some.ensures.1

pub loop-text-preserved : goal.loop-text-preserved
loop-text-preserved c =
    let rest = c.loop-text.rest.now in
    let after = c.in-Some.after.now in
    let long = line_octets rest c.in-Some.text.now after _ _ c.in-Some.ensures.0 refl refl in
    record {
      way = λ replica log h. c.in_default-read_line.ensures.read replica log rest after (c.loop-text.invariant.way replica log h) c.in-Some.ensures.0 c.in-Some.ensures.1 long;
      grows = λ replica log h.
          let before : c.args.self.now.committed.octets ≤ c.loop-text.self.committed.octets = c.loop-text.invariant.grows replica log h in
          let more : c.loop-text.self.committed.octets ≤ c.read_line.new.self.committed.octets =
          c.in_default-read_line.ensures.grows replica log rest after (c.loop-text.invariant.way replica log h) c.in-Some.ensures.0 long in
          omega arith;
    }

pub returns-clause-read : goal.returns-clause-read
returns-clause-read c = λ replica log h. (
  c.loop-text.rest.now,
  c.loop-text.invariant.way replica log h,
  is_rest_at_end c.loop-text.rest.now c.has_line_end.result c.in_default.ensures c.has_line_end.ensures.some c.has_line_end.ensures.none,
)

pub returns-clause-grows : goal.returns-clause-grows
returns-clause-grows c = c.loop-text.invariant.grows
