use Rattle.std.proofs.Common.{refl, subst}
use Rattle.mail_audit.proofs.StepLemmas.{phase_of_lines, compared_step, ops_append, op_no_end}
use Rattle.mail_audit.specs.DumpLines.{IsDumpLine, IsPhase}
use Rattle.mail_audit.specs.declared.open_dump.Comparison.{Comparison}
use Rattle.mail_audit.proofs.open_dump.OpenDump.take.Goals as goal

pub returns-in_ok-push-in-Op-clause-step : goal.returns-in_ok-push-in-Op-clause-step
returns-in_ok-push-in-Op-clause-step c = λ inside s n.
    let line = c.args.line.now in
    let read = subst (IsDumpLine line) c.in-Op.is c.in_ok-op-in-Ops.ensures in (
      ops_append inside line read.0 c.in-Ops.lines c.push.new.self c.in-Op.op (subst (IsPhase inside) c.in-Ops.is s) read.1 read.2 (c.in_ok-push-in-Op.ensures {u = tt}),
      op_no_end line read.0 read.1,
    )

pub returns-in_ok-step-in-Lines-clause-step : goal.returns-in_ok-step-in-Lines-clause-step
returns-in_ok-step-in-Lines-clause-step c = λ inside s n.
    let start : Comparison = record { lines = c.in-Lines.lines; pos = 0 } in
    let closed = c.in_ok-place-in-Other.ensures inside (subst (IsPhase inside) c.in-Ops.is s) in
    let has_taken = phase_of_lines inside c.in_ok-place-in-Other.field-0 start c.in-Lines.is refl closed in
    compared_step c.args.self.now.first inside c.args.line.now c.args.number start c.take-in-Lines.new.self c.in_ok-step-in-Lines.step has_taken n c.in_ok-step-in-Lines.ensures
