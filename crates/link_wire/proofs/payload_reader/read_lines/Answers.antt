use Rattle.std.proofs.Common.{◌≡◌, ◌∙◌, false, eqb, eq-eqb, length, sym, ap}
use Rattle.std.proofs.lemmas.Bool.{false≢true}
use Rattle.std.proofs.lemmas.Result.{err_from_is_err_and}
use Rattle.crdt_ops.proofs.PartLemmas.{cut_shorter}
use Rattle.link_wire.proofs.PayloadLemmas.{end_fails, line_fails, one_more}
use Rattle.link_wire.proofs.payload_reader.read_lines.Goals as goal

pub returns-in_err-read_message : goal.returns-in_err-read_message
returns-in_err-read_message c =
    let p = err_from_is_err_and c.from_residual.result c.from_residual.ensures.1 in
    rw (p.1, p.2) (line_fails _ c.args.payload.now c.loop-line.rest.now (c.in-Some.line.now, c.in-Some.after.now) c.loop-line.messages.items c.loop-line.invariant (sym c.in-Some.ensures) c.in_err-read_message.ensures)

pub loop-line-smaller : goal.loop-line-smaller
loop-line-smaller c = cut_shorter 10 c.loop-line.rest.now c.in-Some.line.now c.in-Some.after.now (sym c.in-Some.ensures)

pub loop-line-preserved : goal.loop-line-preserved
loop-line-preserved c =
    rw c.in_ok-push.ensures.items (one_more c.args.payload.now c.loop-line.rest.now (c.in-Some.line.now, c.in-Some.after.now) c.loop-line.messages.items _ c.loop-line.invariant (sym c.in-Some.ensures) c.in_ok-read_message.ensures)

pub returns-then-not-is_empty : goal.returns-then-not-is_empty
returns-then-not-is_empty c =
    end_fails c.args.payload.now c.loop-line.rest.now c.loop-line.messages.items c.loop-line.invariant (sym c.in_default.ensures)
    (λ e. let f : false ≡ eqb (length c.loop-line.rest.now) 0 = c.if-not-is_empty.ensures {u = tt} in false≢true (f ∙ eq-eqb (length c.loop-line.rest.now) 0 (ap length e)))
