use Rattle.std.proofs.Common.{sym, ◌∙◌, ap}
use Rattle.crdt_ops.proofs.PartLemmas.{cut_shorter}
use Rattle.op_log.specs.Formats.{is_above}
use Rattle.op_log.proofs.DamageLemmas.{beyond_uncut, beyond_cut_true, beyond_cut_false}
use Rattle.op_log.proofs.damage.is_damaged.Goals as goal

pub returns-then-is_above : goal.returns-then-is_above
returns-then-is_above c =
    sym (beyond_cut_true c.args.octets c.loop-line.left.now c.in-Some.line.now c.in-Some.next.now (sym c.in-Some.ensures) (sym (c.if-is_above.ensures ∙ ap (is_above c.args.octets) c.line_synced.ensures)))
    ∙ c.loop-line.invariant

pub loop-line-smaller : goal.loop-line-smaller
loop-line-smaller c = cut_shorter 10 c.loop-line.left.now c.in-Some.line.now c.in-Some.next.now (sym c.in-Some.ensures)

pub loop-line-preserved : goal.loop-line-preserved
loop-line-preserved c =
    beyond_cut_false c.args.octets c.loop-line.left.now c.in-Some.line.now c.in-Some.next.now (sym c.in-Some.ensures) (sym (c.if-is_above.ensures ∙ ap (is_above c.args.octets) c.line_synced.ensures))
    ∙ c.loop-line.invariant

pub returns : goal.returns
returns c = sym (beyond_uncut c.args.octets c.loop-line.left.now (sym c.in_default.ensures)) ∙ c.loop-line.invariant
