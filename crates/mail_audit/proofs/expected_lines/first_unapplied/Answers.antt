use Rattle.std.proofs.Common.{subst, sym, rules}
use Rattle.std.proofs.lemmas.List.{take_all}
use Rattle.crdt_ops.specs.declared.op.Op.{Op}
use Rattle.merge_laws.specs.Orders.{IsIn}
use Rattle.tags_clocks.specs.Clock.{IsCause}
use Rattle.mail_audit.proofs.AppliedLemmas.{all_take_next}
use Rattle.mail_audit.proofs.expected_lines.first_unapplied.Goals as goal

pub loop-place-preserved : goal.loop-place-preserved
loop-place-preserved c =
    all_take_next (λ (o : Op). IsCause c.args.clock.now o.id) c.args.ops.now c.loop-place.place c.index-ops-place.result c.loop-place-test.true c.index-ops-place.is c.loop-place.invariant
    (subst (IsCause c.args.clock.now) c.id.ensures (c.covers.ensures.0 (search rules)))

pub returns : goal.returns
returns c = λ o h. c.loop-place.invariant o (subst (IsIn o) (sym (take_all c.loop-place.place c.args.ops.now c.loop-place-test.false)) h)
