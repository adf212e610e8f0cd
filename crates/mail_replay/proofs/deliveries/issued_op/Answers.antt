use Rattle.std.proofs.Common.{rules, ◌≡◌, ap, subst, ◌∙◌, sym}
use Rattle.crdt_ops.specs.declared.op.Op.{Op}
use Rattle.merge_laws.specs.Orders.{IsIn}
use Rattle.mail_replay.proofs.ScriptStateLemmas.{never_issued, slice_get_some}
use Rattle.mail_replay.specs.ScriptState.{script_contents_of}
use Rattle.mail_replay.proofs.deliveries.issued_op.Goals as goal
use Rattle.crdt_ops.specs.Ops.{id_of}

pub returns-in_default-find-clause-bad : goal.returns-in_default-find-clause-bad
returns-in_default-find-clause-bad c =
    λ _ op. never_issued (script_contents_of c.args.setup.now) c.args.id op c.in-Some.place c.index.result.now (search rules)
    (slice_get_some _ _ _ _ c.deref.ensures.value c.in-Some.ensures.within c.index.ensures) (c.in_default-find.ensures {u = tt})

pub returns-clause-ok : goal.returns-clause-ok
returns-clause-ok c =
    let is_issued = c.in-Some-find.ensures {u = tt} in
    let same : c.in_ok-copy.copy ≡ c.in-Some-find.op.now = c.in_ok-copy.ensures {u = tt} in (
      c.in-Some.place,
      c.index.result.now,
      (search rules, slice_get_some _ _ _ _ c.deref.ensures.value c.in-Some.ensures.within c.index.ensures),
      subst (λ (o : Op). IsIn o c.index.result.now.issued) (sym same) is_issued.0,
      ap id_of same ∙ is_issued.1,
    )
