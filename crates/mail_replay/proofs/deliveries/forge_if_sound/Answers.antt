use Rattle.std.proofs.Common.{inl, refl, subst}
use Rattle.crdt_ops.specs.declared.op.Op.{Op}
use Rattle.mail_replay.specs.Deliveries.{DeliversAndPrints}
use Rattle.mail_replay.specs.ScriptState.{script_contents_of}
use Rattle.mail_replay.specs.declared.deliveries.Source.TheVariants.{Forged}
use Rattle.mail_replay.proofs.ScriptStateLemmas.{on_ok}
use Rattle.mail_replay.proofs.deliveries.forge_if_sound.Goals as goal

pub returns-in-Ok-clause-ok : goal.returns-in-Ok-clause-ok
returns-in-Ok-clause-ok c =
    let checked = c.in-Ok.ensures {u = tt} in
    on_ok c.deliver_and_print.result
    (λ h. (h.0, inl (checked.exact.0 refl, subst (λ (o : Op). DeliversAndPrints (script_contents_of c.args.setup.now) Forged c.args.replica o h.0 (script_contents_of c.deliver_and_print.new.setup)) checked.sound h.1), h.2)) c.deliver_and_print.ensures.ok
