use Rattle.imap_commands.proofs.PlaceLemmas.{expunges_step}
use Rattle.imap_commands.proofs.expunge_command.expunges_of.Goals as goal

pub loop-place-preserved : goal.loop-place-preserved
loop-place-preserved c = expunges_step c.args.folder.now c.args.before.now c.loop-place.place c.loop-place.kinds.items _ _ (c.in_ok-push_expunge_at.ensures {u = tt}) c.loop-place.invariant
