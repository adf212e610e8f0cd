use Rattle.imap_commands.proofs.PlaceLemmas.{uids_step}
use Rattle.imap_commands.proofs.copy_command.uids_from.Goals as goal

pub loop-place-preserved : goal.loop-place-preserved
loop-place-preserved c = uids_step c.args.rows.now c.loop-place.place c.loop-place.uids.items _ _ (c.in_ok-push_uid.ensures {u = tt}) c.loop-place.invariant
