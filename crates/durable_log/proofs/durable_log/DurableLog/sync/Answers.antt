use Rattle.std.proofs.Common.{◌∙◌, refl}
use Rattle.durable_log.proofs.LogLemmas.{entries_after_sync, synced_still}
use Rattle.durable_log.proofs.durable_log.DurableLog.sync.Goals as goal

pub returns-clause-ok : goal.returns-clause-ok
returns-clause-ok g c = λ replica synced_entries entries h.
    entries_after_sync g.D.LogDevice.state replica c.args.self.now _ synced_entries entries h (c.sync.ensures.known ∙ h.known) refl
    (c.in-Ok.ensures.contents h.known) (c.in-Ok.ensures.synced h.known) (c.in-Ok.ensures.certain h.known) refl refl refl refl refl refl

pub returns-in_default-clause-still : goal.returns-in_default-clause-still
returns-in_default-clause-still g c = λ replica synced_entries entries h.
    synced_still g.D.LogDevice.state replica c.args.self.now synced_entries entries (g.D.LogDevice.state c.sync.new.self).synced h (c.in_default.ensures.still h.known)
