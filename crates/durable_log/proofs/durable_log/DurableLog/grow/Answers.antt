use Rattle.std.proofs.Common.{List, ℕ, ◌∙◌, ap, arith, refl}
use Rattle.durable_log.specs.Devices.{with_octets_at}
use Rattle.durable_log.proofs.DeviceLemmas.{place_within, prefix_of_padded}
use Rattle.durable_log.proofs.LogLemmas.{entries_after_full, entries_after_grow, room_within, synced_after_cut, synced_after_write}
use Rattle.durable_log.proofs.durable_log.DurableLog.grow.Goals as goal

pub returns-in-Ok-write-clause-entries : goal.returns-in-Ok-write-clause-entries
returns-in-Ok-write-clause-entries g c = λ replica synced_entries entries h works.
    let state = g.D.LogDevice.state in
    let old = c.args.self.now in
    let zeros = c.in-Ok.zeros.items in
    let place = c.in-Some.place in
    let fits = room_within state replica old synced_entries entries place h (omega (arith, c.in-Some.ensures)) in
    entries_after_grow state replica old _ place c.in-Some-checked_add.room zeros synced_entries entries h refl (omega (arith, c.in-Some.ensures)) (omega (arith, c.in-Some-checked_add.ensures, c.in-Ok.ensures.count)) c.in-Ok.ensures.zeros
    (c.write.ensures.known ∙ h.known) (c.in-Ok-write.ensures.written h.known fits ∙ ap (λ (xs : List ℕ). with_octets_at place xs (state old.device).contents) c.deref.ensures.value) (c.write.ensures.synced h.known) (c.write.ensures.certain h.known)

pub returns-in-Ok-write-clause-still : goal.returns-in-Ok-write-clause-still
returns-in-Ok-write-clause-still g c = λ replica synced_entries entries h.
    synced_after_write g.D.LogDevice.state replica c.args.self.now synced_entries entries c.in-Some.place _ h (omega (arith, c.in-Some.ensures)) (c.write.ensures.synced h.known)

pub returns-in-Ok-cut-clause-entries : goal.returns-in-Ok-cut-clause-entries
returns-in-Ok-cut-clause-entries g c = λ replica synced_entries entries h works.
    let state = g.D.LogDevice.state in
    let old = c.args.self.now in
    let place = c.in-Some.place in
    let fits = room_within state replica old synced_entries entries place h (omega (arith, c.in-Some.ensures)) in
    let known_write = c.write.ensures.known ∙ h.known in
    let front = c.in-Err-NoSpace.ensures.front h.known fits in
    entries_after_full state replica old _ place (state c.write.new.self) synced_entries entries h refl (omega (arith, c.in-Some.ensures)) (c.cut.ensures.known ∙ known_write) front
    (c.in-Ok-cut.ensures.contents known_write (place_within place (state old.device).contents (state c.write.new.self).contents fits front)) (c.write.ensures.synced h.known) (c.cut.ensures.synced known_write) (c.write.ensures.certain h.known) (c.cut.ensures.certain known_write)

pub returns-in-Ok-cut-clause-still : goal.returns-in-Ok-cut-clause-still
returns-in-Ok-cut-clause-still g c = λ replica synced_entries entries h.
    let state = g.D.LogDevice.state in
    prefix_of_padded _ _ (synced_after_cut state replica c.args.self.now synced_entries entries c.in-Some.place (state c.write.new.self).synced (state c.cut.new.self).synced h (omega (arith, c.in-Some.ensures)) (c.write.ensures.synced h.known) (c.cut.ensures.synced (c.write.ensures.known ∙ h.known)))

pub returns-in-Err-NoSpace-clause-still : goal.returns-in-Err-NoSpace-clause-still
returns-in-Err-NoSpace-clause-still g c = λ replica synced_entries entries h.
    let state = g.D.LogDevice.state in
    prefix_of_padded _ _ (synced_after_cut state replica c.args.self.now synced_entries entries c.in-Some.place (state c.write.new.self).synced (state c.cut.new.self).synced h (omega (arith, c.in-Some.ensures)) (c.write.ensures.synced h.known) (c.cut.ensures.synced (c.write.ensures.known ∙ h.known)))

pub returns-clause-still : goal.returns-clause-still
returns-clause-still g c = λ replica synced_entries entries h.
    synced_after_write g.D.LogDevice.state replica c.args.self.now synced_entries entries c.in-Some.place _ h (omega (arith, c.in-Some.ensures)) (c.write.ensures.synced h.known)
