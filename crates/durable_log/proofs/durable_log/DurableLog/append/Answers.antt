use Rattle.std.proofs.Common.{◌≡◌, ◌≤◌, ◌+◌, List, ℕ, ◌++◌, ◌-◌, ◌∙◌, ap, arith, length, refl}
use Rattle.op_log.specs.Entries.{lines_of}
use Rattle.durable_log.specs.Devices.{with_octets_at}
use Rattle.durable_log.specs.Logs.{batch_entries}
use Rattle.durable_log.proofs.LogLemmas.{entries_after_write, synced_after_write, written_certain, written_within}
use Rattle.durable_log.proofs.durable_log.DurableLog.append.Goals as goal

pub returns-clause-ok : goal.returns-clause-ok
returns-clause-ok g c = λ replica synced_entries entries h.
    let state = g.D.LogDevice.state in
    let old = c.args.self.now in
    let batch = c.push_batch.new.log.items in
    let lines = c.in-Ok.ensures.lines ∙ ap (λ (xs : List ℕ). xs ++ lines_of (batch_entries c.args.ops.now old.synced)) c.new-batch.ensures.items in
    let within = written_within state replica old synced_entries entries h in
    let certain = written_certain state replica old synced_entries entries h in
    let raised : old.written + length batch ≤ (state c.write.new.self).certain = omega (arith, c.in-Ok-write.ensures.raised h.known certain, ap (λ (xs : List ℕ). length xs) c.deref.ensures.value) in
    let long : c.len.result ≡ length batch = omega (arith, c.len.ensures, c.push_batch.new.log.ok.0) in
    entries_after_write state replica old _ synced_entries entries c.args.ops.now batch h (c.write.ensures.known ∙ h.known) refl lines c.in-Ok.ensures.lawful
    (c.in-Ok-write.ensures.written h.known within ∙ ap (λ (xs : List ℕ). with_octets_at old.written xs (state old.device).contents) c.deref.ensures.value) (c.write.ensures.synced h.known) raised
    (omega (arith, c.in-Some.ensures, long)) refl (omega (arith, c.saturating_sub-self.ensures, c.len-2.ensures, c.push_batch.new.log.ok.0)) (omega (arith, c.in-Some-checked_add.ensures)) refl refl

pub returns-in_default-write-clause-still : goal.returns-in_default-write-clause-still
returns-in_default-write-clause-still g c = λ replica synced_entries entries h.
    synced_after_write g.D.LogDevice.state replica c.args.self.now synced_entries entries c.args.self.now.written (g.D.LogDevice.state c.write.new.self).synced h (omega arith) (c.write.ensures.synced h.known)
