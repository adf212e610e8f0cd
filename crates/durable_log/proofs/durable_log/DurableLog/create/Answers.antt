use Rattle.std.proofs.Common.{◌≤◌, List, ℕ, ◌++◌, ◌∙◌, ap, arith, length, refl, take}
use Rattle.op_log.specs.Entries.{lines_of}
use Rattle.durable_log.specs.Devices.{with_octets_at}
use Rattle.durable_log.specs.Logs.{first_entries}
use Rattle.durable_log.proofs.LogLemmas.{entries_of_new}
use Rattle.durable_log.proofs.durable_log.DurableLog.create.Goals as goal

pub returns-clause-entries : goal.returns-clause-entries
returns-clause-entries g c = λ known.
    let state = g.D.LogDevice.state in
    let before = state c.args.device in
    let replica = c.args.replica in
    let lines = c.push_first_batch.new.log.items in
    let cut = c.in-Ok-cut.ensures.contents known (omega arith) in
    let known_cut = c.cut.ensures.known ∙ known in
    let written = c.in-Ok-write.ensures.written known_cut (omega arith) ∙ ap (λ (xs : List ℕ). with_octets_at 0 xs (state c.cut.new.self).contents) c.deref.ensures.value ∙ ap (with_octets_at 0 lines) cut in
    let raised : length lines ≤ (state c.write.new.self).certain = omega (arith, c.in-Ok-write.ensures.raised known_cut (omega arith), ap (λ (xs : List ℕ). length xs) c.deref.ensures.value) in
    let known_write = c.write.ensures.known ∙ known_cut in
    entries_of_new state replica _ lines before.contents (state c.write.new.self).certain (c.sync.ensures.known ∙ known_write) refl
    (c.in-Ok.ensures.lines ∙ ap (λ (xs : List ℕ). xs ++ lines_of (first_entries replica)) c.new-lines.ensures.items) c.push_first_batch.ensures.lawful
    (c.in-Ok-sync.ensures.contents known_write ∙ written) (c.in-Ok-sync.ensures.synced known_write ∙ ap (take (state c.write.new.self).certain) written) raised (c.in-Ok-sync.ensures.certain known_write)
    (omega (arith, c.len-octets.ensures, c.push_first_batch.new.log.ok.0)) (omega (arith, c.len-octets.ensures, c.push_first_batch.new.log.ok.0)) refl refl refl refl
