use Rattle.std.proofs.Common.{◌≤◌, List, ℕ, ◌∙◌, ap, arith, cond, length, refl, subst, sym, take}
use Rattle.durable_log.specs.Devices.{with_octets_at}
use Rattle.durable_log.proofs.LogLemmas.{entries_of_opened}
use Rattle.durable_log.proofs.durable_log.DurableLog.open.Goals as goal

pub returns-clause-entries : goal.returns-clause-entries
returns-clause-entries g c = λ replica entries h certain.
    let state = g.D.LogDevice.state in
    let log = c.args.recovered in
    let octets = log.layout.octets in
    let before = (state log.device).contents in
    let again = c.in-Ok.ensures.written h.known h.layout.place_within ∙ ap (λ (xs : List ℕ). with_octets_at log.layout.place xs before) c.deref.ensures.value ∙ h.layout.rewritten in
    let raised : octets ≤ (state c.write.new.self).certain =
    omega (arith, c.in-Ok.ensures.raised h.known (h.layout.place_certain (state log.device).certain certain), ap (λ (xs : List ℕ). length xs) c.deref.ensures.value, h.layout.unsynced_end) in
    let known_write = c.write.ensures.known ∙ h.known in
    let within = subst (λ (xs : List ℕ). octets ≤ length xs) (sym again) h.layout.within in
    let cut = c.in-Ok-cut_torn_end.ensures.contents known_write within ∙ ap (λ (xs : List ℕ). cond log.layout.is_padded xs (take octets xs)) again in
    let still : (state c.write.new.self).certain ≤ (state c.cut_torn_end.new.device).certain = c.cut_torn_end.ensures.certain known_write in
    let known_cut = c.cut_torn_end.ensures.known ∙ known_write in
    entries_of_opened state replica _ log entries (state c.cut_torn_end.new.device).certain h (c.sync.ensures.known ∙ known_cut) refl
    (c.in-Ok-sync.ensures.contents known_cut ∙ cut) (c.in-Ok-sync.ensures.synced known_cut ∙ ap (take (state c.cut_torn_end.new.device).certain) cut) (omega arith) (c.in-Ok-sync.ensures.certain known_cut)
    refl refl refl refl refl refl
