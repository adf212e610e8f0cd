use Rattle.std.proofs.Common.{ℕ, ◌∙◌, ap, min, take}
use Rattle.std.proofs.lemmas.List.{take_min}
use Rattle.durable_log.proofs.memory.MemoryDeviceLogDevice.sync.Goals as goal

pub returns-clause-synced : goal.returns-clause-synced
returns-clause-synced c = λ known.
    let device = c.args.self.now in
    let items = device.octets.items in
    ap (λ (n : ℕ). take n items) (c.lesser-self.ensures ∙ ap (min device.certain) (c.len.ensures ∙ device.octets.ok.0)) ∙ take_min device.certain items
