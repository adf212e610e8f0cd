use Rattle.std.proofs.Common.{ℕ, ◌∙◌, ap, min, take}
use Rattle.durable_log.proofs.DeviceLemmas.{take_cut}
use Rattle.durable_log.proofs.memory.MemoryDeviceLogDevice.cut.Goals as goal

pub returns-clause-synced : goal.returns-clause-synced
returns-clause-synced c = λ known.
    let device = c.args.self.now in
    ap (λ (n : ℕ). take n c.truncate.new.self.items) c.lesser-self.ensures ∙ ap (take (min device.synced c.args.octets)) c.truncate.ensures.items ∙ take_cut device.synced c.args.octets device.octets.items
