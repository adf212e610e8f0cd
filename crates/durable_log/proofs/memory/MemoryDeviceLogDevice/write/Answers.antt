use Rattle.std.proofs.Common.{ℕ, ◌≤◌, drop, ◌∙◌, ap, arith, length, min, sym, take}
use Rattle.std.proofs.lemmas.List.{take-append-drop}
use Rattle.durable_log.proofs.DeviceLemmas.{take_before, take_both}
use Rattle.durable_log.proofs.memory.MemoryDeviceLogDevice.write.Goals as goal

pub returns-then-len-place-clause-synced : goal.returns-then-len-place-clause-synced
returns-then-len-place-clause-synced c = λ known.
    let device = c.args.self.now in
    ap (λ (n : ℕ). take n device.octets.items) c.lesser-self.ensures ∙ sym (take_both device.synced c.args.place device.octets.items)

pub returns-in_default-clause-synced : goal.returns-in_default-clause-synced
returns-in_default-clause-synced c = λ known.
    let device = c.args.self.now in
    ap (λ (n : ℕ). take n device.octets.items) c.lesser-self.ensures ∙ sym (take_both device.synced c.args.place device.octets.items)

pub returns-in_default-clause-front : goal.returns-in_default-clause-front
returns-in_default-clause-front c = λ known within. let items = c.args.self.now.octets.items in (drop c.args.place items, sym (take-append-drop c.args.place items))

pub returns-in-Ok-clause-synced : goal.returns-in-Ok-clause-synced
returns-in-Ok-clause-synced c = λ known.
    let device = c.args.self.now in
    let items = device.octets.items in
    let front = c.write_at.ensures.front in
    let within : c.args.place ≤ length items = omega (arith, c.if-len-place.false, c.len.ensures, device.octets.ok.0) in
    ap (λ (n : ℕ). take n c.write_at.new.contents.items) c.lesser-self.ensures ∙ ap (take (min device.synced c.args.place)) front.1 ∙ take_before device.synced c.args.place items front.0 within

pub returns-in-Err-clause-synced : goal.returns-in-Err-clause-synced
returns-in-Err-clause-synced c = λ known.
    let device = c.args.self.now in
    let items = device.octets.items in
    let front = c.write_at.ensures.front in
    let within : c.args.place ≤ length items = omega (arith, c.if-len-place.false, c.len.ensures, device.octets.ok.0) in
    ap (λ (n : ℕ). take n c.write_at.new.contents.items) c.lesser-self.ensures ∙ ap (take (min device.synced c.args.place)) front.1 ∙ take_before device.synced c.args.place items front.0 within
