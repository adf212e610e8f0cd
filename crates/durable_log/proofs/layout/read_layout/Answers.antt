use Rattle.std.proofs.Common.{◌∙◌, refl}
use Rattle.durable_log.proofs.LayoutLemmas.{contents_fault_is, kept_from, layout_found}
use Rattle.durable_log.proofs.layout.read_layout.Goals as goal

pub returns-in-Some-contents_fault-clause-fault : goal.returns-in-Some-contents_fault-clause-fault
returns-in-Some-contents_fault-clause-fault g c = λ replica entries known h.
    let log = (g.D.LogDevice.state c.args.device.now).contents in
    let found = c.args.found.now in
    let rest = kept_from log c.deref.result.now c.in-Some.rest.now found.start found.octets (c.deref.ensures.value ∙ h.kept) c.in-Some.ensures in
    contents_fault_is replica log c.in-Some.rest.now entries found c.in-Some-contents_fault.fault h rest c.in-Some-contents_fault.ensures

pub returns-clause-layout : goal.returns-clause-layout
returns-clause-layout g c = λ replica entries known h.
    let log = (g.D.LogDevice.state c.args.device.now).contents in
    let found = c.args.found.now in
    let rest = kept_from log c.deref.result.now c.in-Some.rest.now found.start found.octets (c.deref.ensures.value ∙ h.kept) c.in-Some.ensures in
    layout_found replica log c.in-Some.rest.now entries found c.lesser-place.result _ h rest c.in_default-contents_fault.ensures c.lesser-place.ensures refl refl c.are_zeros-is_padded.ensures
    c.room_after-room.ensures (c.in-Ok.ensures.octets replica entries known h)
