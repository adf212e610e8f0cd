use Rattle.std.proofs.Common.{inl, inr}
use Rattle.std.specs.Option.{option_copied}
use Rattle.rev1_front.proofs.ClientLemmas.{fault_by, front_form_none, front_form_some}
use Rattle.rev1_front.proofs.FrameLemmas.{unspelled}
use Rattle.rev1_front.proofs.client_frames.take_other.Goals as goal

pub returns-in-None : goal.returns-in-None
returns-in-None c =
    let days = option_copied c.args.days in
    fault_by c.take_fault.result c.args.mode days c.args.frame.now c.args.why c.requires.fault (λ other. front_form_none c.args.mode days c.args.frame.now c.in_ok-take_front.field-0 c.in_ok-take_front.ensures c.in-None.is) c.take_fault.ensures

pub returns-in-Some : goal.returns-in-Some
returns-in-Some c =
    let days = option_copied c.args.days in
    inr (inl (unspelled c.args.frame.now c.args.why c.requires.fault c.requires.memory, front_form_some c.args.mode days c.args.frame.now c.in_ok-take_front.field-0 c.in_ok-take_front.ensures c.in-Some.taken c.in-Some.is))
