use Rattle.std.specs.Option.{option_copied}
use Rattle.rev1_front.proofs.ClientLemmas.{fault_by}
use Rattle.rev1_front.proofs.client_frames.take_unspelled.Goals as goal

pub returns-in-NoMemory : goal.returns-in-NoMemory
returns-in-NoMemory c =
    fault_by c.take_fault.result c.args.mode (option_copied c.args.days) c.args.frame.now c.args.why c.requires (λ other. absurd (other c.in-NoMemory.is)) c.take_fault.ensures
