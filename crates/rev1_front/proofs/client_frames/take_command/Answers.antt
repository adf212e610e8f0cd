use Rattle.std.specs.Option.{option_copied}
use Rattle.rev1_front.proofs.ClientLemmas.{tagged_by}
use Rattle.rev1_front.proofs.FrameLemmas.{fault_of}
use Rattle.rev1_front.proofs.client_frames.take_command.Goals as goal

pub returns-in-Ok : goal.returns-in-Ok
returns-in-Ok c =
    tagged_by c.take_tagged.result c.args.mode (option_copied c.args.days) c.args.frame.now c.in-Ok.tagged c.form_of-form.result c.in-Ok.ensures.spelled c.form_of-form.ensures c.take_tagged.ensures

pub take_unspelled-requires : goal.take_unspelled-requires
take_unspelled-requires c = fault_of c.args.frame.now c.parse.result c.parse.ensures.only c.parse.ensures.no_tag c.parse.ensures.unknown c.in-Err.why c.in-Err.is
