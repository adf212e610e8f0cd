use Rattle.std.specs.Option.{option_copied}
use Rattle.rev1_front.proofs.ClientLemmas.{front_by, no_front}
use Rattle.rev1_front.proofs.client_frames.take_front.Goals as goal

pub returns-in-None : goal.returns-in-None
returns-in-None c = no_front c.args.mode (option_copied c.args.days) c.args.frame.now c.in-None.ensures

pub take_worded-requires : goal.take_worded-requires
take_worded-requires c = let w = c.in-Some.ensures in w.1.0

pub returns-in-Some : goal.returns-in-Some
returns-in-Some c =
    front_by c.args.mode (option_copied c.args.days) c.args.frame.now c.in-Some.tag.now c.in-Some.rest.now c.in-Some.word c.take_worded.result c.in-Some.ensures c.take_worded.ensures
