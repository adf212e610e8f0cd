use Rattle.std.specs.Option.{option_copied}
use Rattle.rev1_front.proofs.ClientLemmas.{uid_by, uid_none}
use Rattle.rev1_front.proofs.search_commands.take_uid.Goals as goal

pub returns-in-None : goal.returns-in-None
returns-in-None c = uid_none c.args.mode (option_copied c.args.days) c.args.parts.frame.now c.args.parts.tag.now c.args.parts.rest.now c.in-None.ensures

pub returns-in-Some : goal.returns-in-Some
returns-in-Some c =
    let f = c.in-Some.ensures in
    uid_by c.args.mode (option_copied c.args.days) c.args.parts.frame.now c.args.parts.tag.now c.args.parts.rest.now f.0 c.in-Some.rest.now c.take_search.result f.1 f.2 f.3 c.take_search.ensures
