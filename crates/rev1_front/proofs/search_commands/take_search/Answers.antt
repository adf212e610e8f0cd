use Rattle.std.proofs.Common.{Some, None, ap, sym}
use Rattle.std.specs.Option.{option_copied}
use Rattle.rev1_front.proofs.ClientLemmas.{search_along}
use Rattle.rev1_front.proofs.search_commands.take_search.Goals as goal

pub returns-in-None : goal.returns-in-None
returns-in-None c =
    search_along c.search_without_days.result c.args.mode None (option_copied c.args.days) c.args.parts.frame.now c.args.by_uid c.args.parts.tag.now c.args.parts.rest.now (sym (ap option_copied c.in-None.is)) c.search_without_days.ensures

pub returns-in-Some : goal.returns-in-Some
returns-in-Some c =
    search_along c.search_with_days.result c.args.mode (Some c.in-Some.days.now) (option_copied c.args.days) c.args.parts.frame.now c.args.by_uid c.args.parts.tag.now c.args.parts.rest.now (sym (ap option_copied c.in-Some.is)) c.search_with_days.ensures
