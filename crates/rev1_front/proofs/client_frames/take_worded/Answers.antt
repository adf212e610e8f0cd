use Rattle.std.proofs.Common.{sym}
use Rattle.std.specs.Option.{option_copied}
use Rattle.rev1_front.specs.declared.frame_parts.FrontWord.TheVariants as words
use Rattle.rev1_front.proofs.ClientLemmas.{worded_along}
use Rattle.rev1_front.proofs.client_frames.take_worded.Goals as goal

pub returns-in-Check : goal.returns-in-Check
returns-in-Check c =
    worded_along c.take_check.result c.args.mode (option_copied c.args.days) c.args.parts.frame.now c.args.parts.tag.now c.args.parts.rest.now words.Check c.args.word (sym c.in-Check.is) c.take_check.ensures

pub returns-in-Authenticate : goal.returns-in-Authenticate
returns-in-Authenticate c =
    worded_along c.take_authenticate.result c.args.mode (option_copied c.args.days) c.args.parts.frame.now c.args.parts.tag.now c.args.parts.rest.now words.Authenticate c.args.word (sym c.in-Authenticate.is) c.take_authenticate.ensures

pub returns-in-Lsub : goal.returns-in-Lsub
returns-in-Lsub c =
    worded_along c.take_lsub.result c.args.mode (option_copied c.args.days) c.args.parts.frame.now c.args.parts.tag.now c.args.parts.rest.now words.Lsub c.args.word (sym c.in-Lsub.is) c.take_lsub.ensures

pub returns-in-Rename : goal.returns-in-Rename
returns-in-Rename c =
    worded_along c.take_rename.result c.args.mode (option_copied c.args.days) c.args.parts.frame.now c.args.parts.tag.now c.args.parts.rest.now words.Rename c.args.word (sym c.in-Rename.is) c.take_rename.ensures

pub returns-in-Status : goal.returns-in-Status
returns-in-Status c =
    worded_along c.take_status.result c.args.mode (option_copied c.args.days) c.args.parts.frame.now c.args.parts.tag.now c.args.parts.rest.now words.Status c.args.word (sym c.in-Status.is) c.take_status.ensures

pub returns-in-Search : goal.returns-in-Search
returns-in-Search c =
    worded_along c.take_search.result c.args.mode (option_copied c.args.days) c.args.parts.frame.now c.args.parts.tag.now c.args.parts.rest.now words.Search c.args.word (sym c.in-Search.is) c.take_search.ensures

pub returns-in-Uid : goal.returns-in-Uid
returns-in-Uid c =
    worded_along c.take_uid.result c.args.mode (option_copied c.args.days) c.args.parts.frame.now c.args.parts.tag.now c.args.parts.rest.now words.Uid c.args.word (sym c.in-Uid.is) c.take_uid.ensures
