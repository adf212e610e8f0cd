use Rattle.std.proofs.Common.{rules}
use Rattle.mail_replay.proofs.ScriptStateLemmas.{slice_get_some}
use Rattle.mail_replay.proofs.script_service.show.Goals as goal

pub returns-clause-ok : goal.returns-clause-ok
returns-clause-ok c =
    let served = c.in_ok-write_dump.ensures.ok in
    (served.0, (c.in-Some.place, c.index.result.now, search rules, slice_get_some _ _ _ _ c.deref.ensures.value c.in-Some.ensures.within c.index.ensures, served.1), served.2)
