use Rattle.std.proofs.Common.{rules, inr, refl}
use Rattle.mail_replay.proofs.ScriptStateLemmas.{slice_get_some}
use Rattle.mail_replay.proofs.script_service.open.Goals as goal

pub returns-clause-ok : goal.returns-clause-ok
returns-clause-ok c =
    let served = c.in_ok-connection.ensures.ok in
    (_, (search rules, (c.in-Some.place, c.index_mut.result.now, c.begin.new.node, served.0, c.in_ok-connection.connection, search rules, slice_get_some _ _ _ _ c.deref.ensures.value c.in-Some.ensures.within c.index_mut.ensures.value, served.1, refl, search rules)), served.2)

pub returns-in_err-push-clause-memory : goal.returns-in_err-push-clause-memory
returns-in_err-push-clause-memory c =
    let served = c.in_ok-connection.ensures.ok in
    λ e. (_, inr (_, (search rules, (c.in-Some.place, c.index_mut.result.now, c.begin.new.node, served.0, c.in_ok-connection.connection, search rules, slice_get_some _ _ _ _ c.deref.ensures.value c.in-Some.ensures.within c.index_mut.ensures.value, served.1, refl, refl))), served.2)
