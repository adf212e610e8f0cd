use Rattle.std.proofs.Common.{rules, refl}
use Rattle.mail_replay.proofs.ScriptStateLemmas.{slice_get_some}
use Rattle.mail_replay.proofs.deliveries.drain.Goals as goal

pub returns-clause-ok : goal.returns-clause-ok
returns-clause-ok c = (
  _,
  (
    c.in-Some.place,
    c.index_mut.result.now,
    c.drain-drained.new.self,
    c.drain-drained.result.applied,
    c.drain-drained.result.stalled,
    (search rules, slice_get_some _ _ _ _ c.deref.ensures.value c.in-Some.ensures.within c.index_mut.ensures.value),
    c.drain-drained.ensures.released,
    c.drain-drained.ensures.stalled,
    refl,
    search rules,
  ),
  (c.in_ok-write_outcome.ensures {u = tt}).ok,
)
