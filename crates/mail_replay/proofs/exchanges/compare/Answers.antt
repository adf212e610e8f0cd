use Rattle.std.proofs.Common.{rules, refl}
use Rattle.mail_replay.proofs.ScriptStateLemmas.{slice_get_some}
use Rattle.mail_replay.proofs.exchanges.compare.Goals as goal

pub returns-clause-ok : goal.returns-clause-ok
returns-clause-ok c = (
  _,
  (
    c.in-Some.one,
    c.index.result.now,
    c.in-Some-replica_place.other,
    c.index-2.result.now,
    c.are_same-same.result,
    (search rules, slice_get_some _ _ _ _ c.deref.ensures.value c.in-Some.ensures.within c.index.ensures),
    (search rules, slice_get_some _ _ _ _ c.deref-2.ensures.value c.in-Some-replica_place.ensures.within c.index-2.ensures),
    c.are_same-same.ensures,
    refl,
  ),
  (c.in_ok-write_outcome.ensures {u = tt}).ok,
)
