use Rattle.std.proofs.Common.{rules}
use Rattle.mail_replay.proofs.ScriptStateLemmas.{answers_given, slice_get_some}
use Rattle.mail_replay.proofs.deliveries.deliver_to.Goals as goal

pub returns-clause-ok : goal.returns-clause-ok
returns-clause-ok c = (
  c.in-Some.place,
  c.index_mut.result.now,
  c.deliver-answer.new.self,
  c.deliver-answer.result,
  (search rules, slice_get_some _ _ _ _ c.deref.ensures.value c.in-Some.ensures.within c.index_mut.ensures.value),
  answers_given _ _ _ _ c.deliver-answer.ensures.answer c.deliver-answer.ensures.stalled c.deliver-answer.ensures.err,
  c.delivery_result_of.ensures,
  search rules,
)
