use Rattle.std.proofs.Common.{◌∙◌, sym}
use Rattle.std.proofs.lemmas.Result.{on_ok_weaker}
use Rattle.uid_projection.proofs.NamedLemmas.{adds_both, adds_covered}
use Rattle.uid_projection.proofs.touched_messages.push_added.Goals as goal

pub returns-then-is_lost : goal.returns-then-is_lost
returns-then-is_lost c = λ before r. adds_covered _ c.args.origin.now _ _ _ (sym c.is_lost.ensures ∙ c.if-is_lost.true) r

pub returns : goal.returns
returns c = on_ok_weaker c.push_entry.result (λ e before r. adds_both _ _ _ _ _ _ r e) c.push_entry.ensures
