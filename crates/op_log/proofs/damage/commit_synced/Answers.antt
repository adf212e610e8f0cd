use Rattle.std.proofs.Common.{◌∙◌, Some, None, codes}
use Rattle.std.proofs.lemmas.Bool.Decides.{Decides-eqb}
use Rattle.std.proofs.lemmas.Slice.Eq.{strip_prefix_is}
use Rattle.op_log.proofs.DamageLemmas.{synced_after, synced_without}
use Rattle.op_log.proofs.damage.commit_synced.Goals as goal

pub returns-in_err-field : goal.returns-in_err-field
returns-in_err-field c =
    c.from_residual.ensures ∙ synced_without c.args.text.now (strip_prefix_is Decides-eqb c.args.text.now (codes "commit ") None c.in_err-field.ensures.cases)

pub returns : goal.returns
returns c =
    c.number.ensures.read
    ∙ synced_after c.args.text.now c.in_ok-field.field.now (strip_prefix_is Decides-eqb c.args.text.now (codes "commit ") (Some c.in_ok-field.field) c.in_ok-field.ensures.cases)
