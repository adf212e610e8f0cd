use Rattle.std.proofs.Common.{◌≡◌, [], ◌∷◌, ◌++◌, rules}
use Rattle.mail_script.specs.Outcomes.{outcome_text}
use Rattle.mail_audit.proofs.ResultLemmas.{outcome_text_iff}
use Rattle.mail_audit.proofs.results.is_outcome_text.Goals as goal

pub returns : goal.returns
returns c =
    let text : c.deref.result.now ≡ outcome_text c.args.outcome ++ 10 ∷ [] = search rules in
    let whole : c.deref-2.result.now ≡ c.args.line.now ++ 10 ∷ [] = search rules in
    let reported = outcome_text_iff c.args.line.now (outcome_text c.args.outcome) c.deref.result.now c.deref-2.result.now text whole in
    let same = c.is_same.ensures in
    (λ t. reported.0 (same.0 t), λ e. same.1 (reported.1 e))
