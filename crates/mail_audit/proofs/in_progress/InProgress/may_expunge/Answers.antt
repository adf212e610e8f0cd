use Rattle.std.proofs.Common.{ℕ, List, ltb, ap, ◌∙◌}
use Rattle.std.specs.List.{list_any}
use Rattle.std.specs.Map.{values_of}
use Rattle.mail_audit.specs.declared.in_progress.RunningCommand.{RunningCommand}
use Rattle.mail_audit.proofs.RunningLemmas.{any_counted}
use Rattle.mail_audit.proofs.in_progress.InProgress.may_expunge.Goals as goal

pub returns : goal.returns
returns c =
    ap (λ (n : ℕ). ltb 0 n) c.self.invariant.0 ∙ any_counted (λ (r : RunningCommand). r.may_expunge) (values_of c.self.inside.commands.entries)
    ∙ ap (λ (rs : List RunningCommand). list_any (λ (r : RunningCommand). r.may_expunge) rs) c.self.view_is
