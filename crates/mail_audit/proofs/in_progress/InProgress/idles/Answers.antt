use Rattle.std.proofs.Common.{ℕ, List, ltb, ap, ◌∙◌}
use Rattle.std.specs.List.{list_any}
use Rattle.std.specs.Map.{values_of}
use Rattle.mail_audit.specs.declared.in_progress.RunningCommand.{RunningCommand}
use Rattle.mail_audit.proofs.RunningLemmas.{any_counted}
use Rattle.mail_audit.proofs.in_progress.InProgress.idles.Goals as goal

pub returns : goal.returns
returns c =
    ap (λ (n : ℕ). ltb 0 n) c.self.invariant.1 ∙ any_counted (λ (r : RunningCommand). r.idles) (values_of c.self.inside.commands.entries)
    ∙ ap (λ (rs : List RunningCommand). list_any (λ (r : RunningCommand). r.idles) rs) c.self.view_is
