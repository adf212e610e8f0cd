use Rattle.std.proofs.Common.{◌-◌, ap, ◌∙◌}
use Rattle.rev1_front.specs.Showing.{status_front}
use Rattle.rev1_front.proofs.ShownLemmas.{status_printed, without_end}
use Rattle.rev1_front.proofs.shown.status_front.Goals as goal

pub returns : goal.returns
returns c =
    let outer = c.in_ok-outer_name.field-0 in (
      outer,
      c.in_ok-outer_name.ensures,
      c.truncate.ensures.items ∙ without_end c.print.new.out.items (status_front outer c.args.items.now) c.saturating_sub.result
          (status_printed outer c.print.new.out.items c.new-line.result.items c.args.items.now c.new-line.ensures.items c.in_ok-print.ensures.ok) (c.saturating_sub.ensures ∙ ap (λ n. n - 3) (c.len.ensures ∙ c.print.new.out.ok.0)),
    )
