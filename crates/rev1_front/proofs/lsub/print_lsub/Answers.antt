use Rattle.std.proofs.Common.{ap, drop, length, min, List, ℕ, ◌∙◌}
use Rattle.rev1_front.proofs.LsubLemmas.{lsub_printed}
use Rattle.rev1_front.proofs.lsub.print_lsub.Goals as goal

pub returns-clause-ok : goal.returns-clause-ok
returns-clause-ok c =
    let f = c.in_ok-line.ensures in
    lsub_printed c.print_parts.result c.args.mode c.args.name.now f.0 c.in_ok-line.line.items c.after_label.result.now c.args.text.now.items c.print_parts.new.text.items c.args.is_absent f.1 f.2
    (c.after_label.ensures ∙ ap (λ (l : List ℕ). drop (min (length l) 6) l) c.deref.ensures.value)
    c.print_parts.ensures.ok
