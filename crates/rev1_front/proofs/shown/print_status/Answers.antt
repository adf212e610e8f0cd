use Rattle.std.proofs.Common.{◌++◌, codes, ◌∙◌}
use Rattle.rev1_front.proofs.ShownLemmas.{recent_by, recent_line_is}
use Rattle.rev1_front.proofs.shown.print_status.Goals as goal

pub returns-clause-ok : goal.returns-clause-ok
returns-clause-ok c =
    let f = c.in_ok-line.ensures in
    recent_by c.print_parts.result c.args.mode c.args.only_recent c.args.name.now f.0 (c.deref.result.now ++ (c.recent_end.result.now ++ codes "\r\n")) c.args.items.now c.args.text.now.items c.print_parts.new.text.items f.1
    (recent_line_is c.args.only_recent f.0 c.deref.result.now c.recent_end.result.now c.args.items.now c.other_items-others.result c.are_none.result c.other_items-others.ensures (c.deref.ensures.value ∙ f.2) c.are_none.ensures c.recent_end.ensures)
    c.print_parts.ensures.ok
