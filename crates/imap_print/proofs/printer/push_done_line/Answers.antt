use Rattle.imap_print.proofs.ListsLemmas.{appends_append}
use Rattle.imap_print.proofs.printer.push_done_line.Goals as goal

pub returns-clause-ok : goal.returns-clause-ok
returns-clause-ok c =
    let second = appends_append _ _ _ _ _ c.in_ok-extend_from_slice.ensures.items c.in_ok-extend_from_slice-2.ensures.items in
    let third = appends_append _ _ _ _ _ second c.in_ok-extend_from_slice-3.ensures.items in
    appends_append _ _ _ _ _ third c.in_ok-extend_from_slice-4.ensures.items
