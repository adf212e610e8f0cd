use Rattle.imap_print.proofs.ListsLemmas.{appends_append}
use Rattle.imap_print.proofs.part_printers.push_date.Goals as goal

pub returns : goal.returns
returns c =
    let date = rw c.as_bytes.ensures.value at c.in_ok-push_text-2.ensures in
    appends_append _ _ _ _ _ c.in_ok-push_text.ensures date
