use Rattle.imap_print.proofs.ListsLemmas.{lists_append}
use Rattle.imap_print.proofs.list_printers.push_flag_texts.Goals as goal

pub returns : goal.returns
returns c =
    let h6 = rw c.as_slice.ensures.value at c.in_ok-none_yet-6.ensures in
    lists_append _ _ _ _ _ _ _ _ (lists_append _ _ _ _ _ _ _ _ (lists_append _ _ _ _ _ _ _ _ (lists_append _ _ _ _ _ _ _ _ (lists_append _ _ _ _ _ _ _ _ c.in_ok-none_yet.ensures c.in_ok-none_yet-2.ensures) c.in_ok-none_yet-3.ensures) c.in_ok-none_yet-4.ensures) c.in_ok-none_yet-5.ensures) h6
