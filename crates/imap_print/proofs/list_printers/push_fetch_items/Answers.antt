use Rattle.imap_print.proofs.ListsLemmas.{lists_append}
use Rattle.imap_print.proofs.list_printers.push_fetch_items.Goals as goal

pub returns : goal.returns
returns c =
    let h1 = rw c.widen.ensures at c.in_ok-none_yet.ensures in
    let h6 = rw c.parts.ensures at c.in_ok-none_yet-6.ensures in
    lists_append _ _ _ _ _ _ _ _ (lists_append _ _ _ _ _ _ _ _ (lists_append _ _ _ _ _ _ _ _ (lists_append _ _ _ _ _ _ _ _ (lists_append _ _ _ _ _ _ _ _ h1 c.in_ok-none_yet-2.ensures) c.in_ok-none_yet-3.ensures) c.in_ok-none_yet-4.ensures) c.in_ok-none_yet-5.ensures) h6
