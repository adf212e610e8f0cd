use Rattle.imap_print.proofs.ListsLemmas.{lists_append}
use Rattle.imap_print.proofs.list_printers.push_status_items.Goals as goal

pub returns : goal.returns
returns c =
    let h1 = rw c.widen.ensures at c.in_ok-none_yet.ensures in
    let h2 = rw c.widen-2.ensures at c.in_ok-none_yet-2.ensures in
    let h3 = rw c.widen-3.ensures at c.in_ok-none_yet-3.ensures in
    let h4 = rw c.widen-4.ensures at c.in_ok-none_yet-4.ensures in
    let h5 = rw c.widen-5.ensures at c.in_ok-none_yet-5.ensures in
    lists_append _ _ _ _ _ _ _ _ (lists_append _ _ _ _ _ _ _ _ (lists_append _ _ _ _ _ _ _ _ (lists_append _ _ _ _ _ _ _ _ (lists_append _ _ _ _ _ _ _ _ (lists_append _ _ _ _ _ _ _ _ h1 h2) h3) h4) h5) c.in_ok-none_yet-6.ensures) c.in_ok-none_yet-7.ensures
