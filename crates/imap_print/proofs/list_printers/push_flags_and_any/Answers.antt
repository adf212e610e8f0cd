use Rattle.imap_print.proofs.ListsLemmas.{lists_append}
use Rattle.imap_print.proofs.list_printers.push_flags_and_any.Goals as goal

pub returns : goal.returns
returns c = lists_append _ _ _ _ _ _ _ _ c.in_ok-none_yet.ensures c.in_ok-none_yet-2.ensures
