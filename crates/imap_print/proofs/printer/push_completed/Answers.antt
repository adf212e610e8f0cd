use Rattle.imap_print.proofs.ListsLemmas.{appends_append}
use Rattle.imap_print.proofs.printer.push_completed.Goals as goal

pub returns : goal.returns
returns c =
    let h0 = rw c.as_bytes.ensures at c.in_ok-push_text.ensures in
    let h3 = rw c.text.ensures at c.in_ok-push_text-3.ensures in
    let second = appends_append _ _ _ _ _ h0 c.in_ok-push_text-2.ensures in
    let third = appends_append _ _ _ _ _ second c.in_ok-push_code_prefix.ensures in
    let fourth = appends_append _ _ _ _ _ third h3 in
    appends_append _ _ _ _ _ fourth c.in_ok-push_text-4.ensures
