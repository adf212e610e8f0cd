use Rattle.std.proofs.Common.{◌++◌, codes, decimal}
use Rattle.imap_print.proofs.ListsLemmas.{appends_append}
use Rattle.imap_print.proofs.part_printers.push_appenduid.Goals as goal

pub returns : goal.returns
returns c =
    let h0 = rw c.from.ensures at c.in_ok-push_label.ensures in
    let h2 = rw c.from-2.ensures at c.in_ok-push_number.ensures in
    let second = appends_append c.args.out.now.items _ _ ((codes "[APPENDUID " ++ decimal c.args.uidvalidity)) (codes " ") h0 c.in_ok-push_text.ensures in
    let third = appends_append c.args.out.now.items _ _ ((codes "[APPENDUID " ++ decimal c.args.uidvalidity) ++ codes " ") (decimal c.args.uid) second h2 in
    appends_append c.args.out.now.items _ _ ((codes "[APPENDUID " ++ decimal c.args.uidvalidity) ++ codes " " ++ decimal c.args.uid) (codes "]") third c.in_ok-push_text-2.ensures
