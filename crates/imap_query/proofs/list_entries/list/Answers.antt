use Rattle.std.proofs.Common.{◌≡◌, ◌++◌, ◌==◌, ◌∙◌, sym, length, false, rules}
use Rattle.imap_query.proofs.ListingLemmas.{shown_if_ok}
use Rattle.imap_query.proofs.list_entries.list.Goals as goal

pub returns : goal.returns
returns c =
    let joined : c.deref.result.now ≡ c.args.reference.now ++ c.args.pattern.now = search rules in
    let some : (length c.args.pattern.now == 0) ≡ false = sym c.is_empty.ensures ∙ c.if-is_empty.false in
    shown_if_ok c.args.reference.now c.args.pattern.now c.deref.result.now c.args.folders.now c.listed_entries.result some joined c.listed_entries.ensures
