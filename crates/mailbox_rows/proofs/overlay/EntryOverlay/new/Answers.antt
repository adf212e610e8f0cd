use Rattle.std.proofs.Common.{◌++◌, append-nil, sym, subst}
use Rattle.mailbox_rows.specs.ChangedEntries.{AreNoted}
use Rattle.mailbox_rows.specs.ListingEntries.{AreIndexed, AreRising, indexed_over}
use Rattle.mailbox_rows.proofs.overlay.EntryOverlay.new.Goals as goal

pub invariant_of-result : goal.invariant_of-result
invariant_of-result c =
    let es = c.args.list.now.items in
    let noted = c.args.stored_modseqs.now.entries in
    let stored = c.args.stored.now.entries in (
      subst (AreRising 1) (sym c.in_ok-list.ensures) c.requires.rising,
      subst (AreIndexed (indexed_over c.new-own.result.entries stored)) (sym c.in_ok-list.ensures) (subst (λ own. AreIndexed (indexed_over own stored) es) (sym c.new-own.ensures.empty) c.requires.indexed),
      subst (AreNoted (noted ++ c.new-own_modseqs.result.entries)) (sym c.in_ok-list.ensures) (subst (λ more. AreNoted (noted ++ more) es) (sym c.new-own_modseqs.ensures) (subst (λ cs. AreNoted cs es) (sym (append-nil noted)) c.requires.noted)),
    )
