use Rattle.mailbox_rows.proofs.ChangedEntryLemmas.{latest_rebuilt, noted_all, noted_permuted}
use Rattle.mailbox_rows.specs.ChangedEntries.{modseq_entries_of}
use Rattle.mailbox_rows.proofs.entry_table.rebuild_if_long.Goals as goal

pub returns-clause-noted : goal.returns-clause-noted
returns-clause-noted c =
    let es = c.args.entries.now.items in
    noted_permuted (modseq_entries_of es) _ es c.in_ok-index.ensures.entries (noted_all es)

pub returns-clause-latest : goal.returns-clause-latest
returns-clause-latest c =
    let es = c.args.entries.now.items in
    latest_rebuilt c.args.index.now.entries _ es c.in_ok-index.ensures.entries c.requires
