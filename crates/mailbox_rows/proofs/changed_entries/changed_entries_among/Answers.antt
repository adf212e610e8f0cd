use Rattle.std.proofs.Common.{◌∙◌, ◌++◌, ℕ, List, ap, sym, arith, append-nil}
use Rattle.std.proofs.lemmas.List.{drop_all}
use Rattle.mailbox_rows.proofs.ChangedEntryLemmas.{search_results, search_results_all}
use Rattle.mailbox_rows.proofs.changed_entries.changed_entries_among.Goals as goal

pub returns : goal.returns
returns c =
    let es = c.args.list.now.items in
    let m = c.args.modseq in
    let changed = c.loop-uid.changed.items in
    sym (append-nil changed)
    ∙ ap (λ (us : List ℕ). changed ++ search_results m c.loop-uid.low us es) (sym (drop_all c.loop-uid.uid-index c.args.uids.now (omega (arith, c.loop-uid-test.false))))
    ∙ c.loop-uid.invariant
    ∙ search_results_all m 0 0 1 c.args.uids.now es c.requires.ascending c.requires.rising (omega arith) c.requires.among
