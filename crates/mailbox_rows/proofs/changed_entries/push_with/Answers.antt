use Rattle.std.proofs.Common.{◌≡◌, ◌∙◌, ◌++◌, List, ap, sym, append-nil}
use Rattle.mailbox_rows.specs.declared.entry.ListingEntry.{ListingEntry}
use Rattle.mailbox_rows.proofs.ChangedEntryLemmas.{entries_with, on_ok_then, picked_from, picked_other, picked_same}
use Rattle.mailbox_rows.proofs.changed_entries.push_with.Goals as goal

pub returns-then-entry-uid : goal.returns-then-entry-uid
returns-then-entry-uid c =
    let es = c.args.list.now.items in
    let m = c.args.modseq in
    let u = c.args.uid in
    let changed = entries_with m u es c.first_place_from.result c.requires c.first_place_from.ensures.within c.first_place_from.ensures.edge ∙ ap (picked_from m u) (sym c.get.ensures ∙ c.in-Some.is) in
    on_ok_then c.push_changed.result (λ is. is ∙ ap (λ (more : List ListingEntry). c.args.changed.now.items ++ more) (sym (changed ∙ picked_same m u c.in-Some.entry c.if-entry-uid.true))) c.push_changed.ensures

pub returns-else-entry-uid : goal.returns-else-entry-uid
returns-else-entry-uid c =
    let es = c.args.list.now.items in
    let m = c.args.modseq in
    let u = c.args.uid in
    let changed = entries_with m u es c.first_place_from.result c.requires c.first_place_from.ensures.within c.first_place_from.ensures.edge ∙ ap (picked_from m u) (sym c.get.ensures ∙ c.in-Some.is) in
    sym (append-nil c.args.changed.now.items) ∙ ap (λ (more : List ListingEntry). c.args.changed.now.items ++ more) (sym (changed ∙ picked_other m u c.in-Some.entry c.if-entry-uid.false))

pub returns-in-None : goal.returns-in-None
returns-in-None c =
    let es = c.args.list.now.items in
    let m = c.args.modseq in
    let u = c.args.uid in
    let changed = entries_with m u es c.first_place_from.result c.requires c.first_place_from.ensures.within c.first_place_from.ensures.edge ∙ ap (picked_from m u) (sym c.get.ensures ∙ c.in-None.is) in
    sym (append-nil c.args.changed.now.items) ∙ ap (λ (more : List ListingEntry). c.args.changed.now.items ++ more) (sym changed)
