use Rattle.std.proofs.Common.{◌∙◌, sym, subst, refl}
use Rattle.std.proofs.lemmas.Result.{on_ok_weaker}
use Rattle.uid_projection.specs.EntryMoves.{loses}
use Rattle.uid_projection.specs.ChartTable.{origin_at}
use Rattle.uid_projection.specs.TouchedMessages.{AddsUids}
use Rattle.uid_projection.proofs.NamedLemmas.{adds_alike, adds_both, adds_none, names_both}
use Rattle.uid_projection.proofs.touched_messages.push_named_uids.Goals as goal

pub returns-in-Some : goal.returns-in-Some
returns-in-Some c =
    let f = origin_at c.args.chart.now.versions.entries in
    let lost = subst (λ ids. AddsUids (loses f ids) c.args.chart.now.entries.entries c.args.uids.now.items c.push_uids_of_lost.new.uids.items) (c.removed_ids.ensures ∙ sym c.removed_ids-in-Some.ensures) (c.in_ok-push_uids_of_lost.ensures {u = tt}) in
    on_ok_weaker c.push_added.result
    (λ e. adds_alike _ _ _ _ _ (names_both f c.args.folder.now c.args.op.now _ _ (sym c.names_folder.ensures ∙ c.if-not-names_folder.false) c.removed_ids-in-Some.ensures (sym c.in-Some.is ∙ c.added_origin.ensures)) (e _ lost))
    c.push_added.ensures

pub returns-in-None : goal.returns-in-None
returns-in-None c =
    let f = origin_at c.args.chart.now.versions.entries in
    adds_alike _ _ _ _ _ (names_both f c.args.folder.now c.args.op.now _ _ (sym c.names_folder.ensures ∙ c.if-not-names_folder.false) c.removed_ids.ensures (sym c.in-None.is ∙ c.added_origin.ensures)) (adds_both _ _ _ _ _ _ (c.in_ok-push_uids_of_lost.ensures {u = tt}) (adds_none _ _ _ (λ g. refl)))
