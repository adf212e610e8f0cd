use Rattle.std.proofs.Common.{◌∙◌, ◌||◌, sym, subst, refl, take, arith}
use Rattle.std.proofs.lemmas.List.{take_all}
use Rattle.tags_clocks.specs.declared.id.OpId.{OpId}
use Rattle.crdt_ops.specs.SortedSets.{is_some_id}
use Rattle.uid_projection.specs.EntryMoves.{loses}
use Rattle.uid_projection.specs.ChartTable.{origin_at}
use Rattle.uid_projection.specs.TouchedMessages.{AddsUids}
use Rattle.uid_projection.proofs.MovedEntryLemmas.{any_take_next}
use Rattle.uid_projection.proofs.NamedLemmas.{adds_alike, adds_both, adds_none}
use Rattle.uid_projection.proofs.touched_messages.push_uids_of_lost.Goals as goal

pub loop-id-init : goal.loop-id-init
loop-id-init c = adds_none _ _ _ (λ g. refl)

pub loop-id-preserved : goal.loop-id-preserved
loop-id-preserved c =
    let f = origin_at c.args.chart.now.versions.entries in
    let i = c.loop-id.id-index in
    adds_alike _ _ _ _ _
    (λ g.
    (λ j. loses f (take i c.args.removed.now) g || is_some_id g (c.origin_at.ensures j))
    ∙ sym (any_take_next (λ (x : OpId). is_some_id g (f x)) c.args.removed.now i c.id-item.result c.loop-id-test.true c.id-item.is))
    (adds_both _ _ _ _ _ _ c.loop-id.invariant (c.in_ok-push_origin.ensures {u = tt}))

pub returns : goal.returns
returns c =
    let stop = c.loop-id-test.false in
    subst (λ ids. AddsUids (loses (origin_at c.args.chart.now.versions.entries) ids) c.args.chart.now.entries.entries c.args.uids.now.items c.loop-id.uids.items) (take_all c.loop-id.id-index c.args.removed.now (omega (arith, stop))) c.loop-id.invariant
