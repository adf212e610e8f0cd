use Rattle.std.proofs.Common.{◌∙◌, ◌||◌, ap, sym, arith}
use Rattle.std.specs.List.{list_any}
use Rattle.std.proofs.lemmas.List.{take_all}
use Rattle.tags_clocks.specs.declared.id.OpId.{OpId}
use Rattle.crdt_ops.specs.SortedSets.{is_some_id, same_id}
use Rattle.folder_state.specs.Contents.{origin_in}
use Rattle.uid_projection.specs.FolderAhead.{folder_of}
use Rattle.uid_projection.specs.EntryMoves.{loses}
use Rattle.uid_projection.proofs.MovedEntryLemmas.{any_take_next}
use Rattle.uid_projection.proofs.chart_ahead.lost_origins.Goals as goal

pub loop-id-init : goal.loop-id-init
loop-id-init c = λ k h g. ap (list_any (same_id g)) c.new-lost.ensures.items

pub loop-id-preserved : goal.loop-id-preserved
loop-id-preserved c = λ k h g.
    let f = λ (i : OpId). is_some_id g (origin_in k (folder_of c.args.ahead.now) i) in
    c.in_ok-push_origin.ensures g
    ∙ (λ j. c.loop-id.invariant k h g j || is_some_id g (c.origin_of.ensures k h j))
    ∙ sym (any_take_next f c.args.removed.now c.loop-id.id-index c.id-item.result c.loop-id-test.true c.id-item.is)

pub returns : goal.returns
returns c = λ k h g.
    let stop = c.loop-id-test.false in
    c.loop-id.invariant k h g ∙ ap (λ ids. loses (origin_in k (folder_of c.args.ahead.now)) ids g) (take_all c.loop-id.id-index c.args.removed.now (omega (arith, stop)))
