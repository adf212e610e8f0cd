use Rattle.std.proofs.Common.{◌∙◌, ap, arith}
use Rattle.std.proofs.lemmas.List.{take_all}
use Rattle.uid_projection.specs.EntryMoves.{origins_without}
use Rattle.uid_projection.specs.ChartTable.{origin_at}
use Rattle.uid_projection.proofs.MovedEntryLemmas.{without_take_next}
use Rattle.uid_projection.proofs.origins.remove_versions.Goals as goal

pub loop-id-preserved : goal.loop-id-preserved
loop-id-preserved c =
    let h = c.loop-id.invariant in
    let p = h.room in
    let q = c.remove_version.ensures.room in
    record {
      updated = λ i. without_take_next (origin_at c.args.versions.now.entries) c.args.removed.now c.loop-id.id-index c.id-item.result c.loop-id-test.true c.id-item.is _ _ h.updated c.remove_version.ensures.updated i;
      room = omega (arith, p, q);
    }

pub returns-clause-updated : goal.returns-clause-updated
returns-clause-updated c = λ i.
    let stop = c.loop-id-test.false in
    c.loop-id.invariant.updated i ∙ ap (λ ids. origins_without (origin_at c.args.versions.now.entries) ids i) (take_all c.loop-id.id-index c.args.removed.now (omega (arith, stop)))
