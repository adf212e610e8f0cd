use Rattle.std.proofs.Common.{◌∙◌, Bool, Option, refl, ap, sym, subst, arith}
use Rattle.std.proofs.lemmas.List.{take_all}
use Rattle.tags_clocks.specs.declared.id.OpId.{OpId}
use Rattle.uid_projection.specs.UidsAndModSeqs.{has_version}
use Rattle.uid_projection.specs.EntryMoves.{AreApart, loses, moved_entries}
use Rattle.uid_projection.specs.ChartTable.{origin_at}
use Rattle.uid_projection.proofs.MovedEntryLemmas.{apart_moved, lost_take_next, moved_still}
use Rattle.uid_projection.proofs.chart.lose.Goals as goal

pub loop-id-init : goal.loop-id-init
loop-id-init c = record {
  entries = λ list m a. moved_still _ (λ g. has_version c.args.folder.now g list) c.args.modseq c.args.entries.now.entries (λ g. refl);
  within = omega arith;
  latest = c.requires.order;
  room = omega arith;
  modseq_room = omega arith;
}

pub lose_one-near-requires-clause-room : goal.lose_one-near-requires-clause-room
lose_one-near-requires-clause-room c =
    let most = c.requires.room in
    let left = c.loop-id.invariant.modseq_room in
    let inside = c.loop-id-test.true in
    omega (arith, most, left, inside)

pub loop-id-preserved : goal.loop-id-preserved
loop-id-preserved c =
    let h = c.loop-id.invariant in
    let p = h.room in
    let q = c.lose_one-near.ensures.room in
    let m = h.modseq_room in
    let less = c.lose_one-near.ensures.modseq_room in
    record {
      entries = λ list m a.
          let s : OpId → Bool = λ g. has_version c.args.folder.now g list in
          let f : OpId → Option OpId = origin_at c.args.versions.now.entries in
          let old = h.entries list m a in
          let apart = subst AreApart (sym old) (apart_moved _ s c.args.modseq c.args.entries.now.entries a) in
          c.lose_one-near.ensures.entries list m apart
          ∙ ap (moved_entries _ s c.args.modseq) old
          ∙ lost_take_next f s c.args.modseq c.args.entries.now.entries c.args.removed.now c.loop-id.id-index c.id-item.result c.loop-id-test.true c.id-item.is;
      within = let inside = c.loop-id-test.true in omega (arith, inside);
      latest = c.lose_one-near.ensures.latest;
      room = omega (arith, p, q);
      modseq_room = omega (arith, m, less);
    }

pub returns-clause-entries : goal.returns-clause-entries
returns-clause-entries c = λ list m a.
    let stop = c.loop-id-test.false in
    c.loop-id.invariant.entries list m a
    ∙ ap (λ ids. moved_entries (loses (origin_at c.args.versions.now.entries) ids) (λ g. has_version c.args.folder.now g list) c.args.modseq c.args.entries.now.entries) (take_all c.loop-id.id-index c.args.removed.now (omega (arith, stop)))

pub returns-clause-modseq_room : goal.returns-clause-modseq_room
returns-clause-modseq_room c =
    let m = c.loop-id.invariant.modseq_room in
    let within = c.loop-id.invariant.within in
    omega (arith, m, within)
