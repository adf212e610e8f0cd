use Rattle.std.proofs.Common.{◌∙◌, ◌||◌, ◌+◌, List, Bool, refl, ap, sym, subst, take, arith}
use Rattle.std.specs.List.{list_any}
use Rattle.std.proofs.lemmas.List.{take_all}
use Rattle.tags_clocks.specs.declared.id.OpId.{OpId}
use Rattle.crdt_ops.specs.SortedSets.{same_id}
use Rattle.uid_projection.specs.FolderAhead.{folder_of}
use Rattle.uid_projection.specs.UidsAndModSeqs.{has_version}
use Rattle.uid_projection.specs.EntryMoves.{AreApart, moved_entries}
use Rattle.uid_projection.proofs.MovedEntryLemmas.{any_take_next, apart_moved, moved_alike, moved_by_one, moved_still, moved_twice}
use Rattle.uid_projection.proofs.chart_ahead.lose.Goals as goal

pub loop-origin-init : goal.loop-origin-init
loop-origin-init c = record {
  latest = c.requires;
  entries = λ list k h m a. moved_still _ (λ g. has_version (folder_of c.args.ahead.now) g list) c.args.modseq c.args.entries.now.entries (λ g. refl);
}

pub loop-origin-preserved : goal.loop-origin-preserved
loop-origin-preserved c = record {
  latest = c.settle-near.ensures.latest;
  entries = λ list k h m a.
      let s : OpId → Bool = λ g. has_version (folder_of c.args.ahead.now) g list in
      let q = c.args.modseq in
      let es = c.args.entries.now.entries in
      let lost = c.args.lost.now in
      let i = c.loop-origin.origin-index in
      let g = c.origin-item.result in
      let old = c.reserve.ensures.entries ∙ c.loop-origin.invariant.entries list k h m a in
      let before : OpId → Bool = λ x. list_any (same_id x) (take i lost) in
      let now : OpId → Bool = λ x. list_any (same_id x) (take (i + 1) lost) in
      let apart = subst AreApart (sym old) (apart_moved before s q es a) in
      c.settle-near.ensures.entries apart
      ∙ moved_by_one g c.has_version.result s q _ (c.has_version.ensures list k h m)
      ∙ ap (moved_entries (λ x. same_id x g) s q) old
      ∙ moved_twice before (λ x. same_id x g) s q es
      ∙ moved_alike (λ x. before x || same_id x g) now s q es (λ x. sym (any_take_next (same_id x) lost i g c.loop-origin-test.true c.origin-item.is));
}

pub returns-clause-entries : goal.returns-clause-entries
returns-clause-entries c = λ list k h m a.
    let stop = c.loop-origin-test.false in
    c.loop-origin.invariant.entries list k h m a
    ∙ ap (λ (ids : List OpId). moved_entries (λ g. list_any (same_id g) ids) (λ g. has_version (folder_of c.args.ahead.now) g list) c.args.modseq c.args.entries.now.entries) (take_all c.loop-origin.origin-index c.args.lost.now (omega (arith, stop)))
