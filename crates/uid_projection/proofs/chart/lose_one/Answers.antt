use Rattle.std.proofs.Common.{◌≡◌, ◌∙◌, ◌+◌, ◌-◌, ◌≤◌, Bool, ap, sym, arith}
use Rattle.tags_clocks.specs.declared.id.OpId.{OpId}
use Rattle.crdt_ops.specs.SortedSets.{is_some_id}
use Rattle.uid_projection.specs.UidsAndModSeqs.{has_version}
use Rattle.uid_projection.specs.EntryMoves.{moved_entries}
use Rattle.uid_projection.proofs.MovedEntryLemmas.{moved_by_one, moved_still}
use Rattle.uid_projection.proofs.chart.lose_one.Goals as goal

pub returns-in-Some-clause-entries : goal.returns-in-Some-clause-entries
returns-in-Some-clause-entries c = λ list m a.
    let g = c.in-Some.origin in
    let es = c.args.entries.now.entries in
    let s : OpId → Bool = λ x. has_version c.args.folder.now x list in
    c.settle.ensures.entries a
    ∙ moved_by_one g c.has_version.result s c.args.modseq es (c.has_version.ensures list m)
    ∙ (λ k. moved_entries (λ x. is_some_id x ((sym c.in-Some.is ∙ c.origin_at.ensures) k)) s c.args.modseq es)

pub returns-in-None-clause-entries : goal.returns-in-None-clause-entries
returns-in-None-clause-entries c = λ list m a.
    moved_still _ (λ x. has_version c.args.folder.now x list) c.args.modseq c.args.entries.now.entries (λ g. ap (is_some_id g) (sym c.origin_at.ensures ∙ c.in-None.is))

pub returns-in-Some-clause-modseq_room : goal.returns-in-Some-clause-modseq_room
returns-in-Some-clause-modseq_room c =
    let some = c.requires.room in
    let n = c.args.entries.now.modseq_room - 1 in
    let all : n + 1 ≡ c.args.entries.now.modseq_room = omega (arith, some) in
    let left : n ≤ c.settle.new.entries.modseq_room = c.settle.ensures.edits n (omega arith) (omega (arith, all)) in
    omega (arith, left, all)
