use Rattle.std.proofs.Common.{◌≡◌, ℕ, List, Option, ◌++◌, ◌∷◌, [], ◌+◌, false, refl, sym, subst, ◌∙◌, arith}
use Rattle.tags_clocks.specs.declared.id.OpId.{OpId}
use Rattle.crdt_ops.specs.declared.op.Op.{Op}
use Rattle.crdt_ops.specs.Tags.{name_of}
use Rattle.folder_state.specs.Tables.{contents_of}
use Rattle.uid_projection.specs.UidsAndModSeqs.{kind_names_folder}
use Rattle.uid_projection.specs.Readiness.{less_room}
use Rattle.uid_projection.specs.ChartTable.{HasRooms, IsTable, modseqs_by}
use Rattle.uid_projection.proofs.NextOpLemmas.{made_by, next_on, next_rooms, others_ready, unmoved}
use Rattle.uid_projection.proofs.charts.ChartsFollowerFolders.note.Goals as goal

pub advance_charts-requires-clause-next : goal.advance_charts-requires-clause-next
advance_charts-requires-clause-next c =
    let (list, f, r, d, m) = c.requires in
    let o = c.args.op.now in
    let value = contents_of c.args.value.now in
    (list, next_on c.args.self.now value list o c.op-op.result.now c.op-op.ensures.op f r (made_by value (list ++ o ∷ []) r.applied m))

pub returns-then-names_folder-clause-follows : goal.returns-then-names_folder-clause-follows
returns-then-names_folder-clause-follows c = λ list f r d m.
    let o = c.args.op.now in
    let value = contents_of c.args.value.now in
    let e = c.op-op.ensures.op in
    let next = next_on c.args.self.now value list o c.op-op.result.now e f r (made_by value (list ++ o ∷ []) r.applied m) in
    record {
      first = f.first;
      applied = r.applied;
      table = subst (λ (q : Op). IsTable c.args.self.now.start (list ++ q ∷ []) c.advance_charts.new.next_k c.advance_charts.new.charts.entries) e (c.advance_charts.ensures.next list next);
      nothing = f.nothing;
    }

pub advance_charts-requires-clause-rooms : goal.advance_charts-requires-clause-rooms
advance_charts-requires-clause-rooms c =
    let (list, f, r, d, m) = c.requires in
    next_rooms c.args.self.now list c.args.op.now c.op-op.result.now c.op-op.ensures.op r (sym c.names_folder.ensures ∙ c.if-names_folder.true)

pub returns-then-names_folder-clause-others : goal.returns-then-names_folder-clause-others
returns-then-names_folder-clause-others c = λ list rest f r d m.
    others_ready c.args.self.now (record { start = c.args.self.now.start; next_k = c.advance_charts.new.next_k; charts = c.advance_charts.new.charts; nothing = c.args.self.now.nothing }) list c.args.op.now rest refl (subst (λ (q : Op). (g : Option OpId) (n k : ℕ) (folder : List ℕ) → HasRooms g (n + 1) (k + modseqs_by q) folder c.args.self.now.charts.entries → HasRooms g n k folder c.advance_charts.new.charts.entries) c.op-op.ensures.op c.advance_charts.ensures.rooms) r

pub returns-else-names_folder-clause-follows : goal.returns-else-names_folder-clause-follows
returns-else-names_folder-clause-follows c = λ list f r d m.
    unmoved c.args.self.now list c.args.op.now (subst (λ (q : Op). kind_names_folder (name_of q.kind) q.kind ≡ false) c.op-op.ensures.op (sym c.names_folder.ensures ∙ c.if-names_folder.false)) f r

pub returns-else-names_folder-clause-others : goal.returns-else-names_folder-clause-others
returns-else-names_folder-clause-others c = λ list rest f r d m.
    others_ready c.args.self.now c.args.self.now list c.args.op.now rest refl (λ g n k folder. less_room g n (n + 1) k (k + modseqs_by c.args.op.now) folder c.args.self.now.charts.entries (omega arith) (omega arith)) r
