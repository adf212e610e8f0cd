use Rattle.std.proofs.Common.{sym, ◌∙◌}
use Rattle.std.proofs.lemmas.Bool.{false≢true}
use Rattle.folder_state.specs.Tables.{contents_of}
use Rattle.uid_projection.proofs.NextOpLemmas.{both_applied, made_by}
use Rattle.uid_projection.proofs.charts.ChartsFollowerFolders.ready.Goals as goal

pub returns-then-are_exhausting-clause-exhausted : goal.returns-then-are_exhausting-clause-exhausted
returns-then-are_exhausting-clause-exhausted c = λ list f d m.
    let h = c.are_exhausting.ensures list (both_applied list c.args.ops.now f.applied c.prove_all_sound.ensures d) f.table (made_by (contents_of c.args.value.now) list f.applied m) in
    (λ k. h.0 c.if-are_exhausting.true, λ x. cc)

pub returns-in-Ok-clause-follows : goal.returns-in-Ok-clause-follows
returns-in-Ok-clause-follows c = λ list f. record { first = f.first; applied = f.applied; table = c.make_rooms.ensures.table list c.args.self.now.next_k f.table; nothing = f.nothing }

pub returns-in-Ok-clause-ready : goal.returns-in-Ok-clause-ready
returns-in-Ok-clause-ready c = λ list f d m.
    let a = both_applied list c.args.ops.now f.applied c.prove_all_sound.ensures d in
    let h = c.are_exhausting.ensures list a f.table (made_by (contents_of c.args.value.now) list f.applied m) in
    record {
      applied = a;
      not_exhausted = λ x. false≢true (sym c.if-are_exhausting.false ∙ h.1 x);
      rooms = λ o i about. c.in-Ok.ensures.ok o i about;
    }

pub returns-in-Ok-clause-exhausted : goal.returns-in-Ok-clause-exhausted
returns-in-Ok-clause-exhausted c = λ list f d m.
    let h = c.are_exhausting.ensures list (both_applied list c.args.ops.now f.applied c.prove_all_sound.ensures d) f.table (made_by (contents_of c.args.value.now) list f.applied m) in
    (λ k. absurd cc, λ x. absurd (false≢true (sym c.if-are_exhausting.false ∙ h.1 x)))

pub returns-in-Err-clause-follows : goal.returns-in-Err-clause-follows
returns-in-Err-clause-follows c = λ list f. record { first = f.first; applied = f.applied; table = c.make_rooms.ensures.table list c.args.self.now.next_k f.table; nothing = f.nothing }

pub returns-in-Err-clause-exhausted : goal.returns-in-Err-clause-exhausted
returns-in-Err-clause-exhausted c = λ list f d m.
    let h = c.are_exhausting.ensures list (both_applied list c.args.ops.now f.applied c.prove_all_sound.ensures d) f.table (made_by (contents_of c.args.value.now) list f.applied m) in
    (λ k. absurd cc, λ x. absurd (false≢true (sym c.if-are_exhausting.false ∙ h.1 x)))
