use Rattle.std.proofs.Common.{◌≡◌, ◌<◌, ◌≤◌, List, [], ◌∷◌, ◌++◌, length, take, IfOk, refl, sym, ap, subst, arith}
use Rattle.std.specs.Prelude.{Result}
use Rattle.std.specs.declared.alloc.AllocError.{AllocError}
use Rattle.std.proofs.lemmas.List.{take_all}
use Rattle.crdt_ops.specs.declared.op.Op.{Op}
use Rattle.crdt_ops.specs.Tags.{name_of}
use Rattle.imap_node.specs.ChangeNotes.{MailboxSnapshot, IsSnapshotOf}
use Rattle.imap_node.proofs.SessionChangeLemmas.{noted_as}
use Rattle.imap_node.proofs.node.note_delivered.Goals as goal

pub returns-then-op_list-count : goal.returns-then-op_list-count
returns-then-op_list-count c = λ noted.
    let start = c.args.replica.now.start in
    let ops = c.args.replica.now.applied in
    let l : length ops ≤ c.args.count = let e = c.if-op_list-count.true in let k = ap (λ (os : List Op). length os) c.op_list.ensures.applied in omega (arith, e, k) in
    noted_as start start (take c.args.count ops) ops c.args.sessions.now c.args.sessions.now c.args.feeds.now c.args.feeds.now refl (sym (take_all c.args.count ops l)) refl (λ n. refl) noted

pub returns-in-Ok-change_notes_of_delivery : goal.returns-in-Ok-change_notes_of_delivery
returns-in-Ok-change_notes_of_delivery c = λ noted.
    let start = c.args.replica.now.start in
    let applied = c.args.replica.now.applied in
    let front = take c.args.count applied in
    let known = subst (λ (r : Result MailboxSnapshot AllocError). IfOk r (λ a. (op : Op) × IsSnapshotOf start front (op ∷ []) (name_of op.kind) a × (c.args.count < length applied → applied ≡ front ++ op ∷ []))) c.in-Ok.is c.requires.snapshot in
    let one : c.args.count < length applied = let a = c.if-op_list-count.false in let b = ap (λ (ops : List Op). length ops) c.op_list.ensures.applied in let l = c.requires.count in omega (arith, a, b, l) in
    let ready = noted_as start start front front c.args.sessions.now c.args.sessions.now c.args.feeds.now c.ready.new.self refl refl refl c.ready.ensures noted in
    c.note.ensures start front applied (c.in-Ok-change_notes_of_delivery.ensures {u = tt} front known.0 known.1 (known.2 one)) ready

pub returns-in-Err : goal.returns-in-Err
returns-in-Err c = λ noted. c.miss_all-in-Err.ensures c.args.replica.now.start c.args.replica.now.applied c.args.sessions.now

pub returns-in_default : goal.returns-in_default
returns-in_default c = λ noted. c.miss_all.ensures c.args.replica.now.start c.args.replica.now.applied c.args.sessions.now
