use Rattle.std.proofs.Common.{◌++◌, ◌∷◌, [], sym, ◌∙◌}
use Rattle.uid_projection.proofs.ExhaustionLemmas.{uid_far, uid_near}
use Rattle.uid_projection.proofs.Presence.{applied_front}
use Rattle.uid_projection.proofs.exhaustion.lacks_uid.Goals as goal

pub returns-then-not-is_near-2 : goal.returns-then-not-is_near-2
returns-then-not-is_near-2 c = λ list k a t m.
    uid_far c.args.start.now list c.args.front.now c.args.op.now c.name-folder.result.now c.first_of-first.result c.uidnext_in-now.result c.name-folder.ensures
    (sym c.is_near.ensures ∙ c.if-not-is_near.true) (sym c.is_near-then-not-is_near.ensures ∙ c.if-not-is_near-2.true) c.first_of-first.ensures (c.uidnext_in-now.ensures list k t)

pub returns-then-begins_line : goal.returns-then-begins_line
returns-then-begins_line c = λ list k a t m.
    let front = list ++ c.args.front.now in
    uid_near c.args.start.now list c.args.front.now c.args.op.now c.name-folder.result.now c.begins_line.result c.uid_after.result c.name-folder.ensures c.if-begins_line.true (c.begins_line.ensures list a m)
    (c.uid_after.ensures c.args.start.now list (applied_front front (c.args.op.now ∷ []) a) m c.first_of-first.ensures (c.uidnext_in-now.ensures list k t))
