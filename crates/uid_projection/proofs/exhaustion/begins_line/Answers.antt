use Rattle.std.proofs.Common.{◌++◌, ◌∷◌, [], ◌∙◌}
use Rattle.uid_projection.proofs.ExhaustionLemmas.{begins_append, begins_store}
use Rattle.uid_projection.proofs.Presence.{applied_front}
use Rattle.uid_projection.proofs.exhaustion.begins_line.Goals as goal

pub returns-in-Append : goal.returns-in-Append
returns-in-Append c = λ list a m.
    let k = c.in-Append in
    c.is_same_name.ensures ∙ begins_append c.args.folder.now (list ++ c.args.front.now) c.args.op.now a k.own k.flags k.date k.text k.is

pub returns-in-Store : goal.returns-in-Store
returns-in-Store c = λ list a m.
    let k = c.in-Store in
    let front = list ++ c.args.front.now in
    c.is_new_line.ensures list (applied_front front (c.args.op.now ∷ []) a) m ∙ begins_store c.args.folder.now front c.args.op.now a k.own k.flags k.old_ids k.origin k.is
