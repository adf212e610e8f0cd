use Rattle.std.proofs.Common.{[], inl, inr, refl, sym, append-nil, ◌∙◌}
use Rattle.rev1_connection.specs.Handling.{FollowsRename, HandlesRename}
use Rattle.rev1_connection.proofs.HandlingLemmas.{err_map, ok_map, takes_map}
use Rattle.rev1_connection.proofs.RequestLemmas.{rename_stops}
use Rattle.rev1_connection.proofs.call_steps.take_rename.Goals as goal

pub returns-in-Err-clause-err : goal.returns-in-Err-clause-err
returns-in-Err-clause-err g c = ([], inr (inr (inr (inr (inl (c.in-Err.fault, c.in-Err.ensures, c.end_reason_of.ensures, refl))))), sym (append-nil c.args.text.now.items))

pub returns-clause-ok : goal.returns-clause-ok
returns-clause-ok g c =
    let old = c.args.port.now in
    let mid = c.rename.new.self in
    let mode = c.args.session.now.mode in
    let new = c.follow_rename.new in
    let end = c.in-Ok.end in
    let first = FollowsRename g.P.Port.steps g.P.RenamePort.renames mid mode c.args.renaming.tag end in
    let other = HandlesRename g.P.Port.steps g.P.RenamePort.renames old mode c.args.renaming in
    ok_map c.follow_rename.result c.follow_rename.ensures.ok (λ u t. takes_map first other u c.args.text.now.items new.text.items new.port new.session (λ whole given out k. (end, mid, c.in-Ok.ensures, k)) t)

pub returns-clause-err : goal.returns-clause-err
returns-clause-err g c =
    let old = c.args.port.now in
    let mid = c.rename.new.self in
    let new = c.follow_rename.new in
    err_map c.follow_rename.result c.follow_rename.ensures.err (λ ended o. (
      [],
      rename_stops g.P.Port.steps g.P.RenamePort.renames old mid new.port c.args.session.now.mode c.args.renaming c.in-Ok.end ended c.in-Ok.ensures o.0,
      o.1 ∙ sym (append-nil c.args.text.now.items),
    ))
