use Rattle.std.proofs.Common.{[], ◌∷◌, ◌++◌}
use Rattle.rev1_rename.proofs.TurnLemmas.{turns_more}
use Rattle.server_runtime.proofs.session_renames.take_turns.Goals as goal

pub returns-in-Ok-clause-turns : goal.returns-in-Ok-clause-turns
returns-in-Ok-clause-turns g c =
    let at = c.loop.invariant in
    let turn = c.take_turn.ensures.turn in
    (at.0 ++ turn.0 ∷ [], turns_more at.0 turn.0 c.args.work.now c.loop.work c.take_turn.new.work c.args.pass.now c.loop.pass c.take_turn.new.pass at.1 turn.1 turn.2)

pub returns-then-not-has_made_room-clause-turns : goal.returns-then-not-has_made_room-clause-turns
returns-then-not-has_made_room-clause-turns g c =
    let at = c.loop.invariant in
    let turn = c.take_turn.ensures.turn in
    (at.0 ++ turn.0 ∷ [], turns_more at.0 turn.0 c.args.work.now c.loop.work c.take_turn.new.work c.args.pass.now c.loop.pass c.take_turn.new.pass at.1 turn.1 turn.2)

pub loop-preserved : goal.loop-preserved
loop-preserved g c =
    let at = c.loop.invariant in
    let turn = c.take_turn.ensures.turn in
    (at.0 ++ turn.0 ∷ [], turns_more at.0 turn.0 c.args.work.now c.loop.work c.take_turn.new.work c.args.pass.now c.loop.pass c.take_turn.new.pass at.1 turn.1 turn.2)
