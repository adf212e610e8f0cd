use Rattle.std.proofs.Common.{◌++◌, length}
use Rattle.mail_replay.specs.Replays.{HasServedLines}
use Rattle.mail_replay.specs.ScriptState.{script_contents_of}
use Rattle.mail_replay.proofs.replay_run.serve_piece.Given as goal

abbrev pub invariant-lines : goal.invariant-lines
invariant-lines g l =
    let held = g.W.Write.contents in
    HasServedLines (held l.fn.writer) (script_contents_of l.fn.progress.setup) l.fn.progress.served (l.fn.progress.lines ++ l.piece) (held l.writer) (script_contents_of l.progress.setup) l.progress.served l.progress.lines

abbrev pub decreases-lines : goal.decreases-lines
decreases-lines g l = length l.progress.lines
