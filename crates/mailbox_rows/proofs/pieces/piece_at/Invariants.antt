use Rattle.std.proofs.Common.{◌-◌, ◌<◌, ◌≤◌, length, get_or}
use Rattle.mailbox_rows.specs.declared.pieces.Piece.{Piece}
use Rattle.mailbox_rows.proofs.pieces.piece_at.Given as goal

abbrev pub invariant-loop-high : goal.invariant-loop-high
invariant-loop-high g l =
    record { order : l.low < l.high; within : l.high ≤ length l.pieces; early : (d : Piece _) → (get_or l.pieces l.low d).start ≤ l.index; late : (d : Piece _) → l.high < length l.pieces → l.index < (get_or l.pieces l.high d).start }

abbrev pub decreases-loop-high : goal.decreases-loop-high
decreases-loop-high g l = l.high - l.low
