use Rattle.std.proofs.Common.{◌≡◌, ◌++◌, take, drop, map}
use Rattle.mailbox_rows.specs.Pieces.{with_one_less}
use Rattle.mailbox_rows.proofs.pieces.count_down.Given as goal

abbrev pub invariant-loop-piece : goal.invariant-loop-piece
invariant-loop-piece g l = l.pieces ≡ map with_one_less (take l.piece-index l.fn.pieces) ++ drop l.piece-index l.fn.pieces
