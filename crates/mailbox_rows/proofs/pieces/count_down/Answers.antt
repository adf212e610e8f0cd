use Rattle.std.proofs.Common.{get_or, arith}
use Rattle.std.proofs.lemmas.List.{get_or_default}
use Rattle.std.proofs.lemmas.List.Edits.{map_over_more}
use Rattle.mailbox_rows.specs.Pieces.{with_one_less}
use Rattle.mailbox_rows.proofs.pieces.count_down.Goals as goal

pub loop-piece-preserved : goal.loop-piece-preserved
loop-piece-preserved g c =
    let now = c.loop-piece.pieces in
    let i = c.loop-piece.piece-index in
    map_over_more with_one_less c.args.pieces.now now i (get_or now i c.piece-item.result) (omega arith) c.loop-piece.invariant (get_or_default now i c.piece-item.result _ (omega arith))
