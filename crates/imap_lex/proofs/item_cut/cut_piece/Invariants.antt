use Rattle.std.proofs.Common.{◌≡◌, Ok, length}
use Rattle.imap_lex.specs.Framing.{cut_from, with_items}
use Rattle.imap_lex.proofs.item_cut.cut_piece.Given as goal

abbrev pub invariant-loop-rest : goal.invariant-loop-rest
invariant-loop-rest l =
    with_items l.items.items (cut_from l.limits (Ok l.progress) l.rest)
    ≡ with_items l.fn.items.items (cut_from l.limits (Ok l.fn.progress) l.piece)

abbrev pub decreases-loop-rest : goal.decreases-loop-rest
decreases-loop-rest l = length l.rest
