use Rattle.std.proofs.Common.{◌≡◌, Ok, length}
use Rattle.link_wire.specs.Digests.{frame_digest}
use Rattle.link_wire.specs.Framing.{cut_from, with_payloads}
use Rattle.link_wire.proofs.frame_cut.cut_piece.Given as goal

abbrev pub invariant-loop-rest : goal.invariant-loop-rest
invariant-loop-rest l =
    with_payloads l.payloads.items (cut_from l.limits (frame_digest l.key) (Ok l.progress) l.rest)
    ≡ with_payloads l.fn.payloads.items (cut_from l.limits (frame_digest l.key) (Ok l.fn.progress) l.piece)

abbrev pub decreases-loop-rest : goal.decreases-loop-rest
decreases-loop-rest l = length l.rest
