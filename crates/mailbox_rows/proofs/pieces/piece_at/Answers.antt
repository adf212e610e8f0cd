use Rattle.std.proofs.Common.{◌≡◌, ◌+◌, ◌<◌, get_or, subst, arith}
use Rattle.mailbox_rows.proofs.SplitLemmas.{in_piece}
use Rattle.mailbox_rows.proofs.EditLemmas.{slice_get_in, two_items, set_items, pushed_items}
use Rattle.mailbox_rows.proofs.pieces.piece_at.Goals as goal

pub returns : goal.returns
returns g c =
    let next : c.loop-high.high ≡ c.loop-high.low + 1 = omega arith in
    in_piece c.args.base.now.items c.args.pieces.now c.args.index c.loop-high.low c.requires.pieces c.requires.within (omega arith) c.loop-high.invariant.early (λ d below. subst (λ k. c.args.index < (get_or c.args.pieces.now k d).start) next (c.loop-high.invariant.late d (omega (arith, below))))
