use Rattle.std.proofs.Common.{◌≡◌, ◌∙◌, ◌<◌, ◌≤◌, length, get_or, refl, sym, subst, arith}
use Rattle.std.proofs.lemmas.List.{get_or_default}
use Rattle.mailbox_rows.specs.declared.pieces.Piece.{Piece}
use Rattle.mailbox_rows.proofs.SplitLemmas.{piece_is}
use Rattle.mailbox_rows.proofs.pieces.cut_after.Goals as goal

pub returns-then-index-le1-clause-one : goal.returns-then-index-le1-clause-one
returns-then-index-le1-clause-one g c =
    let ps = c.args.pieces.now.items in
    let inside : c.args.at < length ps = omega (arith, c.requires.within, c.args.pieces.now.ok.0) in
    λ d. let few : (get_or ps c.args.at d).len ≤ 1 = subst (λ (q : Piece _). q.len ≤ 1) (c.index.ensures ∙ get_or_default ps c.args.at c.index.result.now d inside) c.if-index-le1.true in (refl, omega (arith, few, (piece_is c.args.base.now.items ps c.args.at d inside c.requires.pieces).some))
