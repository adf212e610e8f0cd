use Rattle.std.proofs.Common.{◌≡◌, ◌∙◌, sym, subst}
use Rattle.mailbox_rows.specs.Pieces.{ArePieces}
use Rattle.mailbox_rows.proofs.EditLemmas.{pushed_pieces}
use Rattle.mailbox_rows.proofs.pieces.push_piece.Goals as goal

pub returns-clause-pieces : goal.returns-clause-pieces
returns-clause-pieces g c = subst (ArePieces c.args.base.now.items 0) (sym c.push_reserved.ensures.items) (pushed_pieces c.args.base.now.items c.args.pieces.now.items c.args.item c.args.len c.requires.len c.requires.pieces)
