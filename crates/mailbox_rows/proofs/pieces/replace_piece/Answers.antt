use Rattle.std.proofs.Common.{◌≡◌, ◌∙◌, ap, sym, subst, arith, get_or}
use Rattle.mailbox_rows.proofs.EditLemmas.{set_items, set_pieces}
use Rattle.mailbox_rows.proofs.pieces.replace_piece.Goals as goal

pub returns-clause-items : goal.returns-clause-items
returns-clause-items g c = set_items c.args.base.now.items c.args.pieces.now.items c.args.index c.args.at c.index.result.now c.requires.pieces c.requires.alone c.args.item c.index.result.now.start

pub returns-clause-pieces : goal.returns-clause-pieces
returns-clause-pieces g c = set_pieces c.args.base.now.items c.args.pieces.now.items c.args.index c.args.at c.index.result.now c.requires.pieces c.requires.alone c.args.item c.index.result.now.start (ap (λ p. p.start) c.index.ensures)
