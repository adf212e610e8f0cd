use Rattle.std.proofs.Common.{◌∙◌}
use Rattle.mailbox_rows.proofs.EditLemmas.{slice_get_base, slice_get_own, base_place}
use Rattle.mailbox_rows.proofs.pieces.item_in.Goals as goal

pub base_item-requires : goal.base_item-requires
base_item-requires g c = base_place c.args.base.now.items c.args.pieces.now c.args.index c.piece_at-at.result c.index-pieces-at.result c.in-Base.from c.requires.pieces c.piece_at-at.ensures c.index-pieces-at.is c.in-Base.is

pub returns-in-Base : goal.returns-in-Base
returns-in-Base g c = c.base_item.ensures ∙ slice_get_base c.args.base.now.items c.args.pieces.now c.args.index c.piece_at-at.result c.index-pieces-at.result c.in-Base.from c.requires.pieces c.piece_at-at.ensures c.index-pieces-at.is c.in-Base.is

pub returns-in-Own : goal.returns-in-Own
returns-in-Own g c = slice_get_own c.args.base.now.items c.args.pieces.now c.args.index c.piece_at-at.result c.index-pieces-at.result c.in-Own.item c.requires.pieces c.piece_at-at.ensures c.index-pieces-at.is c.in-Own.is
