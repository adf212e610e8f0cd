use Rattle.std.proofs.Common.{◌≡◌, ◌∙◌, ◌+◌, ◌-◌, ◌≤◌, ◌++◌, ap, sym, subst, length, take, drop, arith, length-drop}
use Rattle.std.proofs.lemmas.List.{length-take}
use Rattle.mailbox_rows.specs.Pieces.{piece_items, source_items}
use Rattle.mailbox_rows.proofs.EditLemmas.{base_parts, base_piece_within}
use Rattle.mailbox_rows.proofs.pieces.piece_after.Goals as goal

pub overflow_add-result : goal.overflow_add-result
overflow_add-result g c = omega (arith, c.requires.more, c.requires.fits)

pub overflow_add-result-in-Base : goal.overflow_add-result-in-Base
overflow_add-result-in-Base g c =
    let whole = c.requires.piece.1 in
    let item_count : length (take c.args.piece.len (drop c.in-Base.from c.args.base.now.items)) ≡ c.args.piece.len = subst (λ s. length (source_items c.args.base.now.items c.args.piece.len s) ≡ c.args.piece.len) c.in-Base.is whole.item_count in
    omega (arith, base_piece_within c.args.base.now.items c.in-Base.from c.args.piece.len whole.some item_count, c.requires.more, c.len-len.ensures, c.len-len.type_inv)

pub returns-clause-items : goal.returns-clause-items
returns-clause-items g c =
    let b = c.args.base.now.items in
    ap (λ s. source_items b c.args.count s ++ take (c.args.piece.len - c.args.count) (drop (c.in-Base.from + c.args.count) b)) c.in-Base.is ∙ base_parts b c.in-Base.from c.args.piece.len c.args.count c.requires.more ∙ ap (λ s. source_items b c.args.piece.len s) (sym c.in-Base.is)

pub returns-clause-item_count : goal.returns-clause-item_count
returns-clause-item_count g c =
    let b = c.args.base.now.items in
    let whole = c.requires.piece.1 in
    let item_count : length (take c.args.piece.len (drop c.in-Base.from b)) ≡ c.args.piece.len = subst (λ s. length (source_items b c.args.piece.len s) ≡ c.args.piece.len) c.in-Base.is whole.item_count in
    omega (arith, base_piece_within b c.in-Base.from c.args.piece.len whole.some item_count, c.requires.more, length-take (c.args.piece.len - c.args.count) (drop (c.in-Base.from + c.args.count) b), length-drop (c.in-Base.from + c.args.count) b)
