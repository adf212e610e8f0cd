use Rattle.std.proofs.Common.{◌≡◌, ◌∙◌, ◌+◌, ◌-◌, ◌<◌, ◌++◌, ◌∷◌, suc, take, drop, ap, sym, subst, get_or, length, arith, set, refl, length-append}
use Rattle.std.proofs.lemmas.List.{get_or_default}
use Rattle.std.specs.List.{insert}
use Rattle.std.proofs.Math.Numerals.{add-one}
use Rattle.mailbox_rows.specs.declared.pieces.Piece.{Piece}
use Rattle.mailbox_rows.specs.Pieces.{ArePieces, IsPiece, items_of, piece_items}
use Rattle.mailbox_rows.proofs.SplitLemmas.{piece_end, piece_is}
use Rattle.mailbox_rows.proofs.EditLemmas.{first_of_two, second_of_two, two_for_one, two_items, two_pieces}
use Rattle.mailbox_rows.proofs.pieces.split_piece.Goals as goal

pub piece_after-back-requires-clause-piece : goal.piece_after-back-requires-clause-piece
piece_after-back-requires-clause-piece g c =
    let ps = c.args.pieces.now in
    (_, subst (IsPiece c.args.base.now.items _) (sym c.index-piece.ensures) (piece_is c.args.base.now.items ps.items c.args.at c.index-piece.result.now (omega (arith, c.requires.within, ps.ok.0)) c.requires.pieces))

pub piece_after-back-requires-clause-fits : goal.piece_after-back-requires-clause-fits
piece_after-back-requires-clause-fits g c =
    let ps = c.args.pieces.now in
    subst (λ (p : Piece _). p.start + p.len < 18446744073709551616) (sym c.index-piece.ensures) (omega (arith, c.requires.fits, piece_end c.args.base.now.items ps.items c.args.at c.index-piece.result.now (omega (arith, c.requires.within, ps.ok.0)) c.requires.pieces))

pub returns-clause-items : goal.returns-clause-items
returns-clause-items g c =
    let b = c.args.base.now.items in
    let ps = c.args.pieces.now.items in
    let p = c.index-piece.result.now in
    let x : Piece _ = record { start = p.start; len = c.args.count; source = p.source } in
    let y = c.piece_after-back.result in
    let inside : c.args.at < length ps = omega (arith, c.requires.within, c.args.pieces.now.ok.0) in
    let now : set c.put_in.new.pieces.items c.args.at x ≡ take c.args.at ps ++ x ∷ y ∷ drop (suc c.args.at) ps = ap (λ qs. set qs c.args.at x) (c.put_in.ensures.items ∙ ap (λ k. insert ps k y) (add-one c.args.at)) ∙ two_for_one ps c.args.at x y inside in
    ap (λ qs. items_of b qs) now ∙ two_items b ps c.args.at p x y c.requires.pieces inside c.index-piece.ensures c.piece_after-back.ensures.items

pub returns-clause-pieces : goal.returns-clause-pieces
returns-clause-pieces g c =
    let b = c.args.base.now.items in
    let ps = c.args.pieces.now.items in
    let p = c.index-piece.result.now in
    let x : Piece _ = record { start = p.start; len = c.args.count; source = p.source } in
    let y = c.piece_after-back.result in
    let inside : c.args.at < length ps = omega (arith, c.requires.within, c.args.pieces.now.ok.0) in
    let now : set c.put_in.new.pieces.items c.args.at x ≡ take c.args.at ps ++ x ∷ y ∷ drop (suc c.args.at) ps = ap (λ qs. set qs c.args.at x) (c.put_in.ensures.items ∙ ap (λ k. insert ps k y) (add-one c.args.at)) ∙ two_for_one ps c.args.at x y inside in
    let more : c.args.count < p.len = subst (λ (q : Piece _). c.args.count < q.len) (sym c.index-piece.ensures) (c.requires.more p) in
    let whole = subst (IsPiece b _) (sym c.index-piece.ensures) (piece_is b ps c.args.at p inside c.requires.pieces) in
    let both = ap (λ zs. length zs) c.piece_after-back.ensures.items in
    let item_count : length (piece_items b x) ≡ c.args.count = omega (arith, both, length-append (piece_items b x) (piece_items b y), whole.item_count, c.piece_after-back.ensures.item_count, c.piece_after-back.ensures.len) in
    subst (ArePieces b 0) (sym now) (two_pieces b ps c.args.at p x y c.requires.pieces inside c.index-piece.ensures c.piece_after-back.ensures.items refl c.requires.some item_count c.piece_after-back.ensures.start (omega (arith, more, c.piece_after-back.ensures.len)) c.piece_after-back.ensures.item_count)

pub returns-clause-front : goal.returns-clause-front
returns-clause-front g c =
    λ d.
    let ps = c.args.pieces.now.items in
    let p = c.index-piece.result.now in
    let x : Piece _ = record { start = p.start; len = c.args.count; source = p.source } in
    let y = c.piece_after-back.result in
    let inside : c.args.at < length ps = omega (arith, c.requires.within, c.args.pieces.now.ok.0) in
    let now : set c.put_in.new.pieces.items c.args.at x ≡ take c.args.at ps ++ x ∷ y ∷ drop (suc c.args.at) ps = ap (λ qs. set qs c.args.at x) (c.put_in.ensures.items ∙ ap (λ k. insert ps k y) (add-one c.args.at)) ∙ two_for_one ps c.args.at x y inside in
    let here : get_or (set c.put_in.new.pieces.items c.args.at x) c.args.at d ≡ x = ap (λ qs. get_or qs c.args.at d) now ∙ first_of_two ps c.args.at x y d inside in
    let old : p ≡ get_or ps c.args.at d = c.index-piece.ensures ∙ get_or_default ps c.args.at p d inside in
    (ap (λ q. q.start) here ∙ ap (λ q. q.start) old, ap (λ q. q.len) here)

pub returns-clause-back : goal.returns-clause-back
returns-clause-back g c =
    λ d.
    let ps = c.args.pieces.now.items in
    let p = c.index-piece.result.now in
    let x : Piece _ = record { start = p.start; len = c.args.count; source = p.source } in
    let y = c.piece_after-back.result in
    let inside : c.args.at < length ps = omega (arith, c.requires.within, c.args.pieces.now.ok.0) in
    let now : set c.put_in.new.pieces.items c.args.at x ≡ take c.args.at ps ++ x ∷ y ∷ drop (suc c.args.at) ps = ap (λ qs. set qs c.args.at x) (c.put_in.ensures.items ∙ ap (λ k. insert ps k y) (add-one c.args.at)) ∙ two_for_one ps c.args.at x y inside in
    let here : get_or (set c.put_in.new.pieces.items c.args.at x) (c.args.at + 1) d ≡ y = ap (λ qs. get_or qs (c.args.at + 1) d) now ∙ ap (λ k. get_or (take c.args.at ps ++ x ∷ y ∷ drop (suc c.args.at) ps) k d) (add-one c.args.at) ∙ second_of_two ps c.args.at x y d inside in
    let old : p ≡ get_or ps c.args.at d = c.index-piece.ensures ∙ get_or_default ps c.args.at p d inside in
    (ap (λ q. q.start) here ∙ c.piece_after-back.ensures.start ∙ ap (λ q. q.start + c.args.count) old, ap (λ q. q.len + c.args.count) here ∙ c.piece_after-back.ensures.len ∙ ap (λ q. q.len) old)
