use Rattle.std.proofs.Common.{◌≡◌, ℕ, ◌+◌, ◌<◌, ◌++◌, suc, List, length, get_or, take, drop, map, remove, ap, sym, subst, ◌∙◌, arith}
use Rattle.std.proofs.lemmas.List.{with_items_is}
use Rattle.std.proofs.Math.Numerals.{add-one}
use Rattle.std.specs.Vec.{with_items}
use Rattle.mailbox_rows.specs.Pieces.{ArePieces, items_of, with_one_less}
use Rattle.mailbox_rows.proofs.EditLemmas.{lost_items, lost_pieces, written_without}
use Rattle.mailbox_rows.proofs.SplitLemmas.{start_positive_at}
use Rattle.mailbox_rows.proofs.pieces.take_piece.Goals as goal

pub count_down_after-requires-clause-some : goal.count_down_after-requires-clause-some
count_down_after-requires-clause-some g c = subst (λ (xs : List _). (k : ℕ) (d : _) → c.args.at < k → k < length xs → 0 < (get_or xs k d).start) (sym c.deref_mut.ensures.value) (λ k d tail inside. start_positive_at c.args.base.now.items c.args.pieces.now.items c.requires.pieces k d (omega (arith, tail)) inside)

pub returns-clause-items : goal.returns-clause-items
returns-clause-items g c =
    let ps = c.args.pieces.now.items in
    let down : (with_items c.args.pieces.now c.count_down_after.new.pieces).items ≡ take (suc c.args.at) ps ++ map with_one_less (drop (suc c.args.at) ps) = with_items_is c.args.pieces.now c.count_down_after.new.pieces (omega (arith, c.count_down_after.auto.pieces, c.deref_mut.ensures.len)) ∙ c.count_down_after.ensures ∙ ap (λ xs. take (c.args.at + 1) xs ++ map with_one_less (drop (c.args.at + 1) xs)) c.deref_mut.ensures.value ∙ ap (λ k. take k ps ++ map with_one_less (drop k ps)) (add-one c.args.at) in
    ap (λ xs. items_of c.args.base.now.items xs) (c.remove.ensures.items ∙ ap (λ xs. remove xs c.args.at) down ∙ written_without with_one_less ps c.args.at c.requires.alone.within) ∙ lost_items c.args.base.now.items ps c.args.index c.args.at c.remove.result c.requires.pieces c.requires.alone

pub returns-clause-pieces : goal.returns-clause-pieces
returns-clause-pieces g c =
    let ps = c.args.pieces.now.items in
    let down : (with_items c.args.pieces.now c.count_down_after.new.pieces).items ≡ take (suc c.args.at) ps ++ map with_one_less (drop (suc c.args.at) ps) = with_items_is c.args.pieces.now c.count_down_after.new.pieces (omega (arith, c.count_down_after.auto.pieces, c.deref_mut.ensures.len)) ∙ c.count_down_after.ensures ∙ ap (λ xs. take (c.args.at + 1) xs ++ map with_one_less (drop (c.args.at + 1) xs)) c.deref_mut.ensures.value ∙ ap (λ k. take k ps ++ map with_one_less (drop k ps)) (add-one c.args.at) in
    subst (ArePieces c.args.base.now.items 0) (sym (c.remove.ensures.items ∙ ap (λ xs. remove xs c.args.at) down ∙ written_without with_one_less ps c.args.at c.requires.alone.within)) (lost_pieces c.args.base.now.items ps c.args.index c.args.at c.remove.result c.requires.pieces c.requires.alone)
