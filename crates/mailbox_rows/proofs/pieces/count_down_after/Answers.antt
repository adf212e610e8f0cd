use Rattle.std.proofs.Common.{◌+◌, ◌<◌, List, length, get_or, subst, sym, arith, length-drop, get_or-drop}
use Rattle.std.proofs.lemmas.List.{take_rest}
use Rattle.mailbox_rows.specs.Pieces.{with_one_less}
use Rattle.mailbox_rows.proofs.EditLemmas.{written_after}
use Rattle.mailbox_rows.proofs.pieces.count_down_after.Goals as goal

pub count_down-requires : goal.count_down-requires
count_down-requires g c =
    let cs = c.args.pieces.now in
    let n = c.args.at + 1 in
    subst (λ (xs : List _). (k : _) (d : _) → k < length xs → 0 < (get_or xs k d).start) (sym (take_rest cs n)) (λ k d inside. subst (λ x. 0 < x.start) (sym (get_or-drop n cs k d)) (c.requires.some (n + k) d (omega arith) (omega (arith, inside, length-drop n cs))))

pub returns : goal.returns
returns g c = written_after with_one_less c.args.pieces.now c.count_down.new.pieces c.args.at c.requires.within c.count_down.ensures
