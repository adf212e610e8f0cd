use Rattle.std.proofs.Common.{refl, arith}
use Rattle.std.proofs.lemmas.List.Sums.{prefix_len-le-length}
use Rattle.imap_lex.specs.Framing.{is_inside}
use Rattle.std.proofs.lemmas.Result.{err_from_is_err_and}
use Rattle.imap_lex.proofs.CutLemmas.{inside_front, literal_front, literal_stops, stops_at}
use Rattle.imap_lex.proofs.item_cut.cut_front.Goals as goal

pub returns-in_err-take_literal-clause-err : goal.returns-in_err-take_literal-clause-err
returns-in_err-take_literal-clause-err c =
    let p = err_from_is_err_and c.from_residual.result c.from_residual.ensures.1 in
    rw (p.1, p.2) (literal_stops c.args.limits c.args.progress.now c.args.items.now.items _ c.split_at.result.0.now c.args.piece.now _ c.split_at.ensures.front (omega arith) c.in_err-take_literal.ensures.err)

pub returns-then-literal-gt0-clause-ok : goal.returns-then-literal-gt0-clause-ok
returns-then-literal-gt0-clause-ok c =
    literal_front c.args.limits c.args.progress.now c.take_literal.new.self c.args.items.now.items _ c.split_at.result.0.now c.split_at.result.1.now c.args.piece.now
    c.split_at.ensures.front c.split_at.ensures.back (omega arith) c.in_ok-take_literal.ensures.ok.0 c.in_ok-take_literal.ensures.ok.1

pub returns-in_err-item-clause-err : goal.returns-in_err-item-clause-err
returns-in_err-item-clause-err c =
    let p = err_from_is_err_and c.from_residual-in_err-item.result c.from_residual-in_err-item.ensures.1 in
    rw (p.1, p.2) (stops_at c.args.limits c.args.progress.now 0 c.args.piece.now _ c.args.items.now.items _ c.requires c.in_err-item.ensures.err refl)

pub split_at-requires-then-inside-gt0 : goal.split_at-requires-then-inside-gt0
split_at-requires-then-inside-gt0 c = omega (arith, prefix_len-le-length is_inside c.args.piece.now)

pub returns-then-inside-gt0-clause-ok : goal.returns-then-inside-gt0-clause-ok
returns-then-inside-gt0-clause-ok c =
    inside_front c.args.limits c.args.progress.now c.take_inside.new.self c.args.items.now.items _ c.split_at-then-inside-gt0.result.0.now c.split_at-then-inside-gt0.result.1.now c.args.piece.now
    c.split_at-then-inside-gt0.ensures.front c.split_at-then-inside-gt0.ensures.back (omega arith) (omega (arith, prefix_len-le-length is_inside c.args.piece.now)) (omega arith) c.in_ok-take_inside.ensures.ok
