use Rattle.std.proofs.Common.{◌++◌, append-nil, ap, decimal, get_or, refl, sym, ◌∙◌}
use Rattle.rev1_fetch.proofs.ShownLemmas.{path_all, path_next, point_next, same_at}
use Rattle.rev1_fetch.proofs.shown_items.push_path.Goals as goal

pub loop-number-init : goal.loop-number-init
loop-number-init c = (refl, sym (append-nil c.args.line.now.items))

pub loop-number-preserved : goal.loop-number-preserved
loop-number-preserved c =
    let path = c.args.path.now in
    let i = c.loop-number.number-index in
    let x = get_or path i 0 in
    let e = same_at path i 0 c.loop-number-test.true in
    let inv = c.loop-number.invariant in
    let point = c.push_point.new.line.items in (
      point_next path i x c.loop-number-test.true e,
      path_next path i x c.loop-number-test.true e c.loop-number.is_later c.args.line.now.items c.loop-number.line.items point c.push_number.new.line.items inv.0 inv.1 c.in_ok-push_point.ensures
          (c.in_ok-push_number.ensures ∙ ap (λ n. point ++ decimal n) c.from.ensures),
    )

pub returns : goal.returns
returns c = path_all c.args.path.now c.loop-number.number-index c.args.line.now.items c.loop-number.line.items c.loop-number-test.false c.loop-number.invariant.1
