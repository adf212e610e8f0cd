use Rattle.std.proofs.Common.{◌+◌, ◌-◌, false, Some, sym, ap, ◌∙◌}
use Rattle.std.proofs.lemmas.Result.{err_from_is_err_and}
use Rattle.imap_print.specs.Reading.{with_prefix}
use Rattle.imap_print.specs.ReadingAnswers.{bodies_at}
use Rattle.imap_print.proofs.ReadingLemmas.{bodies-end, bodies-fail, bodies_at-step}
use Rattle.imap_print.proofs.item_readers.bodies.Goals as goal

pub returns-in-None : goal.returns-in-None
returns-in-None c =
    bodies-end c.loop-index._index c.args.count c.loop-index.none_yet c.loop-index.parts.items c.loop-index.rest.now _ c.loop-index-test.true (sym c.in-None.ensures) c.loop-index.invariant
    ∙ ap (λ parts. Some (parts, c.loop-index.rest.now)) (sym c.new.ensures)

pub returns-in_err-part : goal.returns-in_err-part
returns-in_err-part c =
    let p = err_from_is_err_and c.from_residual.result c.from_residual.ensures.1 in
    rw (p.1, p.2) (bodies-fail c.in_err-part.field-0.0 c.loop-index._index c.args.count c.loop-index.none_yet c.loop-index.parts.items c.loop-index.rest.now c.in-Some.unread.now _ c.loop-index-test.true (sym c.in-Some.ensures) c.loop-index.invariant c.in_err-part.ensures)

pub loop-index-preserved : goal.loop-index-preserved
loop-index-preserved c =
    ap (λ f. with_prefix f (bodies_at (c.args.count - (c.loop-index._index + 1)) false c.in_ok-part.tail.now)) c.in_ok-push.ensures.items
    ∙ bodies_at-step c.loop-index._index c.args.count c.loop-index.none_yet c.loop-index.parts.items c.loop-index.rest.now c.in-Some.unread.now _ c.in_ok-part.part c.in_ok-part.tail.now c.loop-index-test.true (sym c.in-Some.ensures) c.loop-index.invariant c.in_ok-part.ensures
