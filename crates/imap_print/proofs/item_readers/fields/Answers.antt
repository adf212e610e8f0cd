use Rattle.std.proofs.Common.{◌+◌, ◌-◌, false, Some, sym, ap, ◌∙◌}
use Rattle.std.proofs.lemmas.Result.{err_from_is_err_and}
use Rattle.imap_print.specs.Reading.{with_prefix}
use Rattle.imap_print.specs.ReadingAnswers.{fields_at}
use Rattle.imap_print.proofs.ReadingLemmas.{fields-end, fields-fail, fields_at-step}
use Rattle.imap_print.proofs.item_readers.fields.Goals as goal

pub returns-in-Some : goal.returns-in-Some
returns-in-Some c =
    fields-end c.loop-index._index c.args.count c.loop-index.none_yet c.loop-index.names.items c.loop-index.rest.now c.in-Some.unread.now _ c.loop-index-test.true (sym c.in-Some.ensures) c.loop-index.invariant
    ∙ ap (λ names. Some (names, c.in-Some.unread.now)) (sym c.new.ensures)

pub returns-in_err-name : goal.returns-in_err-name
returns-in_err-name c =
    let p = err_from_is_err_and c.from_residual.result c.from_residual.ensures.1 in
    rw (p.1, p.2) (fields-fail c.in_err-name.field-0.0 c.loop-index._index c.args.count c.loop-index.none_yet c.loop-index.names.items c.loop-index.rest.now _ c.loop-index-test.true (sym c.in-None.ensures) c.loop-index.invariant c.in_err-name.ensures)

pub loop-index-preserved : goal.loop-index-preserved
loop-index-preserved c =
    ap (λ f. with_prefix f (fields_at (c.args.count - (c.loop-index._index + 1)) false c.in_ok-name.tail.now)) c.in_ok-push.ensures.items
    ∙ fields_at-step c.loop-index._index c.args.count c.loop-index.none_yet c.loop-index.names.items c.loop-index.rest.now _ c.in_ok-name.name c.in_ok-name.tail.now c.loop-index-test.true (sym c.in-None.ensures) c.loop-index.invariant c.in_ok-name.ensures
