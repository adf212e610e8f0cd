use Rattle.std.proofs.Common.{sym, ◌∙◌, arith, length}
use Rattle.std.proofs.lemmas.Bool.{eqb-true}
use Rattle.mail_text.specs.HeaderFields.{is_requested_field}
use Rattle.mail_text.proofs.FieldLemmas.{asked_all, asked_end, asked_start, asked_step}
use Rattle.mail_text.proofs.header_fields.select_fields.Goals as goal

pub loop-init : goal.loop-init
loop-init c = (
  omega arith,
  asked_start c.args.named c.args.names.now c.args.text.now c.first_line.result.0.now c.first_line.result.1.now c.new-output.result.items c.is_requested_field-selected.result
      c.new-output.ensures.items c.is_requested_field-selected.ensures c.first_line.ensures.lines,
)

pub returns-then-is_empty-2 : goal.returns-then-is_empty-2
returns-then-is_empty-2 c =
    let e = eqb-true (length c.loop.rest.now) 0 (sym c.is_empty-in-loop.ensures ∙ c.if-is_empty-2.true) in
    asked_all (is_requested_field c.args.named c.args.names.now) c.loop.selected c.loop.output.items c.loop.rest.now _ (omega arith) c.loop.invariant.1

pub returns-then-is_empty_line : goal.returns-then-is_empty_line
returns-then-is_empty_line c =
    c.in_ok-extend_from_slice.ensures.items
    ∙ asked_end (is_requested_field c.args.named c.args.names.now) c.loop.selected c.loop.output.items c.loop.rest.now c.first_line-in-loop.result.0.now c.first_line-in-loop.result.1.now _
    c.first_line-in-loop.ensures.lines (sym c.is_empty_line.ensures ∙ c.if-is_empty_line.true) c.loop.invariant.1

pub loop-preserved : goal.loop-preserved
loop-preserved c =
    let i = c.loop.invariant.0 in
    let s = c.first_line-in-loop.ensures.shorter in (
      omega arith,
      asked_step (is_requested_field c.args.named c.args.names.now) c.loop.selected c.selects_line-selected.result c.loop.output.items c.push_selected.new.output.items c.loop.rest.now c.first_line-in-loop.result.0.now c.first_line-in-loop.result.1.now _
          c.first_line-in-loop.ensures.lines (sym c.is_empty_line.ensures ∙ c.if-is_empty_line.false) c.selects_line-selected.ensures c.in_ok-push_selected.ensures c.loop.invariant.1,
    )

pub returns : goal.returns
returns c =
    let i = c.loop.invariant.0 in
    let f = c.loop-test.false in
    asked_all (is_requested_field c.args.named c.args.names.now) c.loop.selected c.loop.output.items c.loop.rest.now _ (omega arith) c.loop.invariant.1
