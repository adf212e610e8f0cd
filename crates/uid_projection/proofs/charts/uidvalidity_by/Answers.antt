use Rattle.std.proofs.Common.{Some, ap, sym, ◌∙◌, option_copied}
use Rattle.uid_projection.proofs.NextOpLemmas.{validity_at, validity_none, validity_inbox}
use Rattle.uid_projection.proofs.charts.uidvalidity_by.Goals as goal

pub returns-then-is_inbox : goal.returns-then-is_inbox
returns-then-is_inbox c = λ list k charts t at.
    ap Some c.get.ensures.number ∙ validity_inbox c.args.start.now list c.args.name.now (sym c.is_inbox.ensures ∙ c.if-is_inbox.true)

pub returns-in-Some : goal.returns-in-Some
returns-in-Some c = λ list k charts t at.
    validity_at c.args.start.now list k charts c.args.name.now t c.in-Some.chart.now c.number_of.result (sym at ∙ ap option_copied c.in-Some.is)
    (sym c.is_inbox.ensures ∙ c.if-is_inbox.false) c.number_of.ensures.absent c.number_of.ensures.present

pub returns-in-None : goal.returns-in-None
returns-in-None c = λ list k charts t at.
    validity_none c.args.start.now list c.args.name.now (sym c.is_inbox.ensures ∙ c.if-is_inbox.false) (t.covers c.args.name.now (sym at ∙ ap option_copied c.in-None.is))
