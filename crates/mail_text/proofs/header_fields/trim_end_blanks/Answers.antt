use Rattle.std.proofs.Common.{sym, ◌∙◌, arith}
use Rattle.mail_text.proofs.FieldLemmas.{passes, shorter, stays}
use Rattle.mail_text.proofs.header_fields.trim_end_blanks.Goals as goal

pub returns-then-not-is_blank : goal.returns-then-not-is_blank
returns-then-not-is_blank c = stays c.loop.rest.now c.args.text.now c.in-len1-up.len_at_least (sym c.is_blank.ensures ∙ c.if-not-is_blank.true) c.loop.invariant.1

pub loop-preserved : goal.loop-preserved
loop-preserved c =
    let i = c.loop.invariant.0 in
    let s = shorter c.loop.rest.now c.in-len1-up.len_at_least in
    (omega arith, passes c.loop.rest.now c.args.text.now c.in-len1-up.len_at_least (sym c.is_blank.ensures ∙ c.if-not-is_blank.false) c.loop.invariant.1)
