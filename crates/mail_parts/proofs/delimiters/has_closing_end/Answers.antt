use Rattle.mail_parts.proofs.DelimiterLemmas.{begins_both, begins_neither}
use Rattle.mail_parts.proofs.delimiters.has_closing_end.Goals as goal

pub returns-then-starts_with : goal.returns-then-starts_with
returns-then-starts_with c =
    begins_both c.args.boundary.now _ c.args.octets.now c.split_at.result.1.now c.starts_with.result _ c.starts_with.ensures.value c.if-starts_with.true c.starts_with-then-starts_with.ensures.value c.split_at.ensures.back

pub returns-else-starts_with : goal.returns-else-starts_with
returns-else-starts_with c = begins_neither c.args.boundary.now _ c.args.octets.now c.starts_with.result c.starts_with.ensures.value c.if-starts_with.false
