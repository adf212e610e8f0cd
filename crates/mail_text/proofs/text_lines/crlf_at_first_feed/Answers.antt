use Rattle.std.proofs.Common.{◌∙◌, arith, sym}
use Rattle.mail_text.proofs.LineLemmas.{at_first_feed}
use Rattle.mail_text.proofs.text_lines.crlf_at_first_feed.Goals as goal

pub returns-else-not-is_return_at : goal.returns-else-not-is_return_at
returns-else-not-is_return_at c =
    let s = c.if-feed-eq0.false in
    at_first_feed c.args.text.now c.in-Some.feed c.in-Some.ensures.0.high c.in-Some.ensures.1 c.in-Some.ensures.0.before (omega arith)
    (sym c.is_return_at.ensures ∙ c.if-not-is_return_at.false)
