use Rattle.std.proofs.Common.{sym, ◌∙◌}
use Rattle.rev1_front.proofs.LsubLemmas.{match_inbox_by, match_plain_by}
use Rattle.rev1_front.proofs.lsub.is_match.Goals as goal

pub returns-then-not-is_inbox : goal.returns-then-not-is_inbox
returns-then-not-is_inbox c = match_plain_by c.matches.result c.args.pattern.now c.args.name.now c.as_bytes.result.now c.as_bytes.ensures (sym c.is_inbox.ensures ∙ c.if-not-is_inbox.true) c.matches.ensures

pub returns : goal.returns
returns c = match_inbox_by c.matches-2.result c.args.pattern.now c.args.name.now c.deref.result.now (c.deref.ensures.value ∙ c.in_ok-capitals.ensures) (sym c.is_inbox.ensures ∙ c.if-not-is_inbox.false) c.matches-2.ensures
