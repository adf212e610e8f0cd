use Rattle.std.proofs.Common.{ℕ, ◌≤◌, subst}
use Rattle.imap_commands.proofs.KeywordSteps.{all_borne}
use Rattle.imap_commands.proofs.select_command.listed_keywords.Goals as goal

pub returns : goal.returns
returns c =
    all_borne c.args.rows.now c.loop-place.place c.loop-place.keywords (subst (λ (n : ℕ). n ≤ c.loop-place.place) c.count-place-end.ensures.count c.loop-place-test.false) c.loop-place.invariant
