use Rattle.std.proofs.Common.{List, ℕ, subst, sym}
use Rattle.rev1_front.specs.LsubLines.{IsLevelOf}
use Rattle.imap_query.specs.Patterns.{IsNameMatch}
use Rattle.rev1_front.proofs.LsubLemmas.{level_at, level_octet}
use Rattle.rev1_front.proofs.ResultLemmas.{not_so}
use Rattle.rev1_front.proofs.lsub.matched_level.Goals as goal

pub returns-then-name-len-ne47 : goal.returns-then-name-len-ne47
returns-then-name-len-ne47 c = λ above matched. c.if-name-len-ne47.true (level_octet c.args.name.now c.args.len 0 c.requires above)

pub returns-then-not-branch : goal.returns-then-not-branch
returns-then-not-branch c = λ above matched.
    not_so c.in_ok-is_match.field-0 c.in_ok-is_match.ensures.1 c.if-not-branch.true (subst (λ (x : List ℕ). IsNameMatch c.args.pattern.now x) (sym c.in_ok-level.ensures) matched)

pub returns : goal.returns
returns c = (
  c.in_ok-level.ensures,
  subst (λ (x : List ℕ). IsLevelOf x c.args.name.now) (sym c.in_ok-level.ensures) (level_at c.args.name.now c.args.len 0 c.requires c.if-name-len-ne47.false),
  c.in_ok-is_match.ensures.0 c.if-not-branch.false,
)
