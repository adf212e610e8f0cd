use Rattle.std.proofs.Common.{inl, inr}
use Rattle.rev1_front.proofs.ResultLemmas.{not_so}
use Rattle.rev1_front.proofs.lsub.is_shown.Goals as goal

pub returns-then-is_listed : goal.returns-then-is_listed
returns-then-is_listed c = (λ e. inl (c.is_listed.ensures.0 c.if-is_listed.true), λ e. c.if-is_listed.true)

pub returns-else-is_listed : goal.returns-else-is_listed
returns-else-is_listed c =
    (λ e. inr (c.is_level.ensures.0 e), λ e. elim e [ inl x ↦ absurd (not_so c.is_listed.result c.is_listed.ensures.1 c.if-is_listed.false x) | inr y ↦ c.is_level.ensures.1 y ])
