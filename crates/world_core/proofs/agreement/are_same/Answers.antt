use Rattle.world_core.proofs.agreement.are_same.Goals as goal

pub returns-then-not-has_all-clause-no : goal.returns-then-not-has_all-clause-no
returns-then-not-has_all-clause-no c = λ t h. c.has_all.ensures.no c.if-not-has_all.true (λ o i. (h o).0 i)

pub returns-clause-yes : goal.returns-clause-yes
returns-clause-yes c = λ t o. (c.has_all.ensures.yes c.if-not-has_all.false o, c.has_all-2.ensures.yes t o)

pub returns-clause-no : goal.returns-clause-no
returns-clause-no c = λ e h. c.has_all-2.ensures.no e (λ o i. (h o).1 i)
