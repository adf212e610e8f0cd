use Rattle.std.proofs.Common.{◌≡◌, ℕ, List, refl, subst}
use Rattle.imap_query.specs.Patterns.{IsIn}
use Rattle.rev1_front.proofs.LsubLemmas.{in_at, not_more}
use Rattle.rev1_front.proofs.ResultLemmas.{not_so}
use Rattle.rev1_front.proofs.lsub.is_level.Goals as goal

pub returns-then-same : goal.returns-then-same
returns-then-same c =
    let it : c.other-item.result ≡ c.args.level.now = c.same.ensures.0 c.if-same.true in (
      λ t. subst (λ (x : List ℕ). IsIn x c.args.levels.now) it (in_at c.args.levels.now c.loop-other.other-index c.other-item.result c.loop-other-test.true c.other-item.is),
      λ i. refl,
    )

pub loop-other-preserved : goal.loop-other-preserved
loop-other-preserved c =
    not_more c.args.levels.now c.loop-other.other-index c.args.level.now c.other-item.result c.loop-other-test.true c.other-item.is (λ e. not_so c.same.result c.same.ensures.1 c.if-same.false e) c.loop-other.invariant
