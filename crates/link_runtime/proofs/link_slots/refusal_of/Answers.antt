use Rattle.std.proofs.Common.{rules, ◌≡◌, List, subst, false, true, take_all, eq-eqb, eqb-true, sym, ap, ◌∙◌}
use Rattle.link_runtime.specs.declared.link_slots.RefusedPeer.{RefusedPeer}
use Rattle.link_runtime.specs.Slots.{IsUnrefused}
use Rattle.link_runtime.proofs.SlotLemmas.{same_at}
use Rattle.link_runtime.proofs.TableLemmas.{none_more, place_in}
use Rattle.link_runtime.proofs.link_slots.refusal_of.Goals as goal

not_both : (b : _) → b ≡ true → b ≡ false → ⊥
not_both b t f = absurd cc

pub returns-then-eq : goal.returns-then-eq
returns-then-eq c = (
  c.index-refused-at.result,
  place_in c.index-refused-at.result c.args.refused.now c.loop-at.at (search rules) c.index-refused-at.is,
  ap (λ (it : RefusedPeer). it.name) c.index-refused-at.is ∙ eqb-true _ _ (sym c.eq.ensures ∙ c.if-eq.true),
  ap (λ (it : RefusedPeer). it.reason) c.index-refused-at.is
      ∙ ap (λ (it : RefusedPeer). it.reason) (same_at c.args.refused.now c.loop-at.at c.index-refused-at.result c.index-refused-at-then-eq.result (search rules)),
)

pub loop-at-preserved : goal.loop-at-preserved
loop-at-preserved c =
    none_more (λ (it : RefusedPeer). it.name) c.args.peer c.args.refused.now c.loop-at.at c.index-refused-at.result (search rules) c.index-refused-at.is c.loop-at.invariant
    (λ same. not_both c.eq.result (c.eq.ensures ∙ eq-eqb _ _ (sym (ap (λ (it : RefusedPeer). it.name) c.index-refused-at.is) ∙ same)) c.if-eq.false)

pub returns : goal.returns
returns c = subst (λ (refused : List RefusedPeer). IsUnrefused c.args.peer refused) (take_all c.loop-at.at c.args.refused.now (search rules)) c.loop-at.invariant
