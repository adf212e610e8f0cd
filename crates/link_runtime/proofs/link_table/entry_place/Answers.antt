use Rattle.std.proofs.Common.{rules, ◌≡◌, List, subst, false, true, take_all, eq-eqb, sym, ap, ◌∙◌}
use Rattle.link_runtime.specs.declared.link_table.LinkEntry.{LinkEntry}
use Rattle.link_runtime.specs.LinkTables.{IsUnlinked}
use Rattle.link_runtime.proofs.TableLemmas.{unlinked_more}
use Rattle.link_runtime.proofs.link_table.entry_place.Goals as goal

not_both : (b : _) → b ≡ true → b ≡ false → ⊥
not_both b t f = absurd cc

pub loop-at-preserved : goal.loop-at-preserved
loop-at-preserved c =
    unlinked_more c.args.peer c.args.entries.now c.loop-at.at c.index-entries-at.result (search rules) c.index-entries-at.is c.loop-at.invariant
    (λ same. not_both c.eq.result (c.eq.ensures ∙ eq-eqb _ _ (sym (ap (λ (it : LinkEntry). it.peer) c.index-entries-at.is) ∙ same)) c.if-eq.false)

pub returns : goal.returns
returns c = subst (λ (entries : List LinkEntry). IsUnlinked c.args.peer entries) (take_all c.loop-at.at c.args.entries.now (search rules)) c.loop-at.invariant
