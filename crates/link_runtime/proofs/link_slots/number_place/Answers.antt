use Rattle.std.proofs.Common.{rules, ◌≡◌, ◌≢◌, List, subst, take_all}
use Rattle.merge_laws.specs.Orders.{IsIn}
use Rattle.link_runtime.specs.declared.link_table.LinkEntry.{LinkEntry}
use Rattle.link_runtime.proofs.TableLemmas.{none_more}
use Rattle.link_runtime.proofs.link_slots.number_place.Goals as goal

pub loop-at-preserved : goal.loop-at-preserved
loop-at-preserved c =
    none_more (λ (e : LinkEntry). e.number) c.args.number c.args.entries.now c.loop-at.at c.index-entries-at.result (search rules) c.index-entries-at.is c.loop-at.invariant (search rules)

pub returns : goal.returns
returns c =
    subst (λ (entries : List LinkEntry). (entry : LinkEntry) → IsIn entry entries → entry.number ≢ c.args.number) (take_all c.loop-at.at c.args.entries.now (search rules)) c.loop-at.invariant
