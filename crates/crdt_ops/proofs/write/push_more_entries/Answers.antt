use Rattle.std.proofs.Common.{◌++◌, ◌∷◌, [], map, take, ap, ◌∙◌, append_assoc}
use Rattle.std.specs.List.{flat_map}
use Rattle.crdt_ops.specs.Text.{entry_text}
use Rattle.crdt_ops.proofs.LoopLemmas.{listed_append}
use Rattle.crdt_ops.proofs.PartLemmas.{all_taken}
use Rattle.crdt_ops.proofs.TextLemmas.{extends_of_append}
use Rattle.crdt_ops.proofs.write.push_more_entries.Goals as goal

pub returns-in_err-push_octet-clause-extended : goal.returns-in_err-push_octet-clause-extended
returns-in_err-push_octet-clause-extended c = extends_of_append _ _ _ _ c.loop-replica.invariant c.push_octet.ensures.extended

pub returns-in_err-push_entry-clause-extended : goal.returns-in_err-push_entry-clause-extended
returns-in_err-push_entry-clause-extended c =
    let before = c.args.out.now.items in
    let listed = flat_map (λ next. 44 ∷ next) (map entry_text (take c.loop-replica.replica-index c.args.entries.now)) in
    extends_of_append before c.push_octet.new.out.items _ (listed ++ 44 ∷ [])
    (c.in_ok-push_octet.ensures.ok ∙ ap (λ xs. xs ++ 44 ∷ []) c.loop-replica.invariant ∙ append_assoc before listed (44 ∷ []))
    c.push_entry.ensures.extended

pub loop-replica-preserved : goal.loop-replica-preserved
loop-replica-preserved c =
    listed_append entry_text c.args.entries.now c.loop-replica.replica-index c.loop-replica-item.result c.args.out.now.items c.loop-replica.out.items c.push_octet.new.out.items c.push_entry.new.out.items c.loop-replica-test.true c.loop-replica-item.is c.loop-replica.invariant
    c.in_ok-push_octet.ensures.ok c.in_ok-push_entry.ensures.ok

pub returns-clause-ok : goal.returns-clause-ok
returns-clause-ok c = c.loop-replica.invariant ∙ ap (λ xs. c.args.out.now.items ++ flat_map (λ next. 44 ∷ next) (map entry_text xs)) (all_taken c.args.entries.now c.loop-replica.replica-index c.loop-replica-test.false)
