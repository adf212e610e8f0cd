use Rattle.std.proofs.Common.{◌++◌, ◌∷◌, [], map, take, ap, ◌∙◌, append_assoc}
use Rattle.std.specs.List.{flat_map}
use Rattle.crdt_ops.specs.Text.{id_text}
use Rattle.crdt_ops.proofs.LoopLemmas.{listed_append}
use Rattle.crdt_ops.proofs.PartLemmas.{all_taken}
use Rattle.crdt_ops.proofs.TextLemmas.{extends_of_append}
use Rattle.crdt_ops.proofs.write.push_more_ids.Goals as goal

pub returns-in_err-push_octet-clause-extended : goal.returns-in_err-push_octet-clause-extended
returns-in_err-push_octet-clause-extended c = extends_of_append _ _ _ _ c.loop-id.invariant c.push_octet.ensures.extended

pub returns-in_err-push_id-clause-extended : goal.returns-in_err-push_id-clause-extended
returns-in_err-push_id-clause-extended c =
    let before = c.args.out.now.items in
    let listed = flat_map (λ next. 44 ∷ next) (map id_text (take c.loop-id.id-index c.args.ids.now)) in
    extends_of_append before c.push_octet.new.out.items _ (listed ++ 44 ∷ [])
    (c.in_ok-push_octet.ensures.ok ∙ ap (λ xs. xs ++ 44 ∷ []) c.loop-id.invariant ∙ append_assoc before listed (44 ∷ []))
    c.push_id.ensures.extended

pub loop-id-preserved : goal.loop-id-preserved
loop-id-preserved c =
    listed_append id_text c.args.ids.now c.loop-id.id-index c.id-item.result c.args.out.now.items c.loop-id.out.items c.push_octet.new.out.items c.push_id.new.out.items c.loop-id-test.true c.id-item.is c.loop-id.invariant
    c.in_ok-push_octet.ensures.ok c.in_ok-push_id.ensures.ok

pub returns-clause-ok : goal.returns-clause-ok
returns-clause-ok c = c.loop-id.invariant ∙ ap (λ xs. c.args.out.now.items ++ flat_map (λ next. 44 ∷ next) (map id_text xs)) (all_taken c.args.ids.now c.loop-id.id-index c.loop-id-test.false)
