use Rattle.std.proofs.Common.{◌++◌, ◌&&◌, not, sym, ap, ◌∙◌}
use Rattle.uid_projection.specs.Incarnations.{folder_exists}
use Rattle.uid_projection.proofs.ExhaustionLemmas.{applied_before, begins_is, exists_of_test}
use Rattle.uid_projection.proofs.exhaustion.begins.Goals as goal

pub returns-then-exists_after : goal.returns-then-exists_after
returns-then-exists_after c = λ list e a m.
    let n = c.name-folder.result.now in
    let front = c.args.front.now in
    let through = c.args.through.now in
    let o = c.args.op.now in
    let x = c.exists_after.result in
    let y = c.exists_after-then-exists_after.result in
    let b = applied_before list front through o e a in
    sym (ap (λ z. z && not y) c.if-exists_after.true)
    ∙ begins_is list front through o n x y e c.name-folder.ensures
    (exists_of_test n (list ++ through) x (c.exists_after.ensures.set list m a.sound a.causal))
    (exists_of_test n (list ++ front) y (c.exists_after-then-exists_after.ensures.set list m b.sound b.causal))

pub returns-else-exists_after : goal.returns-else-exists_after
returns-else-exists_after c = λ list e a m.
    let n = c.name-folder.result.now in
    let front = c.args.front.now in
    let through = c.args.through.now in
    let o = c.args.op.now in
    let x = c.exists_after.result in
    let y = folder_exists n (list ++ front) in
    c.if-exists_after.false ∙ sym (ap (λ z. z && not y) c.if-exists_after.false)
    ∙ begins_is list front through o n x y e c.name-folder.ensures
    (exists_of_test n (list ++ through) x (c.exists_after.ensures.set list m a.sound a.causal)) (λ i. y)
