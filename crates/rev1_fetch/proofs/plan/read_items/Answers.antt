use Rattle.std.proofs.Common.{◌-◌, ◌+◌, length, take, drop, false, refl, sym, subst, ◌∙◌, arith, length-drop}
use Rattle.std.proofs.lemmas.List.{take_all}
use Rattle.std.proofs.lemmas.Result.{err_from_is_err_and}
use Rattle.rev1_fetch.specs.ReadItems.{Asked}
use Rattle.rev1_fetch.specs.ReadSteps.{items_in}
use Rattle.rev1_fetch.specs.declared.item_places.Place.{Place}
use Rattle.rev1_fetch.proofs.ItemLemmas.{ItemsUpTo, items_all, items_begun, items_fault, items_next, items_same, last_fault}
use Rattle.rev1_fetch.proofs.plan.read_items.Goals as goal

pub loop-end-init : goal.loop-end-init
loop-end-init c =
    let none : Asked = record { plain = c.new.result.items; items = c.new-2.result.items; sets_seen = false } in
    items_begun c.args.items.now none (λ i. record { plain = c.new.ensures.items i; items = c.new-2.ensures.items i; sets_seen = false })

pub loop-end-preserved-then-not-divides : goal.loop-end-preserved-then-not-divides
loop-end-preserved-then-not-divides c =
    let asked = items_in c.loop-end.read in
    subst (λ (p : Place). ItemsUpTo c.args.items.now c.loop-end.start (c.loop-end.end + 1) p asked) (sym c.place_after-place.ensures)
    (items_same c.args.items.now c.loop-end.start c.loop-end.end c.loop-end.place asked c.loop-end-test.true (sym c.divides.ensures ∙ c.if-not-divides.true) c.loop-end.invariant)

pub loop-end-preserved : goal.loop-end-preserved
loop-end-preserved c =
    let f = c.in_ok-push_item.ensures.ok in
    let w = take (c.loop-end.end - c.loop-end.start) (drop c.loop-end.start c.args.items.now) in
    items_next c.args.items.now c.loop-end.start c.loop-end.end c.loop-end.place w (items_in c.loop-end.read) f.0 (items_in c.push_item.new.read) c.loop-end-test.true (sym c.divides.ensures ∙ c.if-not-divides.false) refl c.loop-end.invariant f.1 f.2

pub returns-clause-ok : goal.returns-clause-ok
returns-clause-ok c =
    let f = c.in_ok-push_item-2.ensures.ok in
    let rest = drop c.loop-end.start c.args.items.now in
    let w = take (length c.args.items.now - c.loop-end.start) rest in
    items_all c.args.items.now c.loop-end.start c.loop-end.end c.loop-end.place w (items_in c.loop-end.read) f.0 (items_in c.push_item-2.new.read) (omega arith)
    (take_all (length c.args.items.now - c.loop-end.start) rest (omega (arith, length-drop c.loop-end.start c.args.items.now))) c.loop-end.invariant f.1 f.2

pub returns-in_err-push_item-clause-err : goal.returns-in_err-push_item-clause-err
returns-in_err-push_item-clause-err c =
    let p = err_from_is_err_and c.from_residual.result c.from_residual.ensures.1 in
    let w = take (c.loop-end.end - c.loop-end.start) (drop c.loop-end.start c.args.items.now) in
    rw (p.1, p.2) (items_fault c.args.items.now c.loop-end.start c.loop-end.end c.loop-end.place w (items_in c.loop-end.read) c.in_err-push_item.field-0.0 c.loop-end-test.true (sym c.divides.ensures ∙ c.if-not-divides.false) refl c.loop-end.invariant c.in_err-push_item.ensures.err)

pub returns-in_err-push_item-2-clause-err : goal.returns-in_err-push_item-2-clause-err
returns-in_err-push_item-2-clause-err c =
    let p = err_from_is_err_and c.from_residual-in_err-push_item-2.result c.from_residual-in_err-push_item-2.ensures.1 in
    let rest = drop c.loop-end.start c.args.items.now in
    let w = take (length c.args.items.now - c.loop-end.start) rest in
    rw (p.1, p.2) (last_fault c.args.items.now c.loop-end.start c.loop-end.end c.loop-end.place w (items_in c.loop-end.read) c.in_err-push_item-2.field-0.0 (omega arith)
    (take_all (length c.args.items.now - c.loop-end.start) rest (omega (arith, length-drop c.loop-end.start c.args.items.now))) c.loop-end.invariant c.in_err-push_item-2.ensures.err)
