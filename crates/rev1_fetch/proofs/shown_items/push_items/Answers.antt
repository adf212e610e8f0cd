use Rattle.rev1_fetch.specs.ShownItems.{item_text}
use Rattle.rev1_fetch.proofs.ShownLemmas.{items_all, items_begun, items_next, later_begun, later_next}
use Rattle.rev1_fetch.proofs.shown_items.push_items.Goals as goal

pub loop-item-preserved : goal.loop-item-preserved
loop-item-preserved c =
    let f = item_text c.args.message.now c.args.parts.now in
    let inv = c.loop-item.invariant in (
      later_next f c.args.has_before c.args.plan.now c.loop-item.item-index c.item-item.result c.loop-item-test.true c.item-item.is,
      items_next f c.args.has_before c.args.plan.now c.loop-item.item-index c.item-item.result c.loop-item-test.true c.item-item.is c.loop-item.is_later c.args.line.now.items c.loop-item.line.items c.push_separator.new.line.items c.push_item.new.line.items
          inv.0 inv.1 c.in_ok-push_separator.ensures c.in_ok-push_item.ensures,
    )

pub returns : goal.returns
returns c = items_all (item_text c.args.message.now c.args.parts.now) c.args.has_before c.args.plan.now c.loop-item.item-index c.args.line.now.items c.loop-item.line.items c.loop-item-test.false c.loop-item.invariant.1

pub loop-item-init : goal.loop-item-init
loop-item-init c = (later_begun c.args.has_before, items_begun c.args.has_before c.args.line.now.items)
