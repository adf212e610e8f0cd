use Rattle.body_print.proofs.TextLemmas.{if_ok, items_appended, on_ok}
use Rattle.body_print.proofs.part_items.push_message_items.Goals as goal

pub returns : goal.returns
returns c =
    on_ok c.extend_from_slice-2.result (items_appended c.args.header.now c.args.body.now c.args.inner.now ((c.args.media.major, c.args.media.minor), c.args.media.parameters.items) c.args.out.now.items c.push_part_items.new.out.items
    c.extend_from_slice.new.self.items c.push_envelope.new.out.items c.extend_from_slice-2.new.self.items c.in_ok-push_part_items.ensures c.in_ok-extend_from_slice.ensures.items c.in_ok-push_envelope.ensures) (if_ok c.extend_from_slice-2.result _ _ _ c.extend_from_slice-2.ensures.items)
