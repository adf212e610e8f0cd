use Rattle.std.proofs.Common.{◌∙◌, ◌++◌, ap, sym}
use Rattle.mail_fields.specs.Addresses.{group_end}
use Rattle.mail_fields.proofs.AddressReadingLemmas.{mailbox_ends, section_goes_on}
use Rattle.mail_fields.proofs.address_list.read_element.Goals as goal

pub returns-then-ends_mailbox-clause-addresses : goal.returns-then-ends_mailbox-clause-addresses
returns-then-ends_mailbox-clause-addresses c =
    mailbox_ends c.args.elements.now c.args.position c.section_start-then-ends_mailbox.result c.args.index c.index-elements-index.result c.elements_between-section.result.now c.args.addresses.now.items
    c.push_section.new.addresses.items c.push_group_end.new.addresses.items c.requires.index c.index-elements-index.is c.elements_between-section.ensures (sym c.begins_group.ensures ∙ c.if-begins_group.false)
    (sym c.ends_mailbox.ensures ∙ c.if-ends_mailbox.true) c.in_ok-push_section.ensures (c.in_ok-push_group_end.ensures ∙ ap (λ b. c.push_section.new.addresses.items ++ group_end b) c.ends_group.ensures)
    c.section_start-then-ends_mailbox.ensures.start (c.section_start-then-ends_mailbox.ensures.in_group ∙ c.remains_group.ensures) c.section_start-then-ends_mailbox.ensures.place

pub returns-clause-addresses : goal.returns-clause-addresses
returns-clause-addresses c =
    section_goes_on c.args.elements.now c.args.position c.args.index c.index-elements-index.result c.place_after.result c.args.addresses.now.items c.requires.index c.requires.start c.index-elements-index.is
    (sym c.begins_group.ensures ∙ c.if-begins_group.false) (sym c.ends_mailbox.ensures ∙ c.if-ends_mailbox.false) c.place_after.ensures
