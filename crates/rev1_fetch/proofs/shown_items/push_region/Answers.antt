use Rattle.std.proofs.Common.{ap, true, false, ◌∙◌}
use Rattle.imap_types.specs.declared.section.Section.TheVariants as sections
use Rattle.mail_text.specs.HeaderFields.{fields_of}
use Rattle.rev1_fetch.proofs.ShownLemmas.{fields_shown}
use Rattle.rev1_fetch.proofs.shown_items.push_region.Goals as goal

pub returns-in_ok-selection-in-Fields : goal.returns-in_ok-selection-in-Fields
returns-in_ok-selection-in-Fields c =
    fields_shown c.push_labelled.result c.args.asked.now.partial c.args.asked.now.section (sections.Fields c.in-Fields.names) c.args.region.now c.in_range.result.now c.deref.result.now c.args.line.now.items c.push_labelled.new.line.items c.in-Fields.is
    c.in_range.ensures (c.deref.ensures.value ∙ c.in_ok-selection-in-Fields.ensures ∙ ap (λ ns. fields_of true ns c.args.region.now) c.names.ensures) c.push_labelled.ensures

pub returns-in_ok-selection-in-FieldsNot : goal.returns-in_ok-selection-in-FieldsNot
returns-in_ok-selection-in-FieldsNot c =
    fields_shown c.push_labelled-in-FieldsNot.result c.args.asked.now.partial c.args.asked.now.section (sections.FieldsNot c.in-FieldsNot.names) c.args.region.now c.in_range-in-FieldsNot.result.now c.deref-in-FieldsNot.result.now c.args.line.now.items
    c.push_labelled-in-FieldsNot.new.line.items c.in-FieldsNot.is c.in_range-in-FieldsNot.ensures
    (c.deref-in-FieldsNot.ensures.value ∙ c.in_ok-selection-in-FieldsNot.ensures ∙ ap (λ ns. fields_of false ns c.args.region.now) c.names-in-FieldsNot.ensures) c.push_labelled-in-FieldsNot.ensures
