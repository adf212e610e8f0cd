use Rattle.rev1_fetch.specs.PartNumbers.{number_parts}
use Rattle.rev1_fetch.proofs.SectionLemmas.{section_item}
use Rattle.rev1_fetch.proofs.fetch_items.part_section.Goals as goal

pub returns-in_ok-path-in-len1-up : goal.returns-in_ok-path-in-len1-up
returns-in_ok-path-in-len1-up c =
    let n = c.in_ok-path-in-len1-up in
    let number = number_parts n.field-0.path n.field-0.is_mime n.field-0.rest.now in
    section_item c.args.item.now c.cut_at_bracket.result.0.now c.cut_at_bracket.result.1.now c.numbered_section.result number c.cut_at_bracket.ensures c.in-len1-up.len_at_least n.ensures c.numbered_section.ensures
