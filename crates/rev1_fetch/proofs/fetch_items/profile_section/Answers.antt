use Rattle.std.proofs.Common.{◌++◌, ap, codes, append_assoc, ◌∙◌}
use Rattle.rev1_fetch.proofs.SectionLemmas.{section_read, section_unread}
use Rattle.rev1_fetch.proofs.fetch_items.profile_section.Goals as goal

pub returns-in-Ok : goal.returns-in-Ok
returns-in-Ok c =
    let frame = c.deref.ensures.value ∙ c.in_ok-extend_from_slice-2.ensures.items ∙ ap (λ t. t ++ codes "\r\n") (c.in_ok-extend_from_slice.ensures.items ∙ ap (λ t. t ++ c.args.item.now) (c.in_ok-frame.ensures.items_if_clones_equal (λ x y k. k))) ∙ append_assoc (codes "a FETCH 1 ") c.args.item.now (codes "\r\n") in
    section_read c.args.item.now c.deref.result.now frame c.in-Ok.tagged c.in-Ok.ensures.spelled c.command_section.result c.command_section.ensures

pub returns : goal.returns
returns c =
    let frame = c.deref.ensures.value ∙ c.in_ok-extend_from_slice-2.ensures.items ∙ ap (λ t. t ++ codes "\r\n") (c.in_ok-extend_from_slice.ensures.items ∙ ap (λ t. t ++ c.args.item.now) (c.in_ok-frame.ensures.items_if_clones_equal (λ x y k. k))) ∙ append_assoc (codes "a FETCH 1 ") c.args.item.now (codes "\r\n") in
    section_unread c.args.item.now c.deref.result.now frame c.parse.result c.parse.ensures.only c.in-Err.why c.in-Err.is c.item_fault.result c.item_fault.ensures
