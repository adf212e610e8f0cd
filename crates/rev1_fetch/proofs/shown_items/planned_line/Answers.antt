use Rattle.std.proofs.Common.{◌++◌, List, codes, decimal, map, ap, ◌∙◌}
use Rattle.imap_answers.specs.AnswerText.{fetch_texts}
use Rattle.mail_parts.specs.declared.part.Part.{Part}
use Rattle.rev1_fetch.specs.ShownItems.{item_text, items_text, without_sections}
use Rattle.rev1_fetch.proofs.ShownLemmas.{planned_joined}
use Rattle.rev1_fetch.proofs.shown_items.planned_line.Goals as goal

pub returns : goal.returns
returns c =
    let message = c.args.message.now in
    let plan = c.args.plan.now in (
      c.in_ok-parts.parts.items,
      c.in_ok-parts.ensures,
      planned_joined (codes "* " ++ decimal c.args.number ++ codes " FETCH (") c.in_ok-line.line.items c.push_items.new.line.items c.extend_from_slice.new.self.items (fetch_texts (without_sections c.args.items.now))
          (map (item_text message c.in_ok-parts.parts.items) plan) c.has_plain.result c.in_ok-line.ensures c.has_plain.ensures
          (c.in_ok-push_items.ensures ∙ ap (λ (ps : List Part). c.in_ok-line.line.items ++ items_text c.has_plain.result (map (item_text message ps) plan)) c.deref.ensures.value) c.in_ok-extend_from_slice.ensures.items,
    )
