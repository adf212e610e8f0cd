use Rattle.std.proofs.Common.{◌∙◌, ◌-◌, ◌++◌, codes, decimal, ap}
use Rattle.imap_answers.specs.AnswerText.{fetch_texts}
use Rattle.imap_answers.specs.Strings.{separated_by}
use Rattle.rev1_fetch.specs.ShownItems.{without_sections}
use Rattle.rev1_fetch.proofs.ShownLemmas.{fetch_printed, without_end}
use Rattle.rev1_fetch.proofs.shown_items.line_front.Goals as goal

pub returns : goal.returns
returns c =
    c.truncate.ensures.items
    ∙ without_end c.in_ok-line.line.items (codes "* " ++ decimal c.args.number ++ codes " FETCH (" ++ separated_by 32 (fetch_texts (without_sections c.args.items.now))) c.saturating_sub.result
    (fetch_printed c.args.number c.args.items.now c.in_ok-without_sections.field-0 c.in_ok-line.line.items c.in_ok-without_sections.ensures c.in_ok-line.ensures) (c.saturating_sub.ensures ∙ ap (λ n. n - 3) (c.len.ensures ∙ c.in_ok-line.line.ok.0))
