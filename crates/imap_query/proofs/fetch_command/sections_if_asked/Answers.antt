use Rattle.std.proofs.Common.{◌∙◌, ap, sym}
use Rattle.mailbox_rows.specs.RowViews.{listed_message}
use Rattle.imap_query.specs.declared.fetch_command.FetchParts.{FetchParts}
use Rattle.imap_query.proofs.SectionLemmas.{no_sections}
use Rattle.imap_query.proofs.fetch_command.sections_if_asked.Goals as goal

pub returns-then-not-asked : goal.returns-then-not-asked
returns-then-not-asked c =
    c.new-then-not-asked.ensures ∙ c.new.ensures.items
    ∙ no_sections (listed_message c.args.row.now).text c.args.asked.items.now (sym (ap (λ (p : FetchParts). p.sections) c.requires) ∙ c.if-not-asked.true)
