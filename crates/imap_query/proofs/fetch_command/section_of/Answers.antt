use Rattle.std.proofs.Common.{◌∙◌, ap, false, sym, true}
use Rattle.std.proofs.lemmas.Result.{IfOk-weaker}
use Rattle.mailbox_rows.specs.RowViews.{listed_message}
use Rattle.imap_query.specs.FetchCommand.{partial_octets, section_of}
use Rattle.mail_text.specs.HeaderFields.{fields_of}
use Rattle.imap_query.proofs.fetch_command.section_of.Goals as goal

pub returns-in-Fields : goal.returns-in-Fields
returns-in-Fields c =
    IfOk-weaker c.named_fields.result _ _
    (λ octets h. h ∙ ap (λ names. partial_octets c.args.partial (fields_of true names (listed_message c.args.row.now).text)) c.names.ensures ∙ ap (λ section. partial_octets c.args.partial (section_of section (listed_message c.args.row.now).text)) (sym c.in-Fields.is))
    c.named_fields.ensures

pub returns-in-FieldsNot : goal.returns-in-FieldsNot
returns-in-FieldsNot c =
    IfOk-weaker c.unnamed_fields.result _ _
    (λ octets h. h ∙ ap (λ names. partial_octets c.args.partial (fields_of false names (listed_message c.args.row.now).text)) c.names-in-FieldsNot.ensures ∙ ap (λ section. partial_octets c.args.partial (section_of section (listed_message c.args.row.now).text)) (sym c.in-FieldsNot.is))
    c.unnamed_fields.ensures
