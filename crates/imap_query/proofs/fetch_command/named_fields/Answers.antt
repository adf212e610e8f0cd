use Rattle.std.proofs.Common.{◌∙◌, ap, true}
use Rattle.std.proofs.lemmas.Result.{IfOk-weaker}
use Rattle.imap_query.specs.FetchCommand.{partial_octets}
use Rattle.mail_text.specs.HeaderFields.{fields_of}
use Rattle.imap_query.proofs.fetch_command.named_fields.Goals as goal

pub returns : goal.returns
returns c =
    IfOk-weaker c.from_slice.result _ _
    (λ octets h. h ∙ c.partial_octets.ensures ∙ ap (partial_octets c.args.partial) (c.deref.ensures.value ∙ c.in_ok-chosen.ensures ∙ ap (fields_of true c.args.names.now) c.shown_text.ensures))
    c.from_slice.ensures
