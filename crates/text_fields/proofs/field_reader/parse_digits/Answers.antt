use Rattle.text_fields.proofs.FieldLemmas.{parsed_text, utf8_number}
use Rattle.text_fields.proofs.field_reader.parse_digits.Goals as goal

pub returns-in_default : goal.returns-in_default
returns-in_default c = absurd (c.in_default.ensures.cases.0 (utf8_number c.args.digits.now c.requires))

pub returns : goal.returns
returns c =
    parsed_text c.args.digits.now c.in-Ok.text.now c.parse.result c.ok.result c.requires c.in-Ok.ensures.cases.0 c.parse.ensures.value.0 c.ok.ensures.value
