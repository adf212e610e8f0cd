use Rattle.std.proofs.Common.{◌∙◌, ap}
use Rattle.std.proofs.lemmas.Str.Ascii.{trim_ascii_end_is, trim_ascii_start_is}
use Rattle.mail_fields.specs.AddressWords.{trim_end}
use Rattle.mail_fields.proofs.address_words.trimmed.Goals as goal

pub returns : goal.returns
returns c = trim_ascii_end_is _ _ c.trim_ascii_end.ensures.value ∙ ap trim_end (trim_ascii_start_is _ _ c.trim_ascii_start.ensures.value)
