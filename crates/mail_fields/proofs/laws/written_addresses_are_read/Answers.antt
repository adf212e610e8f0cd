use Rattle.mail_fields.proofs.AddressLemmas.{list_again}
use Rattle.mail_fields.proofs.laws.written_addresses_are_read.Goals as goal

pub returns : goal.returns
returns c = list_again
