use Rattle.base64.specs.GeneralPurpose.{decoded_of}
use Rattle.mailbox_utf7.proofs.DecodingLemmas.{names_differ}
use Rattle.mailbox_utf7.proofs.ShiftLemmas.{decoded_again}
use Rattle.mailbox_utf7.proofs.laws.encodings_are_distinct.Goals as goal

pub returns : goal.returns
returns c one other u v e =
    names_differ (decoded_of c.mailbox_engine-engine.result) (λ octets b. decoded_again c.mailbox_engine-engine.result octets c.mailbox_engine-engine.ensures b) one other u v e
