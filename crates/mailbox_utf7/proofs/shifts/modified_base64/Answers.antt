use Rattle.std.proofs.Common.{◌∙◌}
use Rattle.mailbox_utf7.proofs.ReadingLemmas.{if_ok}
use Rattle.mailbox_utf7.proofs.ShiftLemmas.{encode_of_mailbox}
use Rattle.mailbox_utf7.proofs.shifts.modified_base64.Goals as goal

pub returns : goal.returns
returns c = if_ok c.encode.result _ _ (λ text e. e ∙ encode_of_mailbox _ _ c.mailbox_engine.ensures) c.encode.ensures.text
