use Rattle.imap_lex.proofs.MarkLemmas.{too_large}
use Rattle.imap_lex.proofs.literal_mark.number.Goals as goal

pub returns-in_err-number : goal.returns-in_err-number
returns-in_err-number c =
    rw c.from_residual.ensures (λ h. too_large c.loop-digit.number c.loop-digit.digit-index _ c.args.digits.now c.loop-digit-test.true (c.in_err-number.ensures) c.loop-digit.invariant.0 h)
