use Rattle.std.proofs.Common.{◌∙◌, ap, sym}
use Rattle.std.proofs.lemmas.Bool.{eqb-true, eqb-false}
use Rattle.base64.specs.GeneralPurpose.{decoded_of}
use Rattle.base64.proofs.Streams.{decoded_of-ok}
use Rattle.mailbox_utf7.specs.Reading.{text_of_octets, text_of_units, units_of}
use Rattle.mailbox_utf7.proofs.ReadingLemmas.{decoded_of_err, if_ok, no_symbols, some_symbols}
use Rattle.mailbox_utf7.proofs.shifts.text_of_shift.Goals as goal

pub returns-then-is_empty : goal.returns-then-is_empty
returns-then-is_empty c =
    no_symbols (decoded_of c.args.engine.now) c.args.symbols.now _ (eqb-true _ 0 (sym c.is_empty.ensures ∙ c.if-is_empty.true)) c.in_ok-from_str.ensures.ok

pub returns-in-Err-DecodeError : goal.returns-in-Err-DecodeError
returns-in-Err-DecodeError c =
    let n = eqb-false _ 0 (sym c.is_empty.ensures ∙ c.if-is_empty.false) in
    sym (some_symbols (decoded_of c.args.engine.now) c.args.symbols.now n
    ∙ ap text_of_octets (decoded_of_err c.args.engine.now c.args.symbols.now c.in-Err-DecodeError.field-0-0 (rw c.in-Err-DecodeError.field-0-is at c.in-Err-DecodeError.ensures.err)))

pub returns-in-Ok : goal.returns-in-Ok
returns-in-Ok c =
    let n = eqb-false _ 0 (sym c.is_empty.ensures ∙ c.if-is_empty.false) in
    let d = decoded_of-ok c.args.engine.now c.args.symbols.now _ c.in-Ok.ensures.ok in
    if_ok c.text_of_octets.result _ _ (λ text e. e ∙ ap (λ o. text_of_units (units_of o)) c.deref.ensures.value ∙ sym (some_symbols (decoded_of c.args.engine.now) c.args.symbols.now n ∙ ap text_of_octets d)) c.text_of_octets.ensures
