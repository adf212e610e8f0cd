use Rattle.std.proofs.Common.{◌∙◌, ap, refl}
use Rattle.op_log.proofs.ReaderLemmas.{read_on}
use Rattle.op_log.proofs.reader.LogReader.read_lines.Goals as goal

pub returns-in-Ok-clause-read : goal.returns-in-Ok-clause-read
returns-in-Ok-clause-read c = λ replica log rest h.
    let kept = ap (λ v. v.items) c.replace-kept.ensures.value in
    let is = c.deref.ensures.value ∙ kept ∙ h.kept in
    read_on replica log rest c.args.self.now _ h (c.in-Ok.ensures.read replica log rest h.lines is h.start) (c.in-Ok.ensures.grows replica log rest h.lines is h.start) kept refl

pub returns-in-Err-clause-fault : goal.returns-in-Err-clause-fault
returns-in-Err-clause-fault c = λ replica log rest h.
    let kept = ap (λ v. v.items) c.replace-kept.ensures.value in
    c.in-Err.ensures.fault replica log rest h.lines (c.deref.ensures.value ∙ kept ∙ h.kept) h.start
