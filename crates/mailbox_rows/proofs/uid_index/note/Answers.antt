use Rattle.std.proofs.Common.{◌∙◌, sym}
use Rattle.mailbox_rows.proofs.IndexLemmas.{on_ok}
use Rattle.mailbox_rows.proofs.uid_index.note.Goals as goal

pub returns-clause-lookups : goal.returns-clause-lookups
returns-clause-lookups c = λ i. (on_ok c.insert.result (sym c.is_err.ensures.value ∙ c.if-is_err.false) c.insert.ensures.updates).0 i
