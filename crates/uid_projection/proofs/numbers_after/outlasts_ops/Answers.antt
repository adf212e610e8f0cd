use Rattle.std.proofs.Common.{◌≡◌, inl, inr, false, not, sym, ap, ◌∙◌}
use Rattle.std.proofs.lemmas.Bool.{cases_Bool, false≢true}
use Rattle.uid_projection.proofs.ExhaustionLemmas.{exists_of_test}
use Rattle.uid_projection.proofs.ValidityLemmas.{validity_remains}
use Rattle.uid_projection.proofs.numbers_after.outlasts_ops.Goals as goal

pub returns-then-exists : goal.returns-then-exists
returns-then-exists c = λ h start list a m.
    let n = c.args.folder.now in
    let present = sym (exists_of_test n list c.exists.result (c.exists.ensures.set list m)) ∙ c.if-exists.true in
    let none : c.is_deleted.result ≡ false = elim (cases_Bool c.is_deleted.result) [ inl t ↦ absurd (false≢true (sym (ap not t) ∙ h)) | inr f ↦ f ] in
    validity_remains start n c.args.ops.now list a present (sym c.is_deleted.ensures ∙ none)
