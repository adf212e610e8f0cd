use Rattle.std.proofs.Common.{◌∙◌, ap, subst, sym}
use Rattle.std.specs.List.{slice_get}
use Rattle.replica_lock.specs.Histories.{BookState, entry_count}
use Rattle.replica_lock.specs.Passes.{HasOutcomeAt}
use Rattle.replica_lock.proofs.counted_book.CountedBook.settle.Goals as goal

pub returns-in-Some-clause-denied : goal.returns-in-Some-clause-denied
returns-in-Some-clause-denied g c =
    let w = (c.in-Some.ensures {u = tt}).one in (
      sym c.gather-made.ensures.sum ∙ c.if-made-entries.false ∙ c.len-entries.ensures ∙ ap entry_count c.self.view_is,
      (
        w.0,
        w.1,
        ap (λ xs. slice_get xs w.0) (sym c.deref.ensures.value) ∙ w.2,
        w.3,
        λ h. w.4 (subst (λ (b : BookState). HasOutcomeAt b w.1.last w.1.seen) (sym c.self.view_is) h),
      ),
    )
