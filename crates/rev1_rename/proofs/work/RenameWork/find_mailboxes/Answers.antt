use Rattle.std.proofs.Common.{◌≡◌, ◌∙◌, [], ◌∷◌, inl, inr, refl, sym}
use Rattle.rev1_front.specs.declared.rename_plan.RenamePlan.TheVariants.{Mailboxes}
use Rattle.rev1_rename.specs.Steps.{done}
use Rattle.rev1_rename.specs.Turns.{list_all}
use Rattle.rev1_rename.proofs.TurnLemmas.{planned}
use Rattle.rev1_rename.proofs.work.RenameWork.find_mailboxes.Goals as goal

pub returns-in_err-why-clause-calls : goal.returns-in_err-why-clause-calls
returns-in_err-why-clause-calls g c = let it = c.in_ok-all.ensures.ok in (done list_all it.0 ∷ [], it.2, (refl, tt), inl refl)

pub returns-in-Refused-clause-calls : goal.returns-in-Refused-clause-calls
returns-in-Refused-clause-calls g c = let it = c.in_ok-all.ensures.ok in (done list_all it.0 ∷ [], it.2, (refl, tt), inl refl)

pub returns-clause-calls : goal.returns-clause-calls
returns-clause-calls g c =
    let it = c.in_ok-all.ensures.ok in
    let work = c.args.self.now in
    let none : work.mailboxes.items ≡ [] = sym c.deref.ensures.value ∙ c.if-are_known.ensures refl in (
      done list_all it.0 ∷ [],
      it.2,
      (refl, tt),
      inr (none, (it.0, [], it.1, refl, planned work.from work.to _ c.in_ok-all.all.items c.deref-2.result.now c.in_ok-why.field-0 (Mailboxes c.in-Mailboxes.mailboxes) c.in-Mailboxes.is c.deref-2.ensures.value it.3 c.in_ok-why.ensures)),
    )
