use Rattle.std.proofs.Common.{◌≡◌, ◌∙◌, ◌++◌, [], ap, drop, rules, subst, take}
use Rattle.rev1_rename.specs.Steps.{AreDeletionsOf}
use Rattle.rev1_rename.proofs.CallLemmas.{exchanges_append}
use Rattle.rev1_rename.proofs.DeleteLemmas.{undone_safe}
use Rattle.rev1_rename.proofs.PartLemmas.{have_front, have_none}
use Rattle.rev1_rename.proofs.TurnLemmas.{created_safe, creations_between, no_creations}
use Rattle.rev1_rename.proofs.work.RenameWork.create_new.Goals as goal

pub returns-then-is_err-clause-calls : goal.returns-then-is_err-clause-calls
returns-then-is_err-clause-calls g c =
    let work = c.args.self.now in
    let ms = work.mailboxes.items in
    let made = c.create_all-result.ensures.calls in
    let undone = c.delete_created.ensures in
    let count = c.create_all-result.new.created in
    let new : c.unwrap_or-new.result.now ≡ take count c.after_first-left.result.now = search rules in (
      [],
      (made.0 ++ made.1) ++ undone.0,
      exchanges_append (made.0 ++ made.1) undone.0 c.args.pass.now c.create_all-result.new.pass c.delete_created.new.pass made.2 undone.1,
      no_creations work.created ms,
      have_none ((made.0 ++ made.1) ++ undone.0),
      undone_safe (take count c.after_first-left.result.now) ms made.0 made.1 undone.0 made.3 made.4 made.5 (subst (λ xs. AreDeletionsOf xs undone.0) new undone.2),
    )

pub returns-clause-calls : goal.returns-clause-calls
returns-clause-calls g c =
    let work = c.args.self.now in
    let ms = work.mailboxes.items in
    let made = c.create_all-result.ensures.calls in
    let count = c.create_all-result.new.created in
    let left : c.after_first-left.result.now ≡ drop work.created ms = c.after_first-left.ensures ∙ ap (drop work.created) c.deref.ensures.value in (
      made.0,
      made.0 ++ made.1,
      made.2,
      creations_between work.created count ms c.after_first-left.result.now made.0 left made.3,
      have_front made.0 made.1,
      created_safe ms (take count c.after_first-left.result.now) made.0 made.1 made.3 made.4,
    )
