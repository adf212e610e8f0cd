use Rattle.std.proofs.Common.{◌≡◌, ◌∙◌, ◌++◌, ap, drop}
use Rattle.rev1_rename.proofs.PartLemmas.{have_front}
use Rattle.rev1_rename.proofs.TurnLemmas.{left_safe, renamings_between}
use Rattle.rev1_rename.proofs.work.RenameWork.rename_old.Goals as goal

pub returns-clause-calls : goal.returns-clause-calls
returns-clause-calls g c =
    let work = c.args.self.now in
    let ms = work.mailboxes.items in
    let done = c.rename_all-result.ensures.calls in
    let count = c.rename_all-result.new.renamed in
    let left : c.after_first-left.result.now ≡ drop work.renamed ms = c.after_first-left.ensures ∙ ap (drop work.renamed) c.deref.ensures.value in (
      done.0,
      done.0 ++ done.1,
      done.2,
      renamings_between work.renamed count ms c.after_first-left.result.now done.0 left done.3,
      have_front done.0 done.1,
      left_safe work.renamed ms c.after_first-left.result.now (done.0 ++ done.1) left done.4,
    )
