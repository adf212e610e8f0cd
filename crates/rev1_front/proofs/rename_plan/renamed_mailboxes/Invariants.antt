use Rattle.std.proofs.Common.{◌≡◌, take}
use Rattle.rev1_front.specs.Renames.{renamed_mailboxes}
use Rattle.rev1_front.proofs.rename_plan.renamed_mailboxes.Given as goal

abbrev pub invariant-loop-name : goal.invariant-loop-name
invariant-loop-name l = l.renamed.items ≡ renamed_mailboxes l.from l.to (take l.name-index l.mailboxes)
