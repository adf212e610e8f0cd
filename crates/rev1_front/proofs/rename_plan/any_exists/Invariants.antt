use Rattle.std.proofs.Common.{◌≡◌, false, take}
use Rattle.std.specs.List.{list_any}
use Rattle.imap_query.specs.Patterns.{is_among}
use Rattle.rev1_front.proofs.rename_plan.any_exists.Given as goal

abbrev pub invariant-loop-mailbox : goal.invariant-loop-mailbox
invariant-loop-mailbox l = list_any (λ mailbox. is_among l.mailboxes mailbox.to) (take l.mailbox-index l.renamed) ≡ false
