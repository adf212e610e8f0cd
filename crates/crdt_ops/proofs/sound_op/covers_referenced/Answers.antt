use Rattle.std.proofs.Common.{refl}
use Rattle.crdt_ops.proofs.sound_op.covers_referenced.Goals as goal

pub returns-in-Create : goal.returns-in-Create
returns-in-Create c = rw c.in-Create.is (λ h. tt, λ h. refl)

pub returns-in-Delete : goal.returns-in-Delete
returns-in-Delete c = rw c.in-Delete.is (rw c.as_slice.ensures.ids at c.covers_all.ensures)

pub returns-in-Append : goal.returns-in-Append
returns-in-Append c = rw c.in-Append.is (λ h. tt, λ h. refl)

pub returns-in-Expunge : goal.returns-in-Expunge
returns-in-Expunge c = rw c.in-Expunge.is (rw c.as_slice-in-Expunge.ensures.ids at c.covers_all-in-Expunge.ensures)

pub returns-in-Subscribe : goal.returns-in-Subscribe
returns-in-Subscribe c = rw c.in-Subscribe.is (λ h. tt, λ h. refl)

pub returns-in-Unsubscribe : goal.returns-in-Unsubscribe
returns-in-Unsubscribe c = rw c.in-Unsubscribe.is (rw c.as_slice-in-Unsubscribe.ensures.ids at c.covers_all-in-Unsubscribe.ensures)
