use Rattle.std.proofs.Common.{◌≡◌, ℕ}
use Rattle.imap_node.specs.SessionFeeds.{pending_at}
use Rattle.imap_node.proofs.feeds.open_in.Given as goal

abbrev pub invariant-loop-place : goal.invariant-loop-place
invariant-loop-place l = (n : ℕ) → pending_at l.feeds.items n ≡ pending_at l.fn.feeds.items n
