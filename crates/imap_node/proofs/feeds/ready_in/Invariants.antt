use Rattle.std.proofs.Common.{◌≡◌, ℕ, length}
use Rattle.std.specs.Prelude.{slice_index_or}
use Rattle.imap_node.specs.SessionFeeds.{missing_feed}
use Rattle.imap_node.proofs.feeds.ready_in.Given as goal

abbrev pub invariant-loop-place : goal.invariant-loop-place
invariant-loop-place l = record {
  len : length l.feeds.items ≡ length l.fn.feeds.items;
  same : (n : ℕ) → (slice_index_or l.feeds.items n missing_feed).pending ≡ (slice_index_or l.fn.feeds.items n missing_feed).pending;
}
