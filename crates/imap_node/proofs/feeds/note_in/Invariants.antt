use Rattle.std.proofs.Common.{◌≡◌, ◌<◌, ◌≤◌, ℕ, length}
use Rattle.std.specs.Prelude.{None, slice_index_or}
use Rattle.imap_node.specs.SessionFeeds.{IsFeedAfterNotes, missing_feed}
use Rattle.imap_node.proofs.feeds.note_in.Given as goal

abbrev pub invariant-loop-place : goal.invariant-loop-place
invariant-loop-place l = record {
  len : length l.feeds.items ≡ length l.fn.feeds.items;
  done : (n : ℕ) → n < l.place → IsFeedAfterNotes l.change_notes (slice_index_or l.places n None) (slice_index_or l.fn.feeds.items n missing_feed).pending (slice_index_or l.feeds.items n missing_feed).pending;
  rest : (n : ℕ) → l.place ≤ n → slice_index_or l.feeds.items n missing_feed ≡ slice_index_or l.fn.feeds.items n missing_feed;
}
