use Rattle.std.proofs.Common.{◌≡◌, ◌⊎◌, ◌≤◌, ◌++◌, true, drop, length}
use Rattle.idle_feed.specs.Feeds.{pending_after_notes}
use Rattle.idle_feed.proofs.feed_notes.push_all.Given as goal

abbrev pub invariant-loop-note : goal.invariant-loop-note
invariant-loop-note l = record {
  missed : l.fn.feed.pending.missed ≡ true → l.feed.pending.missed ≡ true;
  noted : (l.feed.pending.missed ≡ true) ⊎ (l.feed.pending.notes ++ drop l.note-index l.notes ≡ l.fn.feed.pending.notes ++ l.notes);
  room : length l.notes ≤ l.fn.feed.room → length (drop l.note-index l.notes) ≤ l.feed.room;
  kept : length l.notes ≤ l.fn.feed.room
      → pending_after_notes l.feed.pending (drop l.note-index l.notes) ≡ pending_after_notes l.fn.feed.pending l.notes;
}
