use Rattle.std.proofs.Common.{◌≡◌, ◌++◌, ℕ, List, length, ap, subst, sym, ◌∙◌}
use Rattle.imap_answers.specs.declared.answer.Answer.{Answer}
use Rattle.session_view.specs.Sync.{exists_if_more, exists_of_sync, refreshed_entries, staying_entries, view_after_sync}
use Rattle.session_view.specs.Views.{AreRising, entries_of, last_uid}
use Rattle.mailbox_rows.specs.ListedMessage.{ListedMessage}
use Rattle.mailbox_rows.specs.RowViews.{AreRisingRows, rows_after_uid}
use Rattle.session_view.specs.declared.view_entry.ViewEntry.{ViewEntry}
use Rattle.session_view.specs.declared.view_entry.SyncKind.{SyncKind}
use Rattle.session_view.proofs.SyncLemmas.{announced_by, staying_rising, stays_rising, synced_by}
use Rattle.session_view.proofs.comparison_sync.refresh_view.Goals as goal

-- the messages that were appended to those that stay
module _ (kind : SyncKind) (rows : List ListedMessage) (view staying new : List ViewEntry) (last : ℕ) (k : staying ≡ refreshed_entries kind rows view) (l : last ≡ last_uid staying) (n : new ≡ staying ++ entries_of (rows_after_uid last rows)) where
  new_entries : new ≡ staying ++ entries_of (rows_after_uid (last_uid staying) rows)
  new_entries = n ∙ ap (λ (u : ℕ). staying ++ entries_of (rows_after_uid u rows)) l

  all_entries : new ≡ view_after_sync kind rows view
  all_entries = synced_by kind rows view staying new k new_entries

  are_rising : AreRisingRows 1 rows → AreRising 1 view → AreRising 1 new
  are_rising r v = subst (λ (es : List ViewEntry). AreRising 1 es) (sym all_entries) (stays_rising kind rows view r v)

  exists_sent : (old : List Answer) (before now : ℕ) → before ≡ length staying → now ≡ length new → old ++ exists_if_more before now ≡ old ++ exists_of_sync rows (staying_entries kind rows view)
  exists_sent old before now b m =
      ap (λ (i : ℕ). old ++ exists_if_more i now) b
      ∙ ap (λ (i : ℕ). old ++ exists_if_more (length staying) i) m
      ∙ ap (λ (as' : List Answer). old ++ as') (announced_by kind rows view staying new k new_entries)

pub count_of-before-requires : goal.count_of-before-requires
count_of-before-requires c =
    subst (λ (es : List ViewEntry). AreRising 1 es) (sym (c.in_ok-entries.ensures {u = tt})) (staying_rising c.args.kind c.args.rows.now c.args.view.now.items c.requires)

pub count_of-requires : goal.count_of-requires
count_of-requires c =
    are_rising c.args.kind c.args.rows.now c.args.view.now.items c.in_ok-entries.entries.items c.push_new.new.entries.items c.last_uid-last.result
    (c.in_ok-entries.ensures {u = tt}) c.last_uid-last.ensures (c.in_ok-push_new.ensures {u = tt}) c.count-count.ensures.rising c.requires

pub returns-clause-entries : goal.returns-clause-entries
returns-clause-entries c =
    all_entries c.args.kind c.args.rows.now c.args.view.now.items c.in_ok-entries.entries.items c.push_new.new.entries.items c.last_uid-last.result
    (c.in_ok-entries.ensures {u = tt}) c.last_uid-last.ensures (c.in_ok-push_new.ensures {u = tt})

pub returns-clause-rising : goal.returns-clause-rising
returns-clause-rising c =
    are_rising c.args.kind c.args.rows.now c.args.view.now.items c.in_ok-entries.entries.items c.push_new.new.entries.items c.last_uid-last.result
    (c.in_ok-entries.ensures {u = tt}) c.last_uid-last.ensures (c.in_ok-push_new.ensures {u = tt}) c.count-count.ensures.rising c.requires

pub returns-clause-answers : goal.returns-clause-answers
returns-clause-answers c =
    c.in_ok-push_exists.ensures {u = tt}
    ∙ exists_sent c.args.kind c.args.rows.now c.args.view.now.items c.in_ok-entries.entries.items c.push_new.new.entries.items c.last_uid-last.result
    (c.in_ok-entries.ensures {u = tt}) c.last_uid-last.ensures (c.in_ok-push_new.ensures {u = tt})
    c.args.answers.now.items c.count_of-before.result c.count_of.result c.count_of-before.ensures.count c.count_of.ensures.count
