use Rattle.std.proofs.Common.{◌≡◌, ◌∙◌, eq-eqb, ne_eqb}
use Rattle.imap_query.proofs.ListingLemmas.{octet_read, separator_read}
use Rattle.imap_query.proofs.list_entries.insert_levels_of.Goals as goal
use Rattle.imap_query.proofs.list_entries.insert_levels_of.Goals.{then-folder-at-eq47+in_ok-insert_level, else-folder-at-eq47}

pub loop-at-preserved : goal.loop-at-preserved
loop-at-preserved c =
    let pattern = c.args.pattern.now in
    let folders = c.args.folders.now in
    let folder = c.args.folder.now in
    let before = c.loop-at.entries.items in
    let after = c.if-folder-at-eq47.entries.items in
    elim c.if-folder-at-eq47.branch [
      | then-folder-at-eq47+in_ok-insert_level w ↦
          let placed : after ≡ w.insert_level.new.entries.items = λ k. (w.entries-is k).items in
          separator_read pattern folders folder c.loop-at.at 0 before after c.loop-at-test.true (eq-eqb _ _ w.if-folder-at-eq47.true) (placed ∙ w.in_ok-insert_level.ensures {u = tt}) ∙ c.loop-at.invariant
      | else-folder-at-eq47 w ↦
          octet_read pattern folders folder c.loop-at.at 0 before after c.loop-at-test.true (ne_eqb _ _ w.if-folder-at-eq47.false) (λ k. (w.entries-is k).items) ∙ c.loop-at.invariant
    ]
