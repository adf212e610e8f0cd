use Rattle.std.proofs.Common.{◌∙◌}
use Rattle.imap_query.proofs.ListingLemmas.{folder_read}
use Rattle.imap_query.proofs.list_entries.insert_levels.Goals as goal

pub loop-folder-preserved : goal.loop-folder-preserved
loop-folder-preserved c =
    folder_read c.args.pattern.now c.args.folders.now c.loop-folder.folder-index c.folder-item.result c.as_bytes.result.now c.loop-folder.entries.items c.insert_levels_of.new.entries.items c.loop-folder-test.true c.folder-item.is c.as_bytes.ensures (c.in_ok-insert_levels_of.ensures {u = tt})
    ∙ c.loop-folder.invariant
