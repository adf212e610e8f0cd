use Rattle.std.proofs.Common.{◌≡◌, ◌∙◌, [], OnOk, ap, subst}
use Rattle.std.specs.List.{cons_option, fold}
use Rattle.std.specs.Option.{IfSome, MatchOption}
use Rattle.imap_types.specs.Ascending.{octet_order}
use Rattle.crdt_ops.specs.SortedSets.{insert_ordered}
use Rattle.folder_state.specs.FolderTables.{IsIndexedFolder, name_if_tagged, has_ids}
use Rattle.folder_state.proofs.Counting.{on_ok_by}
use Rattle.folder_state.proofs.Listing.{folder_named_by, put_named}
use Rattle.folder_state.proofs.folder_lists.insert_folder_name.Goals as goal

pub returns-in-Some-clause-known : goal.returns-in-Some-clause-known
returns-in-Some-clause-known c =
    let post = c.in-Some.ensures {u = tt} in
    subst (λ o. IfSome o (IsIndexedFolder c.args.by_name.now.entries)) post.entry (post.value, c.insert_if_tagged.ensures.indexed)

pub returns-in-Some-clause-names : goal.returns-in-Some-clause-names
returns-in-Some-clause-names c =
    let post = c.in-Some.ensures {u = tt} in
    let old = c.args.names.now.items in
    let new = c.insert_if_tagged.new.names.items in
    subst (λ o. MatchOption o (OnOk c.insert_if_tagged.result (new ≡ old)) (λ e. OnOk c.insert_if_tagged.result (new ≡ fold (λ done name. insert_ordered octet_order name done) old (cons_option (name_if_tagged e) [])))) post.entry
    (on_ok_by c.insert_if_tagged.result (λ h. h ∙ put_named (has_ids c.in-Some.folder.now) c.as_slice.result.now old ∙ ap (λ name. fold (λ done n. insert_ordered octet_order n done) old (cons_option (folder_named_by (has_ids c.in-Some.folder.now) name) [])) c.as_slice.ensures.value) c.insert_if_tagged.ensures.names)
