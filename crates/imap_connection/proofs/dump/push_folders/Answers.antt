use Rattle.std.proofs.Common.{◌≡◌, ◌+◌, ◌<◌, [], ◌∷◌, ◌++◌, length, take, ap, sym, ◌∙◌, arith}
use Rattle.std.proofs.lemmas.List.{flat_map_more, take_more}
use Rattle.std.specs.List.{flat_map}
use Rattle.crdt_ops.specs.DumpLines.{folder_lines}
use Rattle.imap_connection.proofs.dump.push_folders.Goals as goal

pub loop-folder-preserved : goal.loop-folder-preserved
loop-folder-preserved c =
    let line = folder_lines c.args.replica.now.applied in
    let i = c.loop-folder.folder-index in
    let folders = c.deref-folder-items.result.now in
    let folder = c.folder-item.result in
    let before = c.args.text.now.items in
    let inside : i < length folders = omega arith in
    let next : take (i + 1) folders ≡ take i folders ++ folder ∷ [] = take_more folders i folder inside ∙ ap (λ f. take i folders ++ f ∷ []) (sym c.folder-item.is) in
    c.in_ok-push_folder.ensures {u = tt} ∙ ap (λ text. text ++ line folder) c.loop-folder.invariant ∙ flat_map_more line before (take i folders) folder
    ∙ ap (λ fs. before ++ flat_map line fs) (sym next)
