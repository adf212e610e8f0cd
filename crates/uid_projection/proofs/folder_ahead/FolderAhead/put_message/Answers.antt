use Rattle.std.proofs.Common.{◌≡◌, true, ◌&&◌, cond, Some, sym, ◌∙◌, rules}
use Rattle.std.specs.Str.{bytes_eq}
use Rattle.uid_projection.specs.FolderAhead.{tag_data_ahead, folder_of}
use Rattle.uid_projection.proofs.IdLemmas.{id_sym, on_ok_with}
use Rattle.uid_projection.proofs.folder_ahead.FolderAhead.put_message.Goals as goal

pub returns-clause-tag_data : goal.returns-clause-tag_data
returns-clause-tag_data c =
    let here : bytes_eq (folder_of c.args.self.now) c.args.folder.now ≡ true = search rules in
    on_ok_with c.put.result
    (λ h i. h i ∙ (λ k. cond (sym here k && id_sym c.args.id.now i k) (Some (record { flags = c.args.flags.now; origin = c.args.origin.now })) (tag_data_ahead c.args.self.now i)))
    c.put.ensures.tag_data
