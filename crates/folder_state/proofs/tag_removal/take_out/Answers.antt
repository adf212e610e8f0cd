use Rattle.std.proofs.Common.{◌≡◌, Option, None, Some, ap, sym, ◌∙◌}
use Rattle.std.specs.Global.{Vec}
use Rattle.imap_types.specs.declared.version.Version.{Version}
use Rattle.folder_state.specs.FolderTables.{versions_or_none}
use Rattle.folder_state.proofs.Lenses.{same_turned}
use Rattle.folder_state.proofs.tag_removal.take_out.Goals as goal

pub returns-then-remove_version-clause-taken : goal.returns-then-remove_version-clause-taken
returns-then-remove_version-clause-taken c =
    let post = c.remove_version.ensures in
    let removed = c.swap_remove.ensures.updates in
    record {
      here = ap versions_or_none removed.1 ∙ sym (post.none c.if-remove_version.true) ∙ post.here;
      others = λ o f. removed.2 o (same_turned c.args.origin.now o ∙ f) ∙ post.others o f;
      some = λ vs e. absurd (let k : ◌≡◌ {A = Option (Vec Version)} None (Some vs) = sym removed.1 ∙ e in cc);
      places = λ vs e. absurd (let k : ◌≡◌ {A = Option (Vec Version)} None (Some vs) = sym removed.1 ∙ e in cc);
    }

pub returns-else-remove_version-clause-taken : goal.returns-else-remove_version-clause-taken
returns-else-remove_version-clause-taken c =
    let post = c.remove_version.ensures in
    record { here = post.here; others = post.others; some = post.some c.if-remove_version.false; places = post.places }
