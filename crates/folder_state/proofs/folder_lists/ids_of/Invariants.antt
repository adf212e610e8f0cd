use Rattle.std.proofs.Common.{◌≡◌, ◌++◌, drop}
use Rattle.imap_types.specs.Unions.{version_ids}
use Rattle.folder_state.proofs.folder_lists.ids_of.Given as goal

abbrev pub invariant-loop-version : goal.invariant-loop-version
invariant-loop-version l = l.ids.items ++ version_ids (drop l.version-index l.versions) ≡ version_ids l.versions
