use Rattle.std.proofs.Common.{◌≡◌, take}
use Rattle.imap_types.proofs.version.copy_versions.Given as goal

abbrev pub invariant-loop-version : goal.invariant-loop-version
invariant-loop-version l = l.copies.items ≡ take l.version-index l.versions
