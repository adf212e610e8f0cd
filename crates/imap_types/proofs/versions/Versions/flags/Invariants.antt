use Rattle.std.proofs.Common.{◌≡◌, take}
use Rattle.imap_types.specs.Unions.{united_flags}
use Rattle.imap_types.proofs.versions.Versions.flags.Given as goal

abbrev pub invariant-loop-version : goal.invariant-loop-version
invariant-loop-version l = l.union ≡ united_flags (take l.version-index l.version-items)
