use Rattle.std.proofs.Common.{◌≡◌, take}
use Rattle.std.specs.List.{flat_map, fold}
use Rattle.imap_types.specs.Keywords.{with_word}
use Rattle.imap_types.proofs.unions.add_version_keywords.Given as goal

abbrev pub invariant-loop-version : goal.invariant-loop-version
invariant-loop-version l = l.union ≡ fold (λ done word. with_word word done) l.initial.union (flat_map (λ v. v.flags.keywords) (take l.version-index l.versions))
