-- The union of the flags of a message's versions (RFC 9051, section 2.3.2).

use Rattle.std.specs.Prelude.{◌||◌, List, [], map}
use Rattle.std.specs.List.{flat_map, fold, list_any}
use Rattle.imap_types.specs.Keywords.{with_word}
use Rattle.imap_types.specs.declared.flags.Flags.{Flags}
use Rattle.tags_clocks.specs.declared.id.OpId.{OpId}
use Rattle.imap_types.specs.declared.version.Version.{Version}

-- The union of flags: each system flag that any of them has, and all their keywords, distinct and
-- ascending by octets (RFC 9051, section 2.3.2). It may have more keywords than one operation may
-- carry.
abbrev pub union_of : List Flags → Flags
union_of flags = record {
  answered = list_any (λ f. f.answered) flags;
  flagged = list_any (λ f. f.flagged) flags;
  deleted = list_any (λ f. f.deleted) flags;
  seen = list_any (λ f. f.seen) flags;
  draft = list_any (λ f. f.draft) flags;
  keywords = fold (λ done word. with_word word done) [] (flat_map (λ f. f.keywords) flags);
}

-- Flags with others added.
abbrev pub with_flags : Flags → Flags → Flags
with_flags flags more = record {
  answered = flags.answered || more.answered;
  flagged = flags.flagged || more.flagged;
  deleted = flags.deleted || more.deleted;
  seen = flags.seen || more.seen;
  draft = flags.draft || more.draft;
  keywords = fold (λ done word. with_word word done) flags.keywords more.keywords;
}

-- The ids of versions.
abbrev pub version_ids : List Version → List OpId
version_ids versions = map (λ v. v.id) versions

-- The flags of a message with these versions: the union of their flags.
abbrev pub united_flags : List Version → Flags
united_flags versions = union_of (map (λ v. v.flags) versions)
