-- Unions of flags, and the versions of a message whose flags they unite (RFC 9051, section 2.3.2).

pub use Rattle.imap_types.specs.Unions.{union_of, united_flags, version_ids, with_flags}
