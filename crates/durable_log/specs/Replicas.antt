-- Whose log it is.

pub use Rattle.op_log.specs.Replicas.{IsLogOf, has_first_line, other_replica}
