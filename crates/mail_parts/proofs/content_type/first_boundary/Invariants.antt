use Rattle.std.proofs.Common.{◌≡◌, drop}
use Rattle.mail_parts.specs.ContentTypes.{first_boundary}
use Rattle.mail_parts.proofs.content_type.first_boundary.Given as goal

abbrev pub invariant-loop-parameter : goal.invariant-loop-parameter
invariant-loop-parameter l = first_boundary (drop l.parameter-index l.parameters) ≡ first_boundary l.parameters
