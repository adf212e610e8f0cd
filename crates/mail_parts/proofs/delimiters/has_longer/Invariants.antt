use Rattle.std.proofs.Common.{◌≡◌, drop}
use Rattle.mail_parts.specs.Delimiters.{has_longer_boundary}
use Rattle.mail_parts.proofs.delimiters.has_longer.Given as goal

abbrev pub invariant-loop-boundary : goal.invariant-loop-boundary
invariant-loop-boundary l =
    has_longer_boundary (drop l.boundary-index l.boundaries) l.own l.line ≡ has_longer_boundary l.boundaries l.own l.line
