use Rattle.std.proofs.Common.{◌≡◌, drop}
use Rattle.mail_parts.specs.Delimiters.{is_delimiter}
use Rattle.mail_parts.proofs.delimiters.is_delimiter.Given as goal

abbrev pub invariant-loop-boundary : goal.invariant-loop-boundary
invariant-loop-boundary l = is_delimiter (drop l.boundary-index l.boundaries) l.line ≡ is_delimiter l.boundaries l.line
