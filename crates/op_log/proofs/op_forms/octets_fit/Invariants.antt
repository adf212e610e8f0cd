use Rattle.std.proofs.Common.{drop}
use Rattle.imap_types.specs.Escape.{AreOctets}
use Rattle.op_log.proofs.op_forms.octets_fit.Given as goal

abbrev pub invariant-loop-octet : goal.invariant-loop-octet
invariant-loop-octet l = AreOctets (drop l.octet-index l.octets) → AreOctets l.octets
