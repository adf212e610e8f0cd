use Rattle.std.proofs.Common.{◌≡◌, ◌≤◌, ◌++◌, drop}
use Rattle.mail_fields.specs.HeaderValues.{elements_of, elements_within}
use Rattle.mail_fields.specs.ElementReading.{depth_of}
use Rattle.mail_fields.proofs.elements.elements_of.Given as goal

abbrev pub invariant-loop-octet : goal.invariant-loop-octet
invariant-loop-octet l =
    record {
      deep : depth_of l.within ≤ l.octet-index;
      same : l.elements.items ++ elements_within l.within l.text.items (drop l.octet-index l.value) ≡ elements_of l.value;
    }
