use Rattle.std.proofs.Common.{◌≡◌, ◌++◌, false, drop}
use Rattle.body_print.specs.FieldTexts.{unfolded_after}
use Rattle.body_print.proofs.field_texts.unfolded.Given as goal

abbrev pub invariant-loop-octet : goal.invariant-loop-octet
invariant-loop-octet l = l.text.items ++ unfolded_after l.after_cr (drop l.octet-index l.value) ≡ unfolded_after false l.value
