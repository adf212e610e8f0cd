use Rattle.std.proofs.Common.{◌≡◌, drop}
use Rattle.std.specs.List.{list_any}
use Rattle.body_print.specs.FieldTexts.{is_charset}
use Rattle.body_print.proofs.parameters.has_charset.Given as goal

abbrev pub invariant-loop-parameter : goal.invariant-loop-parameter
invariant-loop-parameter l = list_any is_charset (drop l.parameter-index l.parameters) ≡ list_any is_charset l.parameters
