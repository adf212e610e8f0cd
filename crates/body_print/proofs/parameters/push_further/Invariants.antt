use Rattle.std.proofs.Common.{◌≡◌, ◌++◌, drop}
use Rattle.body_print.specs.FieldTexts.{further_parameters}
use Rattle.body_print.specs.Values.{spaced_text}
use Rattle.body_print.proofs.parameters.push_further.Given as goal

abbrev pub invariant-loop-parameter : goal.invariant-loop-parameter
invariant-loop-parameter l =
    l.out.items ++ spaced_text (further_parameters (drop l.parameter-index l.parameters)) ≡ l.initial.out.items ++ spaced_text (further_parameters l.parameters)
