use Rattle.std.proofs.Common.{◌<◌, ℕ, slice_index}
use Rattle.server_runtime.specs.PassFiles.{EndsLine}
use Rattle.server_runtime.proofs.pass_file.line_end.Given as goal

abbrev pub invariant-loop-at : goal.invariant-loop-at
invariant-loop-at l = (place : ℕ) → place < l.at → EndsLine (slice_index l.octets place) → ⊥
