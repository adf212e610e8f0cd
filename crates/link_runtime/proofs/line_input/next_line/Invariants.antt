use Rattle.std.proofs.Common.{◌≡◌, ◌≤◌, [], length}
use Rattle.link_runtime.proofs.InputLemmas.{HasGiven}
use Rattle.link_runtime.proofs.line_input.next_line.Given as goal

abbrev pub invariant-loop-read : goal.invariant-loop-read
invariant-loop-read g l = record {
  given : HasGiven (g.S.Source.left l.fn.source) l.fn.rest.items (g.S.Source.left l.source) l.cutter;
  none_left : l.rest.items ≡ [];
  reads : g.S.Source.failures l.source ≡ g.S.Source.failures l.fn.source;
  long : l._read ≤ length l.cutter.line;
}
