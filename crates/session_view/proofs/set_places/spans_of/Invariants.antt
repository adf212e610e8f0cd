use Rattle.std.proofs.Common.{◌≡◌, ◌++◌, drop, map}
use Rattle.session_view.specs.Spans.{span_of}
use Rattle.session_view.proofs.set_places.spans_of.Given as goal

abbrev pub invariant-loop-range : goal.invariant-loop-range
invariant-loop-range l = l.spans.items ++ map (span_of l.by_uid l.view.items) (drop l.range-index l.set) ≡ map (span_of l.by_uid l.view.items) l.set
