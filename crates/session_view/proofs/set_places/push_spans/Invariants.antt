use Rattle.std.proofs.Common.{◌≡◌, ◌++◌, ◌-◌, ◌≤◌, drop}
use Rattle.session_view.specs.Spans.{AreSorted, covered}
use Rattle.session_view.proofs.set_places.push_spans.Given as goal

abbrev pub invariant-loop-span : goal.invariant-loop-span
invariant-loop-span l =
    record {
      done : l.done ≤ l.count;
      sorted : AreSorted 0 (drop l.span-index l.spans);
      numbers : l.numbers.items ++ covered (drop l.span-index l.spans) l.done (l.count - l.done) ≡ l.fn.numbers.items ++ covered l.spans 0 l.count;
    }
