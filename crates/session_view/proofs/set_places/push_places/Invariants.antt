use Rattle.std.proofs.Common.{◌≡◌, ◌++◌, ◌+◌, ◌-◌, ◌≤◌, vec_capacity}
use Rattle.std.specs.Prelude.{vec_len}
use Rattle.session_view.specs.Spans.{numbered}
use Rattle.session_view.proofs.set_places.push_places.Given as goal

abbrev pub invariant-loop-place : goal.invariant-loop-place
invariant-loop-place l =
    record {
      items : l.numbers.items ++ numbered l.place (l.end - l.place) ≡ l.fn.numbers.items ++ numbered l.start (l.end - l.start);
      room : vec_len l.numbers + (l.end - l.place) ≤ vec_capacity l.numbers;
    }
