use Rattle.std.proofs.Common.{◌≡◌, drop}
use Rattle.session_view.specs.Sets.{range_is_in_view}
use Rattle.std.specs.List.{list_all}
use Rattle.session_view.proofs.set_range.are_in_view.Given as goal

abbrev pub invariant-loop-range : goal.invariant-loop-range
invariant-loop-range l =
    list_all (range_is_in_view l.count) (drop l.range-index l.set) ≡ list_all (range_is_in_view l.count) l.set
