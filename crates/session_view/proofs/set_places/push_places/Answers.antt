use Rattle.std.proofs.Common.{◌++◌, ◌∷◌, [], List, ℕ, ◌-◌, ◌+◌, ap, ◌∙◌, sym, append_assoc, arith}
use Rattle.session_view.specs.Spans.{numbered}
use Rattle.session_view.proofs.PlaceLemmas.{numbered_cons}
use Rattle.session_view.proofs.set_places.push_places.Goals as goal

pub loop-place-preserved : goal.loop-place-preserved
loop-place-preserved c =
    let k = c.loop-place.place in
    let rest = numbered (k + 1) (c.args.end - (k + 1)) in
    record {
      items =
          ap (λ (ns : List ℕ). ns ++ rest) c.push_reserved.ensures.items
          ∙ append_assoc c.loop-place.numbers.items ((k + 1) ∷ []) rest
          ∙ ap (λ (ns : List ℕ). c.loop-place.numbers.items ++ ns) (sym (numbered_cons k c.args.end c.loop-place-test.true))
          ∙ c.loop-place.invariant.items;
      room = omega (arith, c.push_reserved.ensures.len, c.push_reserved.ensures.capacity, c.loop-place-test.true, c.loop-place.invariant.room);
    }
