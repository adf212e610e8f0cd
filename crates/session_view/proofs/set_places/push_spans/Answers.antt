use Rattle.std.proofs.Common.{◌≡◌, List, ◌∷◌, ◌++◌, ◌+◌, ◌-◌, drop, slice_index_or, append-nil, ap, sym, ◌∙◌, subst, arith}
use Rattle.session_view.specs.Spans.{AreSorted, covered}
use Rattle.session_view.specs.declared.set_places.Span.{Span}
use Rattle.session_view.proofs.PlaceLemmas.{none_left, sorted_lower, spans_end, spans_next}
use Rattle.session_view.proofs.set_places.push_spans.Goals as goal

pub loop-span-preserved : goal.loop-span-preserved
loop-span-preserved c =
    let first : Span = record { start = 0; end = 0 } in
    let span = slice_index_or c.args.spans.now c.loop-span.span-index first in
    let rest = drop (c.loop-span.span-index + 1) c.args.spans.now in
    let next : drop c.loop-span.span-index c.args.spans.now ≡ span ∷ rest = spans_next c.args.spans.now c.loop-span.span-index first c.loop-span-test.true in
    let sorted : AreSorted 0 (span ∷ rest) = subst (λ (spans : List Span). AreSorted 0 spans) next c.loop-span.invariant.sorted in
    record {
      done = (c.in_ok-done.ensures {u = tt}).done;
      sorted = sorted_lower 0 span.start rest (omega arith) sorted.1;
      numbers =
          (c.in_ok-done.ensures {u = tt}).numbers rest sorted.1
          ∙ ap (λ (spans : List Span). c.loop-span.numbers.items ++ covered spans c.loop-span.done (c.args.count - c.loop-span.done)) (sym next)
          ∙ c.loop-span.invariant.numbers;
    }

pub returns : goal.returns
returns c =
    let left = c.args.count - c.loop-span.done in
    sym (append-nil c.loop-span.numbers.items)
    ∙ ap (λ ns. c.loop-span.numbers.items ++ ns) (sym (ap (λ (spans : List Span). covered spans c.loop-span.done left) (spans_end c.args.spans.now c.loop-span.span-index c.loop-span-test.false) ∙ none_left c.loop-span.done left))
    ∙ c.loop-span.invariant.numbers
