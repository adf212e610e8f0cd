use Rattle.std.proofs.Common.{arith, rules, ap, ◌∙◌, length, List}
use Rattle.std.proofs.lemmas.List.Sorted.{IsNonDecreasingBy-from_sort_by_key}
use Rattle.session_view.specs.Spans.{covered}
use Rattle.session_view.specs.declared.set_places.Span.{Span}
use Rattle.session_view.proofs.PlaceLemmas.{covered_permuted, places_named, sorted_from}
use Rattle.session_view.proofs.set_places.sorted_spans.Goals as goal

pub returns-clause-sorted : goal.returns-clause-sorted
returns-clause-sorted c =
    sorted_from 0 c.sort_by_key.new.self.items (λ d k. omega arith)
    (IsNonDecreasingBy-from_sort_by_key (λ (span : Span). span.start) _ ((c.in_ok-sort_by_key.ensures {u = tt}).sorted) (λ a r q k. search rules))

pub returns-clause-named : goal.returns-clause-named
returns-clause-named c =
    covered_permuted c.in_ok-spans.spans.items c.sort_by_key.new.self.items 0 (length c.args.view.now.items) c.sort_by_key.ensures.permutation
    ∙ ap (λ (spans : List Span). covered spans 0 (length c.args.view.now.items)) (c.in_ok-spans.ensures {u = tt})
    ∙ places_named c.args.by_uid c.args.set.now c.args.view.now.items c.requires
