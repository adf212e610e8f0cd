use Rattle.std.proofs.Common.{◌≡◌, ◌++◌, not, take, drop}
use Rattle.std.specs.Prelude.{◌==◌}
use Rattle.imap_grammar.specs.Reading.{span}
use Rattle.rev1_fetch.proofs.fetch_items.cut_at_bracket.Given as goal

abbrev pub invariant-loop-octet : goal.invariant-loop-octet
invariant-loop-octet l =
    (l.len ≡ l.octet-index)
    × (span (λ octet. not (octet == 91)) l.item ≡ (take l.len l.item ++ (span (λ octet. not (octet == 91)) (drop l.len l.item)).0, (span (λ octet. not (octet == 91)) (drop l.len l.item)).1))
