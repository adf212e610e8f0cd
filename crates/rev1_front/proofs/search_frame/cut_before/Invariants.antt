use Rattle.std.proofs.Common.{◌≡◌, ◌++◌, not, take, drop}
use Rattle.std.specs.Prelude.{◌==◌}
use Rattle.imap_grammar.specs.Reading.{span}
use Rattle.rev1_front.proofs.search_frame.cut_before.Given as goal

abbrev pub invariant-loop-octet : goal.invariant-loop-octet
invariant-loop-octet l =
    (l.len ≡ l.octet-index)
    × (span (λ octet. not (octet == l.end)) l.octets ≡ (take l.len l.octets ++ (span (λ octet. not (octet == l.end)) (drop l.len l.octets)).0, (span (λ octet. not (octet == l.end)) (drop l.len l.octets)).1))
