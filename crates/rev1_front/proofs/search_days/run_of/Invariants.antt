use Rattle.std.proofs.Common.{◌≡◌, ◌++◌, take, drop}
use Rattle.imap_grammar.specs.Reading.{span}
use Rattle.rev1_front.specs.SentSteps.{is_of_kind}
use Rattle.rev1_front.proofs.search_days.run_of.Given as goal

abbrev pub invariant-loop-octet : goal.invariant-loop-octet
invariant-loop-octet l =
    (l.len ≡ l.octet-index)
    × (span (is_of_kind l.kind) l.octets ≡ (take l.len l.octets ++ (span (is_of_kind l.kind) (drop l.len l.octets)).0, (span (is_of_kind l.kind) (drop l.len l.octets)).1))
