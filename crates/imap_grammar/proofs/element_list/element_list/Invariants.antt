use Rattle.std.proofs.Common.{◌≡◌, ◌-◌, length}
use Rattle.imap_grammar.specs.Reading.{listed_at, more_at}
use Rattle.imap_grammar.proofs.Lists.{with_list}
use Rattle.imap_grammar.proofs.element_list.element_list.Given as goal

abbrev pub invariant-loop : goal.invariant-loop
invariant-loop g l =
    with_list l.values.items (more_at (length l.octets - l.counter) l.separator g.E.ListElement.read_at l.rest) ≡ listed_at l.separator g.E.ListElement.read_at l.octets
