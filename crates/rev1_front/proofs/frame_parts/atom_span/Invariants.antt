use Rattle.std.proofs.Common.{◌≡◌, ◌++◌, take, drop}
use Rattle.imap_syntax.specs.Strings.{is_in}
use Rattle.imap_syntax.specs.declared.octet_class.OctetClass.TheVariants.{Atom}
use Rattle.imap_grammar.specs.Reading.{span}
use Rattle.rev1_front.proofs.frame_parts.atom_span.Given as goal

abbrev pub invariant-loop-octet : goal.invariant-loop-octet
invariant-loop-octet l =
    (l.len ≡ l.octet-index)
    × (span (is_in Atom) l.octets ≡ (take l.len l.octets ++ (span (is_in Atom) (drop l.len l.octets)).0, (span (is_in Atom) (drop l.len l.octets)).1))
