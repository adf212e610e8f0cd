use Rattle.std.proofs.Common.{◌≡◌, take}
use Rattle.std.specs.List.{list_all}
use Rattle.imap_types.specs.Escape.{is_plain}
use Rattle.imap_types.proofs.escape.are_plain.Given as goal

abbrev pub invariant-loop-octet : goal.invariant-loop-octet
invariant-loop-octet l = l.all ≡ list_all (is_plain l.fn.escape) (take l.octet-index l.octets)
