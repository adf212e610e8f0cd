use Rattle.std.proofs.Common.{◌≡◌, take, true}
use Rattle.std.specs.List.{list_all}
use Rattle.imap_types.specs.Escape.{is_plain}
use Rattle.imap_types.proofs.escape.plain_one_by_one.Given as goal

abbrev pub invariant-loop-octet : goal.invariant-loop-octet
invariant-loop-octet l = (l.count ≡ l.octet-index) × (list_all (is_plain l.escape) (take l.octet-index l.octets) ≡ true)
