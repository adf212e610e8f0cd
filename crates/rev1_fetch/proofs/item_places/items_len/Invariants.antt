use Rattle.std.proofs.Common.{◌≡◌, ◌+◌, drop}
use Rattle.rev1_fetch.specs.ItemPlaces.{items_len}
use Rattle.rev1_fetch.specs.declared.item_places.Place.TheVariants.{Outside}
use Rattle.rev1_fetch.proofs.item_places.items_len.Given as goal

abbrev pub invariant-loop-octet : goal.invariant-loop-octet
invariant-loop-octet l =
    (l.len ≡ l.octet-index)
    × (l.len + items_len l.are_several l.place (drop l.len l.octets) ≡ items_len l.are_several Outside l.octets)
