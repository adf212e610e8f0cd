use Rattle.std.proofs.Common.{◌≡◌, map, take}
use Rattle.server_settings.specs.Settings.{AreNames, AreTexts, IsPlaceText, names_of}
use Rattle.server_settings.proofs.settings.places_of.Given as goal

abbrev pub invariant-loop-text : goal.invariant-loop-text
invariant-loop-text l =
    record {
      names : AreNames l.names.items;
      same : names_of l.places.items ≡ l.names.items;
      texts : AreTexts IsPlaceText (map (λ text. text.now) (take l.text-index l.texts)) l.places.items;
    }
