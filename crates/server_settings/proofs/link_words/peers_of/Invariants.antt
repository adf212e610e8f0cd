use Rattle.std.proofs.Common.{◌≡◌, ◌++◌, map, take}
use Rattle.server_settings.specs.Links.{IsPeerText}
use Rattle.server_settings.specs.Settings.{AreNames, AreTexts, names_of}
use Rattle.server_settings.proofs.link_words.peers_of.Given as goal

abbrev pub invariant-loop-text : goal.invariant-loop-text
invariant-loop-text l =
    record {
      names : AreNames l.names.items;
      same : l.names.items ≡ l.initial.names.items ++ names_of l.peers.items;
      texts : AreTexts IsPeerText (map (λ text. text.now) (take l.text-index l.texts)) l.peers.items;
    }
