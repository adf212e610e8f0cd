use Rattle.std.proofs.Common.{◌≡◌, ◌++◌, map, take}
use Rattle.server_settings.specs.Settings.{AreNames, AreTexts, HavePeers, IsJoinText, join_names_of}
use Rattle.server_settings.proofs.settings.joins_of.Given as goal

abbrev pub invariant-loop-text : goal.invariant-loop-text
invariant-loop-text l =
    record {
      names : AreNames l.names.items;
      same : l.names.items ≡ l.initial.names.items ++ join_names_of l.joins.items;
      peers : HavePeers l.initial.names.items l.joins.items;
      texts : AreTexts IsJoinText (map (λ text. text.now) (take l.text-index l.texts)) l.joins.items;
    }
