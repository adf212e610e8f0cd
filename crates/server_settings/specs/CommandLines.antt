-- The settings that the words of a command line name.

use Rattle.std.specs.Prelude.{◌++◌, List, IfSome}
use Rattle.clap.specs.Words.{Row}
use Rattle.server_settings.specs.Links.{MayBeLinked, NamesLinks}
use Rattle.server_settings.specs.Options.{NamesGivenAccess, NamesJournalBound, NamesLimits}
use Rattle.server_settings.specs.Options.{NamesJoins, NamesReplicas, NamesRev1, NamesStore}
use Rattle.server_settings.specs.Settings.{AreAmong, AreNames, HavePeers, join_names_of, names_of}
use Rattle.server_settings.specs.declared.settings.CommandLine.{CommandLine}

-- Each setting is what its words name. The replicas' names are distinct; each replica that joins
-- has a peer that exists before it; those that listen for IMAP4rev1 are among them, once each; and
-- if there are links, the process may be linked.
pub record NamesSettings (rows : List Row) (settings : CommandLine) : Type 0 where
  pub access : NamesGivenAccess rows settings.access
  pub limits : NamesLimits rows settings.limits
  pub journal : NamesJournalBound rows settings.journal
  pub store : NamesStore rows settings.store
  pub replicas : NamesReplicas rows settings.places.items
  pub joins : NamesJoins rows settings.joins.items
  pub rev1 : NamesRev1 rows settings.rev1.items
  pub links : NamesLinks rows settings.links
  pub names : AreNames (names_of settings.places.items ++ join_names_of settings.joins.items)
  pub peers : HavePeers (names_of settings.places.items) settings.joins.items
  pub among : AreAmong (names_of settings.places.items ++ join_names_of settings.joins.items)
      settings.rev1.items
  pub linked : IfSome settings.links (λ words. MayBeLinked settings.places.items settings.joins.items
      settings.store words.peers.items)
