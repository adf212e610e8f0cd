-- How a process is linked with others, as its command line names it.

use Rattle.std.specs.Prelude.{◌≡◌, ◌≢◌, ℕ, List, [], ◌∷◌, ◌++◌, Option, None, Some, codes, length}
use Rattle.std.specs.Prelude.{IsSome, option_map}
use Rattle.std.specs.Borrow.{Bor}
use Rattle.clap.specs.Words.{Row, all_of, first_of}
use Rattle.server_settings.specs.Options.{values_of}
use Rattle.server_settings.specs.Settings.{AreNames, AreTexts, IsNameText, IsPlaceText, names_of}
use Rattle.server_settings.specs.declared.link_words.LinkWords.{LinkWords}
use Rattle.server_settings.specs.declared.settings.Join.{Join}
use Rattle.server_settings.specs.declared.settings.Place.{Place}

-- The text is a host of at least one octet, `:` (58), and a port, which has the form of a replica's
-- name. No port has a `:`, so this one is the text's last.
abbrev pub IsHostPort : List ℕ → Type 0
IsHostPort text =
    (host port : List ℕ)
    × (number : ℕ)
    × (host ≢ [])
    × IsNameText port number
    × (text ≡ host ++ 58 ∷ port)

-- The text is a process to which connections are opened: its replica's name, `=`, and a host with a
-- port.
abbrev pub IsPeerText : List ℕ → Place → Type 0
IsPeerText text peer = IsPlaceText text peer × IsHostPort peer.address.now

-- The links that were named: where the process listens for them is the value of `--link-listen`,
-- its peers those of `--peer`, and its secret's file that of `--secret-file`; one of the first two
-- was given. Without links none of the three was.
abbrev pub NamesLinks : List Row → Option LinkWords → Type 0
NamesLinks rows None =
    (first_of (codes "link-listen") rows ≡ None)
    × (values_of (all_of (codes "peer") rows) ≡ [])
    × (first_of (codes "secret-file") rows ≡ None)
NamesLinks rows (Some words) =
    (option_map (λ (address : Bor (List ℕ)). address.now) words.listen
    ≡ first_of (codes "link-listen") rows)
    × AreTexts IsPeerText (values_of (all_of (codes "peer") rows)) words.peers.items
    × (first_of (codes "secret-file") rows ≡ Some words.secret_file.now)
    × (words.listen ≡ None → words.peers.items ≢ [])

-- Links are for a process with one replica, none that is to join, and a store; its name and those
-- of its peers are distinct.
pub record MayBeLinked (places : List Place) (joins : List Join) (store : Option (Bor (List ℕ)))
    (peers : List Place) : Type 0 where
  pub one : length places ≡ 1
  pub none : length joins ≡ 0
  pub stored : IsSome store
  pub names : AreNames (names_of places ++ names_of peers)
