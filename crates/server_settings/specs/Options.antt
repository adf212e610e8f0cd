-- The words of the server's command line, in the terms of `clap`, and the access, the limits, the
-- bound of journals, the store and the replicas that they name.

use Rattle.std.specs.Prelude.{◌≡◌, ℕ, true, List, [], Option, None, Some, codes}
use Rattle.std.specs.Borrow.{Bor}
use Rattle.std.specs.Prelude.{option_map}
use Rattle.clap.specs.Lexer.{usize_max}
use Rattle.clap.specs.Words.{App, Row, Rule, all_of, first_of, new_app, new_rule, one_of}
use Rattle.clap.specs.Words.{with_rule}
use Rattle.clap.specs.declared.builder.action.ArgAction.TheVariants.{Append, Set, SetTrue}
use Rattle.clap.specs.declared.builder.value_parser.ValueParser.TheVariants.{Unsigned}
use Rattle.server_settings.specs.Settings.{AreTexts, IsJoinText, IsJournalBound, IsNumberOption}
use Rattle.server_settings.specs.Settings.{IsPlaceText}
use Rattle.server_settings.specs.declared.settings.Access.{Access}
use Rattle.server_settings.specs.declared.settings.Access.TheVariants.{Password, Preauth}
use Rattle.server_settings.specs.declared.settings.ClientLimits.{ClientLimits}
use Rattle.server_settings.specs.declared.settings.GivenAccess.{GivenAccess}
use Rattle.server_settings.specs.declared.settings.GivenAccess.TheVariants.{PassFile, Whole}
use Rattle.server_settings.specs.declared.settings.Join.{Join}
use Rattle.server_settings.specs.declared.settings.Place.{Place}

-- ---- the words that the program knows

abbrev pub preauth_word : Rule
preauth_word =
    record (new_rule (codes "preauth")) { long = Some (codes "preauth"); action = Some SetTrue }

-- A word with a value.
abbrev pub word_with_value : List ℕ → Rule
word_with_value name = record (new_rule name) { long = Some name; action = Some Set }

-- A word whose value is a number from 1 to `most`.
abbrev pub number_word : List ℕ → ℕ → Rule
number_word name most = record (word_with_value name) { parser = Some (Unsigned 1 most) }

abbrev pub stop_word : Rule
stop_word = record (word_with_value (codes "stop-after")) { parser = Some (Unsigned 0 4294967295) }

abbrev pub join_word : Rule
join_word = record (new_rule (codes "join")) { long = Some (codes "join"); action = Some Append }

abbrev pub replica_word : Rule
replica_word =
    record (new_rule (codes "REPLICA")) {
      required = true;
      action = Some Append;
      range = Some (record { start_inclusive = 1; end_inclusive = usize_max });
    }

abbrev pub peer_word : Rule
peer_word = record (new_rule (codes "peer")) { long = Some (codes "peer"); action = Some Append }

abbrev pub rev1_word : Rule
rev1_word = record (new_rule (codes "rev1")) { long = Some (codes "rev1"); action = Some Append }

-- The words for users.
abbrev pub with_access_words : App → App
with_access_words app =
    with_rule (with_rule (with_rule (with_rule app preauth_word) (word_with_value (codes "user")))
    (word_with_value (codes "pass"))) (word_with_value (codes "pass-file"))

-- The words for limits: seconds to log in, seconds of silence, seconds for an answer that isn't
-- taken, and octets of a command's literals.
abbrev pub with_limit_words : App → App
with_limit_words app =
    with_rule (with_rule (with_rule (with_rule app (number_word (codes "login-time") 4294967295))
    (number_word (codes "idle-time") 4294967295)) (number_word (codes "write-time") 4294967295))
    (number_word (codes "literal-limit") 20971520)

-- The words for links: where the process listens for them, the processes to which it opens them,
-- and the file of the secret.
abbrev pub with_link_words : App → App
with_link_words app = with_rule (with_rule (with_rule app (word_with_value (codes "link-listen")))
    peer_word) (word_with_value (codes "secret-file"))

-- The words for the end of the server, for journals, for the store, for replicas that join, for
-- IMAP4rev1, for links, and for replicas.
abbrev pub with_replica_words : App → App
with_replica_words app = with_rule (with_link_words (with_rule
    (with_rule (with_rule (with_rule (with_rule app stop_word) (word_with_value (codes "journal")))
    (word_with_value (codes "store"))) join_word) rev1_word)) replica_word

-- The program has a version, so clap adds its own word for it, `--version`.
abbrev pub with_version : App → App
with_version app = record app { top = record app.top { has_version = true } }

-- All words that the program knows; clap also adds `--help`.
abbrev pub server_words : App
server_words = with_replica_words
    (with_limit_words (with_access_words (with_version (new_app (codes "imap_server")))))

-- ---- who may use the server

-- `--preauth` was given: its value is present, and isn't the default.
abbrev pub IsPreauth : List Row → Type 0
IsPreauth rows =
    ((one_of (codes "preauth") rows ≡ None) → ⊥)
    × ((one_of (codes "preauth") rows ≡ Some (codes "false")) → ⊥)

-- The access that was named: `--preauth`, and neither `--user` nor `--pass`; or both of these, and
-- not `--preauth`.
abbrev pub NamesAccess : List Row → Access → Type 0
NamesAccess rows Preauth =
    IsPreauth rows × (first_of (codes "user") rows ≡ None) × (first_of (codes "pass") rows ≡ None)
NamesAccess rows (Password user pass) =
    ((one_of (codes "preauth") rows ≡ Some (codes "true")) → ⊥)
    × (first_of (codes "user") rows ≡ Some user.now)
    × (first_of (codes "pass") rows ≡ Some pass.now)

-- The access that was named, all of it in words and no `--pass-file`; or the user and the file,
-- and neither `--preauth` nor `--pass`.
abbrev pub NamesGivenAccess : List Row → GivenAccess → Type 0
NamesGivenAccess rows (Whole access) =
    NamesAccess rows access × (first_of (codes "pass-file") rows ≡ None)
NamesGivenAccess rows (PassFile user path) =
    ((one_of (codes "preauth") rows ≡ Some (codes "true")) → ⊥)
    × (first_of (codes "user") rows ≡ Some user.now)
    × (first_of (codes "pass") rows ≡ None)
    × (first_of (codes "pass-file") rows ≡ Some path.now)

-- ---- the limits on clients

-- Each limit is the number of its word's value, from 1 on; without the word, 60 seconds to log in,
-- 30 minutes of silence, 60 seconds for an answer that isn't taken, and 1 MiB of literals, of at
-- most 20.
pub record NamesLimits (rows : List Row) (limits : ClientLimits) : Type 0 where
  pub login_time : IsNumberOption (one_of (codes "login-time") rows) 60 4294967295 limits.login_time
  pub idle_time : IsNumberOption (one_of (codes "idle-time") rows) 1800 4294967295 limits.idle_time
  pub write_time : IsNumberOption (one_of (codes "write-time") rows) 60 4294967295 limits.write_time
  pub literals : IsNumberOption (one_of (codes "literal-limit") rows) 1048576 20971520
      limits.literals

-- ---- the bound of each journal

-- The bound is that of the value of `--journal`, or the one without a value if it wasn't given.
abbrev pub NamesJournalBound : List Row → Option ℕ → Type 0
NamesJournalBound rows bound = IsJournalBound (first_of (codes "journal") rows) bound

-- ---- the folder of the replicas' logs

-- The folder is the value of `--store`; there is none if it wasn't given.
abbrev pub NamesStore : List Row → Option (Bor (List ℕ)) → Type 0
NamesStore rows store = option_map (λ path. path.now) store ≡ first_of (codes "store") rows

-- ---- the replicas

-- The values of a word, none if it wasn't given.
abbrev pub values_of : Option (List (List ℕ)) → List (List ℕ)
values_of None = []
values_of (Some values) = values

-- The replicas are the values without a word.
abbrev pub NamesReplicas : List Row → List Place → Type 0
NamesReplicas rows places = AreTexts IsPlaceText (values_of (all_of (codes "REPLICA") rows)) places

-- The replicas that are to join are the values of `--join`.
abbrev pub NamesJoins : List Row → List Join → Type 0
NamesJoins rows joins = AreTexts IsJoinText (values_of (all_of (codes "join") rows)) joins

-- Where replicas also listen for clients of IMAP4rev1 are the values of `--rev1`.
abbrev pub NamesRev1 : List Row → List Place → Type 0
NamesRev1 rows places = AreTexts IsPlaceText (values_of (all_of (codes "rev1") rows)) places
