-- The words of the program's command line, and the settings that they ask for.

use Rattle.std.specs.Prelude.{◌≡◌, ◌≤◌, ◌<◌, ℕ, true, List, None, Some, unwrap_or, codes}
use Rattle.std.specs.Borrow.{Bor}
use Rattle.std.specs.List.{All}
use Rattle.std.specs.Option.{option_map}
use Rattle.clap.specs.Words.{App, Row, Rule, first_of, new_app, new_rule, one_of, with_rule}
use Rattle.clap.specs.declared.builder.action.ArgAction.TheVariants.{Set}
use Rattle.clap.specs.declared.builder.value_parser.ValueParser.TheVariants.{Unsigned}
use Rattle.mail_bench.specs.Workloads.{word_of}
use Rattle.mail_bench.specs.declared.settings.Settings.{Settings}

-- ---- the words that the program knows

-- A word with a value; a required word; a word whose value is a number from 1.
abbrev pub word_with_value : List ℕ → Rule
word_with_value name = record (new_rule name) { long = Some name; action = Some Set }

abbrev pub required_word : List ℕ → Rule
required_word name = record (word_with_value name) { required = true }

abbrev pub counted_word : List ℕ → ℕ → Rule
counted_word name most = record (word_with_value name) { parser = Some (Unsigned 1 most) }

-- The words that name the server and the workload.
abbrev pub with_server : App → App
with_server app =
    with_rule (with_rule (with_rule
    (with_rule (with_rule app (required_word (codes "address"))) (required_word (codes "user")))
    (required_word (codes "pass")))
    (required_word (codes "workload"))) (word_with_value (codes "second"))

-- The words that say how much is done, and where.
abbrev pub with_amounts : App → App
with_amounts app =
    with_rule (with_rule
    (with_rule (with_rule app (counted_word (codes "messages") 1000000))
    (counted_word (codes "connections") 1000)) (counted_word (codes "seconds") 3600))
    (word_with_value (codes "mailbox"))

-- All words.
abbrev pub bench_words : App
bench_words = with_amounts (with_server (new_app (codes "mail_bench")))

-- ---- the settings that they ask for

-- The text under a word, or the default.
abbrev pub text_in : List Row → List ℕ → List ℕ → List ℕ
text_in rows word usual = unwrap_or (first_of word rows) usual

-- A number from 1, which is the default if the word is missing.
abbrev pub IsAmount : List Row → List ℕ → ℕ → ℕ → ℕ → Type 0
IsAmount rows word usual most number =
    (0 < number) × (number ≤ most) × (one_of word rows ≡ None → number ≡ usual)

-- The server, the user, the mailbox and the workload are those of the matches; so are the numbers,
-- from 1 to their bounds, and the defaults if a word is missing.
pub record Asks (rows : List Row) (settings : Settings) : Type 0 where
  pub address : settings.address.now ≡ text_in rows (codes "address") (codes "")
  pub second : option_map (λ (s : Bor (List ℕ)). s.now) settings.second
      ≡ first_of (codes "second") rows
  pub user : settings.user.now ≡ text_in rows (codes "user") (codes "")
  pub pass : settings.pass.now ≡ text_in rows (codes "pass") (codes "")
  pub mailbox : settings.mailbox.now ≡ text_in rows (codes "mailbox") (codes "bench")
  pub workload : text_in rows (codes "workload") (codes "") ≡ word_of settings.workload
  pub messages : IsAmount rows (codes "messages") 1000 1000000 settings.messages
  pub connections : IsAmount rows (codes "connections") 4 1000 settings.connections
  pub seconds : IsAmount rows (codes "seconds") 2 3600 settings.seconds

-- All octets are of printable ASCII.
abbrev pub IsPlainText : List ℕ → Type 0
IsPlainText text = All (λ octet. (32 ≤ octet) × (octet ≤ 126)) text
