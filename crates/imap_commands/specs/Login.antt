-- LOGIN (RFC 9051, section 6.2.3).

use Rattle.std.specs.Prelude.{ℕ, Bool, ◌&&◌, List, [], None, Result, Ok, Err, if◌then◌else◌}
use Rattle.std.specs.Str.{bytes_eq}
use Rattle.crdt_ops.specs.declared.kind.Kind.{Kind}
use Rattle.imap_answers.specs.declared.fixed_words.Refusal.{Refusal}
use Rattle.imap_answers.specs.declared.fixed_words.Refusal.TheVariants.{LoginFailed}
use Rattle.imap_commands.specs.declared.session.Credentials.{Credentials}
use Rattle.imap_answers.specs.declared.fixed_words.CompletedWord.TheVariants as words
use Rattle.imap_commands.specs.CommandRules.{plain_rule}
use Rattle.imap_commands.specs.declared.command_rule.CommandRule.{CommandRule}
use Rattle.imap_commands.specs.SessionStates.{before_login}
use Rattle.imap_commands.specs.declared.session.State.{State}

-- Whether name and password are those of the credentials, octet by octet.
abbrev pub are_credentials : Credentials → List ℕ → List ℕ → Bool
are_credentials credentials user password =
    bytes_eq credentials.user user && bytes_eq credentials.password password

-- The intent of LOGIN, which issues nothing, if both are right (RFC 9051, section 6.2.3).
abbrev pub login_intent : Credentials → List ℕ → List ℕ → Result (List Kind) Refusal
login_intent credentials user password =
    if are_credentials credentials user password then Ok [] else Err LoginFailed

-- No sync follows LOGIN.
abbrev pub login_rule : CommandRule
login_rule = record (plain_rule words.Login) { sync = None }

-- The intent of LOGIN in a session.
abbrev pub intent_to_login : State → List ℕ → List ℕ → Result (List Kind) Refusal
intent_to_login state user password =
    before_login state (λ credentials. login_intent credentials user password)
