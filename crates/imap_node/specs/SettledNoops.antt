-- A NOOP of a session that has no unsent changes (RFC 9051, section 6.1.2).

use Rattle.std.specs.Prelude.{◌≡◌, ℕ, List, [], ◌∷◌, None, Some}
use Rattle.idle_feed.specs.Feeds.{Pending}
use Rattle.imap_answers.specs.declared.answer.Answer.TheVariants.{Completed}
use Rattle.imap_answers.specs.declared.fixed_words.CompletedWord.TheVariants as words
use Rattle.imap_commands.specs.declared.session.Session.{Session}
use Rattle.imap_commands.specs.declared.session.State.{State}
use Rattle.imap_syntax.specs.declared.command.Command.TheVariants.{Noop}
use Rattle.session_view.specs.ViewState.{ViewState}
use Rattle.imap_node.specs.declared.session_change.StateChange.TheVariants.{Stays}
use Rattle.imap_node.specs.declared.input.Input.{Input}
use Rattle.imap_node.specs.declared.input.Input.TheVariants.{Command}
use Rattle.imap_node.specs.declared.plan.PreparedInput.{PreparedInput}
use Rattle.imap_node.specs.SessionFeeds.{IsSettled}
use Rattle.imap_node.specs.Replays.{view_of}

-- The input is a NOOP with this tag.
abbrev pub IsNoop : Input → List ℕ → Type 0
IsNoop input tag = (moment : ℕ) × (input ≡ Command moment (record { tag = tag; command = Noop }))

-- The selected mailbox, if any, has nothing unsent.
abbrev pub HasNothingUnsent : State → Pending → Type 0
HasNothingUnsent state pending =
    (view : ViewState) → view_of state ≡ Some view
    → IsSettled (record { pending = pending; change_notes = [] }) view

abbrev pub IsSettledNoop : State → Pending → Input → List ℕ → Type 0
IsSettledNoop state pending input tag = IsNoop input tag × HasNothingUnsent state pending

-- The reply to such a NOOP: only its tagged line is sent, nothing is issued, and the session stays
-- as it is.
abbrev pub settled_noop_reply : Session → List ℕ → PreparedInput
settled_noop_reply session tag = record {
  answered = record {
    answers = Completed tag None words.Noop ∷ [];
    silent = [];
    update = record { state_change = Stays None; condstore = session.condstore; idling = None };
  };
  ops = [];
  copies = [];
  change_notes = [];
}
