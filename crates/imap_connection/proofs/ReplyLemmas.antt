use Rattle.std.proofs.Common.{◌≡◌, ◌⊎◌, ℕ, Bool, true, [], ap, ◌∙◌, append-nil, Some}
use Rattle.std.proofs.lemmas.Bool.{false≢true}
use Rattle.imap_answers.specs.declared.fixed_words.Refusal.{Refusal}
use Rattle.imap_answers.specs.declared.fixed_words.Refusal.TheVariants as refusals
use Rattle.imap_commands.specs.declared.session.Session.{Session}
use Rattle.imap_syntax.specs.declared.idle.IdleLine.{IdleLine}
use Rattle.imap_node.specs.Nodes.{HasLoggedOut, IsActive, NodeState}
use Rattle.imap_node.specs.Responses.{IsNodeAfter, IsReply, Responds}
use Rattle.imap_node.specs.Sessions.{session_at, with_session}
use Rattle.imap_node.specs.declared.input.Input.{Input}
use Rattle.imap_node.specs.declared.input.Input.TheVariants.{Line}
use Rattle.imap_node.specs.declared.reply.Reply.{Reply}
use Rattle.imap_node.specs.declared.reply.Reply.TheVariants.{Done, Refused}
use Rattle.imap_connection.specs.Replies.{is_out_of_memory}
use Rattle.imap_connection.proofs.PlaceLemmas.{open_active, session_again, session_put}

-- the session of an input is open after it
pub session_after_reply : (old new : NodeState) (n : ℕ) (input : Input) (reply : Reply) (s : Session) → session_at old.sessions n ≡ Some s → IsReply old n s input reply new
    → (after : Session) × (session_at new.sessions n ≡ Some after)
session_after_reply old new n input (Done answers silent issued) s h r =
    (_, ap (λ places. session_at places n) r.becomes.sessions ∙ session_put old.sessions n _ s h)
session_after_reply old new n input (Refused why closed) s h r =
    (_, ap (λ places. session_at places n) r.2.sessions ∙ session_put old.sessions n _ s h)

-- the session of an input has logged out after it, or not
pub responds_open : (old new : NodeState) (n : ℕ) (input : Input) (reply : Reply) → Responds old n input reply new → IsActive new n ⊎ HasLoggedOut new n
responds_open old new n input reply r =
    let after = session_after_reply old new n input reply r.0 r.1 r.2 in
    open_active new n after.0 after.1

-- a node is as it was if its parts are
same_node : (a b : NodeState) → a.start ≡ b.start → a.applied ≡ b.applied → a.held ≡ b.held → a.sessions ≡ b.sessions → a ≡ b
same_node a b s p h q = λ t. record { start = s t; applied = p t; held = h t; sessions = q t }

-- a node that issues nothing and whose session stays is as it was
unchanged : (old new : NodeState) (n : ℕ) (s : Session) → session_at old.sessions n ≡ Some s → IsNodeAfter old [] (with_session old.sessions n (Some s)) new → new ≡ old
unchanged old new n s h r = same_node new old r.start (r.applied ∙ append-nil old.applied) r.held (r.sessions ∙ session_again old.sessions n s h)

without : (old new : NodeState) (n : ℕ) (line : IdleLine) (why : Refusal) (closed : Bool) (s : Session) → is_out_of_memory (Refused why closed) ≡ true → session_at old.sessions n ≡ Some s
    → IsReply old n s (Line line) (Refused why closed) new → new ≡ old
without old new n line refusals.NoMemory closed s m h r = unchanged old new n s h r.2
without old new n line refusals.NoSuchMailbox closed s m h r = absurd (false≢true m)
without old new n line refusals.NoDestination closed s m h r = absurd (false≢true m)
without old new n line refusals.MailboxExists closed s m h r = absurd (false≢true m)
without old new n line refusals.NameNotAllowed closed s m h r = absurd (false≢true m)
without old new n line refusals.InboxStays closed s m h r = absurd (false≢true m)
without old new n line refusals.NotInProfile closed s m h r = absurd (false≢true m)
without old new n line refusals.LoginFailed closed s m h r = absurd (false≢true m)
without old new n line refusals.ReadOnly closed s m h r = absurd (false≢true m)
without old new n line refusals.TooManyKeywords closed s m h r = absurd (false≢true m)
without old new n line refusals.TooManyVersions closed s m h r = absurd (false≢true m)
without old new n line refusals.KeywordTooLong closed s m h r = absurd (false≢true m)
without old new n line refusals.NumberUsedUp closed s m h r = absurd (false≢true m)
without old new n line refusals.LiteralTooLong closed s m h r = absurd (false≢true m)
without old new n line refusals.NoStoreRoom closed s m h r = absurd (false≢true m)
without old new n line refusals.UnknownCommand closed s m h r = absurd (false≢true m)
without old new n line refusals.BadSyntax closed s m h r = absurd (false≢true m)
without old new n line refusals.NotNow closed s m h r = absurd (false≢true m)
without old new n line refusals.NoSuchMessage closed s m h r = absurd (false≢true m)
without old new n line refusals.DoneExpected closed s m h r = absurd (false≢true m)

-- a line that is refused because memory ran out changes nothing
pub line_refused : (old new : NodeState) (n : ℕ) (line : IdleLine) (reply : Reply) → Responds old n (Line line) reply new → is_out_of_memory reply ≡ true → new ≡ old
line_refused old new n line (Done answers silent issued) r m = absurd (false≢true m)
line_refused old new n line (Refused why closed) r m = without old new n line why closed r.0 m r.1 r.2
