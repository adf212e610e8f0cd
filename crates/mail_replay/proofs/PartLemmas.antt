use Rattle.std.proofs.Common.{◌≡◌, ◌⊎◌, inl, inr, ℕ, List, [], ◌++◌, Option, Some, None, Result, Err, OnErr, append-nil, sym, subst, ◌∙◌}
use Rattle.mail_replay.specs.Lines.{HasTurns, PrintsInPart, ServesInPart, TalksOn}
use Rattle.mail_replay.specs.ScriptState.{ScriptContents}
use Rattle.mail_replay.specs.declared.script_state.Connection.{Connection}
use Rattle.mail_script.specs.Script.{Means}
use Rattle.mail_script.specs.declared.script.ScriptLine.{ScriptLine}
use Rattle.imap_node.specs.Nodes.{NodeState}
use Rattle.imap_connection.specs.declared.turn.Turn.{Turn}

-- an error that leaves a text unchanged adds nothing to it
pub nothing_printed : {T E : Type 0} (r : Result T E) (why : E) (P : List ℕ → Type 0) (old new : List ℕ) → P [] → OnErr r (new ≡ old) → r ≡ Err why → (more : List ℕ) × P more × (new ≡ old ++ more)
nothing_printed r why P old new p unchanged e = ([], p, subst (λ s. OnErr s (new ≡ old)) e unchanged ∙ sym (append-nil old))

-- the turns of a conversation that reached its end
pub whole_talk : (old : NodeState) (connection : Connection) (moment : ℕ) (octets : List ℕ) (turns : List Turn) (new : NodeState) (left : Option Connection) → TalksOn old connection moment octets turns new left → HasTurns old connection moment octets turns
whole_talk old connection moment octets turns new (Some left) h = inl (new, left.framer.state, h.3)
whole_talk old connection moment octets turns new None h = elim h [ inl t ↦ inl (new, t.1.0, t.1.1) | inr t ↦ inr (t.0, new, t.2) ]

-- what a line says is printed in part
pub serves_in_part : (setup : ScriptContents) (line : List ℕ) (meaning : ScriptLine) (more : List ℕ) → Means line meaning → (more ≡ []) ⊎ PrintsInPart setup meaning more → ServesInPart setup line more
serves_in_part setup line meaning more means h = elim h [ inl none ↦ inl none | inr part ↦ inr (meaning, means, part) ]
