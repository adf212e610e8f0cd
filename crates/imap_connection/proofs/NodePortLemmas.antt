-- Which calls the session of a node's port awaits.
use Rattle.std.proofs.Common.{◌≡◌, ℕ, Option, None, Some, sym, ap, ◌∙◌, subst}
use Rattle.imap_syntax.specs.declared.command.Tagged.{Tagged}
use Rattle.imap_syntax.specs.declared.idle.IdleLine.{IdleLine}
use Rattle.imap_node.specs.Nodes.{IsIdlingAt}
use Rattle.imap_node.proofs.SessionLemmas.{idles_open}
use Rattle.imap_connection.specs.PortCalls as asked
use Rattle.imap_connection.specs.NodePorts.{AwaitsCall, HasNoSession, NodeSession}

some_is : {T : Type 0} {a b : T} → Some a ≡ Some b → a ≡ b
some_is {T} {a} e = ap (λ (o : Option T). or_else o) e
  where
    or_else : Option T → T
    or_else None = a
    or_else (Some x) = x

module _ {O : Type 0} (port : NodeSession O) where
  -- without a session no call is awaited
  pub no_command_awaited : (tagged : Tagged) → HasNoSession port → AwaitsCall port (asked.Command tagged) → ⊥
  no_command_awaited tagged h a = h a.0 a.1 a.2

  pub no_line_awaited : (line : IdleLine) → HasNoSession port → AwaitsCall port (asked.Line line) → ⊥
  no_line_awaited line h a = h a.0 a.1 (idles_open port.node a.0 a.2)

  module _ (n : ℕ) (session : port.session ≡ Some n) where
    -- while the session idles no command is awaited
    pub idling_awaits_no_command : (tagged : Tagged) → IsIdlingAt port.node n → AwaitsCall port (asked.Command tagged) → ⊥
    idling_awaits_no_command tagged i a =
        let same : n ≡ a.0 = some_is (sym session ∙ a.1) in
        a.3 (subst (λ (k : ℕ). IsIdlingAt port.node k) same i)

    -- while the session doesn't idle no line is awaited
    pub awake_awaits_no_line : (line : IdleLine) → (IsIdlingAt port.node n → ⊥) → AwaitsCall port (asked.Line line) → ⊥
    awake_awaits_no_line line awake a =
        let same : a.0 ≡ n = some_is (sym a.1 ∙ session) in
        awake (subst (λ (k : ℕ). IsIdlingAt port.node k) same a.2)
