use Rattle.std.proofs.Common.{◌≡◌, Bool, true, false, ℕ, Option, None, Some, refl, sym, ap, ◌∙◌}
use Rattle.std.specs.Prelude.{is_some}
use Rattle.imap_commands.specs.declared.session.Session.{Session}
use Rattle.imap_node.specs.Nodes.{IsIdlingAt, NodeState}
use Rattle.imap_node.specs.Sessions.{IsOpen, session_at}
use Rattle.world_core.specs.Steps.{AwaitsInput}
use Rattle.world_core.proofs.NamedLemmas.{some_same}

some_of_is_some : {X : Type 0} (o : Option X) → is_some o ≡ true → (x : X) × (o ≡ Some x)
some_of_is_some None h = let z : false ≡ true = h in absurd cc
some_of_is_some (Some x) h = (x, refl)

not_then : (b : Bool) → (b ≡ true → ⊥) → b ≡ false
not_then true h = absurd (h refl)
not_then false h = refl

-- a session that awaits a command is open and doesn't idle
module _ (node : NodeState) (n : ℕ) where
  pub awake_awaits : IsOpen node.sessions n × (IsIdlingAt node n → ⊥) → AwaitsInput node n false
  awake_awaits h =
      let s = some_of_is_some (session_at node.sessions n) h.0 in
      (s.0, s.1, not_then (is_some s.0.idling) (λ t. h.1 (s.0, s.1, t)))

  pub awaits_awake : AwaitsInput node n false → IsOpen node.sessions n × (IsIdlingAt node n → ⊥)
  awaits_awake h = (
    ap is_some h.1,
    λ i.
        let same : i.0 ≡ h.0 = some_same i.0 h.0 (sym i.1 ∙ h.1) in
        let z : true ≡ false = sym i.2 ∙ ap (λ (s : Session). is_some s.idling) same ∙ h.2 in absurd cc,
  )
