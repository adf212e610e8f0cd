use Rattle.std.proofs.Common.{◌≡◌, ◌≢◌, inl, inr, ℕ, Option, None, [], append-nil, refl, sym, ap, ◌∙◌, subst}
use Rattle.std.proofs.lemmas.Bool.Decides.{eqb_tells}
use Rattle.imap_node.specs.Nodes.{NodeState, first_numbers, joined_node}
use Rattle.imap_node.proofs.ReplayLemmas.{no_view}
use Rattle.world_core.specs.WorldPromises.{AllNodesGrow, IsIssuedWorld}
use Rattle.world_core.specs.Replicas.{IsAt, IsIssuedIn, Replicas, with_node}
use Rattle.world_core.specs.Restarts.{RestartsAt, restarted_node}
use Rattle.world_core.specs.SessionViews.{session_view_at, view_at_node}
use Rattle.world_core.proofs.FairLemmas.{applied_at}
use Rattle.world_core.proofs.MoveLemmas.{fair_moved}
use Rattle.world_core.proofs.NamedLemmas.{some_same, with_node_other, with_node_own}
use Rattle.world_core.proofs.NodeLemmas.{Gathers}
use Rattle.world_core.proofs.StepLemmas.{restarted_ascends, restarted_gathers, restarted_older}

module _ (w : Replicas) (name : ℕ) (node : NodeState) (at : IsAt w name node) where
  abbrev after : Replicas
  after = with_node w name (restarted_node node)

  restart_grows : AllNodesGrow w after
  restart_grows q k h = elim (eqb_tells q name) [
    | inl t ↦
        let same : k ≡ node = some_same k node (sym h ∙ ap w t.1 ∙ at) in (
          restarted_node node,
          with_node_own w name (restarted_node node) q t.1,
          ([], ap (λ (x : NodeState). x.applied) (sym same) ∙ sym (append-nil k.applied)),
          ap (λ (x : NodeState). x.start) (sym same),
        )
    | inr t ↦ (k, with_node_other w name (restarted_node node) q t.1 ∙ h, ([], sym (append-nil k.applied)), refl)
  ]

  restart_ends : (n : ℕ) → session_view_at after name n ≡ None
  restart_ends n = ap (λ (k : Option NodeState). view_at_node k n) (with_node_own w name (restarted_node node) name refl) ∙ no_view n

  restart_others : (other n : ℕ) → other ≢ name → session_view_at after other n ≡ session_view_at w other n
  restart_others other n ne = ap (λ (k : Option NodeState). view_at_node k n) (with_node_other w name (restarted_node node) other ne)

  module _ (f : IsIssuedWorld w) where
    gathers : Gathers (IsIssuedIn w) node.start.replica node (restarted_node node)
    gathers = restarted_gathers (IsIssuedIn w) node (f.consistent name node at) (applied_at w f name node at)

    restart_fair : IsIssuedWorld after
    restart_fair =
        fair_moved w f name node (restarted_node node) at gathers
        (restarted_ascends (IsIssuedIn w) node (f.consistent name node at) (applied_at w f name node at))
        (restarted_older (IsIssuedIn w) node (f.consistent name node at) (applied_at w f name node at))

module _ (old new : Replicas) (name : ℕ) (h : RestartsAt old name new) where
  pub fair_after : IsIssuedWorld old → IsIssuedWorld new
  fair_after f = subst IsIssuedWorld (sym h.2) (restart_fair old name h.0 h.1 f)

  pub grows_after : AllNodesGrow old new
  grows_after = subst (AllNodesGrow old) (sym h.2) (restart_grows old name h.0 h.1)

  pub ended_after : (n : ℕ) → session_view_at new name n ≡ None
  ended_after n = ap (λ (w : Replicas). session_view_at w name n) h.2 ∙ restart_ends old name h.0 h.1 n

  pub others_after : (other n : ℕ) → other ≢ name → session_view_at new other n ≡ session_view_at old other n
  others_after other n ne = ap (λ (w : Replicas). session_view_at w other n) h.2 ∙ restart_others old name h.0 h.1 other n ne

-- a replica whose counters began with 1 is then one that joined with its own list
pub is_joined : (name : ℕ) (node : NodeState) → node.start ≡ first_numbers name → restarted_node node ≡ joined_node name node.applied
is_joined name node e = λ i. record { start = e i; applied = node.applied; held = []; sessions = [] }
