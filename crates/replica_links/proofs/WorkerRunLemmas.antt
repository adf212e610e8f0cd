use Rattle.std.proofs.Common.{◌≡◌, ℕ, Bool, List, [], ◌∷◌, ◌++◌, Option, refl, sym, subst}
use Rattle.crdt_ops.specs.declared.op.Op.{Op}
use Rattle.replica_links.specs.Links.{AreAskedFirst, IsWorkerRun, TakesTurns, AreTurns}
use Rattle.replica_links.specs.declared.peer_msg.PeerMsg.{PeerMsg}
use Rattle.replica_links.specs.declared.took.Took.{Took}

module _ {S P : Type 0} (takes : S → Op → Took → S → Type 0) (drains : S → S → Type 0) (lacks : S → Type 0) (has : S → List (ℕ × ℕ) → Type 0) (gives : S → List (ℕ × ℕ) → List Op → Type 0) (asks : P → ℕ → List (ℕ × ℕ) → P → Type 0) (sends : P → ℕ → List Op → P → Type 0) (peers : List ℕ) where
  -- turns, followed by further turns
  turns_append : (front back : List (Option PeerMsg)) (s : S) (p : P) (t : S) (q : P) (u : S) (r : P) → AreTurns takes drains lacks has gives asks sends peers front s p t q
      → AreTurns takes drains lacks has gives asks sends peers back t q u r → AreTurns takes drains lacks has gives asks sends peers (front ++ back) s p u r
  turns_append [] back s p t q u r h more =
      subst (λ (x : S). AreTurns takes drains lacks has gives asks sends peers back x p u r) (sym h.0) (subst (λ (y : P). AreTurns takes drains lacks has gives asks sends peers back t y u r) (sym h.1) more)
  turns_append (turn ∷ front) back s p t q u r h more = (h.0, h.1, h.2, turns_append front back h.0 h.1 t q u r h.3 more)

  -- no turn was taken yet
  pub worker_run_none : (first : Bool) (s : S) (p : P) (started : P) → AreAskedFirst lacks has asks peers first s p started → IsWorkerRun takes drains lacks has gives asks sends peers first s p s started
  worker_run_none first s p started h = (started, h, ([], (refl, refl)))

  -- further turns were taken
  pub worker_run_append : (first : Bool) (s : S) (p : P) (t : S) (q : P) (u : S) (r : P) → IsWorkerRun takes drains lacks has gives asks sends peers first s p t q
      → TakesTurns takes drains lacks has gives asks sends peers t q u r → IsWorkerRun takes drains lacks has gives asks sends peers first s p u r
  worker_run_append first s p t q u r h more = (h.0, h.1, (h.2.0 ++ more.0, turns_append h.2.0 more.0 s h.0 t q u r h.2.1 more.1))
