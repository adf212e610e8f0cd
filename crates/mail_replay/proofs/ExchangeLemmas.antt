use Rattle.std.proofs.Common.{◌≡◌, ℕ, zero, suc, ◌+◌, ◌<◌, ◌≤◌, List, [], ◌∷◌, length, get_or, slice_set, refl, ap, ◌∙◌, arith}
use Rattle.imap_node.specs.Nodes.{NodeWithRoom}
use Rattle.mail_replay.specs.Exchanges.{nodes_in, with_nodes}
use Rattle.mail_replay.specs.declared.script_state.ScriptReplica.{ScriptReplica}

-- the replicas, with the first `k` of them given these nodes
abbrev pub replicas_until : ℕ → List ScriptReplica → List NodeWithRoom → List ScriptReplica
replicas_until zero replicas nodes = replicas
replicas_until (suc k) [] nodes = []
replicas_until (suc k) (r ∷ rs) [] = r ∷ rs
replicas_until (suc k) (r ∷ rs) (n ∷ ns) = record r { node = n } ∷ replicas_until k rs ns

-- the nodes, with the first `k` of them taken from the replicas
abbrev pub nodes_until : ℕ → List ScriptReplica → List NodeWithRoom → List NodeWithRoom
nodes_until zero replicas nodes = nodes
nodes_until (suc k) [] nodes = nodes
nodes_until (suc k) (r ∷ rs) [] = []
nodes_until (suc k) (r ∷ rs) (n ∷ ns) = r.node ∷ nodes_until k rs ns

-- one more replica has its new node
replica_put : (k : ℕ) (rs : List ScriptReplica) (ns : List NodeWithRoom) (r : ScriptReplica) (n : NodeWithRoom) → length ns ≡ length rs → k < length rs
    → slice_set (replicas_until k rs ns) k (record (get_or (replicas_until k rs ns) k r) { node = get_or (nodes_until k rs ns) k n }) ≡ replicas_until (suc k) rs ns
replica_put k [] ns r n same within = absurd (omega (arith, within))
replica_put k (r0 ∷ rs) [] r n same within = absurd (omega (arith, same))
replica_put zero (r0 ∷ rs) (n0 ∷ ns) r n same within = refl
replica_put (suc k) (r0 ∷ rs) (n0 ∷ ns) r n same within =
    ap (λ (zs : List ScriptReplica). record r0 { node = n0 } ∷ zs) (replica_put k rs ns r n (omega (arith, same)) (omega (arith, within)))

-- one more node is taken from its replica
node_put : (k : ℕ) (rs : List ScriptReplica) (ns : List NodeWithRoom) (r : ScriptReplica) → length ns ≡ length rs → k < length rs
    → slice_set (nodes_until k rs ns) k (get_or (replicas_until k rs ns) k r).node ≡ nodes_until (suc k) rs ns
node_put k [] ns r same within = absurd (omega (arith, within))
node_put k (r0 ∷ rs) [] r same within = absurd (omega (arith, same))
node_put zero (r0 ∷ rs) (n0 ∷ ns) r same within = refl
node_put (suc k) (r0 ∷ rs) (n0 ∷ ns) r same within = ap (λ (zs : List NodeWithRoom). r0.node ∷ zs) (node_put k rs ns r (omega (arith, same)) (omega (arith, within)))

-- `replica_put` and `node_put` for lists that equal these, and for the elements at a place
module _ (k : ℕ) (rs xs : List ScriptReplica) (ns ys : List NodeWithRoom) (r : ScriptReplica) (n : NodeWithRoom) (e : xs ≡ replicas_until k rs ns) (f : ys ≡ nodes_until k rs ns) (same : length ns ≡ length rs) (within : k < length rs) where
  pub one_more_replica : (new : ScriptReplica) → new ≡ record (get_or xs k r) { node = get_or ys k n } → slice_set xs k new ≡ replicas_until (k + 1) rs ns
  one_more_replica new is =
      let put : new ≡ record (get_or (replicas_until k rs ns) k r) { node = get_or (nodes_until k rs ns) k n } =
      is ∙ ap (λ (zs : List ScriptReplica). record (get_or zs k r) { node = get_or ys k n }) e ∙ ap (λ (zs : List NodeWithRoom). record (get_or (replicas_until k rs ns) k r) { node = get_or zs k n }) f in
      let next : suc k ≡ k + 1 = omega arith in
      ap (λ (zs : List ScriptReplica). slice_set zs k new) e ∙ ap (λ (z : ScriptReplica). slice_set (replicas_until k rs ns) k z) put ∙ replica_put k rs ns r n same within ∙ ap (λ (j : ℕ). replicas_until j rs ns) next

  pub one_more_node : (new : NodeWithRoom) → new ≡ (get_or xs k r).node → slice_set ys k new ≡ nodes_until (k + 1) rs ns
  one_more_node new is =
      let put : new ≡ (get_or (replicas_until k rs ns) k r).node = is ∙ ap (λ (zs : List ScriptReplica). (get_or zs k r).node) e in
      let next : suc k ≡ k + 1 = omega arith in
      ap (λ (zs : List NodeWithRoom). slice_set zs k new) f ∙ ap (λ (z : NodeWithRoom). slice_set (nodes_until k rs ns) k z) put ∙ node_put k rs ns r same within ∙ ap (λ (j : ℕ). nodes_until j rs ns) next

-- all replicas have their new nodes
pub all_replicas : (k : ℕ) (rs : List ScriptReplica) (ns : List NodeWithRoom) → length ns ≡ length rs → length rs ≤ k → replicas_until k rs ns ≡ with_nodes rs ns
all_replicas zero [] ns same whole = refl
all_replicas zero (r ∷ rs) ns same whole = absurd (omega (arith, whole))
all_replicas (suc k) [] ns same whole = refl
all_replicas (suc k) (r ∷ rs) [] same whole = refl
all_replicas (suc k) (r ∷ rs) (n ∷ ns) same whole = ap (λ (zs : List ScriptReplica). record r { node = n } ∷ zs) (all_replicas k rs ns (omega (arith, same)) (omega (arith, whole)))

-- all nodes are taken from the replicas
pub all_nodes : (k : ℕ) (rs : List ScriptReplica) (ns : List NodeWithRoom) → length ns ≡ length rs → length rs ≤ k → nodes_until k rs ns ≡ nodes_in rs
all_nodes zero [] [] same whole = refl
all_nodes (suc k) [] [] same whole = refl
all_nodes zero [] (n ∷ ns) same whole = absurd (omega (arith, same))
all_nodes (suc k) [] (n ∷ ns) same whole = absurd (omega (arith, same))
all_nodes zero (r ∷ rs) ns same whole = absurd (omega (arith, whole))
all_nodes (suc k) (r ∷ rs) [] same whole = absurd (omega (arith, same))
all_nodes (suc k) (r ∷ rs) (n ∷ ns) same whole = ap (λ (zs : List NodeWithRoom). r.node ∷ zs) (all_nodes k rs ns (omega (arith, same)) (omega (arith, whole)))

-- nodes that replace the blank ones
pub with_others : (rs : List ScriptReplica) (ms ns : List NodeWithRoom) → length ms ≡ length rs → length ns ≡ length rs → with_nodes (with_nodes rs ms) ns ≡ with_nodes rs ns
with_others [] ms ns e f = refl
with_others (r ∷ rs) [] ns e f = absurd (omega (arith, e))
with_others (r ∷ rs) (m ∷ ms) [] e f = absurd (omega (arith, f))
with_others (r ∷ rs) (m ∷ ms) (n ∷ ns) e f = ap (λ (zs : List ScriptReplica). record r { node = n } ∷ zs) (with_others rs ms ns (omega (arith, e)) (omega (arith, f)))

-- the number of replicas stays the same
pub same_length : (rs : List ScriptReplica) (ns : List NodeWithRoom) → length (with_nodes rs ns) ≡ length rs
same_length [] ns = refl
same_length (r ∷ rs) [] = refl
same_length (r ∷ rs) (n ∷ ns) = ap suc (same_length rs ns)

-- there is one node for each replica
pub one_each : (rs : List ScriptReplica) → length (nodes_in rs) ≡ length rs
one_each [] = refl
one_each (r ∷ rs) = ap suc (one_each rs)
