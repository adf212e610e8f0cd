use Rattle.std.proofs.Common.{◌≡◌, ◌≢◌, inl, inr, ℕ, suc, true, false, Option, None, Some, List, [], ◌∷◌, ◌++◌, length, append-nil, append_assoc, map, refl, sym, ap, ◌∙◌, subst}
use Rattle.std.proofs.lemmas.Bool.Decides.{eqb_tells}
use Rattle.std.specs.Option.{option_map}
use Rattle.crdt_ops.specs.declared.op.Op.{Op}
use Rattle.imap_node.specs.Nodes.{NodeState, first_numbers, joined_node, unused_node}
use Rattle.imap_node.specs.Operations.{clock_of, id_of}
use Rattle.merge_laws.specs.Orders.{IsCausal, IsIn}
use Rattle.causal_inbox.specs.declared.delivery.Arrival.TheVariants.{Applied}
use Rattle.replica_lock.specs.Histories.{BookState, LeadsTo}
use Rattle.replica_lock.specs.JoinedBook.{applied_entry, restored_book}
use Rattle.replica_lock.specs.declared.book.JournalEntry.{JournalEntry}
use Rattle.server_laws.specs.BookWorlds.{AllLead, AreIssuedBeforeDeliveryFrom, current_world, node_of}
use Rattle.server_laws.specs.Interleavings.{LeadsAt, ReplicaEntry, entries_of_replica}
use Rattle.server_laws.specs.RestoredBooks.{AreLeftByRun, HaveHistoriesSince, IsHistorySince, IsRestoredInterleaving, restart_of, restart_outcome}
use Rattle.server_laws.specs.WorldEvents.{event_of, outcome_of}
use Rattle.server_laws.proofs.BookLemmas.{no_entries}
use Rattle.server_laws.proofs.RunLemmas.{interleaving_runs}
use Rattle.uid_projection.specs.Exhaustion.{Exhausts}
use Rattle.uid_projection.specs.declared.first_numbers.Counters.{Counters}
use Rattle.world_core.specs.Headline.{Headline}
use Rattle.world_core.specs.Replicas.{IsAt, IsIssuedIn, Replicas, nodes_by_name, with_node}
use Rattle.world_core.specs.Restarts.{LacksOwnNumbers, restarted_node}
use Rattle.world_core.specs.Settlement.{AreNamedApart}
use Rattle.world_core.specs.Steps.{Runs, Steps}
use Rattle.world_core.specs.WorldPromises.{CountersLast, IsIssuedWorld}
use Rattle.world_core.specs.declared.event.Event.{Event}
use Rattle.world_core.specs.declared.event.Outcome.{Outcome}
use Rattle.world_core.specs.declared.event.Outcome.TheVariants.{Restarted}
use Rattle.world_core.proofs.BeginLemmas.{begins_fair}
use Rattle.world_core.proofs.HeadLemmas.{run_fair, run_holds, runs_both}
use Rattle.world_core.proofs.JoinLemmas.{arrived_is}
use Rattle.world_core.proofs.LastingLemmas.{counters_last}
use Rattle.world_core.proofs.NamedLemmas.{by_here, by_none, by_past, some_same, with_node_other, with_node_own}
use Rattle.world_core.proofs.SettledWorldLemmas.{at_name}

-- ---- a history that begins with deliveries of a list

-- A replica that has these operations, holds nothing, and has no sessions.
abbrev node_with : Counters → List Op → NodeState
node_with start ops = record (unused_node start) { applied = ops }

-- entries after deliveries of a list lead from the replica that has the list
leads_after : (start : Counters) (ops front : List Op) (entries : List JournalEntry) (node : NodeState) → LeadsTo (node_with start front) (map applied_entry ops ++ entries) node → LeadsTo (node_with start (front ++ ops)) entries node
leads_after start [] front entries node h = subst (λ (os : List Op). LeadsTo (node_with start os) entries node) (sym (append-nil front)) h
leads_after start (op ∷ ops) front entries node h =
    let arrives = h.1.0 in
    let next : h.0 ≡ node_with start (front ++ op ∷ []) = arrived_is (node_with start front) op arrives.arrives.1.0 refl (Applied 1) h.0 arrives in
    subst (λ (os : List Op). LeadsTo (node_with start os) entries node) (append_assoc front (op ∷ []) ops)
    (leads_after start ops (front ++ op ∷ []) entries node (subst (λ (n : NodeState). LeadsTo n (map applied_entry ops ++ entries) node) next h.2))

one_of_all : (start : Counters) (front ops : List Op) (op : Op) → Exhausts start front (op ∷ []) → Exhausts start [] (front ++ op ∷ ops)
one_of_all start front ops op (before, o, back, e, x) = (
  front ++ before,
  o,
  back ++ ops,
  ap (λ (os : List Op). front ++ (os ++ ops)) e ∙ ap (λ (os : List Op). front ++ os) (append_assoc before (o ∷ back) ops) ∙ sym (append_assoc front before (o ∷ (back ++ ops))),
  x,
)

-- deliveries of a causal list that exhausts no counter lead to the replica that has the list
deliveries_lead : (start : Counters) (ops front : List Op) → IsCausal id_of clock_of (front ++ ops) → ¬ Exhausts start [] (front ++ ops) → LeadsTo (node_with start front) (map applied_entry ops ++ []) (node_with start (front ++ ops))
deliveries_lead start [] front causal lasting = ap (node_with start) (append-nil front)
deliveries_lead start (op ∷ ops) front causal lasting =
    let ripe = causal front op ops refl in
    let next = sym (append_assoc front (op ∷ []) ops) in (
      node_with start (front ++ op ∷ []),
      (
        record { sessions = refl; arrives = ((ripe.1, λ h. absurd h), (ripe, λ h. lasting (one_of_all start front ops op h)), (0, refl, refl)) },
        (λ t. let z : false ≡ true = t in absurd cc, λ h. absurd h.1),
      ),
      subst (λ (os : List Op). LeadsTo (node_with start (front ++ op ∷ [])) (map applied_entry ops ++ []) (node_with start os)) (sym next)
          (deliveries_lead start ops (front ++ op ∷ []) (subst (IsCausal id_of clock_of) next causal) (subst (λ (os : List Op). ¬ Exhausts start [] os) next lasting)),
    )

one_entry_each : (ops : List Op) → length (map applied_entry ops) ≡ length ops
one_entry_each [] = refl
one_entry_each (op ∷ ops) = ap suc (one_entry_each ops)

-- nothing has happened yet at a book that was restored
pub restored_begins : (name : ℕ) (ops : List Op) → IsCausal id_of clock_of ops → ¬ Exhausts (first_numbers name) [] ops → IsHistorySince (joined_node name ops) (restored_book name ops) []
restored_begins name ops causal lasting = record {
  start = refl;
  whole = (map applied_entry ops, record { count = one_entry_each ops; leads = deliveries_lead (first_numbers name) ops [] causal lasting }, refl);
}

-- ---- the worlds of restored replicas

-- the replicas of these nodes, each of them restarted
restarted_at : (nodes : List NodeState) (name : ℕ) → nodes_by_name (map restarted_node nodes) name ≡ option_map restarted_node (nodes_by_name nodes name)
restarted_at [] name = refl
restarted_at (node ∷ nodes) name = elim (eqb_tells name node.start.replica) [
  | inl t ↦ by_here (restarted_node node) (map restarted_node nodes) name t.1 ∙ ap (option_map restarted_node) (sym (by_here node nodes name t.1))
  | inr f ↦ by_past (restarted_node node) (map restarted_node nodes) name f.1 ∙ restarted_at nodes name ∙ ap (option_map restarted_node) (sym (by_past node nodes name f.1))
]

-- the replicas after these nodes restarted, one after another
abbrev after_restarts : Replicas → List NodeState → Replicas
after_restarts w [] = w
after_restarts w (node ∷ nodes) = after_restarts (with_node w node.start.replica (restarted_node node)) nodes

none_named : (nodes : List NodeState) (name : ℕ) → ((other : NodeState) → IsIn other nodes → other.start.replica ≢ name) → nodes_by_name nodes name ≡ None
none_named [] name apart = refl
none_named (node ∷ nodes) name apart = by_past node nodes name (λ e. apart node (inl refl) (sym e)) ∙ none_named nodes name (λ other i. apart other (inr i))

after_others : (nodes : List NodeState) (w : Replicas) (name : ℕ) → nodes_by_name nodes name ≡ None → after_restarts w nodes name ≡ w name
after_others [] w name none = refl
after_others (node ∷ nodes) w name none =
    let rest = by_none node nodes name none in
    after_others nodes (with_node w node.start.replica (restarted_node node)) name rest.1 ∙ with_node_other w node.start.replica (restarted_node node) name rest.0

after_own : (nodes : List NodeState) (w : Replicas) (name : ℕ) (one : NodeState) → AreNamedApart nodes → nodes_by_name nodes name ≡ Some one → after_restarts w nodes name ≡ Some (restarted_node one)
after_own [] w name one apart h = absurd cc
after_own (node ∷ nodes) w name one apart h = elim (eqb_tells name node.start.replica) [
  | inl t ↦
      let same : node ≡ one = some_same node one (sym (by_here node nodes name t.1) ∙ h) in
      let none : nodes_by_name nodes name ≡ None = none_named nodes name (λ other i e. apart.0 other i (e ∙ t.1)) in
      after_others nodes (with_node w node.start.replica (restarted_node node)) name none
      ∙ with_node_own w node.start.replica (restarted_node node) name t.1
      ∙ ap (λ (n : NodeState). Some (restarted_node n)) same
  | inr f ↦ after_own nodes (with_node w node.start.replica (restarted_node node)) name one apart.1 (sym (by_past node nodes name f.1) ∙ h)
]

restarted_each : (nodes : List NodeState) (name : ℕ) (one : Option NodeState) → AreNamedApart nodes → nodes_by_name nodes name ≡ one → nodes_by_name (map restarted_node nodes) name ≡ after_restarts (nodes_by_name nodes) nodes name
restarted_each nodes name None apart e = restarted_at nodes name ∙ ap (option_map restarted_node) e ∙ sym (after_others nodes (nodes_by_name nodes) name e ∙ e)
restarted_each nodes name (Some one) apart e = restarted_at nodes name ∙ ap (option_map restarted_node) e ∙ sym (after_own nodes (nodes_by_name nodes) name one apart e)

all_restarted : (nodes : List NodeState) → AreNamedApart nodes → nodes_by_name (map restarted_node nodes) ≡ after_restarts (nodes_by_name nodes) nodes
all_restarted nodes apart = λ k name. restarted_each nodes name (nodes_by_name nodes name) apart refl k

restart_steps : (w : Replicas) (node : NodeState) → IsAt w node.start.replica node → ¬ LacksOwnNumbers node → Steps w (restart_of node) Restarted (with_node w node.start.replica (restarted_node node))
restart_steps w node at lasting = inr (record { before = node; after = restarted_node node; is_at = at; moves = (lasting, refl); rest = refl })

restarts_run : (nodes : List NodeState) (w : Replicas) → AreNamedApart nodes → ((node : NodeState) → IsIn node nodes → IsAt w node.start.replica node) → ((node : NodeState) → IsIn node nodes → ¬ LacksOwnNumbers node)
    → Runs w (map restart_of nodes) (map restart_outcome nodes) (after_restarts w nodes)
restarts_run [] w apart at lasting = record { moments = []; trace = tt; ends = refl }
restarts_run (node ∷ nodes) w apart at lasting =
    let next = with_node w node.start.replica (restarted_node node) in
    let rest = restarts_run nodes next apart.1 (λ other i. with_node_other w node.start.replica (restarted_node node) other.start.replica (apart.0 other i) ∙ at other (inr i)) (λ other i. lasting other (inr i)) in
    record { moments = next ∷ rest.moments; trace = (restart_steps w node (at node (inl refl)) (lasting node (inl refl)), rest.trace); ends = rest.ends }

-- ---- the stories of restored books

restored_leads : (crashed : List NodeState) (books : List BookState) (interleaving : List ReplicaEntry) (name : ℕ) → HaveHistoriesSince crashed interleaving books → (current_world books name ≡ None → entries_of_replica interleaving name ≡ [])
    → LeadsAt (nodes_by_name (map restarted_node crashed) name) (entries_of_replica interleaving name) (current_world books name)
restored_leads [] [] interleaving name has none = subst (λ (es : List JournalEntry). LeadsAt None es None) (sym (none refl)) refl
restored_leads [] (book ∷ books) interleaving name has none = absurd has
restored_leads (node ∷ crashed) [] interleaving name has none = absurd has
restored_leads (node ∷ crashed) (book ∷ books) interleaving name has none = elim (eqb_tells name book.node.start.replica) [
  | inl t ↦
      let since = has.0 in
      let own : name ≡ node.start.replica = t.1 ∙ ap (λ (s : Counters). s.replica) since.start in
      let all = subst (λ (es : List JournalEntry). LeadsTo (unused_node book.node.start) es book.node) (sym since.whole.2) since.whole.1.leads in
      let story = leads_after book.node.start node.applied [] (entries_of_replica interleaving book.node.start.replica) book.node all in
      let from = subst (λ (s : Counters). LeadsTo (node_with s node.applied) (entries_of_replica interleaving book.node.start.replica) book.node) since.start story in
      subst (λ (o : Option NodeState). LeadsAt o (entries_of_replica interleaving name) (current_world (book ∷ books) name)) (sym (by_here (restarted_node node) (map restarted_node crashed) name own)) (
        book.node,
        subst (λ (es : List JournalEntry). LeadsTo (restarted_node node) es book.node) (sym (ap (entries_of_replica interleaving) t.1)) from,
        by_here book.node (map node_of books) name t.1,
      )
  | inr f ↦
      let other : name ≢ node.start.replica = (λ e. f.1 (e ∙ ap (λ (s : Counters). s.replica) (sym has.0.start))) in
      let past : current_world (book ∷ books) name ≡ current_world books name = by_past book.node (map node_of books) name f.1 in
      let rest = restored_leads crashed books interleaving name has.1 (λ e. none (past ∙ e)) in
      subst (λ (o : Option NodeState). LeadsAt o (entries_of_replica interleaving name) (current_world (book ∷ books) name)) (sym (by_past (restarted_node node) (map restarted_node crashed) name other))
      (subst (λ (o : Option NodeState). LeadsAt (nodes_by_name (map restarted_node crashed) name) (entries_of_replica interleaving name) o) (sym past) rest)
]

module _ (starts : List Counters) (before : List Event) (answers : List Outcome) (crashed : List NodeState) (left : AreLeftByRun starts before answers crashed) where
  first_fair : IsIssuedWorld (nodes_by_name (map unused_node starts))
  first_fair = begins_fair starts left.from_one

  left_fair : IsIssuedWorld (nodes_by_name crashed)
  left_fair = run_fair (nodes_by_name (map unused_node starts)) (nodes_by_name crashed) before answers first_fair left.run

  left_lasts : CountersLast (nodes_by_name crashed)
  left_lasts = counters_last starts before answers (nodes_by_name crashed) left.from_one left.run

  left_at : (node : NodeState) → IsIn node crashed → IsAt (nodes_by_name crashed) node.start.replica node
  left_at node i = at_name crashed left.apart node i

  pub all_restart : Runs (nodes_by_name crashed) (map restart_of crashed) (map restart_outcome crashed) (nodes_by_name (map restarted_node crashed))
  all_restart =
      subst (λ (w : Replicas). Runs (nodes_by_name crashed) (map restart_of crashed) (map restart_outcome crashed) w) (sym (all_restarted crashed left.apart))
      (restarts_run crashed (nodes_by_name crashed) left.apart left_at (λ node i. left_lasts node.start.replica node (left_at node i)))

  restored_fair : IsIssuedWorld (nodes_by_name (map restarted_node crashed))
  restored_fair = run_fair (nodes_by_name crashed) (nodes_by_name (map restarted_node crashed)) (map restart_of crashed) (map restart_outcome crashed) left_fair all_restart

  -- what was issued before the crash is still issued
  still_issued : (op : Op) → IsIssuedIn (nodes_by_name crashed) op → IsIssuedIn (nodes_by_name (map restarted_node crashed)) op
  still_issued op h = record {
    issuer = restarted_node h.issuer;
    is_at = restarted_at crashed op.id.replica ∙ ap (option_map restarted_node) h.is_at;
    applied = h.applied;
  }

  module _ (books : List BookState) (interleaving : List ReplicaEntry) (restored : IsRestoredInterleaving crashed books interleaving) where
    all_lead : AllLead (nodes_by_name (map restarted_node crashed)) interleaving (current_world books)
    all_lead name = restored_leads crashed books interleaving name restored.histories (no_entries books interleaving name restored.only)

    issued_before : AreIssuedBeforeDeliveryFrom (nodes_by_name (map restarted_node crashed)) interleaving
    issued_before front item back op cut e = elim (restored.linked front item back op cut e) [
      | inl known ↦ inl (still_issued op (left_fair.issued known.0.start.replica known.0 (left_at known.0 known.1) op (inl known.2)))
      | inr issued ↦ inr issued
    ]

    story_runs : Runs (nodes_by_name (map restarted_node crashed)) (map event_of interleaving) (map outcome_of interleaving) (current_world books)
    story_runs = interleaving_runs interleaving (nodes_by_name (map restarted_node crashed)) (current_world books) restored_fair all_lead issued_before

    pub restored_run : Runs (nodes_by_name (map unused_node starts)) (before ++ (map restart_of crashed ++ map event_of interleaving)) (answers ++ (map restart_outcome crashed ++ map outcome_of interleaving)) (current_world books)
    restored_run =
        runs_both (nodes_by_name (map unused_node starts)) (nodes_by_name crashed) (current_world books) before answers (map restart_of crashed ++ map event_of interleaving) (map restart_outcome crashed ++ map outcome_of interleaving) left.run
        (runs_both (nodes_by_name crashed) (nodes_by_name (map restarted_node crashed)) (current_world books) (map restart_of crashed) (map restart_outcome crashed) (map event_of interleaving) (map outcome_of interleaving) all_restart story_runs)

    pub restored_headline : Headline (nodes_by_name (map unused_node starts)) (before ++ (map restart_of crashed ++ map event_of interleaving)) (answers ++ (map restart_outcome crashed ++ map outcome_of interleaving)) (current_world books)
    restored_headline =
        run_holds (nodes_by_name (map unused_node starts)) (current_world books) (before ++ (map restart_of crashed ++ map event_of interleaving)) (answers ++ (map restart_outcome crashed ++ map outcome_of interleaving)) first_fair restored_run
