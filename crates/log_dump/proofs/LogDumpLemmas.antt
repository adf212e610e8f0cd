use Rattle.std.proofs.Common.{◌≡◌, ◌≢◌, ◌⊎◌, inl, inr, ℕ, Bool, true, false, cond, eqb, ◌&&◌, List, [], ◌∷◌, ◌++◌, map, length, Result, Ok, Err, MatchResult, Some, None, refl, sym, ap, ◌∙◌, subst, append_assoc}
use Rattle.std.proofs.lemmas.Bool.{eqb-true}
use Rattle.std.proofs.lemmas.List.{length-map}
use Rattle.crdt_ops.specs.Form.{IsInForm, IsReplica}
use Rattle.crdt_ops.specs.Sound.{IsSound}
use Rattle.crdt_ops.specs.declared.op.Op.{Op}
use Rattle.imap_connection.specs.Dumps.{IsDump}
use Rattle.imap_node.specs.Nodes.{NodeState}
use Rattle.merge_laws.specs.Orders.{IsIn}
use Rattle.op_log.specs.Entries.{AreLawful, committed_entries, entry_text, lines_of, ops_of}
use Rattle.op_log.specs.Formats.{is_later_format}
use Rattle.op_log.specs.Lines.{AreTexts, log_of}
use Rattle.op_log.specs.Recovery.{IsLogFault, IsRecovered, IsUnsoundLine}
use Rattle.op_log.specs.declared.entry.Entry.{Entry}
use Rattle.op_log.specs.declared.entry.Entry.TheVariants.{Apply, Begin, Commit}
use Rattle.op_log.specs.declared.recovery.LogFault.{LogFault}
use Rattle.op_log.specs.declared.recovery.LogFault.TheVariants as reading
use Rattle.op_log.proofs.EntryLemmas.{are_texts, committed_front}
use Rattle.op_log.proofs.UndamagedLemmas.{lawful_front, lines_of_append}
use Rattle.log_dump.specs.EntryOrder.{AreBeforeMisplaced, first_name}
use Rattle.log_dump.specs.LogDumps.{HasMisplacedLineAt, IsLogDump, IsLogDumpFault, IsReadFault, IsUndamagedLog, dump_fault_of}
use Rattle.log_dump.specs.Restoration.{IsEntriesFault, IsRestoredNode}
use Rattle.log_dump.specs.declared.apply.EntriesFault.{EntriesFault}
use Rattle.log_dump.specs.declared.apply.EntriesFault.TheVariants as entering
use Rattle.log_dump.specs.declared.fault.LogDumpFault.{LogDumpFault}
use Rattle.log_dump.specs.declared.fault.LogDumpFault.TheVariants.{NoMemory, Unreadable}

-- ---- the faults of a log that isn't read

unsound_at : (octets other : ℕ) (b : Bool) → reading.Unsound octets ≡ cond b reading.LaterFormat (reading.Unsound other) → octets ≡ other
unsound_at octets other true h = absurd cc
unsound_at octets other false h = cc

later_at_first : (octets : ℕ) (first later : Bool) → reading.LaterFormat ≡ cond (first && later) reading.LaterFormat (reading.Unsound octets) → first ≡ true
later_at_first octets true later h = refl
later_at_first octets false later h = absurd cc

pub read_fault : (log : List ℕ) (fault : LogFault) → IsLogFault log fault → IsReadFault log (dump_fault_of fault)
read_fault log reading.NoMemory h = tt
read_fault log (reading.Unsound octets) h =
    let same = unsound_at octets h.0 (eqb h.0 0 && is_later_format h.1) h.3 in
    inl (h.1, subst (λ (n : ℕ). IsUnsoundLine log n h.1) (sym same) h.2)
read_fault log reading.LaterFormat h =
    let first = later_at_first h.0 (eqb h.0 0) (is_later_format h.1) h.3 in
    inl (h.1, subst (λ (n : ℕ). IsUnsoundLine log n h.1) (eqb-true h.0 0 first) h.2)

pub fault_of_read : (log : List ℕ) (fault : LogDumpFault) → IsReadFault log fault → IsLogDumpFault log fault
fault_of_read log NoMemory h = tt
fault_of_read log (Unreadable octets) h = inl h

-- ---- a misplaced line

entries_before : (entries front : List Entry) → AreBeforeMisplaced entries front → (back : List Entry) × (entries ≡ front ++ back)
entries_before entries front (inl h) = (entries, ap (λ (xs : List Entry). xs ++ entries) (sym h.1))
entries_before entries front (inr h) = (h.2.entry ∷ h.2.back, h.2.cut)

lawful_entries : (log : List ℕ) (entries : List Entry) (octets : ℕ) → IsRecovered log entries octets → AreLawful entries
lawful_entries log entries octets h =
    let c = committed_front h.all in
    subst AreLawful (sym h.entries_are) (lawful_front (committed_entries h.all) c.0 (subst AreLawful c.1 h.lawful))

pub misplaced_line : (log : List ℕ) (entries : List Entry) (place octets : ℕ) → IsUndamagedLog log entries → IsEntriesFault entries (entering.CannotFollow place)
    → ((texts : List (List ℕ)) (after : List ℕ) → AreTexts texts → log ≡ log_of texts ++ after → place ≡ length texts → octets ≡ length (log_of texts)) → HasMisplacedLineAt log octets
misplaced_line log entries place octets read h counted =
    let front = h.0 in
    let b = entries_before entries front h.1 in
    let lawful = lawful_front front b.0 (subst AreLawful b.1 (lawful_entries log entries read.octets read.read)) in
    let after = lines_of b.0 ++ read.read.after in
    let whole : log ≡ lines_of front ++ after =
    read.read.split
    ∙ ap (λ (xs : List Entry). lines_of xs ++ read.read.after) b.1
    ∙ ap (λ (xs : List ℕ). xs ++ read.read.after) (lines_of_append front b.0)
    ∙ append_assoc (lines_of front) (lines_of b.0) read.read.after in
    let count : place ≡ length (map entry_text front) = h.2 ∙ sym (length-map front entry_text) in
    (entries, front, read, h.1, counted (map entry_text front) after (are_texts front lawful) whole count)

-- ---- the dump

pub log_dump_of_node : (log text : List ℕ) (entries : List Entry) (node : NodeState) → IsUndamagedLog log entries → IsRestoredNode entries node → IsDump node.start.replica node.applied text → IsLogDump log text
log_dump_of_node log text entries node read restored dump = record {
  replica = restored.replica;
  entries = entries;
  read = read;
  named = restored.named;
  in_turn = restored.in_turn;
  dump = subst (λ (n : NodeState). IsDump n.start.replica n.applied text) restored.is dump;
}

-- the result of a node's dump, as that of the log's
pub dump_result : (log : List ℕ) (entries : List Entry) (node : NodeState) {V : Type 0} (items : V → List ℕ) (r : Result V LogDumpFault) → IsUndamagedLog log entries → IsRestoredNode entries node
    → MatchResult r (λ text. IsDump node.start.replica node.applied (items text)) (λ fault. fault ≡ NoMemory) → MatchResult r (λ text. IsLogDump log (items text)) (IsLogDumpFault log)
dump_result log entries node items (Ok text) read restored h = log_dump_of_node log (items text) entries node read restored h
dump_result log entries node items (Err fault) read restored h = subst (IsLogDumpFault log) (sym h) tt

-- ---- the operations of a dump

ops_are_lawful : (entries : List Entry) → AreLawful entries → (op : Op) → IsIn op (ops_of entries) → IsSound op × IsInForm op
ops_are_lawful [] h op k = absurd k
ops_are_lawful (Begin replica ∷ entries) h op k = ops_are_lawful entries h.1 op k
ops_are_lawful (Commit synced ∷ entries) h op k = ops_are_lawful entries h.1 op k
ops_are_lawful (Apply first ∷ entries) h op k =
    elim k [
      | inl e ↦ subst (λ (o : Op). IsSound o × IsInForm o) e h.0
      | inr t ↦ ops_are_lawful entries h.1 op t
    ]

name_is_lawful : (entries : List Entry) (replica : ℕ) → AreLawful entries → first_name entries ≡ Some replica → IsReplica replica
name_is_lawful [] replica h e = absurd cc
name_is_lawful (Begin name ∷ entries) replica h e = let same : name ≡ replica = cc in subst IsReplica same h.0
name_is_lawful (Apply op ∷ entries) replica h e = absurd cc
name_is_lawful (Commit synced ∷ entries) replica h e = absurd cc

pub dumped_ops : (log text : List ℕ) (h : IsLogDump log text) → (op : Op) → IsIn op (ops_of h.entries) → IsSound op × IsInForm op
dumped_ops log text h = ops_are_lawful h.entries (lawful_entries log h.entries h.read.octets h.read.read)

pub dumped_name : (log text : List ℕ) (h : IsLogDump log text) → IsReplica h.replica
dumped_name log text h = name_is_lawful h.entries h.replica (lawful_entries log h.entries h.read.octets h.read.read) h.named
