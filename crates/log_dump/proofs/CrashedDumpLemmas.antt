use Rattle.std.proofs.Common.{◌≡◌, ◌⊎◌, inl, inr, ℕ, Bool, true, false, cond, eqb, List, [], ◌∷◌, ◌++◌, map, Option, Some, None, Result, Ok, Err, MatchResult, take, drop, refl, sym, ap, ◌∙◌, subst, append_assoc}
use Rattle.std.proofs.lemmas.Bool.{eqb-true}
use Rattle.std.proofs.lemmas.List.{take-append-drop}
use Rattle.crdt_ops.specs.Reading.{parts_at}
use Rattle.durable_log.specs.Logs.{IsCrashedLog}
use Rattle.durable_log.specs.Replicas.{has_first_line, other_replica}
use Rattle.durable_log.proofs.ReplicaLemmas.{other_replica_front}
use Rattle.imap_connection.specs.Dumps.{IsDump}
use Rattle.op_log.specs.Crashes.{IsCrashState}
use Rattle.op_log.specs.Damage.{has_commit_beyond}
use Rattle.op_log.specs.Entries.{committed_entries, entry_text, ops_of}
use Rattle.op_log.specs.Recovery.{IsRecovered}
use Rattle.op_log.specs.declared.entry.Entry.{Entry}
use Rattle.op_log.specs.declared.entry.Entry.TheVariants.{Apply, Begin, Commit}
use Rattle.op_log.proofs.EntryLemmas.{committed_front, not_unsound, read_left}
use Rattle.op_log.proofs.UndamagedLemmas.{undamaged}
use Rattle.log_dump.specs.EntryOrder.{AreBeforeMisplaced, AreInTurn, FollowsEntries, first_name}
use Rattle.log_dump.specs.LogDumps.{IsLogDump, IsLogDumpFault}
use Rattle.log_dump.specs.declared.fault.LogDumpFault.{LogDumpFault}
use Rattle.log_dump.specs.declared.fault.LogDumpFault.TheVariants.{NoMemory, Unreadable}

-- A log that a crash left has a dump.

first_by : (replica : ℕ) (entries : List Entry) → has_first_line entries ≡ true → other_replica replica entries ≡ None → first_name entries ≡ Some replica
first_by replica [] h k = absurd cc
first_by replica (Begin name ∷ entries) h k = ap Some (eqb-true name replica (is_same (eqb name replica) (other_replica replica entries) k))
  where
    is_same : (b : Bool) (rest : Option ℕ) → cond b rest (Some name) ≡ None → b ≡ true
    is_same true rest e = refl
    is_same false rest e = absurd cc
first_by replica (Apply op ∷ entries) h k = absurd cc
first_by replica (Commit synced ∷ entries) h k = absurd cc

first_append : (front back : List Entry) (replica : ℕ) → first_name front ≡ Some replica → first_name (front ++ back) ≡ Some replica
first_append [] back replica h = absurd cc
first_append (entry ∷ front) back replica h = h

in_turn_front : (replica : ℕ) (all entries rest : List Entry) → all ≡ entries ++ rest → AreInTurn replica all → AreInTurn replica entries
in_turn_front replica all entries rest e h = λ front entry back cut.
    h front entry (back ++ rest) (e ∙ ap (λ (xs : List Entry). xs ++ rest) cut ∙ append_assoc front (entry ∷ back) rest)

same_name : (names : Option ℕ) (one other : ℕ) → names ≡ Some one → names ≡ Some other → one ≡ other
same_name names one other h k = let e : ◌≡◌ {A = Option ℕ} (Some one) (Some other) = sym h ∙ k in cc

module _ (replica : ℕ) (synced unsynced : List Entry) (log : List ℕ) (crash : IsCrashedLog replica synced unsynced log) (in_turn : AreInTurn replica (synced ++ unsynced)) where
  state : IsCrashState (map entry_text synced) (map entry_text unsynced) log
  state = (crash.after, crash.split, crash.first_lines)

  record IsKept (entries : List Entry) : Type 0 where
    count : ℕ
    are : entries ≡ synced ++ committed_entries (take count unsynced)
    named : first_name entries ≡ Some replica
    each : AreInTurn replica entries

  rest_of : (count : ℕ) → (rest : List Entry) × (synced ++ unsynced ≡ (synced ++ committed_entries (take count unsynced)) ++ rest)
  rest_of count =
      let first = take count unsynced in
      let c = committed_front first in
      let after = c.0 ++ drop count unsynced in (
        after,
        ap (λ (xs : List Entry). synced ++ xs) (
            sym (take-append-drop count unsynced) ∙ ap (λ (xs : List Entry). xs ++ drop count unsynced) c.1 ∙ append_assoc (committed_entries first) c.0 (drop count unsynced))
            ∙ sym (append_assoc synced (committed_entries first) after),
      )

  found : (entries : List Entry) (octets : ℕ) → IsRecovered log entries octets → IsKept entries
  found entries octets read =
      let n = read_left log synced unsynced crash.synced_lawful crash.unsynced_lawful state entries octets read crash.ends in
      let all = rest_of n.0 in
      let first = first_by replica synced crash.begins (other_replica_front replica synced unsynced crash.no_other) in
      record {
        count = n.0;
        are = n.1;
        named = ap first_name n.1 ∙ first_append synced (committed_entries (take n.0 unsynced)) replica first;
        each = subst (AreInTurn replica) (sym n.1) (in_turn_front replica (synced ++ unsynced) (synced ++ committed_entries (take n.0 unsynced)) all.0 all.1 in_turn);
      }

  not_misplaced : (entries front : List Entry) (octets : ℕ) → IsRecovered log entries octets → AreBeforeMisplaced entries front → ⊥
  not_misplaced entries front octets read (inl h) =
      let k = found entries octets read in
      let e : ◌≡◌ {A = Option ℕ} None (Some replica) = sym h.0 ∙ k.named in absurd cc
  not_misplaced entries front octets read (inr h) =
      let k = found entries octets read in
      let same = same_name (first_name entries) replica h.0 k.named h.1 in
      h.2.misplaced (subst (λ (r : ℕ). FollowsEntries r front h.2.entry) same (k.each front h.2.entry h.2.back h.2.cut))

  not_damaged : (entries : List Entry) (octets : ℕ) → IsRecovered log entries octets → has_commit_beyond octets (parts_at 10 (drop octets log)) ≡ true → ⊥
  not_damaged entries octets read damaged =
      let whole : has_commit_beyond octets (parts_at 10 (drop octets log)) ≡ false =
      undamaged synced unsynced entries log crash.after octets crash.synced_lawful crash.unsynced_lawful crash.ends state crash.split crash.only_lines crash.commits read in
      let e : false ≡ true = sym whole ∙ damaged in absurd cc

  no_fault : (fault : LogDumpFault) → IsLogDumpFault log fault → fault ≡ NoMemory
  no_fault NoMemory h = refl
  no_fault (Unreadable octets) (inl (inl h)) = absurd (not_unsound log synced unsynced crash.synced_lawful crash.unsynced_lawful state octets h.0 h.1)
  no_fault (Unreadable octets) (inl (inr h)) = absurd (not_damaged h.0 octets h.1 h.2)
  no_fault (Unreadable octets) (inr h) = absurd (not_misplaced h.0 h.1 h.2.octets h.2.read h.3)

  pub crash_dump : {V : Type 0} (items : V → List ℕ) (result : Result V LogDumpFault) → MatchResult result (λ text. IsLogDump log (items text)) (IsLogDumpFault log)
      → MatchResult result (λ text. (count : ℕ) × IsDump replica (ops_of (synced ++ committed_entries (take count unsynced))) (items text)) (λ fault. fault ≡ NoMemory)
  crash_dump items (Ok text) h =
      let k = found h.entries h.read.octets h.read.read in
      let same = same_name (first_name h.entries) h.replica replica h.named k.named in (
        k.count,
        subst (λ (xs : List Entry). IsDump replica (ops_of xs) (items text)) k.are (subst (λ (r : ℕ). IsDump r (ops_of h.entries) (items text)) same h.dump),
      )
  crash_dump items (Err fault) h = no_fault fault h
