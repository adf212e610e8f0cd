use Rattle.std.proofs.Common.{◌≡◌, ◌⊎◌, inl, inr, ℕ, ◌≤◌, min, true, false, cond, List, [], ◌∷◌, ◌++◌, map, Option, Some, None, Result, Ok, Err, IfErr, IfOk, MatchResult, length, take, drop, refl, sym, ap, ◌∙◌, subst, append_assoc, arith}
use Rattle.std.proofs.lemmas.List.{append-nil, append_cancel_left, take-append-drop}
use Rattle.std.specs.Option.{option_map}
use Rattle.crdt_ops.specs.Form.{Each}
use Rattle.crdt_ops.specs.Ops.{clock_of, id_of}
use Rattle.crdt_ops.specs.Reading.{parts_at}
use Rattle.crdt_ops.specs.declared.op.Op.{Op}
use Rattle.op_log.specs.Crashes.{BeginsWithWrittenLines, HasOnlyWrittenLines, IsCrashState, IsPrefixOf}
use Rattle.merge_laws.specs.Orders.{IsCausal}
use Rattle.merge_laws.proofs.Causal.{causal_front}
use Rattle.op_log.specs.Damage.{HasSyncedAtMost, has_commit_beyond}
use Rattle.op_log.specs.Entries.{AreLawful, committed_entries, entry_text, lines_of, ops_of}
use Rattle.op_log.specs.Recovery.{IsRecovered}
use Rattle.op_log.specs.declared.entry.Entry.{Entry}
use Rattle.op_log.specs.declared.entry.Entry.TheVariants.{Commit}
use Rattle.op_log.proofs.EntryLemmas.{committed_front, lawful_both, not_unsound, ops_both, read_left}
use Rattle.op_log.proofs.UndamagedLemmas.{lawful_front, undamaged}
use Rattle.durable_log.specs.Devices.{DeviceState}
use Rattle.durable_log.specs.Logs.{HasEntries, HasOps, IsCrashedLog, IsLastCommitCertain, IsRecoveredLog, IsStoreFault, entries_fault, batch_entries}
use Rattle.durable_log.specs.Replicas.{has_first_line, other_replica}
use Rattle.durable_log.specs.declared.durable_log.DurableLog.{DurableLog}
use Rattle.durable_log.specs.declared.fault.StoreFault.{StoreFault}
use Rattle.durable_log.specs.declared.fault.StoreFault.TheVariants.{Damaged, Failed, LaterFormat, NoMemory, NoSpace, OtherReplica, Unsound}
use Rattle.durable_log.specs.declared.recovered_log.RecoveredLog.{RecoveredLog}
use Rattle.durable_log.proofs.DeviceLemmas.{split_again}
use Rattle.durable_log.proofs.LogLemmas.{batch_synced, each_append}
use Rattle.durable_log.proofs.ReplicaLemmas.{first_line_append, other_replica_front, other_replica_append, other_replica_batch}

-- ---- what is read of a log that a crash left

module _ (replica : ℕ) (synced unsynced : List Entry) (log : List ℕ) (crash : IsCrashedLog replica synced unsynced log) where
  state : IsCrashState (map entry_text synced) (map entry_text unsynced) log
  state = (crash.after, crash.split, crash.first_lines)

  record IsFound (entries : List Entry) (octets : ℕ) : Type 0 where
    count : ℕ
    are : entries ≡ synced ++ committed_entries (take count unsynced)
    no_fault : entries_fault replica entries octets (drop octets log) ≡ None

  -- whole batches are first entries
  front_of : (count : ℕ) → (rest : List Entry) × (synced ++ unsynced ≡ (synced ++ committed_entries (take count unsynced)) ++ rest)
  front_of count =
      let first = take count unsynced in
      let c = committed_front first in
      let after = c.0 ++ drop count unsynced in (
        after,
        ap (λ (xs : List Entry). synced ++ xs) (
            sym (take-append-drop count unsynced) ∙ ap (λ (xs : List Entry). xs ++ drop count unsynced) c.1 ∙ append_assoc (committed_entries first) c.0 (drop count unsynced))
            ∙ sym (append_assoc synced (committed_entries first) after),
      )

  found : (entries : List Entry) (octets : ℕ) → IsRecovered log entries octets → IsFound entries octets
  found entries octets read =
      let n = read_left log synced unsynced crash.synced_lawful crash.unsynced_lawful state entries octets read crash.ends in
      let kept = synced ++ committed_entries (take n.0 unsynced) in
      let all = front_of n.0 in
      let whole : has_commit_beyond octets (parts_at 10 (drop octets log)) ≡ false =
      undamaged synced unsynced entries log crash.after octets crash.synced_lawful crash.unsynced_lawful crash.ends state crash.split crash.only_lines crash.commits read in
      let begins : has_first_line entries ≡ true = ap has_first_line n.1 ∙ first_line_append synced (committed_entries (take n.0 unsynced)) crash.begins in
      let no_other : other_replica replica entries ≡ None =
      ap (other_replica replica) n.1 ∙ other_replica_front replica kept all.0 (sym (ap (other_replica replica) all.1) ∙ crash.no_other) in
      record {
        count = n.0;
        are = n.1;
        no_fault = λ i. cond (whole i) (Some (Damaged octets)) (cond (begins i) (option_map OtherReplica (no_other i)) (Some (Damaged 0)));
      }

  no_fault_is : (fault : StoreFault) → IsStoreFault replica log fault → (fault ≡ NoMemory) ⊎ (fault ≡ Failed)
  no_fault_is NoMemory h = inl refl
  no_fault_is Failed h = inr refl
  no_fault_is NoSpace h = absurd h
  no_fault_is LaterFormat h = absurd (not_unsound log synced unsynced crash.synced_lawful crash.unsynced_lawful state h.0 h.1 h.2)
  no_fault_is (Unsound octets) h = absurd (not_unsound log synced unsynced crash.synced_lawful crash.unsynced_lawful state h.0 h.1 h.2)
  no_fault_is (Damaged octets) h =
      let none = (found h.0 h.1 h.2).no_fault in
      let e : ◌≡◌ {A = Option StoreFault} None (Some (Damaged octets)) = sym none ∙ h.3 in absurd cc
  no_fault_is (OtherReplica name) h =
      let none = (found h.0 h.1 h.2).no_fault in
      let e : ◌≡◌ {A = Option StoreFault} None (Some (OtherReplica name)) = sym none ∙ h.3 in absurd cc

  pub crash_read : {D V : Type 0} (state : D → DeviceState) (items : V → List Op) (before : DeviceState) (result : Result (RecoveredLog D × V) StoreFault) → before.contents ≡ log
      → IfOk result (λ f. HasOps state replica f.0 (items f.1)) → IfOk result (λ f. state f.0.device ≡ before) → IfErr result (IsStoreFault replica log)
      → MatchResult result (λ f. (count : ℕ) × IsRecoveredLog state replica f.0 (synced ++ committed_entries (take count unsynced)) × (items f.1 ≡ ops_of (synced ++ committed_entries (take count unsynced)))) (λ fault. (fault ≡ NoMemory) ⊎ (fault ≡ Failed))
  crash_read state items before (Ok f) e read unchanged fault =
      let here = subst (λ (xs : List ℕ). IsRecovered xs read.entries f.0.layout.octets) (ap (λ (s : DeviceState). s.contents) unchanged ∙ e) read.recovered.layout.sound.read in
      let is = found read.entries f.0.layout.octets here in
      (is.count, subst (λ (entries : List Entry). IsRecoveredLog state replica f.0 entries) is.are read.recovered, read.ops_are ∙ ap ops_of is.are)
  crash_read state items before (Err fault) e read unchanged h = no_fault_is fault h

  found_causal : (entries : List Entry) (octets : ℕ) → IsRecovered log entries octets → IsCausal id_of clock_of (ops_of (synced ++ unsynced)) → IsCausal id_of clock_of (ops_of entries)
  found_causal entries octets read causal =
      let is = found entries octets read in
      let kept = synced ++ committed_entries (take is.count unsynced) in
      let all = front_of is.count in
      let parts : ops_of (synced ++ unsynced) ≡ ops_of kept ++ ops_of all.0 = ap ops_of all.1 ∙ ops_both kept all.0 in
      subst (λ (xs : List Entry). IsCausal id_of clock_of (ops_of xs)) (sym is.are) (causal_front id_of clock_of (ops_of kept) (ops_of all.0) (subst (IsCausal id_of clock_of) parts causal))

  pub crash_causal : {D V : Type 0} (state : D → DeviceState) (items : V → List Op) (before : DeviceState) (result : Result (RecoveredLog D × V) StoreFault) → before.contents ≡ log
      → IfOk result (λ f. HasOps state replica f.0 (items f.1)) → IfOk result (λ f. state f.0.device ≡ before) → IsCausal id_of clock_of (ops_of (synced ++ unsynced))
      → IfOk result (λ f. IsCausal id_of clock_of (items f.1))
  crash_causal state items before (Ok f) e read unchanged causal =
      let here = subst (λ (xs : List ℕ). IsRecovered xs read.entries f.0.layout.octets) (ap (λ (s : DeviceState). s.contents) unchanged ∙ e) read.recovered.layout.sound.read in
      subst (IsCausal id_of clock_of) (sym read.ops_are) (found_causal read.entries f.0.layout.octets here causal)
  crash_causal state items before (Err fault) e read unchanged causal = tt

-- ---- what a crash leaves of a log that works

lawful_back : (front back : List Entry) → AreLawful (front ++ back) → AreLawful back
lawful_back [] back h = h
lawful_back (entry ∷ front) back h = lawful_back front back h.1

pub crashed_log : {D : Type 0} (state : D → DeviceState) (replica : ℕ) (log : DurableLog D) (first more : List Entry) (left after : List ℕ) → HasEntries state replica log first (first ++ more) → left ≡ (state log.device).synced ++ after
    → BeginsWithWrittenLines (map entry_text more) (drop (length (lines_of first)) left) → HasOnlyWrittenLines (map entry_text more) (drop (length (lines_of first)) left) → IsCrashedLog replica first more left
crashed_log state replica log first more left after h e begins only =
    let same : more ≡ h.unsynced = append_cancel_left first more h.unsynced h.split in
    let lines : left ≡ lines_of first ++ (h.synced_octets.0 ++ after) =
    e ∙ ap (λ (xs : List ℕ). xs ++ after) h.synced_octets.1 ∙ append_assoc (lines_of first) h.synced_octets.0 after in
    record {
      synced_lawful = lawful_front first more h.lawful;
      unsynced_lawful = lawful_back first more h.lawful;
      ends = h.synced_ends;
      begins = h.begins;
      no_other = h.no_other;
      commits = subst (λ (n : ℕ). Each (HasSyncedAtMost n) more) h.count (subst (Each (HasSyncedAtMost log.synced)) (sym same) h.commits);
      after = drop (length (lines_of first)) left;
      split = split_again (lines_of first) (h.synced_octets.0 ++ after) left lines;
      first_lines = begins;
      only_lines = only;
    }

-- while a batch is written
pub crashed_write : {D : Type 0} (state : D → DeviceState) (replica : ℕ) (log : DurableLog D) (first more : List Entry) (ops : List Op) (left : List ℕ) → HasEntries state replica log first (first ++ more) → AreLawful (batch_entries ops log.synced) → IsPrefixOf (lines_of first) left
    → BeginsWithWrittenLines (map entry_text (more ++ batch_entries ops log.synced)) (drop (length (lines_of first)) left) → HasOnlyWrittenLines (map entry_text (more ++ batch_entries ops log.synced)) (drop (length (lines_of first)) left)
    → IsCrashedLog replica first (more ++ batch_entries ops log.synced) left
crashed_write state replica log first more ops left h lawful prefix begins only =
    let batch = batch_entries ops log.synced in
    let same : more ≡ h.unsynced = append_cancel_left first more h.unsynced h.split in
    let commits : Each (HasSyncedAtMost log.synced) (more ++ batch) = each_append (HasSyncedAtMost log.synced) more batch (subst (Each (HasSyncedAtMost log.synced)) (sym same) h.commits) (batch_synced ops log.synced) in
    let none : other_replica replica ((first ++ more) ++ batch) ≡ None = other_replica_append replica (first ++ more) batch h.no_other (other_replica_batch replica ops log.synced) in
    record {
      synced_lawful = lawful_front first more h.lawful;
      unsynced_lawful = lawful_both more batch (lawful_back first more h.lawful) lawful;
      ends = h.synced_ends;
      begins = h.begins;
      no_other = sym (ap (other_replica replica) (append_assoc first more batch)) ∙ none;
      commits = subst (λ (n : ℕ). Each (HasSyncedAtMost n) (more ++ batch)) h.count commits;
      after = drop (length (lines_of first)) left;
      split = split_again (lines_of first) prefix.0 left prefix.1;
      first_lines = begins;
      only_lines = only;
    }

-- ---- the last commit that is found

each_front : (P : Entry → Type 0) (front back : List Entry) → Each P (front ++ back) → Each P front
each_front P [] back h = tt
each_front P (entry ∷ front) back h = (h.0, each_front P front back h.1)

-- the last of some entries, after others
each_last : (P : Entry → Type 0) (entries : List Entry) (first : Entry) (more front : List Entry) (last : Entry) → entries ++ first ∷ more ≡ front ++ last ∷ [] → Each P (first ∷ more) → P last
each_last P [] first [] [] last e h = let same : first ≡ last = cc in subst P same h.0
each_last P [] first [] (entry ∷ []) last e h = absurd cc
each_last P [] first [] (entry ∷ next ∷ front) last e h = absurd cc
each_last P [] first (next ∷ more) [] last e h = absurd cc
each_last P [] first (next ∷ more) (entry ∷ front) last e h = let rest : next ∷ more ≡ front ++ last ∷ [] = cc in each_last P [] next more front last rest h.1
each_last P (entry ∷ []) first more [] last e h = absurd cc
each_last P (entry ∷ next ∷ entries) first more [] last e h = absurd cc
each_last P (entry ∷ entries) first more (other ∷ front) last e h = let rest : entries ++ first ∷ more ≡ front ++ last ∷ [] = cc in each_last P entries first more front last rest h

committed_at_most : (n count : ℕ) (entries : List Entry) → Each (HasSyncedAtMost n) entries → Each (HasSyncedAtMost n) (committed_entries (take count entries))
committed_at_most n count entries h =
    let first = take count entries in
    let c = committed_front first in
    let some = each_front (HasSyncedAtMost n) first (drop count entries) (subst (Each (HasSyncedAtMost n)) (sym (take-append-drop count entries)) h) in
    each_front (HasSyncedAtMost n) (committed_entries first) c.0 (subst (Each (HasSyncedAtMost n)) c.1 some)

found_certain : (n certain octets : ℕ) (synced found front : List Entry) → length (lines_of synced) ≡ n → n ≤ certain → synced ++ found ≡ front ++ Commit octets ∷ [] → Each (HasSyncedAtMost n) found → min octets (length (lines_of (synced ++ found))) ≤ certain
found_certain n certain octets synced [] front long within e h =
    let same : length (lines_of (synced ++ [])) ≡ length (lines_of synced) = ap (λ (entries : List Entry). length (lines_of entries)) (append-nil synced) in omega arith
found_certain n certain octets synced (entry ∷ found) front long within e h =
    let said : octets ≤ n = each_last (HasSyncedAtMost n) synced entry found front (Commit octets) e h in omega arith

-- what it says is certain
pub last_commit_certain : (replica : ℕ) (synced unsynced : List Entry) (left : List ℕ) (count certain : ℕ) → IsCrashedLog replica synced unsynced left → length (lines_of synced) ≤ certain → IsLastCommitCertain (synced ++ committed_entries (take count unsynced)) certain
last_commit_certain replica synced unsynced left count certain crash within front octets e =
    let n = length (lines_of synced) in
    found_certain n certain octets synced (committed_entries (take count unsynced)) front refl within e (committed_at_most n count unsynced crash.commits)
