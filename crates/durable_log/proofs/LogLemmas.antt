use Rattle.std.proofs.Common.{◌≡◌, ℕ, ◌+◌, ◌-◌, ◌<◌, ◌≤◌, ltb, Bool, true, false, cond, eqb, eq-eqb, Option, Some, None, List, [], ◌∷◌, ◌++◌, map, length, take, drop, get_or, Result, Ok, Err, OnErr, OnOk, refl, sym, ap, ◌∙◌, subst, arith, append_assoc}
use Rattle.std.proofs.lemmas.Bool.Decides.{nat_tests}
use Rattle.std.proofs.lemmas.List.{append-nil, length-append, map-append, take_all, take_more}
use Rattle.std.specs.Option.{option_map}
use Rattle.crdt_ops.specs.Form.{Each}
use Rattle.crdt_ops.specs.declared.op.Op.{Op}
use Rattle.crdt_ops.specs.Reading.{parts_at}
use Rattle.op_log.specs.Damage.{HasSyncedAtMost, has_commit_beyond}
use Rattle.op_log.specs.Entries.{AreLawful, EndsWithCommit, IsLawful, committed_entries, entry_text, is_commit, lines_of, ops_of, with_entry_before}
use Rattle.op_log.specs.Recovery.{IsRecovered}
use Rattle.op_log.specs.Lines.{line_of}
use Rattle.op_log.specs.declared.entry.Entry.{Entry}
use Rattle.op_log.specs.declared.entry.Entry.TheVariants.{Apply, Begin, Commit}
use Rattle.op_log.proofs.EntryLemmas.{committed_commit, committed_front, lawful_both, ops_both}
use Rattle.op_log.proofs.UndamagedLemmas.{lawful_front, lines_of_append}
use Rattle.op_log.specs.Crashes.{IsPrefixOf}
use Rattle.durable_log.specs.Devices.{DeviceState, IsPadded, are_zeros, with_octets_at}
use Rattle.durable_log.specs.Logs.{HasEntries, IsRecoveredLog, SaysSynced, batch_entries, entry_of_op, first_entries, missing_commit}
use Rattle.durable_log.specs.Replicas.{has_first_line, other_replica}
use Rattle.durable_log.specs.declared.durable_log.DurableLog.{DurableLog}
use Rattle.durable_log.specs.declared.fault.StoreFault.TheVariants.{Damaged, OtherReplica}
use Rattle.durable_log.specs.declared.recovered_log.RecoveredLog.{RecoveredLog}
use Rattle.durable_log.proofs.DeviceLemmas.{length_cut, length_of_padded, length_written, padded_cut, padded_grow, padded_log, padded_new, padded_take, padded_write}
use Rattle.durable_log.proofs.ReplicaLemmas.{first_line_append, other_replica_append, other_replica_batch}

pub lines_of_entry : (entry : Entry) → lines_of (entry ∷ []) ≡ line_of (entry_text entry)
lines_of_entry entry = append-nil (line_of (entry_text entry))

-- another entry
pub lines_of_more : (old new : List ℕ) (entries : List Entry) (entry : Entry) (next : List ℕ) → new ≡ old ++ lines_of entries → next ≡ new ++ line_of (entry_text entry) → next ≡ old ++ lines_of (entries ++ entry ∷ [])
lines_of_more old new entries entry next h e =
    e ∙ ap (λ (xs : List ℕ). xs ++ line_of (entry_text entry)) h ∙ append_assoc old (lines_of entries) (line_of (entry_text entry))
    ∙ ap (λ (xs : List ℕ). old ++ xs) (ap (λ (xs : List ℕ). lines_of entries ++ xs) (sym (lines_of_entry entry)) ∙ sym (lines_of_append entries (entry ∷ [])))

pub entry_of_op_more : (ops : List Op) (i : ℕ) (op : Op) → i < length ops → op ≡ get_or ops i op → map entry_of_op (take (i + 1) ops) ≡ map entry_of_op (take i ops) ++ Apply op ∷ []
entry_of_op_more ops i op l is =
    ap (map entry_of_op) (take_more ops i op l ∙ ap (λ (y : Op). take i ops ++ y ∷ []) (sym is)) ∙ map-append entry_of_op (take i ops) (op ∷ [])

pub lines_of_batch : (old mid new : List ℕ) (ops : List Op) (synced : ℕ) → mid ≡ old ++ lines_of (map entry_of_op ops) → new ≡ mid ++ line_of (entry_text (Commit synced)) → new ≡ old ++ lines_of (batch_entries ops synced)
lines_of_batch old mid new ops synced h e = lines_of_more old mid (map entry_of_op ops) (Commit synced) new h e

pub batch_lawful : (ops : List Op) (synced : ℕ) → AreLawful (map entry_of_op ops) → synced ≤ 18446744073709551615 → AreLawful (batch_entries ops synced)
batch_lawful ops synced h l = lawful_both (map entry_of_op ops) (Commit synced ∷ []) h (l, tt)

pub on_ok : {T E P Q : Type 0} (r : Result T E) → (P → Q) → OnOk r P → OnOk r Q
on_ok (Ok x) f h = f h
on_ok (Err e) f h = tt

pub err_anyhow : {T E : Type 0} (r : Result T E) (P : Type 0) → P → OnErr r P
err_anyhow (Ok x) P h = tt
err_anyhow (Err e) P h = h

pub ok_anyhow : {T E : Type 0} (r : Result T E) (P : Type 0) → P → OnOk r P
ok_anyhow (Ok x) P h = h
ok_anyhow (Err e) P h = tt

pub lawful_more : (ops : List Op) (i : ℕ) (op : Op) → i < length ops → op ≡ get_or ops i op → AreLawful (map entry_of_op (take i ops)) → IsLawful (Apply op) → AreLawful (map entry_of_op (take (i + 1) ops))
lawful_more ops i op l is h k = subst AreLawful (sym (entry_of_op_more ops i op l is)) (lawful_both (map entry_of_op (take i ops)) (Apply op ∷ []) h (k, tt))

pub lines_of_op : (before old new : List ℕ) (ops : List Op) (i : ℕ) (op : Op) → i < length ops → op ≡ get_or ops i op → old ≡ before ++ lines_of (map entry_of_op (take i ops)) → new ≡ old ++ line_of (entry_text (Apply op))
    → new ≡ before ++ lines_of (map entry_of_op (take (i + 1) ops))
lines_of_op before old new ops i op l is h e =
    lines_of_more before old (map entry_of_op (take i ops)) (Apply op) new h e ∙ ap (λ (xs : List Entry). before ++ lines_of xs) (sym (entry_of_op_more ops i op l is))

pub entries_of_ops : (ops : List Op) (i : ℕ) → length ops ≤ i → map entry_of_op (take i ops) ≡ map entry_of_op ops
entries_of_ops ops i l = ap (map entry_of_op) (take_all i ops l)

-- ---- what was synced at most

pub each_append : (P : Entry → Type 0) (xs ys : List Entry) → Each P xs → Each P ys → Each P (xs ++ ys)
each_append P [] ys h k = k
each_append P (x ∷ xs) ys h k = (h.0, each_append P xs ys h.1 k)

pub batch_synced : (ops : List Op) (synced : ℕ) → Each (HasSyncedAtMost synced) (batch_entries ops synced)
batch_synced [] synced = (omega arith, tt)
batch_synced (op ∷ ops) synced = (tt, batch_synced ops synced)

-- ---- whether the last commit says enough

not_behind : (said synced : ℕ) → synced ≤ said → ltb said synced ≡ false
not_behind said synced l = grind (arith, nat_tests)

behind : (said synced : ℕ) → said < synced → ltb said synced ≡ true
behind said synced l = grind (arith, nat_tests)

-- ---- operations of batches

pub ops_of_batch : (ops : List Op) (synced : ℕ) → ops_of (batch_entries ops synced) ≡ ops
ops_of_batch [] synced = refl
ops_of_batch (op ∷ ops) synced = ap (λ (xs : List Op). op ∷ xs) (ops_of_batch ops synced)

pub count_after_batch : (entries : List Entry) (ops : List Op) (synced count : ℕ) → count ≡ length (ops_of entries) → count + length ops ≡ length (ops_of (entries ++ batch_entries ops synced))
count_after_batch entries ops synced count h =
    let parts : ops_of (entries ++ batch_entries ops synced) ≡ ops_of entries ++ ops = ops_both entries (batch_entries ops synced) ∙ ap (λ (xs : List Op). ops_of entries ++ xs) (ops_of_batch ops synced) in
    let long : length (ops_of (entries ++ batch_entries ops synced)) ≡ length (ops_of entries) + length ops = ap (λ (xs : List Op). length xs) parts ∙ length-append (ops_of entries) ops in
    omega arith

-- a batch ends with its commit
batch_end : (entries : List Entry) (ops : List Op) (synced : ℕ) → entries ++ batch_entries ops synced ≡ (entries ++ map entry_of_op ops) ++ Commit synced ∷ []
batch_end entries ops synced = sym (append_assoc entries (map entry_of_op ops) (Commit synced ∷ []))

-- ---- a log that works

module _ {D : Type 0} (state : D → DeviceState) (replica : ℕ) where
  -- the lines that were synced are among those that were written
  pub synced_within : (log : DurableLog D) (synced_entries entries : List Entry) → HasEntries state replica log synced_entries entries → length (lines_of synced_entries) ≤ log.written
  synced_within log synced_entries entries h =
      let parts : lines_of entries ≡ lines_of synced_entries ++ lines_of h.unsynced = ap lines_of h.split ∙ lines_of_append synced_entries h.unsynced in
      let long : length (lines_of entries) ≡ length (lines_of synced_entries) + length (lines_of h.unsynced) = ap (λ (xs : List ℕ). length xs) parts ∙ length-append (lines_of synced_entries) (lines_of h.unsynced) in
      let written : log.written ≡ length (lines_of entries) = h.written in
      omega arith

  pub written_within : (log : DurableLog D) (synced_entries entries : List Entry) → HasEntries state replica log synced_entries entries → log.written ≤ length (state log.device).contents
  written_within log synced_entries entries h = let room : log.written + log.room ≤ length (state log.device).contents = h.room in omega arith

  pub room_within : (log : DurableLog D) (synced_entries entries : List Entry) (place : ℕ) → HasEntries state replica log synced_entries entries → place ≡ log.written + log.room → place ≤ length (state log.device).contents
  room_within log synced_entries entries place h is = let room : log.written + log.room ≤ length (state log.device).contents = h.room in omega arith

  pub written_certain : (log : DurableLog D) (synced_entries entries : List Entry) → HasEntries state replica log synced_entries entries → log.written ≤ (state log.device).certain
  written_certain log synced_entries entries h =
      let written : log.written ≡ length (lines_of entries) = h.written in
      let certain : length (lines_of entries) ≤ (state log.device).certain = h.certain in
      omega arith

  -- what was synced, up to a place after the lines
  pub synced_front : (log : DurableLog D) (synced_entries entries : List Entry) (place : ℕ) → HasEntries state replica log synced_entries entries → log.written ≤ place → IsPadded (lines_of synced_entries) (take place (state log.device).synced)
  synced_front log synced_entries entries place h l =
      let within = synced_within log synced_entries entries h in
      padded_take (lines_of synced_entries) (state log.device).synced place h.synced_octets (omega arith)

  -- a batch was written
  pub entries_after_write : (old new : DurableLog D) (synced_entries entries : List Entry) (ops : List Op) (batch : List ℕ) → HasEntries state replica old synced_entries entries
      → (state new.device).is_known ≡ true → new.failed ≡ false → batch ≡ lines_of (batch_entries ops old.synced) → AreLawful (batch_entries ops old.synced)
      → (state new.device).contents ≡ with_octets_at old.written batch (state old.device).contents → (state new.device).synced ≡ take old.written (state old.device).synced → old.written + length batch ≤ (state new.device).certain
      → new.written ≡ old.written + length batch → new.synced ≡ old.synced → new.room ≡ old.room - length batch → new.op_count ≡ old.op_count + length ops → new.synced_count ≡ old.synced_count → new.said_count ≡ old.synced_count
      → HasEntries state replica new synced_entries (entries ++ batch_entries ops old.synced)
  entries_after_write old new synced_entries entries ops batch h known works is lawful there same certain counted stays room op_count synced_count said_count =
      let more = batch_entries ops old.synced in
      let before = (state old.device).contents in
      let p = padded_write (lines_of entries) batch before old.written h.octets h.written in
      let lines : lines_of entries ++ batch ≡ lines_of (entries ++ more) = ap (λ (xs : List ℕ). lines_of entries ++ xs) is ∙ sym (lines_of_append entries more) in
      let q = synced_front old synced_entries entries old.written h (omega arith) in
      let ends = batch_end entries ops old.synced in
      let written : old.written ≡ length (lines_of entries) = h.written in
      let all : new.written ≡ length (lines_of entries) + length batch = counted ∙ ap (λ (n : ℕ). n + length batch) h.written in
      let total : new.written ≡ length (lines_of (entries ++ more)) = all ∙ sym (length-append (lines_of entries) batch) ∙ ap (λ (xs : List ℕ). length xs) lines in
      let within = written_within old synced_entries entries h in
      let long : length (state new.device).contents ≡ old.written + (length batch + (length before - (old.written + length batch))) = ap (λ (xs : List ℕ). length xs) there ∙ length_written old.written batch before within in
      let old_room : old.written + old.room ≤ length before = h.room in
      let named : old.synced ≡ length (lines_of synced_entries) = h.count in
      record {
        known = known;
        works = works;
        octets = (p.0, there ∙ p.1 ∙ ap (λ (xs : List ℕ). xs ++ p.0) lines, p.2);
        synced_octets = (q.0, same ∙ q.1, q.2);
        certain = omega arith;
        written = total;
        room = omega arith;
        count = stays ∙ h.count;
        op_count = op_count ∙ count_after_batch entries ops old.synced old.op_count h.op_count;
        synced_count = synced_count ∙ h.synced_count;
        said_count = record {
          front = entries ++ map entry_of_op ops;
          octets = old.synced;
          last = ends;
          said = synced_entries;
          rest = h.unsynced ++ more;
          split = ap (λ (xs : List Entry). xs ++ more) h.split ∙ append_assoc synced_entries h.unsynced more;
          within = omega arith;
          counted = said_count ∙ h.synced_count;
        };
        unsynced = h.unsynced ++ more;
        split = ap (λ (xs : List Entry). xs ++ more) h.split ∙ append_assoc synced_entries h.unsynced more;
        commits = subst (λ (n : ℕ). Each (HasSyncedAtMost n) (h.unsynced ++ more)) (sym stays) (each_append (HasSyncedAtMost old.synced) h.unsynced more h.commits (batch_synced ops old.synced));
        lawful = lawful_both entries more h.lawful lawful;
        ends = ap committed_entries ends ∙ committed_commit (entries ++ map entry_of_op ops) (Commit old.synced) refl ∙ sym ends;
        synced_ends = h.synced_ends;
        begins = h.begins;
        no_other = other_replica_append replica entries more h.no_other (other_replica_batch replica ops old.synced);
      }

  -- the last commit says enough
  pub entries_unchanged : (log : DurableLog D) (synced_entries entries : List Entry) → HasEntries state replica log synced_entries entries → log.synced_count ≤ log.said_count
      → HasEntries state replica log synced_entries (entries ++ missing_commit log.said_count log.synced_count log.synced)
  entries_unchanged log synced_entries entries h l =
      let none : ltb log.said_count log.synced_count ≡ false = not_behind log.said_count log.synced_count l in
      let same : entries ++ missing_commit log.said_count log.synced_count log.synced ≡ entries =
      ap (λ (b : Bool). entries ++ cond b (batch_entries [] log.synced) []) none ∙ append-nil entries in
      subst (λ (xs : List Entry). HasEntries state replica log synced_entries xs) (sym same) h

  -- a commit was missing
  pub entries_with_commit : (old new : DurableLog D) (synced_entries entries : List Entry) → old.said_count < old.synced_count → HasEntries state replica new synced_entries (entries ++ batch_entries [] old.synced)
      → HasEntries state replica new synced_entries (entries ++ missing_commit old.said_count old.synced_count old.synced)
  entries_with_commit old new synced_entries entries l h =
      let some : ltb old.said_count old.synced_count ≡ true = behind old.said_count old.synced_count l in
      subst (λ (b : Bool). HasEntries state replica new synced_entries (entries ++ cond b (batch_entries [] old.synced) [])) (sym some) h

  -- what was synced still is
  pub synced_still : (old : DurableLog D) (synced_entries entries : List Entry) (now : List ℕ) → HasEntries state replica old synced_entries entries → IsPrefixOf (state old.device).synced now → IsPrefixOf (lines_of synced_entries) now
  synced_still old synced_entries entries now h still =
      (h.synced_octets.0 ++ still.0, still.1 ∙ ap (λ (xs : List ℕ). xs ++ still.0) h.synced_octets.1 ∙ append_assoc (lines_of synced_entries) h.synced_octets.0 still.0)

  pub synced_unchanged : (old : DurableLog D) (synced_entries entries : List Entry) → HasEntries state replica old synced_entries entries → IsPrefixOf (lines_of synced_entries) (state old.device).synced
  synced_unchanged old synced_entries entries h = (h.synced_octets.0, h.synced_octets.1)

  pub synced_after_write : (old : DurableLog D) (synced_entries entries : List Entry) (place : ℕ) (now : List ℕ) → HasEntries state replica old synced_entries entries → old.written ≤ place → now ≡ take place (state old.device).synced → IsPrefixOf (lines_of synced_entries) now
  synced_after_write old synced_entries entries place now h l e =
      let q = synced_front old synced_entries entries place h l in
      (q.0, e ∙ q.1)

  pub synced_after_cut : (old : DurableLog D) (synced_entries entries : List Entry) (place : ℕ) (mid now : List ℕ) → HasEntries state replica old synced_entries entries → old.written ≤ place → mid ≡ take place (state old.device).synced → now ≡ take place mid → IsPadded (lines_of synced_entries) now
  synced_after_cut old synced_entries entries place mid now h l m e =
      let q = synced_front old synced_entries entries place h l in
      let within = synced_within old synced_entries entries h in
      let r = padded_take (lines_of synced_entries) (take place (state old.device).synced) place q (omega arith) in
      (r.0, e ∙ ap (take place) m ∙ r.1, r.2)

  -- ---- zeros were written ahead, or cut off again

  -- only the device and the room changed
  entries_with_room : (old new : DurableLog D) (room : ℕ) (synced_entries entries : List Entry) → HasEntries state replica old synced_entries entries → new ≡ record old { device = new.device; room = room } → (state new.device).is_known ≡ true
      → IsPadded (lines_of entries) (state new.device).contents → IsPadded (lines_of synced_entries) (state new.device).synced → (state old.device).certain ≤ (state new.device).certain → old.written + room ≤ length (state new.device).contents
      → HasEntries state replica new synced_entries entries
  entries_with_room old new room synced_entries entries h same known padded synced certain fits =
      let was : length (lines_of entries) ≤ (state old.device).certain = h.certain in
      let written : new.written ≡ old.written = ap (λ (l : DurableLog D). l.written) same in
      let has_room : new.room ≡ room = ap (λ (l : DurableLog D). l.room) same in
      let count : new.synced ≡ old.synced = ap (λ (l : DurableLog D). l.synced) same in
      record {
        known = known;
        works = ap (λ (l : DurableLog D). l.failed) same ∙ h.works;
        octets = padded;
        synced_octets = synced;
        certain = omega arith;
        written = written ∙ h.written;
        room = omega arith;
        count = count ∙ h.count;
        op_count = ap (λ (l : DurableLog D). l.op_count) same ∙ h.op_count;
        synced_count = ap (λ (l : DurableLog D). l.synced_count) same ∙ h.synced_count;
        said_count = subst (λ (n : ℕ). SaysSynced n entries) (sym (ap (λ (l : DurableLog D). l.said_count) same)) h.said_count;
        unsynced = h.unsynced;
        split = h.split;
        commits = subst (λ (n : ℕ). Each (HasSyncedAtMost n) h.unsynced) (sym count) h.commits;
        lawful = h.lawful;
        ends = h.ends;
        synced_ends = h.synced_ends;
        begins = h.begins;
        no_other = h.no_other;
      }

  pub entries_after_grow : (old new : DurableLog D) (place room : ℕ) (zeros : List ℕ) (synced_entries entries : List Entry) → HasEntries state replica old synced_entries entries → new ≡ record old { device = new.device; room = room } → place ≡ old.written + old.room → room ≡ old.room + length zeros → are_zeros zeros ≡ true
      → (state new.device).is_known ≡ true → (state new.device).contents ≡ with_octets_at place zeros (state old.device).contents → (state new.device).synced ≡ take place (state old.device).synced → (state old.device).certain ≤ (state new.device).certain
      → HasEntries state replica new synced_entries entries
  entries_after_grow old new place room zeros synced_entries entries h same at more z known there synced certain =
      let before = (state old.device).contents in
      let written : old.written ≡ length (lines_of entries) = h.written in
      let fits : old.written + old.room ≤ length before = h.room in
      let p = padded_grow (lines_of entries) zeros before place h.octets (omega arith) z in
      let q = synced_front old synced_entries entries place h (omega arith) in
      let long : length (state new.device).contents ≡ place + (length zeros + (length before - (place + length zeros))) = ap (λ (xs : List ℕ). length xs) there ∙ length_written place zeros before (omega arith) in
      entries_with_room old new room synced_entries entries h same known (p.0, there ∙ p.1, p.2) (q.0, synced ∙ q.1, q.2) certain (omega arith)

  pub entries_after_full : (old new : DurableLog D) (place : ℕ) (mid : DeviceState) (synced_entries entries : List Entry) → HasEntries state replica old synced_entries entries → new ≡ record old { device = new.device; room = old.room } → place ≡ old.written + old.room
      → (state new.device).is_known ≡ true → IsPrefixOf (take place (state old.device).contents) mid.contents → (state new.device).contents ≡ take place mid.contents → mid.synced ≡ take place (state old.device).synced → (state new.device).synced ≡ take place mid.synced
      → (state old.device).certain ≤ mid.certain → mid.certain ≤ (state new.device).certain → HasEntries state replica new synced_entries entries
  entries_after_full old new place mid synced_entries entries h same at known front there synced cut raised certain =
      let before = (state old.device).contents in
      let written : old.written ≡ length (lines_of entries) = h.written in
      let fits : old.written + old.room ≤ length before = h.room in
      let contents = there ∙ ap (take place) front.1 in
      let p = padded_cut (lines_of entries) before front.0 place h.octets (omega arith) (omega arith) in
      let long : length (state new.device).contents ≡ place = ap (λ (xs : List ℕ). length xs) contents ∙ length_cut before front.0 place (omega arith) in
      entries_with_room old new old.room synced_entries entries h same known (p.0, contents ∙ p.1, p.2) (synced_after_cut old synced_entries entries place mid.synced (state new.device).synced h (omega arith) synced cut) (omega arith) (omega arith)

  -- all that was written was synced
  pub entries_after_sync : (old new : DurableLog D) (synced_entries entries : List Entry) → HasEntries state replica old synced_entries entries → (state new.device).is_known ≡ true → new.failed ≡ false
      → (state new.device).contents ≡ (state old.device).contents → (state new.device).synced ≡ take (state old.device).certain (state old.device).contents → (state old.device).certain ≤ (state new.device).certain
      → new.written ≡ old.written → new.synced ≡ old.written → new.room ≡ old.room → new.op_count ≡ old.op_count → new.synced_count ≡ old.op_count → new.said_count ≡ old.said_count
      → HasEntries state replica new entries entries
  entries_after_sync old new synced_entries entries h known works there now raised same count room op_count synced_count said_count =
      let was : length (lines_of entries) ≤ (state old.device).certain = h.certain in
      let q = padded_take (lines_of entries) (state old.device).contents (state old.device).certain h.octets was in
      let fits : old.written + old.room ≤ length (state old.device).contents = h.room in
      let long : length (state new.device).contents ≡ length (state old.device).contents = ap (λ (xs : List ℕ). length xs) there in
      record {
        known = known;
        works = works;
        octets = (h.octets.0, there ∙ h.octets.1, h.octets.2);
        synced_octets = (q.0, now ∙ q.1, q.2);
        certain = omega arith;
        written = same ∙ h.written;
        room = omega arith;
        count = count ∙ h.written;
        op_count = op_count ∙ h.op_count;
        synced_count = synced_count ∙ h.op_count;
        said_count = subst (λ (n : ℕ). SaysSynced n entries) (sym said_count) h.said_count;
        unsynced = [];
        split = sym (append-nil entries);
        commits = tt;
        lawful = h.lawful;
        ends = h.ends;
        synced_ends = h.ends;
        begins = subst (λ (xs : List Entry). has_first_line xs ≡ true) (sym h.split) (first_line_append synced_entries h.unsynced h.begins);
        no_other = h.no_other;
      }

  -- all entries are synced
  entries_synced : (log : DurableLog D) (entries : List Entry) (octets : List ℕ) (certain : ℕ) → (state log.device).is_known ≡ true → log.failed ≡ false → IsPadded (lines_of entries) octets → (state log.device).contents ≡ octets → (state log.device).synced ≡ take certain octets
      → length (lines_of entries) ≤ certain → certain ≤ (state log.device).certain → log.written ≡ length (lines_of entries) → log.synced ≡ length (lines_of entries) → length (lines_of entries) + log.room ≤ length octets → log.op_count ≡ length (ops_of entries) → log.synced_count ≡ length (ops_of entries)
      → SaysSynced log.said_count entries → AreLawful entries → EndsWithCommit entries → has_first_line entries ≡ true → other_replica replica entries ≡ None → HasEntries state replica log entries entries
  entries_synced log entries octets certain known works padded there now within raised written count room op_count synced_count said_count lawful ends begins no_other =
      let q = padded_take (lines_of entries) octets certain padded within in
      let long : length (state log.device).contents ≡ length octets = ap (λ (xs : List ℕ). length xs) there in
      record {
        known = known;
        works = works;
        octets = (padded.0, there ∙ padded.1, padded.2);
        synced_octets = (q.0, now ∙ q.1, q.2);
        certain = omega arith;
        written = written;
        room = omega arith;
        count = count;
        op_count = op_count;
        synced_count = synced_count;
        said_count = said_count;
        unsynced = [];
        split = sym (append-nil entries);
        commits = tt;
        lawful = lawful;
        ends = ends;
        synced_ends = ends;
        begins = begins;
        no_other = no_other;
      }

  -- a new log
  pub entries_of_new : (log : DurableLog D) (lines before : List ℕ) (certain : ℕ) → (state log.device).is_known ≡ true → log.failed ≡ false → lines ≡ lines_of (first_entries replica) → AreLawful (first_entries replica) → (state log.device).contents ≡ with_octets_at 0 lines (take 0 before)
      → (state log.device).synced ≡ take certain (with_octets_at 0 lines (take 0 before)) → length lines ≤ certain → certain ≤ (state log.device).certain → log.written ≡ length lines → log.synced ≡ length lines → log.room ≡ 0 → log.op_count ≡ 0 → log.synced_count ≡ 0 → log.said_count ≡ 0
      → HasEntries state replica log (first_entries replica) (first_entries replica)
  entries_of_new log lines before certain known works is lawful there now within raised written count room op_count synced_count said_count =
      let entries = first_entries replica in
      let long : length lines ≡ length (lines_of entries) = ap (λ (xs : List ℕ). length xs) is in
      let padded = subst (λ (xs : List ℕ). IsPadded xs (with_octets_at 0 lines (take 0 before))) is (padded_new lines before) in
      let fits = length_of_padded (lines_of entries) (with_octets_at 0 lines (take 0 before)) padded in
      entries_synced log entries (with_octets_at 0 lines (take 0 before)) certain known works padded there now (omega arith) raised (written ∙ long) (count ∙ long) (omega arith) op_count synced_count
      (subst (λ (n : ℕ). SaysSynced n entries) (sym said_count) (record { front = Begin replica ∷ []; octets = 0; last = refl; said = []; rest = entries; split = refl; within = omega arith; counted = refl }))
      lawful refl refl own
    where
      own : other_replica replica (first_entries replica) ≡ None
      own = let t : eqb replica replica ≡ true = eq-eqb replica replica refl in rw t refl

-- ---- a log that was read

committed_twice : (entries : List Entry) → committed_entries (committed_entries entries) ≡ committed_entries entries
committed_twice [] = refl
committed_twice (entry ∷ entries) = again entry (committed_entries entries) (committed_twice entries)
  where
    again : (entry : Entry) (front : List Entry) → committed_entries front ≡ front → committed_entries (with_entry_before entry front) ≡ with_entry_before entry front
    again (Begin replica) [] h = refl
    again (Apply op) [] h = refl
    again (Commit synced) [] h = refl
    again entry (next ∷ front) h = ap (with_entry_before entry) h

module _ (log : List ℕ) (entries : List Entry) (octets : ℕ) (read : IsRecovered log entries octets) where
  pub read_lawful : AreLawful entries
  read_lawful =
      let c = committed_front read.all in
      subst AreLawful (sym read.entries_are) (lawful_front (committed_entries read.all) c.0 (subst AreLawful c.1 read.lawful))

  pub read_committed : EndsWithCommit entries
  read_committed = ap committed_entries read.entries_are ∙ committed_twice read.all ∙ sym read.entries_are

-- no fault, part by part
record HasNoFault (replica : ℕ) (entries : List Entry) : Type 0 where
  begins : has_first_line entries ≡ true
  no_other : other_replica replica entries ≡ None

no_fault_parts : (replica octets : ℕ) (entries : List Entry) (damaged begins : Bool) (other : Option ℕ) → has_first_line entries ≡ begins → other_replica replica entries ≡ other → cond damaged (Some (Damaged octets)) (cond begins (option_map OtherReplica other) (Some (Damaged 0))) ≡ None → HasNoFault replica entries
no_fault_parts replica octets entries true begins other b o e = absurd cc
no_fault_parts replica octets entries false false other b o e = absurd cc
no_fault_parts replica octets entries false true None b o e = record { begins = b; no_other = o }
no_fault_parts replica octets entries false true (Some name) b o e = absurd cc

-- ---- the last commit of a log that was read

committed_rest : (entry : Entry) (rest front : List Entry) → with_entry_before entry front ≡ entry ∷ rest → rest ≡ [] → front ≡ [] → is_commit entry ≡ true
committed_rest (Begin replica) rest [] h e k = absurd cc
committed_rest (Apply op) rest [] h e k = absurd cc
committed_rest (Commit synced) rest [] h e k = refl
committed_rest entry rest (next ∷ front) h e k = absurd cc

committed_tail : (entry next : Entry) (rest front : List Entry) → with_entry_before entry front ≡ entry ∷ next ∷ rest → front ≡ next ∷ rest
committed_tail (Begin replica) next rest [] h = absurd cc
committed_tail (Apply op) next rest [] h = absurd cc
committed_tail (Commit synced) next rest [] h = absurd cc
committed_tail entry next rest (first ∷ front) h = cc

record HasLastCommit (entries : List Entry) : Type 0 where
  front : List Entry
  octets : ℕ
  last : entries ≡ front ++ Commit octets ∷ []

only_commit : (entry : Entry) → is_commit entry ≡ true → HasLastCommit (entry ∷ [])
only_commit (Begin replica) h = absurd cc
only_commit (Apply op) h = absurd cc
only_commit (Commit synced) h = record { front = []; octets = synced; last = refl }

last_commit : (entry : Entry) (entries : List Entry) → EndsWithCommit (entry ∷ entries) → HasLastCommit (entry ∷ entries)
last_commit entry [] h = only_commit entry (committed_rest entry [] [] h refl refl)
last_commit entry (next ∷ entries) h =
    let l = last_commit next entries (committed_tail entry next entries (committed_entries (next ∷ entries)) h) in
    record { front = entry ∷ l.front; octets = l.octets; last = ap (λ (xs : List Entry). entry ∷ xs) l.last }

-- it says at least of no operation that it had been synced
says_nothing : (entries : List Entry) (count : ℕ) → count ≡ 0 → EndsWithCommit entries → has_first_line entries ≡ true → SaysSynced count entries
says_nothing [] count z h begins = absurd cc
says_nothing (entry ∷ entries) count z h begins =
    let l = last_commit entry entries h in
    record { front = l.front; octets = l.octets; last = l.last; said = []; rest = entry ∷ entries; split = refl; within = omega arith; counted = z }

-- what was read and cut off after its last commit, and synced
pub entries_of_opened : {D : Type 0} (state : D → DeviceState) (replica : ℕ) (opened : DurableLog D) (log : RecoveredLog D) (entries : List Entry) (certain : ℕ) → IsRecoveredLog state replica log entries → (state opened.device).is_known ≡ true → opened.failed ≡ false
    → (state opened.device).contents ≡ cond log.layout.is_padded (state log.device).contents (take log.layout.octets (state log.device).contents) → (state opened.device).synced ≡ take certain (cond log.layout.is_padded (state log.device).contents (take log.layout.octets (state log.device).contents))
    → log.layout.octets ≤ certain → certain ≤ (state opened.device).certain → opened.written ≡ log.layout.octets → opened.synced ≡ log.layout.octets → opened.room ≡ log.layout.room → opened.op_count ≡ log.op_count → opened.synced_count ≡ log.op_count → opened.said_count ≡ 0
    → HasEntries state replica opened entries entries
entries_of_opened state replica opened log entries certain h known works there now within raised written count room op_count synced_count said_count =
    let before = (state log.device).contents in
    let octets = log.layout.octets in
    let read : IsRecovered before entries octets = h.layout.sound.read in
    let long : octets ≡ length (lines_of entries) = read.octets_are in
    let parts = no_fault_parts replica octets entries (has_commit_beyond octets (parts_at 10 (drop octets before))) (has_first_line entries) (other_replica replica entries) refl refl h.layout.sound.no_fault in
    let ends = read_committed before entries octets read in
    let fits : octets + log.layout.room ≤ length (cond log.layout.is_padded before (take octets before)) = h.layout.room in
    entries_synced state replica opened entries (cond log.layout.is_padded before (take octets before)) certain known works (padded_log log.layout.is_padded before entries octets read h.layout.padded) there now (omega arith) raised
    (written ∙ long) (count ∙ long) (omega arith) (op_count ∙ h.op_count) (synced_count ∙ h.op_count) (says_nothing entries opened.said_count said_count ends parts.begins)
    (read_lawful before entries octets read) ends parts.begins parts.no_other
