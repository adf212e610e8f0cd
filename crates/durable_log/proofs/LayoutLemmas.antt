use Rattle.std.proofs.Common.{◌≡◌, ◌⊎◌, inl, inr, ℕ, ◌+◌, ◌-◌, ◌<◌, ◌≤◌, min, leb, ◌&&◌, Bool, true, false, cond, List, [], ◌∷◌, ◌++◌, length, take, take-add, drop, Option, Some, None, refl, sym, ap, ◌∙◌, subst, arith}
use Rattle.std.proofs.lemmas.Bool.{and_parts, leb-true}
use Rattle.std.proofs.lemmas.List.{drop-drop, length-append, length-drop, length-take, length-take-le, take-append-drop, take_all}
use Rattle.std.specs.Option.{option_map}
use Rattle.crdt_ops.specs.Reading.{parts_at}
use Rattle.crdt_ops.specs.declared.op.Op.{Op}
use Rattle.op_log.specs.Damage.{has_commit_beyond}
use Rattle.op_log.specs.Entries.{lines_of, ops_of}
use Rattle.op_log.specs.Readers.{AreContents, EndWithNumber, HasRead}
use Rattle.op_log.specs.Recovery.{IsLogFault, IsRecovered}
use Rattle.op_log.specs.declared.entry.Entry.{Entry}
use Rattle.op_log.specs.declared.reader.LogContents.{LogContents}
use Rattle.op_log.specs.declared.reader.LogReader.{LogReader}
use Rattle.op_log.specs.declared.recovery.LogFault.{LogFault}
use Rattle.durable_log.specs.Devices.{DeviceState, are_zeros, with_octets_at}
use Rattle.durable_log.specs.Logs.{HasOps, IsLastCommitCertain, IsLayout, IsSoundLog, IsStoreFault, entries_fault}
use Rattle.durable_log.specs.Replicas.{has_first_line, other_replica}
use Rattle.durable_log.specs.declared.fault.StoreFault.{StoreFault}
use Rattle.durable_log.specs.declared.fault.StoreFault.TheVariants.{Damaged, Failed, NoMemory, OtherReplica}
use Rattle.durable_log.specs.declared.layout.LogLayout.{LogLayout}
use Rattle.durable_log.specs.declared.recovered_log.RecoveredLog.{RecoveredLog}
use Rattle.durable_log.proofs.DeviceLemmas.{rewritten}

-- ---- the last commit

place_certain : (entries : List Entry) (synced octets place : ℕ) → EndWithNumber entries synced → octets ≡ length (lines_of entries) → place ≡ min synced octets → (certain : ℕ) → IsLastCommitCertain entries certain → place ≤ certain
place_certain entries synced octets place (inl none) long is certain h =
    let short : length (lines_of entries) ≡ 0 = ap (λ (xs : List Entry). length (lines_of xs)) none in
    omega arith
place_certain entries synced octets place (inr front) long is certain h =
    let low : min synced (length (lines_of entries)) ≤ certain = h front.0 synced front.1 in
    omega arith

-- ---- what was found in a log's octets

pub layout_of : (replica : ℕ) (log : List ℕ) (entries : List Entry) (layout : LogLayout) (octets place : ℕ) → IsSoundLog replica log entries octets → octets ≤ length log → place ≤ octets → ((certain : ℕ) → IsLastCommitCertain entries certain → place ≤ certain)
    → layout.octets ≡ octets → layout.place ≡ place → layout.is_padded ≡ are_zeros (drop octets log) → octets + layout.room ≤ length (cond layout.is_padded log (take octets log)) → layout.unsynced.items ≡ take (octets - place) (drop place log)
    → IsLayout replica log entries layout
layout_of replica log entries layout octets place sound within low certain octets_are place_is padded room unsynced =
    let rest : length (drop place log) ≡ length log - place = length-drop place log in
    let count : length layout.unsynced.items ≡ octets - place = ap (λ (xs : List ℕ). length xs) unsynced ∙ length-take-le (octets - place) (drop place log) (omega arith) in
    let again : with_octets_at layout.place layout.unsynced.items log ≡ with_octets_at place (take (octets - place) (drop place log)) log = λ i. with_octets_at (place_is i) (unsynced i) log in
    record {
      sound = subst (IsSoundLog replica log entries) (sym octets_are) sound;
      padded = padded ∙ ap (λ (n : ℕ). are_zeros (drop n log)) (sym octets_are);
      within = omega arith;
      room = subst (λ (n : ℕ). n + layout.room ≤ length (cond layout.is_padded log (take n log))) (sym octets_are) room;
      place_within = omega arith;
      place_certain = λ n h. let l : place ≤ n = certain n h in omega arith;
      rewritten = again ∙ rewritten place octets log low within;
      unsynced_end = omega arith;
    }

-- ---- what was read of a log

some_octets : (b : Bool) (xs ys : List ℕ) → ◌≡◌ {A = Option (List ℕ)} (Some ys) (cond b (Some xs) None) → (b ≡ true) × (ys ≡ xs)
some_octets true xs ys h = let same : ys ≡ xs = cc in (refl, same)
some_octets false xs ys h = absurd cc

-- the octets from a place on, of those from another place on
pub kept_from : (log kept found : List ℕ) (start place : ℕ) → kept ≡ drop start log → ◌≡◌ {A = Option (List ℕ)} (Some found) (cond (leb start place && leb (place - start) (length kept)) (Some (drop (place - start) kept)) None) → found ≡ drop place log
kept_from log kept found start place is h =
    let s = some_octets (leb start place && leb (place - start) (length kept)) (drop (place - start) kept) found h in
    let parts = and_parts (leb start place) (leb (place - start) (length kept)) s.0 in
    let first : start ≤ place = leb-true start place parts.0 in
    let sum : start + (place - start) ≡ place = omega (arith, first) in
    s.1 ∙ ap (drop (place - start)) is ∙ drop-drop (place - start) start log ∙ ap (λ (n : ℕ). drop n log) sum

-- the fault of what was read is that of the entries
fault_of : (replica : ℕ) (log rest : List ℕ) (entries : List Entry) (found : LogContents) → AreContents replica log entries found → rest ≡ drop found.octets log
    → cond (has_commit_beyond found.octets (parts_at 10 rest)) (Some (Damaged found.octets)) (cond found.begins (option_map OtherReplica found.other) (Some (Damaged 0))) ≡ entries_fault replica entries found.octets (drop found.octets log)
fault_of replica log rest entries found h is =
    let begins = h.begins in
    let other = h.other in
    λ i. cond (has_commit_beyond found.octets (parts_at 10 (is i))) (Some (Damaged found.octets)) (cond (begins i) (option_map OtherReplica (other i)) (Some (Damaged 0)))

-- a fault of the entries is one of the log
module _ (replica : ℕ) (log : List ℕ) (entries : List Entry) (octets : ℕ) (read : IsRecovered log entries octets) where
  one_of : (b c : Bool) (o : Option ℕ) (fault : StoreFault) → cond b (Some (Damaged octets)) (cond c (option_map OtherReplica o) (Some (Damaged 0))) ≡ Some fault → ((n : ℕ) × (fault ≡ Damaged n)) ⊎ ((name : ℕ) × (fault ≡ OtherReplica name))
  one_of true c o fault h = let same : fault ≡ Damaged octets = cc in inl (octets, same)
  one_of false true (Some name) fault h = let same : fault ≡ OtherReplica name = cc in inr (name, same)
  one_of false true None fault h = absurd cc
  one_of false false o fault h = let same : fault ≡ Damaged 0 = cc in inl (0, same)

  pub store_fault : (fault : StoreFault) → entries_fault replica entries octets (drop octets log) ≡ Some fault → IsStoreFault replica log fault
  store_fault fault h = by_fault (one_of (has_commit_beyond octets (parts_at 10 (drop octets log))) (has_first_line entries) (other_replica replica entries) fault h)
    where
      by_fault : ((n : ℕ) × (fault ≡ Damaged n)) ⊎ ((name : ℕ) × (fault ≡ OtherReplica name)) → IsStoreFault replica log fault
      by_fault (inl is) = subst (IsStoreFault replica log) (sym is.1) (entries, octets, read, h ∙ ap (λ (f : StoreFault). Some f) is.1)
      by_fault (inr is) = subst (IsStoreFault replica log) (sym is.1) (entries, octets, read, h ∙ ap (λ (f : StoreFault). Some f) is.1)

pub contents_fault_is : (replica : ℕ) (log rest : List ℕ) (entries : List Entry) (found : LogContents) (fault : StoreFault) → AreContents replica log entries found → rest ≡ drop found.octets log
    → ◌≡◌ {A = Option StoreFault} (Some fault) (cond (has_commit_beyond found.octets (parts_at 10 rest)) (Some (Damaged found.octets)) (cond found.begins (option_map OtherReplica found.other) (Some (Damaged 0)))) → IsStoreFault replica log fault
contents_fault_is replica log rest entries found fault h is e = store_fault replica log entries found.octets h.read fault (sym (e ∙ fault_of replica log rest entries found h is))

recovered_within : (log : List ℕ) (entries : List Entry) (octets : ℕ) → IsRecovered log entries octets → octets ≤ length log
recovered_within log entries octets read =
    let long : length log ≡ length (lines_of entries) + length read.after = ap length read.split ∙ length-append (lines_of entries) read.after in
    let octets_are : octets ≡ length (lines_of entries) = read.octets_are in
    omega arith

pub layout_found : (replica : ℕ) (log rest : List ℕ) (entries : List Entry) (found : LogContents) (place : ℕ) (layout : LogLayout) → AreContents replica log entries found → rest ≡ drop found.octets log
    → ◌≡◌ {A = Option StoreFault} None (cond (has_commit_beyond found.octets (parts_at 10 rest)) (Some (Damaged found.octets)) (cond found.begins (option_map OtherReplica found.other) (Some (Damaged 0))))
    → place ≡ min found.synced found.octets → layout.octets ≡ found.octets → layout.place ≡ place → layout.is_padded ≡ are_zeros rest → layout.room ≡ cond layout.is_padded (length rest) 0 → layout.unsynced.items ≡ take (found.octets - place) (drop place log)
    → IsLayout replica log entries layout
layout_found replica log rest entries found place layout h is none place_is octets_are places padded room unsynced =
    let within = recovered_within log entries found.octets h.read in
    let no_fault = sym (none ∙ fault_of replica log rest entries found h is) in
    let long : length rest ≡ length log - found.octets = ap length is ∙ length-drop found.octets log in
    layout_of replica log entries layout found.octets place (record { read = h.read; no_fault = no_fault }) within (omega arith)
    (place_certain entries found.synced found.octets place h.synced h.read.octets_are place_is) octets_are places (padded ∙ ap are_zeros is)
    (room_by layout.is_padded layout.room room long within) unsynced
  where
    room_by : (b : Bool) (room : ℕ) → room ≡ cond b (length rest) 0 → length rest ≡ length log - found.octets → found.octets ≤ length log → found.octets + room ≤ length (cond b log (take found.octets log))
    room_by true room e long within = omega arith
    room_by false room e long within = let first : length (take found.octets log) ≡ found.octets = length-take-le found.octets log within in omega arith

-- ---- what was read of a device

pub has_ops : {D : Type 0} (state : D → DeviceState) (replica : ℕ) (before : DeviceState) (log : RecoveredLog D) (layout : LogLayout) (ops : List Op) (entries : List Entry) (found : LogContents) → before.is_known ≡ true → state log.device ≡ before → AreContents replica before.contents entries found
    → IsLayout replica before.contents entries layout → log.layout ≡ layout → log.op_count ≡ length ops → ops ≡ found.ops.items → HasOps state replica log ops
has_ops state replica before log layout ops entries found known here contents laid is_layout count is =
    let are : ops ≡ ops_of entries = is ∙ contents.ops in
    record {
      entries = entries;
      recovered = record {
        known = ap (λ (s : DeviceState). s.is_known) here ∙ known;
        layout = subst (λ (xs : List ℕ). IsLayout replica xs entries log.layout) (sym (ap (λ (s : DeviceState). s.contents) here)) (subst (IsLayout replica before.contents entries) (sym is_layout) laid);
        op_count = count ∙ ap length are;
      };
      ops_are = are;
    }

-- ---- pieces

piece_with : (place n : ℕ) (contents piece : List ℕ) → piece ≡ take n (drop place contents) → take place contents ++ piece ≡ take (place + n) contents
piece_with place n contents piece is = ap (λ (xs : List ℕ). take place contents ++ xs) is ∙ sym (take-add place n contents)

pub last_piece : (replica place n : ℕ) (contents piece : List ℕ) (reader : LogReader) → HasRead replica (take place contents ++ piece) reader → piece ≡ take n (drop place contents) → length piece < n → HasRead replica contents reader
last_piece replica place n contents piece reader h is short =
    let long : length piece ≡ min n (length (drop place contents)) = ap length is ∙ length-take n (drop place contents) in
    let all : take n (drop place contents) ≡ drop place contents = take_all n (drop place contents) (omega arith) in
    subst (λ (xs : List ℕ). HasRead replica xs reader) (ap (λ (xs : List ℕ). take place contents ++ xs) (is ∙ all) ∙ take-append-drop place contents) h

pub more_pieces : (replica place n end : ℕ) (contents piece : List ℕ) (reader : LogReader) → HasRead replica (take place contents ++ piece) reader → piece ≡ take n (drop place contents) → n ≤ length piece → end ≡ place + length piece → HasRead replica (take end contents) reader
more_pieces replica place n end contents piece reader h is long e =
    let some : length piece ≡ min n (length (drop place contents)) = ap length is ∙ length-take n (drop place contents) in
    let same : place + n ≡ end = omega arith in
    subst (λ (xs : List ℕ). HasRead replica xs reader) (piece_with place n contents piece is ∙ ap (λ (k : ℕ). take k contents) same) h

pub piece_fault : (place n : ℕ) (contents piece : List ℕ) (fault : LogFault) → ((more : List ℕ) → IsLogFault ((take place contents ++ piece) ++ more) fault) → piece ≡ take n (drop place contents) → IsLogFault contents fault
piece_fault place n contents piece fault h is =
    subst (λ (xs : List ℕ). IsLogFault xs fault) (ap (λ (xs : List ℕ). xs ++ drop (place + n) contents) (piece_with place n contents piece is) ∙ take-append-drop (place + n) contents) (h (drop (place + n) contents))

pub memory_or_failed : (replica : ℕ) (log : List ℕ) (fault : StoreFault) → (fault ≡ NoMemory) ⊎ (fault ≡ Failed) → IsStoreFault replica log fault
memory_or_failed replica log fault (inl is) = subst (IsStoreFault replica log) (sym is) tt
memory_or_failed replica log fault (inr is) = subst (IsStoreFault replica log) (sym is) tt
