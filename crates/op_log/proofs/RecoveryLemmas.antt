use Rattle.std.proofs.Common.{◌≡◌, ◌≢◌, ℕ, ◌+◌, ◌-◌, ◌<◌, ◌≤◌, List, [], ◌∷◌, ◌++◌, map, length, take, true, false, refl, sym, ap, ◌∙◌, subst, arith, append_assoc}
use Rattle.std.proofs.lemmas.Grind.{flat_map-append}
use Rattle.std.proofs.lemmas.List.{append-nil, length-append, length_push, map-append, map_push, take-append-le, take_all}
use Rattle.op_log.specs.Entries.{AreLawful, IsLawful, committed_entries, entry_text, is_commit}
use Rattle.op_log.specs.Lines.{IsText, line_of, log_of, recovered_texts, checksum_field}
use Rattle.op_log.specs.Formats.{line_fault}
use Rattle.op_log.specs.Recovery.{IsLogFault, IsRecovered, IsUnsoundLine}
use Rattle.op_log.specs.declared.recovery.LogFault.{LogFault}
use Rattle.op_log.specs.declared.recovery.LogFault.TheVariants.{LaterFormat, NoMemory, Unsound}
use Rattle.op_log.specs.declared.entry.Entry.{Entry}
use Rattle.op_log.proofs.EntryLemmas.{committed_commit, committed_front, committed_other, lawful_both}
use Rattle.op_log.proofs.LineLemmas.{recovered_line}

-- The lines of these entries were read, and the rest remains.
pub record IsReadSoFar (log rest : List ℕ) (entries : List Entry) : Type 0 where
  pub texts : recovered_texts log ≡ map entry_text entries ++ recovered_texts rest
  pub lawful : AreLawful entries
  pub split : log ≡ log_of (map entry_text entries) ++ rest

pub read_none : (log : List ℕ) (entries : List Entry) → entries ≡ [] → IsReadSoFar log log entries
read_none log entries e =
    subst (λ (xs : List Entry). IsReadSoFar log log xs) (sym e) (record { texts = refl; lawful = tt; split = refl })

log_push : (texts : List (List ℕ)) (text : List ℕ) → log_of (texts ++ text ∷ []) ≡ log_of texts ++ line_of text
log_push texts text = flat_map-append line_of texts (text ∷ []) ∙ ap (λ (xs : List ℕ). log_of texts ++ xs) (append-nil (line_of text))

pub read_entry_more : (log rest text after : List ℕ) (old new : List Entry) (entry : Entry) → IsReadSoFar log rest old → rest ≡ line_of text ++ after → IsText text → IsLawful entry → text ≡ entry_text entry → new ≡ old ++ entry ∷ [] → IsReadSoFar log after new
read_entry_more log rest text after old new entry way cut is_text lawful same push =
    let olds = map entry_text old in
    let news : map entry_text (old ++ entry ∷ []) ≡ olds ++ text ∷ [] = map_push entry_text old entry ∙ ap (λ (x : List ℕ). olds ++ x ∷ []) (sym same) in
    subst (λ (xs : List Entry). IsReadSoFar log after xs) (sym push) (record {
      texts =
          way.texts
          ∙ ap (λ (xs : List ℕ). olds ++ recovered_texts xs) cut
          ∙ ap (λ (xs : List (List ℕ)). olds ++ xs) (recovered_line text after is_text)
          ∙ sym (append_assoc olds (text ∷ []) (recovered_texts after))
          ∙ ap (λ (xs : List (List ℕ)). xs ++ recovered_texts after) (sym news);
      lawful = lawful_both old (entry ∷ []) way.lawful (lawful, tt);
      split =
          way.split
          ∙ ap (λ (xs : List ℕ). log_of olds ++ xs) cut
          ∙ sym (append_assoc (log_of olds) (line_of text) after)
          ∙ ap (λ (xs : List ℕ). xs ++ after) (sym (log_push olds text))
          ∙ ap (λ (xs : List (List ℕ)). log_of xs ++ after) (sym news);
    })

counted : (log rest : List ℕ) (entries : List Entry) (octets : ℕ) → IsReadSoFar log rest entries → octets ≡ length log - length rest → octets ≡ length (log_of (map entry_text entries))
counted log rest entries octets way e =
    let long : length log ≡ length (log_of (map entry_text entries)) + length rest = ap length way.split ∙ length-append (log_of (map entry_text entries)) rest in omega arith

pub fits : (log rest : List ℕ) (entries : List Entry) → IsReadSoFar log rest entries → length rest ≤ length log
fits log rest entries way =
    let long : length log ≡ length (log_of (map entry_text entries)) + length rest = ap length way.split ∙ length-append (log_of (map entry_text entries)) rest in omega arith

-- The number of committed entries among these, and of the octets of their lines.
pub record AreCommittedSoFar (entries : List Entry) (count octets : ℕ) : Type 0 where
  pub within : count ≤ length entries
  pub front : take count entries ≡ committed_entries entries
  pub octets_are : octets ≡ length (log_of (map entry_text (committed_entries entries)))

pub committed_none : (entries : List Entry) → entries ≡ [] → AreCommittedSoFar entries 0 0
committed_none entries e = subst (λ (xs : List Entry). AreCommittedSoFar xs 0 0) (sym e) (record { within = omega arith; front = refl; octets_are = refl })

pub committed_after_commit : (log rest : List ℕ) (old new : List Entry) (entry : Entry) (count octets : ℕ) → IsReadSoFar log rest new → new ≡ old ++ entry ∷ [] → is_commit entry ≡ true → count ≡ length new → octets ≡ length log - length rest → AreCommittedSoFar new count octets
committed_after_commit log rest old new entry count octets way push t c e =
    let all : committed_entries new ≡ new = ap committed_entries push ∙ committed_commit old entry t ∙ sym push in
    record {
      within = omega arith;
      front = take_all count new (omega arith) ∙ sym all;
      octets_are = counted log rest new octets way e ∙ ap (λ (xs : List Entry). length (log_of (map entry_text xs))) (sym all);
    }

pub committed_after_other : (old new : List Entry) (entry : Entry) (count octets : ℕ) → AreCommittedSoFar old count octets → new ≡ old ++ entry ∷ [] → is_commit entry ≡ false → AreCommittedSoFar new count octets
committed_after_other old new entry count octets kept push f =
    let same : committed_entries new ≡ committed_entries old = ap committed_entries push ∙ committed_other old entry f in
    let long : length new ≡ length old + 1 = ap length push ∙ length_push old entry in
    let within : count ≤ length old = kept.within in
    record {
      within = omega arith;
      front = ap (take count) push ∙ take-append-le count old (entry ∷ []) within ∙ kept.front ∙ sym same;
      octets_are = kept.octets_are ∙ ap (λ (xs : List Entry). length (log_of (map entry_text xs))) (sym same);
    }

-- the lines of the committed entries, and the octets after them
pub split_at_commit : (log rest : List ℕ) (all entries : List Entry) → IsReadSoFar log rest all → entries ≡ committed_entries all → (after : List ℕ) × (log ≡ log_of (map entry_text entries) ++ after)
split_at_commit log rest all entries way is =
    let c = committed_front all in
    let parts : map entry_text all ≡ map entry_text entries ++ map entry_text c.0 =
    ap (map entry_text) c.1 ∙ map-append entry_text (committed_entries all) c.0 ∙ ap (λ (xs : List Entry). map entry_text xs ++ map entry_text c.0) (sym is) in (
      log_of (map entry_text c.0) ++ rest,
      way.split
          ∙ ap (λ (xs : List (List ℕ)). log_of xs ++ rest) parts
          ∙ ap (λ (xs : List ℕ). xs ++ rest) (flat_map-append line_of (map entry_text entries) (map entry_text c.0))
          ∙ append_assoc (log_of (map entry_text entries)) (log_of (map entry_text c.0)) rest,
    )

pub recovered_at_end : (log rest : List ℕ) (all entries : List Entry) (count octets : ℕ) → IsReadSoFar log rest all → AreCommittedSoFar all count octets → recovered_texts rest ≡ [] → entries ≡ take count all → IsRecovered log entries octets
recovered_at_end log rest all entries count octets way kept none e =
    let is : entries ≡ committed_entries all = e ∙ kept.front in
    let cut = split_at_commit log rest all entries way is in
    record {
      all = all;
      texts = way.texts ∙ ap (λ (xs : List (List ℕ)). map entry_text all ++ xs) none ∙ append-nil (map entry_text all);
      lawful = way.lawful;
      entries_are = is;
      after = cut.0;
      split = cut.1;
      octets_are = kept.octets_are ∙ ap (λ (xs : List Entry). length (log_of (map entry_text xs))) (sym is);
    }

pub unsound_line : (log rest text after : List ℕ) (entries : List Entry) (octets : ℕ) → IsReadSoFar log rest entries → rest ≡ line_of text ++ after → IsText text → ((entry : Entry) → IsLawful entry → text ≢ entry_text entry) → octets ≡ length log - length rest → IsUnsoundLine log octets text
unsound_line log rest text after entries octets way cut is_text none e = record {
  front = entries;
  back = recovered_texts after;
  texts = way.texts ∙ ap (λ (xs : List ℕ). map entry_text entries ++ recovered_texts xs) cut ∙ ap (λ (xs : List (List ℕ)). map entry_text entries ++ xs) (recovered_line text after is_text);
  octets_are = counted log rest entries octets way e;
  none = none;
}

-- whatever the fault of an unsound line is
pub log_fault : (log : List ℕ) (octets : ℕ) (text : List ℕ) (fault : LogFault) → IsUnsoundLine log octets text → fault ≡ line_fault octets text → IsLogFault log fault
log_fault log octets text NoMemory unsound e = tt
log_fault log octets text (Unsound at) unsound e = (octets, text, unsound, e)
log_fault log octets text LaterFormat unsound e = (octets, text, unsound, e)

pub shorter : (rest text after : List ℕ) → rest ≡ line_of text ++ after → length after < length rest
shorter rest text after cut =
    let long : length rest ≡ length (line_of text) + length after = ap length cut ∙ length-append (line_of text) after in
    let some : length (line_of text) ≡ length (checksum_field text ++ text) + 1 = length-append (checksum_field text ++ text) (10 ∷ []) in
    omega arith
