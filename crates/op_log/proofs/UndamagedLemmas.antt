use Rattle.std.proofs.Common.{◌≡◌, inl, inr, ℕ, ◌+◌, ◌-◌, ◌≤◌, Bool, false, ◌||◌, ltb, List, [], ◌∷◌, ◌++◌, map, Option, Some, None, length, take, drop, refl, sym, ap, ◌∙◌, subst, arith, append_assoc}
use Rattle.std.proofs.lemmas.Bool.{cases_lt}
use Rattle.std.proofs.lemmas.Bool.Decides.{nat_tests}
use Rattle.std.proofs.lemmas.Grind.{flat_map-append}
use Rattle.std.proofs.lemmas.List.{append_cancel_left, drop_at, length-append, map-append}
use Rattle.crdt_ops.specs.Form.{Each}
use Rattle.crdt_ops.specs.Reading.{parts_at}
use Rattle.crdt_ops.proofs.PartLemmas.{first_part, one_part, some_part}
use Rattle.merge_laws.specs.Orders.{IsIn}
use Rattle.text_fields.proofs.FieldLemmas.{both, bound}
use Rattle.text_fields.specs.FieldReading.{◌>>=◌}
use Rattle.op_log.specs.Crashes.{AreWrittenLines, HasOnlyWrittenLines, IsCrashState}
use Rattle.op_log.specs.Damage.{HasSyncedAtMost, commit_synced, has_commit_beyond, line_synced}
use Rattle.op_log.specs.Entries.{AreLawful, EndsWithCommit, IsLawful, committed_entries, entry_text, lines_of}
use Rattle.op_log.specs.Formats.{is_above}
use Rattle.op_log.specs.Lines.{AreTexts, IsText, checksum_field, line_of, line_text, log_of}
use Rattle.op_log.specs.Recovery.{IsRecovered}
use Rattle.op_log.specs.declared.entry.Entry.{Entry}
use Rattle.op_log.specs.declared.entry.Entry.TheVariants.{Apply, Begin, Commit}
use Rattle.op_log.proofs.DamageLemmas.{commit_synced_of_commit}
use Rattle.op_log.proofs.EntryLemmas.{are_texts, committed_front, lawful_take, read_left}
use Rattle.op_log.proofs.CrashLemmas.{cut_line, take_nil, take_past}
use Rattle.op_log.proofs.LineLemmas.{checked_is_text, is_inner, line_text_of_line}

-- A crash state is never found to be damaged.

-- ---- what commits say

synced_of_entry : (entry : Entry) (most synced : ℕ) → IsLawful entry → HasSyncedAtMost most entry → commit_synced (entry_text entry) ≡ Some synced → synced ≤ most
unfolding commit_synced
synced_of_entry (Begin replica) most synced l h e = absurd cc
synced_of_entry (Apply op) most synced l h e = absurd cc
synced_of_entry (Commit count) most synced l h e =
    let same : ◌≡◌ {A = Option ℕ} (Some count) (Some synced) = sym (commit_synced_of_commit count l) ∙ e in
    let equal : count ≡ synced = cc in
    subst (λ (n : ℕ). n ≤ most) equal h

synced_in_entries : (entries : List Entry) (text : List ℕ) (most synced : ℕ) → AreLawful entries → Each (HasSyncedAtMost most) entries → IsIn text (map entry_text entries) → commit_synced text ≡ Some synced → synced ≤ most
synced_in_entries [] text most synced l h in_list e = absurd in_list
synced_in_entries (entry ∷ entries) text most synced l h (inl same) e = synced_of_entry entry most synced l.0 h.0 (ap commit_synced same ∙ e)
synced_in_entries (entry ∷ entries) text most synced l h (inr in_list) e = synced_in_entries entries text most synced l.1 h.1 in_list e

not_above : (limit number : ℕ) → number ≤ limit → ltb limit number ≡ false
not_above limit number l = grind (arith, nat_tests)

module _ (entries : List Entry) (most octets : ℕ) (lawful : AreLawful entries) (synced : Each (HasSyncedAtMost most) entries) (within : most ≤ octets) where
  -- by the text of a line, and the number that it says
  text_not_above : (text : List ℕ) (o : Option ℕ) → commit_synced text ≡ o → IsIn text (map entry_text entries) → is_above octets o ≡ false
  text_not_above text None e in_list = refl
  text_not_above text (Some number) e in_list =
      let low : number ≤ most = synced_in_entries entries text most number lawful synced in_list e in
      not_above octets number (omega arith)

  line_not_above : (line : List ℕ) (o : Option (List ℕ)) → line_text line ≡ o → ((text : List ℕ) → line_text line ≡ Some text → IsIn text (map entry_text entries)) → is_above octets (line_synced line) ≡ false
  unfolding line_synced
  line_not_above line None e written = ap (λ (o : Option (List ℕ)). is_above octets (o >>= commit_synced)) e
  line_not_above line (Some text) e written =
      ap (is_above octets) (bound (line_text line) commit_synced text e) ∙ text_not_above text (commit_synced text) refl (written text e)

  pub no_commit_beyond : (parts : List (List ℕ)) → AreWrittenLines (map entry_text entries) parts → has_commit_beyond octets parts ≡ false
  no_commit_beyond [] written = refl
  no_commit_beyond (part ∷ []) written = refl
  no_commit_beyond (line ∷ next ∷ parts) written =
      ap (λ (b : Bool). b || has_commit_beyond octets (next ∷ parts)) (line_not_above line (line_text line) refl written.0)
      ∙ no_commit_beyond (next ∷ parts) written.1

-- ---- lines before others

parts_of_line : (text rest : List ℕ) → IsText text → parts_at 10 (line_of text ++ rest) ≡ (checksum_field text ++ text) ∷ parts_at 10 rest
parts_of_line text rest h =
    let line = checksum_field text ++ text in
    ap (parts_at 10) (append_assoc line (10 ∷ []) rest) ∙ first_part 10 line rest (checked_is_text text h)

written_rest : (unsynced : List (List ℕ)) (line : List ℕ) (parts : List (List ℕ)) → (parts ≡ [] → ⊥) → AreWrittenLines unsynced (line ∷ parts) → AreWrittenLines unsynced parts
written_rest unsynced line [] some h = absurd (some refl)
written_rest unsynced line (next ∷ parts) some h = h.1

written_after_lines : (unsynced texts : List (List ℕ)) (rest : List ℕ) → AreTexts texts → HasOnlyWrittenLines unsynced (log_of texts ++ rest) → HasOnlyWrittenLines unsynced rest
written_after_lines unsynced [] rest t h = h
written_after_lines unsynced (text ∷ texts) rest t h =
    let parts : parts_at 10 (log_of (text ∷ texts) ++ rest) ≡ (checksum_field text ++ text) ∷ parts_at 10 (log_of texts ++ rest) =
    ap (parts_at 10) (append_assoc (line_of text) (log_of texts) rest) ∙ parts_of_line text (log_of texts ++ rest) t.0 in
    written_after_lines unsynced texts rest t.1 (
    written_rest unsynced (checksum_field text ++ text) (parts_at 10 (log_of texts ++ rest)) (some_part 10 (log_of texts ++ rest)) (subst (AreWrittenLines unsynced) parts h))

-- ---- what was written, cut short

written_more : (line : List ℕ) (lines parts : List (List ℕ)) → AreWrittenLines lines parts → AreWrittenLines (line ∷ lines) parts
written_more line lines [] h = tt
written_more line lines (part ∷ []) h = tt
written_more line lines (part ∷ next ∷ parts) h = (λ text e. inr (h.0 text e), written_more line lines (next ∷ parts) h.1)

written_first : (unsynced : List (List ℕ)) (line : List ℕ) (parts : List (List ℕ)) → ((text : List ℕ) → line_text line ≡ Some text → IsIn text unsynced) → AreWrittenLines unsynced parts → AreWrittenLines unsynced (line ∷ parts)
written_first unsynced line [] first h = tt
written_first unsynced line (next ∷ parts) first h = (first, h)

written_text : (unsynced : List (List ℕ)) (octets : List ℕ) → IsText octets → HasOnlyWrittenLines unsynced octets
written_text unsynced octets h = subst (AreWrittenLines unsynced) (sym (one_part 10 octets h)) tt

one_text : (line text : List ℕ) → line_text (checksum_field line ++ line) ≡ Some text → line ≡ text
one_text line text e = let same : ◌≡◌ {A = Option (List ℕ)} (Some line) (Some text) = sym (line_text_of_line line) ∙ e in cc

pub cut_has_only_written_lines : (unsynced : List (List ℕ)) (count : ℕ) (before : List ℕ) → AreTexts unsynced → IsText before → HasOnlyWrittenLines unsynced (take count (log_of unsynced) ++ before)
cut_has_only_written_lines [] count before a b =
    let nothing : take count [] ++ before ≡ before = ap (λ (xs : List ℕ). xs ++ before) (take_nil count) in
    written_text [] (take count [] ++ before) (subst IsText (sym nothing) b)
cut_has_only_written_lines (line ∷ lines) count before a b =
    elim (cases_lt count (length (line_of line))) [
      | inl short ↦
          written_text (line ∷ lines) (take count (log_of (line ∷ lines)) ++ before) (both is_inner (take count (log_of (line ∷ lines))) before (cut_line line (log_of lines) count a.0 short) b)
      | inr long ↦
          let n = count - length (line_of line) in
          let rest = take n (log_of lines) ++ before in
          let past : take count (line_of line ++ log_of lines) ≡ line_of line ++ take n (log_of lines) = take_past (line_of line) (log_of lines) count n (omega arith) in
          let first : take count (log_of (line ∷ lines)) ++ before ≡ line_of line ++ rest =
          ap (λ (xs : List ℕ). xs ++ before) past ∙ append_assoc (line_of line) (take n (log_of lines)) before in
          let parts : parts_at 10 (take count (log_of (line ∷ lines)) ++ before) ≡ (checksum_field line ++ line) ∷ parts_at 10 rest = ap (parts_at 10) first ∙ parts_of_line line rest a.0 in
          let others : HasOnlyWrittenLines lines rest = cut_has_only_written_lines lines n before a.1 b in
          subst (AreWrittenLines (line ∷ lines)) (sym parts) (
          written_first (line ∷ lines) (checksum_field line ++ line) (parts_at 10 rest) (λ text e. inl (one_text line text e)) (written_more line lines (parts_at 10 rest) others))
    ]

-- ---- a crash state

pub lawful_front : (front rest : List Entry) → AreLawful (front ++ rest) → AreLawful front
lawful_front [] rest h = tt
lawful_front (entry ∷ front) rest h = (h.0, lawful_front front rest h.1)

pub lines_of_append : (ones others : List Entry) → lines_of (ones ++ others) ≡ lines_of ones ++ lines_of others
lines_of_append ones others = ap log_of (map-append entry_text ones others) ∙ flat_map-append line_of (map entry_text ones) (map entry_text others)

-- by the entries after those that had been synced
undamaged_by : (synced more unsynced entries : List Entry) (log after : List ℕ) (octets : ℕ) → AreLawful more → AreLawful unsynced → Each (HasSyncedAtMost (length (lines_of synced))) unsynced
    → log ≡ lines_of synced ++ after → HasOnlyWrittenLines (map entry_text unsynced) after → IsRecovered log entries octets → entries ≡ synced ++ more
    → has_commit_beyond octets (parts_at 10 (drop octets log)) ≡ false
undamaged_by synced more unsynced entries log after octets lawful unsynced_lawful commits split written read are =
    let lines : lines_of entries ≡ lines_of synced ++ lines_of more = ap lines_of are ∙ lines_of_append synced more in
    let again : lines_of synced ++ after ≡ lines_of synced ++ (lines_of more ++ read.after) =
    sym split ∙ read.split ∙ ap (λ (xs : List ℕ). xs ++ read.after) lines ∙ append_assoc (lines_of synced) (lines_of more) read.after in
    let after_is : after ≡ lines_of more ++ read.after = append_cancel_left (lines_of synced) after (lines_of more ++ read.after) again in
    let rest_is : drop octets log ≡ read.after = ap (drop octets) read.split ∙ drop_at (lines_of entries) read.after octets (sym read.octets_are) in
    let rest_written : HasOnlyWrittenLines (map entry_text unsynced) read.after =
    written_after_lines (map entry_text unsynced) (map entry_text more) read.after (are_texts more lawful) (subst (HasOnlyWrittenLines (map entry_text unsynced)) after_is written) in
    let long : length (lines_of entries) ≡ length (lines_of synced) + length (lines_of more) = ap length lines ∙ length-append (lines_of synced) (lines_of more) in
    let octets_are : octets ≡ length (lines_of entries) = read.octets_are in
    ap (λ (xs : List ℕ). has_commit_beyond octets (parts_at 10 xs)) rest_is
    ∙ no_commit_beyond unsynced (length (lines_of synced)) octets unsynced_lawful commits (omega arith) (parts_at 10 read.after) rest_written

pub undamaged : (synced unsynced entries : List Entry) (log after : List ℕ) (octets : ℕ) → AreLawful synced → AreLawful unsynced → EndsWithCommit synced
    → IsCrashState (map entry_text synced) (map entry_text unsynced) log → log ≡ lines_of synced ++ after → HasOnlyWrittenLines (map entry_text unsynced) after
    → Each (HasSyncedAtMost (length (lines_of synced))) unsynced → IsRecovered log entries octets → has_commit_beyond octets (parts_at 10 (drop octets log)) ≡ false
undamaged synced unsynced entries log after octets h k ends state split written commits read =
    let n = read_left log synced unsynced h k state entries octets read ends in
    let first = take n.0 unsynced in
    let c = committed_front first in
    let lawful : AreLawful (committed_entries first) = lawful_front (committed_entries first) c.0 (subst AreLawful c.1 (lawful_take n.0 unsynced k)) in
    undamaged_by synced (committed_entries first) unsynced entries log after octets lawful k commits split written read n.1
