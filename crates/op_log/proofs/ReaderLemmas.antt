use Rattle.std.proofs.Common.{◌≡◌, ◌≢◌, inl, inr, ℕ, ◌+◌, ◌-◌, ◌<◌, ◌≤◌, Bool, true, false, cond, eqb, leb, ◌&&◌, ◌||◌, List, [], ◌∷◌, ◌++◌, map, Option, Some, None, Result, Ok, Err, OnOk, length, take, drop, refl, sym, ap, ◌∙◌, subst, arith, append_assoc}
use Rattle.std.proofs.lemmas.Bool.{cases_Bool}
use Rattle.std.proofs.lemmas.Bool.Decides.{nat_tests}
use Rattle.std.proofs.lemmas.List.{append-nil, drop-append-le, drop-drop, drop_at, length-append, take_at}
use Rattle.std.specs.Option.{option_or}
use Rattle.crdt_ops.specs.Reading.{cut_at, before_first_part}
use Rattle.crdt_ops.specs.declared.op.Op.{Op}
use Rattle.text_fields.proofs.FieldLemmas.{cut_complete, cut_sound}
use Rattle.op_log.specs.Entries.{AreLawful, IsLawful, committed_entries, entry_text, is_commit, lines_of, ops_of}
use Rattle.op_log.specs.Formats.{line_fault}
use Rattle.op_log.specs.Lines.{IsText, line_of, line_text, recovered_texts}
use Rattle.op_log.specs.Readers.{AreContents, AreFacts, EndWithNumber, HasFed, HasRead, HasReadLines, IsRest, facts_after, number_after}
use Rattle.op_log.specs.Recovery.{IsLogFault, IsRecovered, IsUnsoundLine}
use Rattle.op_log.specs.Replicas.{has_first_line, other_replica}
use Rattle.op_log.specs.declared.entry.Entry.{Entry}
use Rattle.op_log.specs.declared.entry.Entry.TheVariants.{Apply, Begin, Commit}
use Rattle.op_log.specs.declared.lines_read.LineFacts.{LineFacts}
use Rattle.op_log.specs.declared.lines_read.LinesRead.{LinesRead}
use Rattle.op_log.specs.declared.reader.LogContents.{LogContents}
use Rattle.op_log.specs.declared.reader.LogReader.{LogReader}
use Rattle.op_log.specs.declared.recovery.LogFault.{LogFault}
use Rattle.op_log.proofs.EntryLemmas.{are_texts, committed_commit, committed_front, committed_other, ops_both}
use Rattle.op_log.proofs.LineLemmas.{cut_lacks, first_found, recovered_damaged, recovered_line, recovered_lines, recovered_unfinished}
use Rattle.op_log.proofs.RecoveryLemmas.{IsReadSoFar, log_fault, read_entry_more, shorter, split_at_commit}
use Rattle.op_log.proofs.UndamagedLemmas.{lines_of_append}

-- ---- the facts of lines

pub other_both : (replica : ℕ) (front back : List Entry) → other_replica replica (front ++ back) ≡ option_or (other_replica replica front) (other_replica replica back)
other_both replica [] back = refl
other_both replica (Begin name ∷ front) back = by_name (eqb name replica) (other_replica replica (front ++ back)) (other_replica replica front) (other_both replica front back)
  where
    by_name : (b : Bool) (both one : Option ℕ) → both ≡ option_or one (other_replica replica back) → cond b both (Some name) ≡ option_or (cond b one (Some name)) (other_replica replica back)
    by_name true both one e = e
    by_name false both one e = refl
other_both replica (Apply op ∷ front) back = other_both replica front back
other_both replica (Commit synced ∷ front) back = other_both replica front back

begins_first : (first : Entry) (entries others : List Entry) → (has_first_line (first ∷ entries) || false) ≡ has_first_line (first ∷ others)
begins_first (Begin replica) entries others = refl
begins_first (Apply op) entries others = refl
begins_first (Commit synced) entries others = refl

begins_after : (entries : List Entry) (entry : Entry) (begins : Bool) (octets : ℕ) → begins ≡ has_first_line entries → octets ≡ length (lines_of entries) → (begins || (eqb octets 0 && has_first_line (entry ∷ []))) ≡ has_first_line (entries ++ entry ∷ [])
begins_after [] entry begins octets h e = λ i. h i || (eqb (e i) 0 && has_first_line (entry ∷ []))
begins_after (first ∷ entries) entry begins octets h e =
    let some : length (lines_of entries) < length (lines_of (first ∷ entries)) = shorter (lines_of (first ∷ entries)) (entry_text first) (lines_of entries) refl in
    let positive : 0 < octets = omega arith in
    let f : eqb octets 0 ≡ false = grind (arith, nat_tests) in
    (λ i. h i || (f i && has_first_line (entry ∷ []))) ∙ begins_first first entries (entries ++ entry ∷ [])

facts_of_more : (replica octets : ℕ) (entries : List Entry) (entry : Entry) (old new : LineFacts) → AreFacts replica entries old → new ≡ facts_after replica old entry octets → octets ≡ length (lines_of (entries ++ entry ∷ [])) → AreFacts replica (entries ++ entry ∷ []) new
facts_of_more replica octets entries entry old new h e long =
    subst (AreFacts replica (entries ++ entry ∷ [])) (sym e) (record {
      octets = long;
      begins = begins_after entries entry old.begins old.octets h.begins h.octets;
      other = ap (λ (o : Option ℕ). option_or o (other_replica replica (entry ∷ []))) h.other ∙ sym (other_both replica entries (entry ∷ []));
    })

-- ---- one more line

way_of : (replica : ℕ) (log rest : List ℕ) (lines : LinesRead) (h : HasReadLines replica log rest lines) → IsReadSoFar log rest h.all
way_of replica log rest lines h = record { texts = h.texts; lawful = h.lawful; split = h.split }

long_more : (entries : List Entry) (entry : Entry) (text : List ℕ) (all octets : ℕ) → all ≡ length (lines_of entries) → octets ≡ length (line_of text) → text ≡ entry_text entry → all + octets ≡ length (lines_of (entries ++ entry ∷ []))
long_more entries entry text all octets h e same =
    let one : length (lines_of (entry ∷ [])) ≡ octets = ap length (append-nil (line_of (entry_text entry))) ∙ ap (λ (xs : List ℕ). length (line_of xs)) (sym same) ∙ sym e in
    let both : length (lines_of (entries ++ entry ∷ [])) ≡ length (lines_of entries) + length (lines_of (entry ∷ [])) = ap length (lines_of_append entries (entry ∷ [])) ∙ length-append (lines_of entries) (lines_of (entry ∷ [])) in
    omega arith

pub read_more : (replica : ℕ) (log rest text after : List ℕ) (old new : LinesRead) (entry : Entry) (octets : ℕ) → HasReadLines replica log rest old → rest ≡ line_of text ++ after → IsText text → octets ≡ length (line_of text) → IsLawful entry → text ≡ entry_text entry
    → new.replica ≡ old.replica → new.ops.items ≡ old.ops.items ++ ops_of (entry ∷ []) → new.all ≡ facts_after old.replica old.all entry (old.all.octets + octets) → new.committed ≡ cond (is_commit entry) new.all old.committed
    → new.op_count ≡ cond (is_commit entry) (length new.ops.items) old.op_count → new.synced ≡ number_after entry old.synced → HasReadLines replica log after new
read_more replica log rest text after old new entry octets h cut is_text long lawful same replica_is ops_are all_is committed_is count_is synced_is =
    by_entry entry refl same committed_is count_is synced_is
  where
    all : List Entry
    all = h.all ++ entry ∷ []

    way : IsReadSoFar log after all
    way = read_entry_more log rest text after h.all all entry (way_of replica log rest old h) cut is_text lawful same refl

    ops : new.ops.items ≡ ops_of all
    ops = ops_are ∙ ap (λ (xs : List Op). xs ++ ops_of (entry ∷ [])) h.ops ∙ sym (ops_both h.all (entry ∷ []))

    facts : AreFacts replica all new.all
    facts =
        facts_of_more replica (old.all.octets + octets) h.all entry old.all new.all h.all_facts (all_is ∙ ap (λ (r : ℕ). facts_after r old.all entry (old.all.octets + octets)) h.replica_is)
        (long_more h.all entry text old.all.octets octets h.all_facts.octets long same)

    with_committed : AreFacts replica (committed_entries all) new.committed → new.op_count ≡ length (ops_of (committed_entries all)) → EndWithNumber (committed_entries all) new.synced → HasReadLines replica log after new
    with_committed committed count ends = record {
      all = all;
      texts = way.texts;
      lawful = way.lawful;
      split = way.split;
      replica_is = replica_is ∙ h.replica_is;
      ops = ops;
      all_facts = facts;
      committed_facts = committed;
      op_count = count;
      synced = ends;
    }

    by_other : is_commit entry ≡ false → new.committed ≡ old.committed → new.op_count ≡ old.op_count → new.synced ≡ old.synced → HasReadLines replica log after new
    by_other f committed count number =
        let same_entries : committed_entries all ≡ committed_entries h.all = committed_other h.all entry f in
        with_committed
        (subst (λ (xs : List Entry). AreFacts replica xs new.committed) (sym same_entries) (subst (AreFacts replica (committed_entries h.all)) (sym committed) h.committed_facts))
        (count ∙ h.op_count ∙ ap (λ (xs : List Entry). length (ops_of xs)) (sym same_entries))
        (subst (λ (xs : List Entry). EndWithNumber xs new.synced) (sym same_entries) (subst (EndWithNumber (committed_entries h.all)) (sym number) h.synced))

    by_commit : (synced : ℕ) → entry ≡ Commit synced → is_commit entry ≡ true → new.committed ≡ new.all → new.op_count ≡ length new.ops.items → new.synced ≡ synced → HasReadLines replica log after new
    by_commit synced is t committed count number =
        let whole : committed_entries all ≡ all = committed_commit h.all entry t in
        with_committed
        (subst (λ (xs : List Entry). AreFacts replica xs new.committed) (sym whole) (subst (AreFacts replica all) (sym committed) facts))
        (count ∙ ap length ops ∙ ap (λ (xs : List Entry). length (ops_of xs)) (sym whole))
        (inr (h.all, whole ∙ ap (λ (e : Entry). h.all ++ e ∷ []) is ∙ ap (λ (n : ℕ). h.all ++ Commit n ∷ []) (sym number)))

    by_entry : (e : Entry) → entry ≡ e → text ≡ entry_text entry → new.committed ≡ cond (is_commit entry) new.all old.committed → new.op_count ≡ cond (is_commit entry) (length new.ops.items) old.op_count → new.synced ≡ number_after entry old.synced → HasReadLines replica log after new
    by_entry (Begin name) is s c n k =
        by_other (ap is_commit is) (c ∙ ap (λ (e : Entry). cond (is_commit e) new.all old.committed) is) (n ∙ ap (λ (e : Entry). cond (is_commit e) (length new.ops.items) old.op_count) is) (k ∙ ap (λ (e : Entry). number_after e old.synced) is)
    by_entry (Apply op) is s c n k =
        by_other (ap is_commit is) (c ∙ ap (λ (e : Entry). cond (is_commit e) new.all old.committed) is) (n ∙ ap (λ (e : Entry). cond (is_commit e) (length new.ops.items) old.op_count) is) (k ∙ ap (λ (e : Entry). number_after e old.synced) is)
    by_entry (Commit synced) is s c n k =
        by_commit synced is (ap is_commit is) (c ∙ ap (λ (e : Entry). cond (is_commit e) new.all old.committed) is) (n ∙ ap (λ (e : Entry). cond (is_commit e) (length new.ops.items) old.op_count) is) (k ∙ ap (λ (e : Entry). number_after e old.synced) is)

committed_within : (entries : List Entry) → length (lines_of (committed_entries entries)) ≤ length (lines_of entries)
committed_within entries =
    let c = committed_front entries in
    let both : length (lines_of entries) ≡ length (lines_of (committed_entries entries)) + length (lines_of c.0) =
    ap (λ (xs : List Entry). length (lines_of xs)) c.1 ∙ ap length (lines_of_append (committed_entries entries) c.0) ∙ length-append (lines_of (committed_entries entries)) (lines_of c.0) in
    omega arith

pub grown_committed : (replica : ℕ) (log rest : List ℕ) (old new : LinesRead) (entry : Entry) (octets : ℕ) → HasReadLines replica log rest old → new.all ≡ facts_after old.replica old.all entry (old.all.octets + octets) → new.committed ≡ cond (is_commit entry) new.all old.committed → old.committed.octets ≤ new.committed.octets
grown_committed replica log rest old new (Begin name) octets h all_is committed_is = let same : new.committed.octets ≡ old.committed.octets = ap (λ (f : LineFacts). f.octets) committed_is in omega arith
grown_committed replica log rest old new (Apply op) octets h all_is committed_is = let same : new.committed.octets ≡ old.committed.octets = ap (λ (f : LineFacts). f.octets) committed_is in omega arith
grown_committed replica log rest old new (Commit synced) octets h all_is committed_is =
    let same : new.committed.octets ≡ new.all.octets = ap (λ (f : LineFacts). f.octets) committed_is in
    let more : new.all.octets ≡ old.all.octets + octets = ap (λ (f : LineFacts). f.octets) all_is in
    let all : old.all.octets ≡ length (lines_of h.all) = h.all_facts.octets in
    let committed : old.committed.octets ≡ length (lines_of (committed_entries h.all)) = h.committed_facts.octets in
    let within = committed_within h.all in
    omega arith

-- the same after a call that may have failed
pub read_added : {T E : Type 0} (replica : ℕ) (log rest text after : List ℕ) (old new : LinesRead) (entry : Entry) (octets : ℕ) (result : Result T E) → HasReadLines replica log rest old → rest ≡ line_of text ++ after → IsText text → octets ≡ length (line_of text) → IsLawful entry → text ≡ entry_text entry
    → new.replica ≡ old.replica → OnOk result (new.ops.items ≡ old.ops.items ++ ops_of (entry ∷ [])) → OnOk result (new.all ≡ facts_after old.replica old.all entry (old.all.octets + octets)) → OnOk result (new.committed ≡ cond (is_commit entry) new.all old.committed)
    → OnOk result (new.op_count ≡ cond (is_commit entry) (length new.ops.items) old.op_count) → OnOk result (new.synced ≡ number_after entry old.synced) → OnOk result (HasReadLines replica log after new)
read_added replica log rest text after old new entry octets (Ok x) h cut is_text long lawful same replica_is ops all committed count synced =
    read_more replica log rest text after old new entry octets h cut is_text long lawful same replica_is ops all committed count synced
read_added replica log rest text after old new entry octets (Err e) h cut is_text long lawful same replica_is ops all committed count synced = tt

pub grown_added : {T E : Type 0} (replica : ℕ) (log rest : List ℕ) (old new : LinesRead) (entry : Entry) (octets : ℕ) (result : Result T E) → HasReadLines replica log rest old → OnOk result (new.all ≡ facts_after old.replica old.all entry (old.all.octets + octets))
    → OnOk result (new.committed ≡ cond (is_commit entry) new.all old.committed) → OnOk result (old.committed.octets ≤ new.committed.octets)
grown_added replica log rest old new entry octets (Ok x) h all committed = grown_committed replica log rest old new entry octets h all committed
grown_added replica log rest old new entry octets (Err e) h all committed = tt

-- ---- further octets

pub longer : (replica : ℕ) (log rest : List ℕ) (lines : LinesRead) (more : List ℕ) → HasReadLines replica log rest lines → HasReadLines replica (log ++ more) (rest ++ more) lines
longer replica log rest lines more h =
    let split : log ++ more ≡ lines_of h.all ++ (rest ++ more) = ap (λ (xs : List ℕ). xs ++ more) h.split ∙ append_assoc (lines_of h.all) rest more in
    record {
      all = h.all;
      texts = ap recovered_texts split ∙ recovered_lines (map entry_text h.all) (rest ++ more) (are_texts h.all h.lawful);
      lawful = h.lawful;
      split = split;
      replica_is = h.replica_is;
      ops = h.ops;
      all_facts = h.all_facts;
      committed_facts = h.committed_facts;
      op_count = h.op_count;
      synced = h.synced;
    }

-- a line that is the text of no entry, whatever follows it
pub unsound_whatever : (replica : ℕ) (log rest text after : List ℕ) (lines : LinesRead) (fault : LogFault) → HasReadLines replica log rest lines → rest ≡ line_of text ++ after → IsText text → ((entry : Entry) → IsLawful entry → text ≢ entry_text entry)
    → fault ≡ line_fault lines.all.octets text → (more : List ℕ) → IsLogFault (log ++ more) fault
unfolding longer
unsound_whatever replica log rest text after lines fault h cut is_text none e more =
    let w = longer replica log rest lines more h in
    let again : rest ++ more ≡ line_of text ++ (after ++ more) = ap (λ (xs : List ℕ). xs ++ more) cut ∙ append_assoc (line_of text) after more in
    log_fault (log ++ more) lines.all.octets text fault (record {
      front = h.all;
      back = recovered_texts (after ++ more);
      texts = w.texts ∙ ap (λ (xs : List ℕ). map entry_text h.all ++ recovered_texts xs) again ∙ ap (λ (xs : List (List ℕ)). map entry_text h.all ++ xs) (recovered_line text (after ++ more) is_text);
      octets_are = h.all_facts.octets;
      none = none;
    }) e

-- ---- the rest

uncut_both : (front back : List ℕ) → cut_at 10 front ≡ None → cut_at 10 back ≡ None → cut_at 10 (front ++ back) ≡ None
uncut_both [] back h k = k
uncut_both (octet ∷ front) back h k = by_octet (eqb octet 10) (cut_at 10 front) h (λ e. uncut_both front back e k)
  where
    by_octet : (b : Bool) (one : Option (List ℕ × List ℕ)) → cond b (Some ([], front)) (before_first_part (octet ∷ []) one) ≡ None → (one ≡ None → cut_at 10 (front ++ back) ≡ None)
        → cond b (Some ([], front ++ back)) (before_first_part (octet ∷ []) (cut_at 10 (front ++ back))) ≡ None
    by_octet true one h f = absurd cc
    by_octet false None h f = ap (before_first_part (octet ∷ [])) (f refl)
    by_octet false (Some parts) h f = absurd cc

damaged_whatever : (rest line after more : List ℕ) → cut_at 10 rest ≡ Some (line, after) → recovered_texts rest ≡ [] → recovered_texts (rest ++ more) ≡ []
damaged_whatever rest line after more h none = by_text (line_text line) refl
  where
    longer_cut : cut_at 10 (rest ++ more) ≡ Some (line, after ++ more)
    longer_cut =
        ap (λ (xs : List ℕ). cut_at 10 (xs ++ more)) (cut_sound 10 rest (line, after) h) ∙ ap (cut_at 10) (append_assoc line (10 ∷ after) more)
        ∙ cut_complete 10 line (after ++ more) (cut_lacks 10 rest (line, after) h)

    by_text : (o : Option (List ℕ)) → line_text line ≡ o → recovered_texts (rest ++ more) ≡ []
    by_text None e = recovered_damaged (rest ++ more) line (after ++ more) longer_cut e
    by_text (Some text) e =
        let found = first_found rest line after text h e in
        let some : ◌≡◌ {A = List (List ℕ)} [] (text ∷ recovered_texts after) = sym none ∙ ap recovered_texts found.0 ∙ recovered_line text after found.1 in
        absurd cc

pub is_rest_at_end : (rest : List ℕ) (ended : Bool) → recovered_texts rest ≡ [] → (ended ≡ true → (parts : List ℕ × List ℕ) × (cut_at 10 rest ≡ Some parts)) → (ended ≡ false → cut_at 10 rest ≡ None) → IsRest ended rest
is_rest_at_end rest true none some uncut = λ more. let parts = some refl in damaged_whatever rest parts.0.0 parts.0.1 more parts.1 none
is_rest_at_end rest false none some uncut = uncut refl

rest_has_none : (ended : Bool) (rest : List ℕ) → IsRest ended rest → recovered_texts rest ≡ []
rest_has_none true rest h = ap recovered_texts (sym (append-nil rest)) ∙ h []
rest_has_none false rest h = recovered_unfinished rest h

rest_with : (ended : Bool) (rest piece : List ℕ) → IsRest ended rest → (ended ≡ false → cut_at 10 piece ≡ None) → IsRest ended (rest ++ piece)
rest_with true rest piece h uncut = λ more. ap recovered_texts (append_assoc rest piece more) ∙ h (piece ++ more)
rest_with false rest piece h uncut = uncut_both rest piece h (uncut refl)

-- ---- what a reader has

start_within : (replica : ℕ) (log rest : List ℕ) (lines : LinesRead) (start : ℕ) → HasReadLines replica log rest lines → start ≤ lines.committed.octets → (start ≤ lines.all.octets) × (lines.all.octets ≤ length log)
start_within replica log rest lines start h within =
    let all : lines.all.octets ≡ length (lines_of h.all) = h.all_facts.octets in
    let committed : lines.committed.octets ≡ length (lines_of (committed_entries h.all)) = h.committed_facts.octets in
    let shorter_lines = committed_within h.all in
    let long : length log ≡ length (lines_of h.all) + length rest = ap length h.split ∙ length-append (lines_of h.all) rest in
    (omega arith, omega arith)

pub fed_more : (replica : ℕ) (log piece : List ℕ) (old new : LogReader) (h : HasRead replica log old) → new.kept.items ≡ old.kept.items ++ piece → new.start ≡ old.start → new.lines ≡ old.lines → HasFed replica (log ++ piece) (h.rest ++ piece) new
fed_more replica log piece old new h kept start lines =
    let within = start_within replica log h.rest old.lines old.start h.lines h.start in
    let more : old.kept.items ++ piece ≡ drop old.start (log ++ piece) = ap (λ (xs : List ℕ). xs ++ piece) h.kept ∙ sym (drop-append-le old.start log piece (omega (arith, within.0, within.1))) in
    let same : new.lines.committed.octets ≡ old.lines.committed.octets = ap (λ (l : LinesRead). l.committed.octets) lines in
    let first : old.start ≤ old.lines.committed.octets = h.start in
    record {
      lines = subst (HasReadLines replica (log ++ piece) (h.rest ++ piece)) (sym lines) (longer replica log h.rest old.lines piece h.lines);
      kept = kept ∙ more ∙ ap (λ (n : ℕ). drop n (log ++ piece)) (sym start);
      start = omega arith;
    }

pub read_no_more : (replica : ℕ) (log piece : List ℕ) (old new : LogReader) (h : HasRead replica log old) → new.kept.items ≡ old.kept.items ++ piece → new.start ≡ old.start → new.lines ≡ old.lines → new.ended ≡ old.ended → (old.ended ≡ false → cut_at 10 piece ≡ None) → HasRead replica (log ++ piece) new
read_no_more replica log piece old new h kept start lines ended uncut =
    let fed = fed_more replica log piece old new h kept start lines in
    record {
      rest = h.rest ++ piece;
      lines = fed.lines;
      is_rest = subst (λ (b : Bool). IsRest b (h.rest ++ piece)) (sym ended) (rest_with old.ended h.rest piece h.is_rest uncut);
      kept = fed.kept;
      start = fed.start;
    }

-- the octets that weren't read
pub unread_is : (replica : ℕ) (log rest kept : List ℕ) (lines : LinesRead) (start : ℕ) → HasReadLines replica log rest lines → kept ≡ drop start log → start ≤ lines.committed.octets → drop (lines.all.octets - start) kept ≡ rest
unread_is replica log rest kept lines start h is within =
    let w = start_within replica log rest lines start h within in
    let sum : start + (lines.all.octets - start) ≡ lines.all.octets = omega (arith, w.0) in
    ap (drop (lines.all.octets - start)) is
    ∙ drop-drop (lines.all.octets - start) start log
    ∙ ap (λ (n : ℕ). drop n log) sum
    ∙ ap (drop lines.all.octets) h.split
    ∙ drop_at (lines_of h.all) rest lines.all.octets (sym h.all_facts.octets)

some_octets : (b : Bool) (xs ys : List ℕ) → ◌≡◌ {A = Option (List ℕ)} (Some ys) (cond b (Some xs) None) → ys ≡ xs
some_octets true xs ys h = cc
some_octets false xs ys h = absurd cc

-- found among the octets that were kept
pub unread_found : (replica : ℕ) (log rest kept found : List ℕ) (lines : LinesRead) (start : ℕ) → HasReadLines replica log rest lines → kept ≡ drop start log → start ≤ lines.committed.octets
    → ◌≡◌ {A = Option (List ℕ)} (Some found) (cond (leb start lines.all.octets && leb (lines.all.octets - start) (length kept)) (Some (drop (lines.all.octets - start) kept)) None) → HasReadLines replica log found lines
unread_found replica log rest kept found lines start h is within e =
    let same : found ≡ rest = some_octets (leb start lines.all.octets && leb (lines.all.octets - start) (length kept)) (drop (lines.all.octets - start) kept) found e ∙ unread_is replica log rest kept lines start h is within in
    subst (λ (xs : List ℕ). HasReadLines replica log xs lines) (sym same) h

pub read_on : (replica : ℕ) (log rest : List ℕ) (old new : LogReader) → HasFed replica log rest old → (left : List ℕ) × HasReadLines replica log left new.lines × IsRest new.ended left → old.lines.committed.octets ≤ new.lines.committed.octets → new.kept.items ≡ old.kept.items → new.start ≡ old.start
    → HasRead replica log new
read_on replica log rest old new h read grows kept start =
    let within : old.start ≤ old.lines.committed.octets = h.start in
    record {
      rest = read.0;
      lines = read.1;
      is_rest = read.2;
      kept = kept ∙ h.kept ∙ ap (λ (n : ℕ). drop n log) (sym start);
      start = omega arith;
    }

pub read_dropped : (replica : ℕ) (log : List ℕ) (old new : LogReader) (count : ℕ) → HasRead replica log old → new.kept.items ≡ drop count old.kept.items → new.start ≡ old.start + count → new.start ≤ old.lines.committed.octets → new.lines ≡ old.lines → new.ended ≡ old.ended → HasRead replica log new
read_dropped replica log old new count h kept start within lines ended =
    let same : new.lines.committed.octets ≡ old.lines.committed.octets = ap (λ (l : LinesRead). l.committed.octets) lines in
    record {
      rest = h.rest;
      lines = subst (HasReadLines replica log h.rest) (sym lines) h.lines;
      is_rest = subst (λ (b : Bool). IsRest b h.rest) (sym ended) h.is_rest;
      kept = kept ∙ ap (drop count) h.kept ∙ drop-drop count old.start log ∙ ap (λ (n : ℕ). drop n log) (sym start);
      start = omega arith;
    }

pub contents_at_end : (replica : ℕ) (log : List ℕ) (reader : LogReader) (contents : LogContents) (h : HasRead replica log reader) → contents.ops.items ≡ take reader.lines.op_count reader.lines.ops.items → contents.octets ≡ reader.lines.committed.octets → contents.begins ≡ reader.lines.committed.begins
    → contents.other ≡ reader.lines.committed.other → contents.synced ≡ reader.lines.synced → contents.kept.items ≡ reader.kept.items → contents.start ≡ reader.start → AreContents replica log (committed_entries h.lines.all) contents
contents_at_end replica log reader contents h ops octets begins other synced kept start =
    let all = h.lines.all in
    let entries = committed_entries all in
    let c = committed_front all in
    let cut = split_at_commit log h.rest all entries (way_of replica log h.rest reader.lines h.lines) refl in
    let parts : reader.lines.ops.items ≡ ops_of entries ++ ops_of c.0 = h.lines.ops ∙ ap ops_of c.1 ∙ ops_both entries c.0 in
    let first : reader.start ≤ reader.lines.committed.octets = h.start in
    record {
      read = record {
        all = all;
        texts = h.lines.texts ∙ ap (λ (xs : List (List ℕ)). map entry_text all ++ xs) (rest_has_none reader.ended h.rest h.is_rest) ∙ append-nil (map entry_text all);
        lawful = h.lines.lawful;
        entries_are = refl;
        after = cut.0;
        split = cut.1;
        octets_are = octets ∙ h.lines.committed_facts.octets;
      };
      ops = ops ∙ ap (take reader.lines.op_count) parts ∙ take_at (ops_of entries) (ops_of c.0) reader.lines.op_count (sym h.lines.op_count);
      begins = begins ∙ h.lines.committed_facts.begins;
      other = other ∙ h.lines.committed_facts.other;
      synced = subst (EndWithNumber entries) (sym synced) h.lines.synced;
      kept = kept ∙ h.kept ∙ ap (λ (n : ℕ). drop n log) (sym start);
      start = omega arith;
    }

-- the octets of a line, by the numbers of octets from it on and after it
pub line_octets : (rest text after : List ℕ) (from past : ℕ) → rest ≡ line_of text ++ after → from ≡ length rest → past ≡ length after → from - past ≡ length (line_of text)
line_octets rest text after from past cut e k =
    let long : length rest ≡ length (line_of text) + length after = ap length cut ∙ length-append (line_of text) after in
    omega arith
