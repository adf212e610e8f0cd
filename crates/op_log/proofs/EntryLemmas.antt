use Rattle.std.proofs.Common.{◌≡◌, ℕ, zero, suc, ◌≤◌, true, false, List, [], ◌∷◌, ◌++◌, map, Option, Some, Result, Ok, Err, IfErr, IfOk, MatchResult, length, take, drop, get_or, refl, sym, ap, ◌∙◌, subst, arith, append_assoc, codes}
use Rattle.std.proofs.lemmas.List.{append_cancel_left, map-append, take-append-drop, take-map, take_at}
use Rattle.std.specs.Fmt.{decimal}
use Rattle.crdt_ops.specs.Ops.{clock_of, id_of}
use Rattle.crdt_ops.specs.Text.{op_text}
use Rattle.crdt_ops.specs.declared.op.Op.{Op}
use Rattle.crdt_ops.proofs.ReadLemmas.{one_by}
use Rattle.merge_laws.specs.Orders.{IsCausal}
use Rattle.merge_laws.proofs.Causal.{causal_front}
use Rattle.text_fields.proofs.FieldLemmas.{both, decimal_lacks, number_complete}
use Rattle.text_fields.specs.FieldReading.{number_at}
use Rattle.op_log.specs.Crashes.{IsCrashState, IsPrefixOf}
use Rattle.op_log.specs.Entries.{AreLawful, EndsWithCommit, IsLawful, with_entry_before, committed_entries, entry_text, is_commit, with_op_before, ops_of}
use Rattle.op_log.specs.Lines.{AreTexts, IsText, recovered_texts}
use Rattle.op_log.specs.Recovery.{IsRecovered, IsUnsoundLine, IsLogFault}
use Rattle.op_log.specs.declared.entry.Entry.{Entry}
use Rattle.op_log.specs.declared.entry.Entry.TheVariants.{Begin, Apply, Commit}
use Rattle.op_log.specs.declared.recovery.LogFault.{LogFault}
use Rattle.op_log.specs.declared.recovery.LogFault.TheVariants.{LaterFormat, NoMemory, Unsound}
use Rattle.op_log.specs.declared.recovery.Recovered.{Recovered}
use Rattle.op_log.proofs.LineLemmas.{is_inner}
use Rattle.op_log.proofs.CrashLemmas.{crash_front}
use Rattle.op_log.proofs.OpLemmas.{op_inner}

-- ---- each entry has a text, and different entries have different ones

pub entry_is_text : (entry : Entry) → IsLawful entry → IsText (entry_text entry)
entry_is_text (Begin replica) h = both is_inner (codes "log 1 ") (decimal replica) refl (decimal_lacks 10 replica refl (omega arith))
entry_is_text (Apply op) h = both is_inner (codes "op ") (op_text op) refl (op_inner op h.1)
entry_is_text (Commit synced) h = both is_inner (codes "commit ") (decimal synced) refl (decimal_lacks 10 synced refl (omega arith))

pub are_texts : (entries : List Entry) → AreLawful entries → AreTexts (map entry_text entries)
are_texts [] h = tt
are_texts (entry ∷ entries) h = (entry_is_text entry h.0, are_texts entries h.1)

-- equal texts have equal first octets
heads : (one other : ℕ) (ones others : List ℕ) → one ∷ ones ≡ other ∷ others → one ≡ other
heads one other ones others e = ap (λ (xs : List ℕ). get_or xs 0 0) e

one_op : (op other : Op) → IsLawful (Apply op) → IsLawful (Apply other) → codes "op " ++ op_text op ≡ codes "op " ++ op_text other → op ≡ other
one_op op other h k e = one_by (op_text op) op other (h.1, refl) (k.1, append_cancel_left (codes "op ") (op_text op) (op_text other) e)

one_number : (m n : ℕ) → m ≤ 18446744073709551615 → n ≤ 18446744073709551615 → decimal m ≡ decimal n → m ≡ n
one_number m n h k e =
    let same : ◌≡◌ {A = Option ℕ} (Some m) (Some n) =
    sym (number_complete 18446744073709551615 m (omega arith) h) ∙ ap (number_at 18446744073709551615) e ∙ number_complete 18446744073709551615 n (omega arith) k in
    cc

pub one_entry : (one other : Entry) → IsLawful one → IsLawful other → entry_text one ≡ entry_text other → one ≡ other
one_entry (Begin m) (Begin n) h k e = ap Begin (one_number m n (omega arith) (omega arith) (append_cancel_left (codes "log 1 ") (decimal m) (decimal n) e))
one_entry (Begin m) (Apply op) h k e = absurd (let z = heads 108 111 _ _ e in omega arith)
one_entry (Begin m) (Commit n) h k e = absurd (let z = heads 108 99 _ _ e in omega arith)
one_entry (Apply op) (Begin n) h k e = absurd (let z = heads 111 108 _ _ e in omega arith)
one_entry (Apply op) (Apply other) h k e = ap Apply (one_op op other h k e)
one_entry (Apply op) (Commit n) h k e = absurd (let z = heads 111 99 _ _ e in omega arith)
one_entry (Commit m) (Begin n) h k e = absurd (let z = heads 99 108 _ _ e in omega arith)
one_entry (Commit m) (Apply op) h k e = absurd (let z = heads 99 111 _ _ e in omega arith)
one_entry (Commit m) (Commit n) h k e = ap Commit (one_number m n h k (append_cancel_left (codes "commit ") (decimal m) (decimal n) e))

pub one_list : (ones others : List Entry) → AreLawful ones → AreLawful others → map entry_text ones ≡ map entry_text others → ones ≡ others
one_list [] [] h k e = refl
one_list [] (other ∷ others) h k e = absurd cc
one_list (one ∷ ones) [] h k e = absurd cc
one_list (one ∷ ones) (other ∷ others) h k e =
    let first : entry_text one ≡ entry_text other = cc in
    let rest : map entry_text ones ≡ map entry_text others = cc in
    (λ i. one_entry one other h.0 k.0 first i ∷ one_list ones others h.1 k.1 rest i)

-- ---- first entries

pub lawful_both : (ones others : List Entry) → AreLawful ones → AreLawful others → AreLawful (ones ++ others)
lawful_both [] others h k = k
lawful_both (one ∷ ones) others h k = (h.0, lawful_both ones others h.1 k)

pub lawful_take : (n : ℕ) (entries : List Entry) → AreLawful entries → AreLawful (take n entries)
lawful_take zero entries h = tt
lawful_take (suc n) [] h = tt
lawful_take (suc n) (entry ∷ entries) h = (h.0, lawful_take n entries h.1)

front_count : (front : List (List ℕ)) (entries : List Entry) → IsPrefixOf front (map entry_text entries) → (count : ℕ) × (front ≡ map entry_text (take count entries))
front_count front entries h =
    (length front, sym (ap (take (length front)) h.1 ∙ take_at front h.0 (length front) refl) ∙ take-map entry_text (length front) entries)

pub ops_both : (ones others : List Entry) → ops_of (ones ++ others) ≡ ops_of ones ++ ops_of others
ops_both [] others = refl
ops_both (one ∷ ones) others = before_both one (ops_of (ones ++ others)) (ops_of ones) (ops_both ones others)
  where
    before_both : (entry : Entry) (all front : List Op) → all ≡ front ++ ops_of others → with_op_before entry all ≡ with_op_before entry front ++ ops_of others
    before_both (Begin replica) all front e = e
    before_both (Apply op) all front e = ap (λ (ops : List Op). op ∷ ops) e
    before_both (Commit synced) all front e = e

-- ---- commits

-- entries are the committed ones and others after them
abbrev HasCommitted : List Entry → Type 0
HasCommitted entries = (rest : List Entry) × (entries ≡ committed_entries entries ++ rest)

pub committed_front : (entries : List Entry) → HasCommitted entries
committed_front [] = ([], refl)
committed_front (entry ∷ entries) = by_rest entry entries (committed_entries entries) (committed_front entries)
  where
    by_rest : (entry : Entry) (entries front : List Entry) → (rest : List Entry) × (entries ≡ front ++ rest) → (rest : List Entry) × (entry ∷ entries ≡ with_entry_before entry front ++ rest)
    by_rest entry entries (next ∷ front) h = (h.0, ap (λ (xs : List Entry). entry ∷ xs) h.1)
    by_rest (Begin replica) entries [] h = (Begin replica ∷ entries, refl)
    by_rest (Apply op) entries [] h = (Apply op ∷ entries, refl)
    by_rest (Commit synced) entries [] h = (entries, refl)

-- one more entry, a commit or not
pub committed_commit : (entries : List Entry) (entry : Entry) → is_commit entry ≡ true → committed_entries (entries ++ entry ∷ []) ≡ entries ++ entry ∷ []
committed_commit [] entry h = rw h refl
committed_commit (first ∷ entries) entry h = ap (with_entry_before first) (committed_commit entries entry h) ∙ some first entries
  where
    some : (first : Entry) (entries : List Entry) → with_entry_before first (entries ++ entry ∷ []) ≡ first ∷ (entries ++ entry ∷ [])
    some first [] = refl
    some first (next ∷ entries) = refl

pub committed_other : (entries : List Entry) (entry : Entry) → is_commit entry ≡ false → committed_entries (entries ++ entry ∷ []) ≡ committed_entries entries
committed_other [] entry h = rw h refl
committed_other (first ∷ entries) entry h = ap (with_entry_before first) (committed_other entries entry h)

-- entries that end with a commit, before others
pub committed_both : (ones others : List Entry) → EndsWithCommit ones → committed_entries (ones ++ others) ≡ ones ++ committed_entries others
committed_both [] others h = refl
committed_both (one ∷ []) others h = last one others h
  where
    is_last : (one : Entry) → committed_entries (one ∷ []) ≡ one ∷ [] → is_commit one ≡ true
    is_last (Begin replica) h = absurd cc
    is_last (Apply op) h = absurd cc
    is_last (Commit synced) h = refl

    last : (one : Entry) (others : List Entry) → committed_entries (one ∷ []) ≡ one ∷ [] → with_entry_before one (committed_entries others) ≡ one ∷ committed_entries others
    last one others h = by_others one (committed_entries others) (is_last one h)
      where
        by_others : (one : Entry) (xs : List Entry) → is_commit one ≡ true → with_entry_before one xs ≡ one ∷ xs
        by_others one [] t = rw t refl
        by_others one (x ∷ xs) t = refl
committed_both (one ∷ next ∷ ones) others h =
    ap (with_entry_before one) (committed_both (next ∷ ones) others (inner one (next ∷ ones) (committed_entries (next ∷ ones)) h))
  where
    inner : (one : Entry) (rest front : List Entry) → with_entry_before one front ≡ one ∷ rest → front ≡ rest
    inner (Begin replica) rest [] h = absurd cc
    inner (Apply op) rest [] h = absurd cc
    inner (Commit synced) rest [] h = cc
    inner one rest (next ∷ front) h = cc

-- ---- what is recovered of what a crash leaves

module _ (log : List ℕ) (synced unsynced : List Entry) (h : AreLawful synced) (k : AreLawful unsynced) (leaves : IsCrashState (map entry_text synced) (map entry_text unsynced) log) where
  record Left : Type 0 where
    count : ℕ
    texts : recovered_texts log ≡ map entry_text (synced ++ take count unsynced)
    lawful : AreLawful (synced ++ take count unsynced)

  left : Left
  left =
      let f = crash_front (map entry_text synced) (map entry_text unsynced) log (are_texts synced h) leaves in
      let n = front_count f.0 unsynced f.2 in
      record {
        count = n.0;
        texts = f.1 ∙ (λ i. map entry_text synced ++ n.1 i) ∙ sym (map-append entry_text synced (take n.0 unsynced));
        lawful = lawful_both synced (take n.0 unsynced) h (lawful_take n.0 unsynced k);
      }

  pub read_left : (entries : List Entry) (octets : ℕ) → IsRecovered log entries octets → EndsWithCommit synced → (count : ℕ) × (entries ≡ synced ++ committed_entries (take count unsynced))
  read_left entries octets read ends =
      let all : read.all ≡ synced ++ take left.count unsynced = one_list read.all (synced ++ take left.count unsynced) read.lawful left.lawful (sym read.texts ∙ left.texts) in
      (left.count, read.entries_are ∙ ap committed_entries all ∙ committed_both synced (take left.count unsynced) ends)

  -- each of the texts is that of an entry
  of_entry : (entries : List Entry) (front : List (List ℕ)) (text : List ℕ) (back : List (List ℕ)) → AreLawful entries → map entry_text entries ≡ front ++ text ∷ back → (entry : Entry) × IsLawful entry × (text ≡ entry_text entry)
  of_entry [] [] text back l e = absurd cc
  of_entry [] (first ∷ front) text back l e = absurd cc
  of_entry (entry ∷ entries) [] text back l e = let same : entry_text entry ≡ text = cc in (entry, l.0, sym same)
  of_entry (entry ∷ entries) (first ∷ front) text back l e = let rest : map entry_text entries ≡ front ++ text ∷ back = cc in of_entry entries front text back l.1 rest

  pub not_unsound : (octets : ℕ) (text : List ℕ) → IsUnsoundLine log octets text → ⊥
  not_unsound octets text unsound =
      let found = of_entry (synced ++ take left.count unsynced) (map entry_text unsound.front) text unsound.back left.lawful (sym left.texts ∙ unsound.texts) in
      unsound.none found.0 found.1 found.2

  pub crash_read : (result : Result Recovered LogFault) → IfOk result (λ found. IsRecovered log found.entries.items found.octets) → IfErr result (IsLogFault log) → EndsWithCommit synced
      → MatchResult result (λ found. (count : ℕ) × (found.entries.items ≡ synced ++ committed_entries (take count unsynced))) (λ fault. fault ≡ NoMemory)
  crash_read (Ok found) read unread ends = read_left found.entries.items found.octets read ends
  crash_read (Err NoMemory) read unread ends = refl
  crash_read (Err (Unsound octets)) read fault ends = absurd (not_unsound fault.0 fault.1 fault.2)
  crash_read (Err LaterFormat) read fault ends = absurd (not_unsound fault.0 fault.1 fault.2)

  -- the committed ones of the first entries are first entries
  front_of : (count : ℕ) → (rest : List Entry) × (synced ++ unsynced ≡ (synced ++ committed_entries (take count unsynced)) ++ rest)
  front_of count =
      let first = take count unsynced in
      let c = committed_front first in
      let after = c.0 ++ drop count unsynced in (
        after,
        ap (λ (xs : List Entry). synced ++ xs) (
            sym (take-append-drop count unsynced) ∙ ap (λ (xs : List Entry). xs ++ drop count unsynced) c.1 ∙ append_assoc (committed_entries first) c.0 (drop count unsynced))
            ∙ sym (append_assoc synced (committed_entries first) after),
      )

  pub crash_causal : (result : Result Recovered LogFault) → IfOk result (λ found. IsRecovered log found.entries.items found.octets) → EndsWithCommit synced → IsCausal id_of clock_of (ops_of (synced ++ unsynced))
      → IfOk result (λ found. IsCausal id_of clock_of (ops_of found.entries.items))
  crash_causal (Err fault) read ends causal = tt
  crash_causal (Ok found) read ends causal =
      let n = read_left found.entries.items found.octets read ends in
      let all = front_of n.0 in
      let kept = synced ++ committed_entries (take n.0 unsynced) in
      let parts : ops_of (synced ++ unsynced) ≡ ops_of kept ++ ops_of all.0 = ap ops_of all.1 ∙ ops_both kept all.0 in
      subst (λ (xs : List Entry). IsCausal id_of clock_of (ops_of xs)) (sym n.1) (causal_front id_of clock_of (ops_of kept) (ops_of all.0) (subst (IsCausal id_of clock_of) parts causal))
