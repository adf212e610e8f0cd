use Rattle.std.proofs.Common.{◌≡◌, ℕ, zero, suc, ◌+◌, ◌-◌, ◌≤◌, ◌<◌, Bool, true, false, cond, List, [], ◌∷◌, ◌++◌, length, take, drop, length-append, length-take, length-drop, take-append-drop, drop_of_length-le, append_assoc, Option, None, Some, ◌⊎◌, inl, inr, refl, sym, ap, subst, ◌∙◌, arith}
use Rattle.std.specs.Prelude.{min}
use Rattle.std.specs.List.{filter, slice_get}
use Rattle.std.proofs.lemmas.Option.{slice_get_past}
use Rattle.imap_node.specs.Nodes.{NodeState, unused_node}
use Rattle.replica_lock.specs.Histories.{AreQuietAfter, BookState, HasPast, HasSummary, IsPast, IsQuietAfter, IsSummary, LeadsTo, book_after_forget, entry_count, has_opened, is_command, is_command_event, may_affect_sessions, summary_after}
use Rattle.replica_lock.specs.Steps.{IsStep}
use Rattle.replica_lock.specs.declared.book.JournalEntry.{JournalEntry}
use Rattle.replica_lock.specs.declared.event.BookEvent.{BookEvent}
use Rattle.replica_lock.specs.declared.history_summary.HistorySummary.{HistorySummary}
use Rattle.replica_lock.specs.declared.outcome.Outcome.{Outcome}
use Rattle.replica_lock.proofs.Journals.{history_grows}

-- ---- the summary of a list with one further entry

-- an entry of such a list is one of the list, or the further one
entry_before_last : (es : List JournalEntry) (e x : JournalEntry) (k : ℕ) → slice_get (es ++ e ∷ []) k ≡ Some x → (slice_get es k ≡ Some x) ⊎ ((k ≡ length es) × (x ≡ e))
entry_before_last [] e x zero h = inr (refl, cc)
entry_before_last [] e x (suc k) h = let n : ◌≡◌ {A = Option JournalEntry} None (Some x) = h in absurd cc
entry_before_last (f ∷ es) e x zero h = inl h
entry_before_last (f ∷ es) e x (suc k) h = elim (entry_before_last es e x k h) [ inl t ↦ inl t | inr t ↦ inr (ap suc t.0, t.1) ]

quiet_append : (es : List JournalEntry) (e : JournalEntry) (visible count : ℕ) → count ≡ length es + 1 → AreQuietAfter es visible
    → AreQuietAfter (es ++ e ∷ []) (cond (may_affect_sessions e.outcome) count visible)
quiet_append es e visible count c h = by_outcome (may_affect_sessions e.outcome) refl
  where
    none_after : (k : ℕ) (x : JournalEntry) → count ≤ k → slice_get es k ≡ Some x → ⊥
    none_after k x l at = let n : slice_get es k ≡ None = slice_get_past es k (omega arith) in absurd cc

    by_outcome : (b : Bool) → may_affect_sessions e.outcome ≡ b → AreQuietAfter (es ++ e ∷ []) (cond b count visible)
    by_outcome true t = λ k x l at. elim (entry_before_last es e x k at) [ inl u ↦ absurd (none_after k x l u) | inr u ↦ let m : k ≡ length es = u.0 in absurd (omega arith) ]
    by_outcome false f = λ k x l at. elim (entry_before_last es e x k at) [ inl u ↦ h k x l u | inr u ↦ ap (λ (y : JournalEntry). may_affect_sessions y.outcome) u.1 ∙ f ]

visible_bound : (es : List JournalEntry) (e : JournalEntry) (visible count : ℕ) (b : Bool) → count ≡ length es + 1 → visible ≤ length es → cond b count visible ≤ length (es ++ e ∷ [])
visible_bound es e visible count true c l = let one : length (es ++ e ∷ []) ≡ length es + 1 = simp length-append in omega arith
visible_bound es e visible count false c l = let one : length (es ++ e ∷ []) ≡ length es + 1 = simp length-append in omega arith

module _ (test : JournalEntry → Bool) where
  one_passes : (e : JournalEntry) (b : Bool) → test e ≡ b → length (filter test (e ∷ [])) ≡ cond b 1 0
  one_passes e true t = rw t refl
  one_passes e false f = rw f refl

  first_passes : (e : JournalEntry) (es : List JournalEntry) (b : Bool) → test e ≡ b → length (filter test (e ∷ es)) ≡ cond b (suc (length (filter test es))) (length (filter test es))
  first_passes e es true t = rw t refl
  first_passes e es false f = rw f refl

  count_with_last : (es : List JournalEntry) (e : JournalEntry) (b : Bool) → test e ≡ b → length (filter test (es ++ e ∷ [])) ≡ cond b (length (filter test es) + 1) (length (filter test es))
  count_with_last [] e true t = one_passes e true t
  count_with_last [] e false f = one_passes e false f
  count_with_last (x ∷ es) e b t = by_first (count_with_last es e b t) (test x) refl
    where
      more : (c b : Bool) (n : ℕ) → cond c (suc (cond b (n + 1) n)) (cond b (n + 1) n) ≡ cond b (cond c (suc n) n + 1) (cond c (suc n) n)
      more true true n = omega arith
      more true false n = refl
      more false true n = refl
      more false false n = refl

      by_first : length (filter test (es ++ e ∷ [])) ≡ cond b (length (filter test es) + 1) (length (filter test es))
          → (c : Bool) → test x ≡ c → length (filter test ((x ∷ es) ++ e ∷ [])) ≡ cond b (length (filter test (x ∷ es)) + 1) (length (filter test (x ∷ es)))
      by_first rest c h =
          first_passes x (es ++ e ∷ []) c h
          ∙ ap (λ n. cond c (suc n) n) rest
          ∙ more c b (length (filter test es))
          ∙ ap (λ n. cond b (n + 1) n) (sym (first_passes x es c h))

  pub passing_bound : (es : List JournalEntry) → length (filter test es) ≤ length es
  passing_bound [] = omega arith
  passing_bound (e ∷ es) = let rest = passing_bound es in by_first (test e) refl rest
    where
      few : (b : Bool) (n m : ℕ) → n ≤ m → cond b (suc n) n ≤ suc m
      few true n m l = omega (arith, l)
      few false n m l = omega (arith, l)

      by_first : (b : Bool) → test e ≡ b → length (filter test es) ≤ length es → length (filter test (e ∷ es)) ≤ suc (length es)
      by_first b h rest = subst (λ n. n ≤ suc (length es)) (sym (first_passes e es b h)) (few b (length (filter test es)) (length es) rest)

summary_append : (es : List JournalEntry) (e : JournalEntry) (summary : HistorySummary) (count : ℕ) → count ≡ length es + 1 → IsSummary es summary
    → IsSummary (es ++ e ∷ []) (summary_after summary count (is_command e) e.outcome)
summary_append es e summary count c h = record {
  within = visible_bound es e summary.last_visible count (may_affect_sessions e.outcome) c h.within;
  quiet = quiet_append es e summary.last_visible count c h.quiet;
  sessions = ap (λ n. cond (has_opened e) (n + 1) n) h.sessions ∙ sym (count_with_last has_opened es e (has_opened e) refl);
  commands = ap (λ n. cond (is_command e) (n + 1) n) h.commands ∙ sym (count_with_last is_command es e (is_command e) refl);
}

-- ---- the summary of a book's history

-- after a step
pub summary_after_step : (s t : NodeState) (forgotten_count count : ℕ) (summary : HistorySummary) (old new : List JournalEntry) (event : BookEvent) (outcome : Outcome)
    → HasSummary (record { node = s; forgotten_count = forgotten_count; journal = old }) summary → IsStep s event outcome t
    → new ≡ old ++ record { event = event; outcome = outcome } ∷ [] → count ≡ forgotten_count + length new
    → HasSummary (record { node = t; forgotten_count = forgotten_count; journal = new }) (summary_after summary count (is_command_event event) outcome)
summary_after_step s t forgotten_count count summary old new event outcome h step e c =
    let past = h.0 in
    let entry : JournalEntry = record { event = event; outcome = outcome } in
    let more : past ++ new ≡ (past ++ old) ++ entry ∷ [] = ap (λ (es : List JournalEntry). past ++ es) e ∙ sym (append_assoc past old (entry ∷ [])) in
    let counted : count ≡ length (past ++ old) + 1 = fits past old new entry e h.1.count c in (
      past,
      record { count = h.1.count; leads = history_grows s t (past ++ old) (past ++ new) event outcome h.1.leads step more },
      subst (λ (es : List JournalEntry). IsSummary es (summary_after summary count (is_command_event event) outcome)) (sym more)
          (summary_append (past ++ old) entry summary count counted h.2),
    )
  where
    fits : (past old new : List JournalEntry) (e : JournalEntry) → new ≡ old ++ e ∷ [] → length past ≡ forgotten_count → count ≡ forgotten_count + length new → count ≡ length (past ++ old) + 1
    fits past old new e n p c =
        let a : length new ≡ length (old ++ e ∷ []) = ap length n in
        let b : length (old ++ e ∷ []) ≡ length old + 1 = simp length-append in
        let d : length (past ++ old) ≡ length past + length old = simp length-append in
        omega arith

-- after the oldest entries were forgotten
pub summary_after_forget : (s : NodeState) (forgotten_count n : ℕ) (summary : HistorySummary) (old new : List JournalEntry) → n ≤ length old → new ≡ drop n old
    → HasSummary (record { node = s; forgotten_count = forgotten_count; journal = old }) summary
    → HasSummary (record { node = s; forgotten_count = forgotten_count + n; journal = new }) summary
summary_after_forget s forgotten_count n summary old new l e h =
    let past = h.0 in
    let same : past ++ old ≡ (past ++ take n old) ++ new =
    ap (λ (es : List JournalEntry). past ++ es) (sym (take-append-drop n old)) ∙ sym (append_assoc past (take n old) (drop n old))
    ∙ ap (λ (es : List JournalEntry). (past ++ take n old) ++ es) (sym e) in (
      past ++ take n old,
      record { count = counted past old l h.1.count; leads = subst (λ (es : List JournalEntry). LeadsTo (unused_node s.start) es s) same h.1.leads },
      subst (λ (es : List JournalEntry). IsSummary es summary) same h.2,
    )
  where
    counted : (past old : List JournalEntry) → n ≤ length old → length past ≡ forgotten_count → length (past ++ take n old) ≡ forgotten_count + n
    counted past old l p =
        let a : length (past ++ take n old) ≡ length past + length (take n old) = simp length-append in
        let b : length (take n old) ≡ min n (length old) = length-take n old in
        omega arith

-- what a summary says of the book
pub past_of_summary : (book : BookState) (summary : HistorySummary) → HasSummary book summary → HasPast book
past_of_summary book summary h = (h.0, h.1)

pub quiet_of_summary : (book : BookState) (summary : HistorySummary) (seen : ℕ) → summary.last_visible ≤ seen → HasSummary book summary → IsQuietAfter book seen
quiet_of_summary book summary seen l h = (h.0, h.1, λ k e m at. h.2.quiet k e (omega arith) at)

history_length : (book : BookState) (past : List JournalEntry) → IsPast book past → length (past ++ book.journal) ≡ entry_count book
history_length book past h = let a : length (past ++ book.journal) ≡ length past + length book.journal = simp length-append in let b = h.count in omega arith

pub visible_within : (book : BookState) (summary : HistorySummary) → HasSummary book summary → summary.last_visible ≤ entry_count book
visible_within book summary h = let a = history_length book h.0 h.1 in let b = h.2.within in omega arith

pub sessions_within : (book : BookState) (summary : HistorySummary) → HasSummary book summary → summary.sessions ≤ entry_count book
sessions_within book summary h =
    let a = history_length book h.0 h.1 in let b = passing_bound has_opened (h.0 ++ book.journal) in let c = h.2.sessions in omega arith

pub commands_within : (book : BookState) (summary : HistorySummary) → HasSummary book summary → summary.commands ≤ entry_count book
commands_within book summary h =
    let a = history_length book h.0 h.1 in let b = passing_bound is_command (h.0 ++ book.journal) in let c = h.2.commands in omega arith

-- if no entry was forgotten, the journal leads to the replica
pub journal_leads : (book : BookState) → book.forgotten_count ≡ 0 → HasPast book → LeadsTo (unused_node book.node.start) book.journal book.node
journal_leads book none h = by_past h.0 (h.1.count ∙ none) h.1.leads
  where
    by_past : (past : List JournalEntry) → length past ≡ 0 → LeadsTo (unused_node book.node.start) (past ++ book.journal) book.node → LeadsTo (unused_node book.node.start) book.journal book.node
    by_past [] e l = l
    by_past (p ∷ past) e l = absurd (omega arith)

-- a book without entries
pub summary_of_none : (s : NodeState) (summary : HistorySummary) → s ≡ unused_node s.start → summary.last_visible ≡ 0 → summary.sessions ≡ 0 → summary.commands ≡ 0
    → HasSummary (record { node = s; forgotten_count = 0; journal = [] }) summary
summary_of_none s summary unused visible sessions commands = (
  [],
  record { count = refl; leads = unused },
  record { within = within summary.last_visible visible; quiet = λ k e l at. absurd (none k e at); sessions = sessions; commands = commands },
)
  where
    within : (n : ℕ) → n ≡ 0 → n ≤ 0
    within n e = omega arith

    none : (k : ℕ) (e : JournalEntry) → slice_get [] k ≡ Some e → ⊥
    none k e at = let n : ◌≡◌ {A = Option JournalEntry} None (Some e) = at in absurd cc

-- ---- a number of entries that is too large

drop_min : (es : List JournalEntry) (n m : ℕ) → m ≡ length es → drop (min n m) es ≡ drop n es
drop_min [] n m e = sym (none (min n m)) ∙ none n
  where
    none : (n : ℕ) → ◌≡◌ {A = List JournalEntry} [] (drop n [])
    none n = sym (drop_of_length-le [] {i = n} (omega arith))
drop_min (x ∷ es) zero m e = ap (λ k. drop k (x ∷ es)) (first m)
  where
    first : (m : ℕ) → min zero m ≡ zero
    first m = omega arith
drop_min (x ∷ es) (suc n) m e = ap (λ k. drop k (x ∷ es)) (next n m (length es) e) ∙ drop_min es n (m - 1) (less m (length es) e)
  where
    next : (n m k : ℕ) → m ≡ suc k → min (suc n) m ≡ suc (min n (m - 1))
    next n m k e = omega arith

    less : (m k : ℕ) → m ≡ suc k → m - 1 ≡ k
    less m k e = omega arith

pub forget_min : (s : NodeState) (forgotten_count n m : ℕ) (old new : List JournalEntry) → m ≡ length old → new ≡ drop (min n m) old
    → ◌≡◌ {A = BookState} (record { node = s; forgotten_count = forgotten_count + min n m; journal = new }) (book_after_forget n (record { node = s; forgotten_count = forgotten_count; journal = old }))
forget_min s forgotten_count n m old new e f = λ j. record { node = s; forgotten_count = forgotten_count + min n (e j); journal = (f ∙ drop_min old n m e) j }

-- what a book may have forgotten after it forgot its `n` oldest entries
pub past_after_forget : (book : BookState) (n : ℕ) (past : List JournalEntry) → IsPast book past
    → (more : List JournalEntry) × IsPast (book_after_forget n book) more × (past ++ book.journal ≡ more ++ drop n book.journal)
past_after_forget book n past h =
    let same : past ++ book.journal ≡ (past ++ take n book.journal) ++ drop n book.journal =
    ap (λ (es : List JournalEntry). past ++ es) (sym (take-append-drop n book.journal)) ∙ sym (append_assoc past (take n book.journal) (drop n book.journal)) in (
      past ++ take n book.journal,
      record { count = counted past book.journal h.count; leads = subst (λ (es : List JournalEntry). LeadsTo (unused_node book.node.start) es book.node) same h.leads },
      same,
    )
  where
    counted : (past old : List JournalEntry) → length past ≡ book.forgotten_count → length (past ++ take n old) ≡ book.forgotten_count + min n (length old)
    counted past old p =
        let a : length (past ++ take n old) ≡ length past + length (take n old) = simp length-append in
        let b : length (take n old) ≡ min n (length old) = length-take n old in
        omega arith
