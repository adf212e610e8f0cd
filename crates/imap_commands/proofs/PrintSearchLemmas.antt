use Rattle.std.proofs.Common.{◌≡◌, ◌∙◌, ap, sym, subst, refl, arith, ℕ, ◌+◌, ◌≤◌, ◌<◌, ◌⊎◌, inl, inr, Bool, true, false, not, ◌&&◌, ◌||◌, List, [], ◌∷◌, ◌++◌, length, map, nat_eq, Option, Some, None, if◌then◌else◌}
use Rattle.std.proofs.lemmas.Bool.{cases_Bool, false≢true}
use Rattle.imap_answers.specs.declared.answer.Answer.TheVariants.{Search}
use Rattle.imap_answers.specs.declared.mailbox.SearchResults.{SearchResults}
use Rattle.imap_answers.specs.Printable.{AreHits, AreResults, Each, IsModSeq, IsNonzero, IsSet, IsSmall, IsTag, IsWide, IfPresent}
use Rattle.imap_syntax.specs.declared.search.SearchOption.{SearchOption}
use Rattle.imap_syntax.specs.declared.search.SearchOption.TheVariants as option
use Rattle.imap_query.specs.KeyHits.{Key, hits}
use Rattle.imap_query.specs.Search.{asks_modseq, first_hit, hit_of, hits_of_rows, hits_in, last_hit, last_shown, modseq_in, number_or_uid, number_in, results_of, modseq_of_result, asks_option, asks_all, asks_only_min_or_max, if_requested}
use Rattle.imap_query.specs.Tests.{test_holds}
use Rattle.imap_query.specs.declared.search_command.Hit.{Hit}
use Rattle.imap_query.specs.declared.viewed_message.ViewedMessage.{ViewedMessage}
use Rattle.imap_types.specs.Numbers.{AreRisingFrom, greatest}
use Rattle.mailbox_rows.specs.ListedMessage.{ListedMessage}
use Rattle.mailbox_rows.specs.RowViews.{row_of}
use Rattle.session_view.specs.Views.{AreRising}
use Rattle.session_view.specs.declared.view_entry.ViewEntry.{ViewEntry}
use Rattle.imap_commands.specs.Arguments.{OpenMailbox}
use Rattle.imap_commands.specs.Printing.{AreShowable, IsNumbered, IsPrintableReport, IsShowable}
use Rattle.imap_commands.specs.SearchCommand.{IsSearchReport, viewed_messages_from}
use Rattle.imap_commands.specs.Report.{CommandReport, report_of_answers}
use Rattle.imap_commands.proofs.NamedLemmas.{least, least_first, least_lower, least_next, rising_lower}
use Rattle.imap_commands.proofs.PrintReportLemmas.{only_printable}
use Rattle.imap_commands.proofs.PrintFetchLemmas.{each_flat, or_right}
use Rattle.imap_commands.proofs.PrintViews.{AreSmall, greatest_small, row_showable, view_small}
use Rattle.imap_syntax.specs.declared.arguments.Search.{Search as Request}

-- ---- sets of numbers

pub rising_few : (low : ℕ) (numbers : List ℕ) → AreRisingFrom low numbers → Each IsSmall numbers → low ≤ 4294967296 → low + length numbers ≤ 4294967296
rising_few low [] r s l = omega (arith, l)
rising_few low (n ∷ numbers) r s l =
    let k : n < 4294967296 = s.0 in
    let first : low ≤ n = r.0 in
    let more = rising_few (n + 1) numbers r.1 s.1 (omega (arith, k)) in
    omega (arith, more, first)

pub set_of : (n : ℕ) (numbers : List ℕ) → AreRisingFrom 1 (n ∷ numbers) → Each IsSmall (n ∷ numbers) → IsSet (n ∷ numbers)
set_of n numbers r s = record { filled = omega arith; rising = r; small = greatest_small (n ∷ numbers) s }

hits_set : (numbers : List ℕ) → AreRisingFrom 1 numbers → Each IsSmall numbers → AreHits numbers
hits_set [] r s = tt
hits_set (n ∷ numbers) r s = set_of n numbers r s

-- ---- hits

abbrev number_at : Hit → ℕ
number_at hit = hit.number

-- a hit that can be printed
abbrev IsPrintableHit : Hit → Type 0
IsPrintableHit hit = IsNonzero hit.number × IsModSeq hit.modseq

abbrev IsBoth : ViewedMessage → Type 0
IsBoth shown = IsNonzero shown.number × IsNonzero shown.uid

all_both : (n low : ℕ) (view : List ViewEntry) → 0 < n → 0 < low → n + length view ≤ 4294967296 → AreRising low view → AreSmall view → Each IsBoth (viewed_messages_from n view)
all_both n low [] p q l r s = tt
all_both n low (e ∷ es) p q l r s =
    let first : low ≤ e.uid = r.0 in
    (((p, omega (arith, l)), (omega (arith, q, first), s.0)), all_both (n + 1) (e.uid + 1) es (omega (arith, p)) (omega (arith, q)) (omega (arith, l)) r.1 s.1)

name_nonzero : (by_uid : Bool) (shown : ViewedMessage) → IsBoth shown → IsNonzero (number_or_uid by_uid shown)
name_nonzero true shown h = h.1
name_nonzero false shown h = h.0

hit_printable : (by_uid : Bool) (key : Key) (last shown : ViewedMessage) (row : Option ListedMessage) → IsBoth shown → IfPresent IsShowable row → Each IsPrintableHit (hit_of by_uid key last shown row)
hit_printable by_uid key last shown None b h = tt
hit_printable by_uid key last shown (Some row) b h =
    elim (cases_Bool (hits (test_holds last shown row) key)) [
      | inl t ↦ rw t ((name_nonzero by_uid shown b, h.modseq), tt)
      | inr f ↦ rw f tt
    ]

hits_printable : (by_uid : Bool) (key : Key) (last : ViewedMessage) (rows : List ListedMessage) (view : List ViewedMessage) → Each IsShowable rows → Each IsBoth view → Each IsPrintableHit (hits_of_rows by_uid key last rows view)
hits_printable by_uid key last rows view r b =
    each_flat IsBoth IsPrintableHit (λ shown. hit_of by_uid key last shown (row_of shown.uid rows)) view (λ shown k. hit_printable by_uid key last shown (row_of shown.uid rows) k (row_showable shown.uid rows r)) b

-- one message gives at most one hit, by its name
abbrev IsOneHit : ℕ → List Hit → Type 0
IsOneHit name matches = (matches ≡ []) ⊎ ((hit : Hit) × (matches ≡ hit ∷ []) × (hit.number ≡ name))

one_hit : (by_uid : Bool) (key : Key) (last shown : ViewedMessage) (row : Option ListedMessage) → IsOneHit (number_or_uid by_uid shown) (hit_of by_uid key last shown row)
one_hit by_uid key last shown None = inl refl
one_hit by_uid key last shown (Some row) =
    elim (cases_Bool (hits (test_holds last shown row) key)) [
      | inl t ↦ rw t (inr (record { number = number_or_uid by_uid shown; modseq = row.modseq }, refl, refl))
      | inr f ↦ rw f (inl refl)
    ]

front_rising : (by_uid : Bool) (n low uid : ℕ) (matches rest : List Hit) → low ≤ uid → IsOneHit (if by_uid then uid else n) matches → AreRisingFrom (least by_uid (n + 1) (uid + 1)) (map number_at rest)
    → AreRisingFrom (least by_uid n low) (map number_at (matches ++ rest))
front_rising by_uid n low uid matches rest l one r =
    elim one [
      | inl e ↦ rw e (rising_lower (least by_uid n low) (least by_uid (n + 1) (uid + 1)) (map number_at rest) (least_lower by_uid n low uid l) r)
      | inr h ↦
          let hit = h.0 in
          rw (h.1) (least_first by_uid n low uid hit.number h.2 l, subst (λ k. AreRisingFrom k (map number_at rest)) (least_next by_uid n uid hit.number h.2) r)
    ]

hits_rising : (by_uid : Bool) (key : Key) (last : ViewedMessage) (rows : List ListedMessage) (n low : ℕ) (view : List ViewEntry) → AreRising low view → AreRisingFrom (least by_uid n low) (map number_at (hits_of_rows by_uid key last rows (viewed_messages_from n view)))
hits_rising by_uid key last rows n low [] h = tt
hits_rising by_uid key last rows n low (e ∷ es) h =
    let shown : ViewedMessage = record { number = n; uid = e.uid } in
    front_rising by_uid n low e.uid (hit_of by_uid key last shown (row_of e.uid rows)) (hits_of_rows by_uid key last rows (viewed_messages_from (n + 1) es)) h.0 (one_hit by_uid key last shown (row_of e.uid rows))
    (hits_rising by_uid key last rows (n + 1) (e.uid + 1) es h.1)

from_one : (by_uid : Bool) (numbers : List ℕ) → AreRisingFrom (least by_uid 1 1) numbers → AreRisingFrom 1 numbers
from_one true numbers h = h
from_one false numbers h = h

numbers_small : (matches : List Hit) → Each IsPrintableHit matches → Each IsSmall (map number_at matches)
numbers_small [] h = tt
numbers_small (hit ∷ matches) h = (h.0.0.1, numbers_small matches h.1)

same_count : (matches : List Hit) → length (map number_at matches) ≡ length matches
same_count [] = refl
same_count (hit ∷ matches) = let e = same_count matches in omega (arith, e)

-- ---- the first and the last

first_hit_nonzero : (requested : Bool) (matches : List Hit) → Each IsPrintableHit matches → IfPresent IsNonzero (if_requested requested (number_in (first_hit matches)))
first_hit_nonzero false matches h = tt
first_hit_nonzero true [] h = tt
first_hit_nonzero true (hit ∷ matches) h = h.0.0

record HasLast (matches : List Hit) : Type 0 where
  hit : Hit
  is : last_hit matches ≡ Some hit
  printable : IsPrintableHit hit

has_last : (hit : Hit) (matches : List Hit) → Each IsPrintableHit (hit ∷ matches) → HasLast (hit ∷ matches)
has_last hit [] h = record { hit = hit; is = refl; printable = h.0 }
has_last hit (next ∷ matches) h = let l = has_last next matches h.1 in record { hit = l.hit; is = l.is; printable = l.printable }

last_hit_nonzero : (requested : Bool) (matches : List Hit) → Each IsPrintableHit matches → IfPresent IsNonzero (if_requested requested (number_in (last_hit matches)))
last_hit_nonzero false matches h = tt
last_hit_nonzero true [] h = tt
last_hit_nonzero true (hit ∷ matches) h = let l = has_last hit matches h in subst (λ (o : Option Hit). IfPresent IsNonzero (number_in o)) (sym l.is) l.printable.0

-- ---- the mod-sequence

greatest_wide : (matches : List Hit) → Each IsPrintableHit matches → IsWide (greatest (map (λ (hit : Hit). hit.modseq) matches))
greatest_wide [] h = omega arith
greatest_wide (hit ∷ matches) h =
    let more : greatest (map (λ (hit : Hit). hit.modseq) matches) < 18446744073709551616 = greatest_wide matches h.1 in
    let one : hit.modseq < 18446744073709551616 = h.0.1.1 in
    omega (arith, more, one)

greatest_modseq : (hit : Hit) (matches : List Hit) → Each IsPrintableHit (hit ∷ matches) → IsModSeq (greatest (map (λ (hit : Hit). hit.modseq) (hit ∷ matches)))
greatest_modseq hit matches h =
    let one : 0 < hit.modseq = h.0.1.0 in
    (omega (arith, one), greatest_wide (hit ∷ matches) h)

ends_by : (first last : Bool) (a b : Hit) → (first || last) ≡ true → IsPrintableHit a → IsPrintableHit b → IsModSeq (greatest (modseq_in (if_requested first (Some a)) ∷ modseq_in (if_requested last (Some b)) ∷ []))
ends_by true true a b e h k = let x = h.1.0 in let y = h.1.1 in let z = k.1.1 in (omega (arith, x), omega (arith, y, z))
ends_by true false a b e h k = let x = h.1.0 in let y = h.1.1 in (omega (arith, x), omega (arith, y))
ends_by false true a b e h k = let x = k.1.0 in let y = k.1.1 in (omega (arith, x), omega (arith, y))
ends_by false false a b e h k = absurd (false≢true e)

neither_requested : (all count : Bool) → (not all && not count) ≡ true → (all ≡ true) ⊎ (count ≡ true) → ⊥
neither_requested true count e h = absurd (false≢true e)
neither_requested false true e h = absurd (false≢true e)
neither_requested false false e h = elim h [ inl x ↦ absurd (false≢true x) | inr x ↦ absurd (false≢true x) ]

one_end : (options : List SearchOption) → asks_only_min_or_max options ≡ true → (asks_option option.Min options || asks_option option.Max options) ≡ true
one_end [] e = absurd (neither_requested (asks_all []) (asks_option option.Count []) e (inl refl))
one_end (option.Min ∷ options) e = refl
one_end (option.Max ∷ options) e = or_right (asks_option option.Min (option.Max ∷ options)) (asks_option option.Max (option.Max ∷ options)) refl
one_end (option.All ∷ options) e =
    absurd (neither_requested (asks_all (option.All ∷ options)) (asks_option option.Count (option.All ∷ options)) e (inl (or_right (nat_eq (length (option.All ∷ options)) 0) (asks_option option.All (option.All ∷ options)) refl)))
one_end (option.Count ∷ options) e = absurd (neither_requested (asks_all (option.Count ∷ options)) (asks_option option.Count (option.Count ∷ options)) e (inr refl))

modseq_printable : (options : List SearchOption) (hit : Hit) (matches : List Hit) → Each IsPrintableHit (hit ∷ matches) → IsModSeq (modseq_of_result options (hit ∷ matches))
modseq_printable options hit matches h =
    elim (cases_Bool (asks_only_min_or_max options)) [
      | inl t ↦
          let l = has_last hit matches h in
          rw t (subst (λ (o : Option Hit). IsModSeq (greatest (modseq_in (if_requested (asks_option option.Min options) (Some hit)) ∷ modseq_in (if_requested (asks_option option.Max options) o) ∷ []))) (sym l.is)
          (ends_by (asks_option option.Min options) (asks_option option.Max options) hit l.hit (one_end options t) h.0 l.printable))
      | inr f ↦ rw f (greatest_modseq hit matches h)
    ]

none_asked : (request : Bool) (value : ℕ) → IfPresent IsModSeq (if_requested (request && false) (Some value))
none_asked true value = tt
none_asked false value = tt

if_requested_modseq : (requested : Bool) (value : ℕ) → IsModSeq value → IfPresent IsModSeq (if_requested requested (Some value))
if_requested_modseq true value h = h
if_requested_modseq false value h = tt

if_requested_result : (request : Bool) (options : List SearchOption) (matches : List Hit) → Each IsPrintableHit matches → IfPresent IsModSeq (if_requested (request && not (nat_eq (length matches) 0)) (Some (modseq_of_result options matches)))
if_requested_result request options [] h = none_asked request (modseq_of_result options [])
if_requested_result request options (hit ∷ matches) h = if_requested_modseq (request && not (nat_eq (length (hit ∷ matches)) 0)) (modseq_of_result options (hit ∷ matches)) (modseq_printable options hit matches h)

-- ---- SEARCH

all_set : (requested : Bool) (numbers : List ℕ) → AreHits numbers → AreHits (if requested then numbers else [])
all_set true numbers h = h
all_set false numbers h = tt

if_requested_count : (requested : Bool) (count : ℕ) → IsSmall count → IfPresent IsSmall (if_requested requested (Some count))
if_requested_count true count h = h
if_requested_count false count h = tt

results_printable : (options : List SearchOption) (request : Bool) (matches : List Hit) → AreRisingFrom 1 (map number_at matches) → Each IsPrintableHit matches → AreResults (results_of options request matches)
results_printable options request matches r h =
    let small = numbers_small matches h in
    let few = rising_few 1 (map number_at matches) r small (omega arith) in
    let same = same_count matches in
    record {
      min = first_hit_nonzero (asks_option option.Min options) matches h;
      max = last_hit_nonzero (asks_option option.Max options) matches h;
      all = all_set (asks_all options) (map number_at matches) (hits_set (map number_at matches) r small);
      count = if_requested_count (asks_option option.Count options) (length matches) (omega (arith, few, same));
      modseq = if_requested_result request options matches h;
    }

pub search_printable : (mailbox : OpenMailbox) (tag : List ℕ) (request : Request) (printable : CommandReport) → IsTag tag → AreShowable mailbox.rows → IsNumbered mailbox.view → IsSearchReport mailbox tag request printable
    → IsPrintableReport printable
search_printable mailbox tag request printable t r v s =
    let rows = mailbox.rows in
    let view = mailbox.view in
    let by_uid = request.by_uid in
    let options = request.options in
    let shown = viewed_messages_from 1 view in
    let matches = hits_in by_uid s.finds.key rows shown in
    let l = view_small view v in
    let both = all_both 1 1 view (omega arith) (omega arith) (omega (arith, l)) v.rising v.small in
    let rising = from_one by_uid (map number_at matches) (hits_rising by_uid s.finds.key (last_shown shown) rows 1 1 view v.rising) in
    let results = results_printable options (asks_modseq s.finds.key) matches rising (hits_printable by_uid s.finds.key (last_shown shown) rows shown r.each both) in
    subst IsPrintableReport (sym (s.only ∙ ap (λ (matches : SearchResults). report_of_answers (Search tag by_uid matches ∷ [])) s.finds.results_are)) (only_printable (_ ∷ []) ((t, results), tt))
