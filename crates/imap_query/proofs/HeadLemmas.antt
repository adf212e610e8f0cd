-- FETCH and SEARCH by the heads of rows equal FETCH and SEARCH by the rows.
use Rattle.std.proofs.Common.{◌≡◌, ◌∙◌, ap, sym, refl, ℕ, ◌+◌, ◌<◌, Bool, true, false, not, ◌&&◌, ◌||◌, List, [], ◌∷◌, ◌++◌, length, drop, get_or, append_assoc, Option, Some, None, option_map, if◌then◌else◌, subst}
use Rattle.std.proofs.lemmas.Bool.{and_parts, false≢true}
use Rattle.std.specs.List.{fold, list_any}
use Rattle.std.specs.Prelude.{IfSome}
use Rattle.imap_types.specs.Keywords.{with_word}
use Rattle.imap_types.specs.Unions.{united_flags}
use Rattle.imap_types.specs.declared.flags.Flags.{Flags}
use Rattle.imap_types.specs.declared.version.Version.{Version}
use Rattle.imap_syntax.specs.declared.fetch.FetchItem.{FetchItem}
use Rattle.imap_syntax.specs.declared.search.SearchStep.{SearchStep}
use Rattle.imap_syntax.specs.declared.search.SearchStep.TheVariants.{Test}
use Rattle.imap_syntax.specs.declared.search.SearchTest.TheVariants.{System}
use Rattle.mailbox_rows.specs.ListedMessage.{ListedHead, ListedMessage}
use Rattle.mailbox_rows.specs.RowViews.{head_of, row_of}
use Rattle.imap_answers.specs.declared.answer.Answer.{Answer}
use Rattle.imap_answers.specs.declared.answer.Answer.TheVariants.{Fetch}
use Rattle.imap_query.specs.FetchCommand.{answer_of, asks_part, fetch_answers, is_above_changed_since, is_seen_set, items_of, parts_of, sets_seen, reports_flags, reports_modseq, if_reported}
use Rattle.imap_query.specs.Heads.{are_answerable_by_heads, flag_key, head_answer, head_hit, head_items, is_head_above_changed_since}
use Rattle.imap_query.specs.Search.{hit_of}
use Rattle.imap_query.specs.declared.fetch_command.FetchMode.{FetchMode}
use Rattle.imap_query.specs.declared.fetch_command.Part.TheVariants as part
use Rattle.imap_query.specs.declared.keys.FlagTest.{FlagTest}
use Rattle.imap_query.specs.declared.viewed_message.ViewedMessage.{ViewedMessage}
use Rattle.imap_query.proofs.HitLemmas.{drop_at}
use Rattle.imap_query.proofs.SectionLemmas.{no_sections}

off : (b : Bool) → not b ≡ true → b ≡ false
off true e = absurd (false≢true e)
off false e = refl

or_none : (b : Bool) → (b || false) ≡ b
or_none true = refl
or_none false = refl

none_marked : (writable seen sets : Bool) → sets ≡ false → (writable && (not seen && sets)) ≡ false
none_marked true true sets e = refl
none_marked true false sets e = e
none_marked false seen sets e = refl

head_above_same : (since : Option ℕ) (row : ListedMessage) → is_head_above_changed_since since (head_of row) ≡ is_above_changed_since since row
head_above_same None row = refl
head_above_same (Some modseq) row = refl

flags_alike : (items : List FetchItem) (mode : FetchMode) (row : ListedMessage) → list_any sets_seen items ≡ false → asks_part part.Flags items ≡ reports_flags items mode row
flags_alike items mode row n = sym (ap (λ b. asks_part part.Flags items || b) (none_marked mode.writable row.flags.seen (list_any sets_seen items) n) ∙ or_none (asks_part part.Flags items))

items_alike : (items : List FetchItem) (mode : FetchMode) (row : ListedMessage) → are_answerable_by_heads (parts_of items) ≡ true → head_items items mode (head_of row) ≡ items_of items mode row row
items_alike items mode row h =
    let date = and_parts (not (asks_part part.Date items)) _ h in
    let size = and_parts (not (asks_part part.Size items)) _ date.1 in
    let sections = and_parts (not (asks_part part.Section items)) _ size.1 in
    let no_date : None ≡ if_reported (asks_part part.Date items) row.date = ap (λ b. if_reported b row.date) (sym (off (asks_part part.Date items) date.0)) in
    let no_size : None ≡ if_reported (asks_part part.Size items) (length row.text) = ap (λ b. if_reported b (length row.text)) (sym (off (asks_part part.Size items) size.0)) in
    let none = no_sections row.text items (off (asks_part part.Section items) sections.0) in
    let flags = flags_alike items mode row (off (list_any sets_seen items) sections.1) in
    λ i. record {
      uid = if_reported (mode.by_uid || asks_part part.Uid items) row.uid;
      flags = if_reported (flags i) row.flags;
      date = no_date i;
      size = no_size i;
      modseq = if_reported (reports_modseq items mode (flags i)) row.modseq;
      sections = none i;
    }

answer_alike : (items : List FetchItem) (mode : FetchMode) (shown : ViewedMessage) (o : Option ListedMessage) → are_answerable_by_heads (parts_of items) ≡ true → head_answer items mode shown (option_map head_of o) ≡ answer_of items mode shown o o
answer_alike items mode shown None h = refl
answer_alike items mode shown (Some row) h =
    λ i. if head_above_same mode.changed_since row i then Fetch shown.number (items_alike items mode row h i) ∷ [] else []

-- FETCH of one further message.
pub answers_drop_next : (items : List FetchItem) (mode : FetchMode) (rows : List ListedMessage) (named : List ViewedMessage) (k : ℕ) (d : ViewedMessage) (result new total : List Answer) → are_answerable_by_heads (parts_of items) ≡ true → k < length named
    → new ≡ result ++ head_answer items mode (get_or named k d) (option_map head_of (row_of (get_or named k d).uid rows))
    → result ++ fetch_answers items mode rows rows (drop k named) ≡ total → new ++ fetch_answers items mode rows rows (drop (k + 1) named) ≡ total
answers_drop_next items mode rows named k d result new total h l n i =
    let shown = get_or named k d in
    let rest = fetch_answers items mode rows rows (drop (k + 1) named) in
    ap (λ xs. xs ++ rest) (n ∙ ap (λ xs. result ++ xs) (answer_alike items mode shown (row_of shown.uid rows) h))
    ∙ append_assoc result (answer_of items mode shown (row_of shown.uid rows) (row_of shown.uid rows)) rest
    ∙ ap (λ xs. result ++ fetch_answers items mode rows rows xs) (sym (drop_at named k d l))
    ∙ i

-- A hit by the head of a row is a hit by the row.
pub hit_alike : (by_uid : Bool) (test : FlagTest) (last shown : ViewedMessage) (o : Option ListedMessage) → head_hit by_uid test shown (option_map head_of o) ≡ hit_of by_uid (flag_key test) last shown o
hit_alike by_uid test last shown None = refl
hit_alike by_uid test last shown (Some row) = refl

-- The steps of a flag test.
pub flag_steps : (result : Option FlagTest) (test : FlagTest) (steps : List SearchStep) → result ≡ Some test → IfSome result (λ t. steps ≡ Test (System t.flag t.is_set) ∷ []) → steps ≡ Test (System test.flag test.is_set) ∷ []
flag_steps result test steps e h = subst (λ (o : Option FlagTest). IfSome o (λ t. steps ≡ Test (System t.flag t.is_set) ∷ [])) e h

-- The flags of one version without keywords.
abbrev pub plain : Flags → Flags
plain flags = record { answered = flags.answered; flagged = flags.flagged; deleted = flags.deleted; seen = flags.seen; draft = flags.draft; keywords = [] }

one_plain : (version : Version) → version.flags.keywords ≡ [] → plain version.flags ≡ united_flags (version ∷ [])
one_plain version k = λ i. record {
  answered = sym (or_none version.flags.answered) i;
  flagged = sym (or_none version.flags.flagged) i;
  deleted = sym (or_none version.flags.deleted) i;
  seen = sym (or_none version.flags.seen) i;
  draft = sym (or_none version.flags.draft) i;
  keywords = sym (ap (λ (ws : List (List ℕ)). fold (λ done word. with_word word done) [] (ws ++ [])) k) i;
}

pub plain_united : (versions : List Version) (version : Version) → versions ≡ version ∷ [] → version.flags.keywords ≡ [] → plain version.flags ≡ united_flags versions
plain_united versions version e k = one_plain version k ∙ ap united_flags (sym e)
