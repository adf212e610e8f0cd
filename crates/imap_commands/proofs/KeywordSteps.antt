use Rattle.std.proofs.Common.{◌≡◌, ◌∙◌, ap, sym, subst, ℕ, ◌+◌, ◌≤◌, List, [], ◌∷◌, ◌++◌, length, drop, Option, Some, None}
use Rattle.std.specs.Prelude.{OnOk, Result, Ok, Err}
use Rattle.std.specs.declared.alloc.AllocError.{AllocError}
use Rattle.std.specs.List.{slice_get}
use Rattle.std.specs.Option.{option_to_list}
use Rattle.imap_query.proofs.CountLemmas.{from_place}
use Rattle.mailbox_rows.specs.ListedMessage.{ListedMessage}
use Rattle.imap_commands.specs.SelectCommand.{AreListedKeywords}
use Rattle.imap_commands.proofs.ListedKeywordLemmas.{borne, with_keywords, with_rows}
use Rattle.imap_commands.proofs.PlaceLemmas.{drop_past}

-- the keywords of the message at a place, and of those after it
pub row_read : (rows : List ListedMessage) (place : ℕ) (row : ListedMessage) (keywords : List (List ℕ)) → Some row ≡ slice_get rows place
    → with_rows (drop (place + 1) rows) (with_keywords row.flags.keywords keywords) ≡ with_rows (drop place rows) keywords
row_read rows place row keywords e =
    let from : drop place rows ≡ row ∷ drop (place + 1) rows = from_place rows place ∙ ap (λ (message : Option ListedMessage). option_to_list message ++ drop (place + 1) rows) (sym e) in
    sym (ap (λ (some : List ListedMessage). with_rows some keywords) from)

pub row_passed : (rows : List ListedMessage) (place : ℕ) (keywords : List (List ℕ)) → ◌≡◌ {A = Option ListedMessage} None (slice_get rows place)
    → with_rows (drop (place + 1) rows) keywords ≡ with_rows (drop place rows) keywords
row_passed rows place keywords e =
    let from : drop place rows ≡ drop (place + 1) rows = from_place rows place ∙ ap (λ (message : Option ListedMessage). option_to_list message ++ drop (place + 1) rows) (sym e) in
    sym (ap (λ (some : List ListedMessage). with_rows some keywords) from)

-- the keywords of the message at a place and of those after it, if memory didn't run out
pub row_added : (rows : List ListedMessage) (place : ℕ) (row : ListedMessage) (words keywords new : List (List ℕ)) (r : Result (Unit {0}) AllocError)
    → Some row ≡ slice_get rows place → words ≡ row.flags.keywords → OnOk r (new ≡ with_keywords words keywords)
    → OnOk r (with_rows (drop (place + 1) rows) new ≡ with_rows (drop place rows) keywords)
row_added rows place row words keywords new (Ok done) e w h =
    ap (with_rows (drop (place + 1) rows)) (h ∙ ap (λ (ws : List (List ℕ)). with_keywords ws keywords) w) ∙ row_read rows place row keywords e
row_added rows place row words keywords new (Err why) e w h = tt

-- after the last message they are the keywords of all messages
pub all_borne : (rows : List ListedMessage) (place : ℕ) (keywords : List (List ℕ)) → length rows ≤ place → with_rows (drop place rows) keywords ≡ with_rows rows [] → AreListedKeywords rows keywords
all_borne rows place keywords l e =
    let all : keywords ≡ with_rows rows [] = sym (ap (λ (some : List ListedMessage). with_rows some keywords) (drop_past rows place l)) ∙ e in
    subst (AreListedKeywords rows) (sym all) (borne rows)
