-- FETCH with CHANGEDSINCE from a listing of only the messages that changed.
use Rattle.std.proofs.Common.{◌≡◌, inl, inr, ℕ, ◌+◌, ◌<◌, ◌≤◌, true, false, nat_lt, nat_eq, List, [], ◌∷◌, ◌++◌, refl, sym, ap, ◌∙◌, arith, Option, Some, None, Ok, Err, Result, IfOk, if◌then◌else◌}
use Rattle.std.proofs.lemmas.Bool.{cases_Bool}
use Rattle.std.proofs.lemmas.Bool.Decides.{nat_tests}
use Rattle.imap_syntax.specs.declared.fetch.FetchItem.{FetchItem}
use Rattle.mailbox_rows.specs.ListedMessage.{ListedMessage}
use Rattle.mailbox_rows.specs.RowViews.{AreRisingRows, changed_since, row_of}
use Rattle.imap_query.specs.FetchCommand.{answer_of, fetch_answers, is_above_changed_since}
use Rattle.imap_query.specs.declared.fetch_command.FetchMode.{FetchMode}
use Rattle.imap_query.specs.declared.viewed_message.ViewedMessage.{ViewedMessage}

pub if_ok : {T E : Type 0} {P Q : T → Type 0} (r : Result T E) → ((x : T) → P x → Q x) → IfOk r P → IfOk r Q
if_ok (Ok x) f h = f x h
if_ok (Err e) f h = h

none_under : (uid low : ℕ) (rows : List ListedMessage) → uid < low → AreRisingRows low rows → row_of uid rows ≡ None
none_under uid low [] k h = refl
none_under uid low (row ∷ rows) k h =
    let first : low ≤ row.uid = h.0 in
    let is : nat_eq row.uid uid ≡ false = grind (arith, nat_tests) in
    rw is (none_under uid (row.uid + 1) rows (omega (arith, k, first)) h.1)

-- A message, if its mod-sequence is above this one.
abbrev above : ℕ → Option ListedMessage → Option ListedMessage
above modseq None = None
above modseq (Some row) = if nat_lt modseq row.modseq then Some row else None

row_of_changed : (modseq uid low : ℕ) (rows : List ListedMessage) → AreRisingRows low rows → row_of uid (changed_since modseq rows) ≡ above modseq (row_of uid rows)
row_of_changed modseq uid low [] h = refl
row_of_changed modseq uid low (row ∷ rows) h =
    let rest = row_of_changed modseq uid (row.uid + 1) rows h.1 in
    elim (cases_Bool (nat_eq row.uid uid)) [
      | inl same ↦
          let none : row_of uid rows ≡ None = none_under uid (row.uid + 1) rows (grind (arith, nat_tests)) h.1 in
          elim (cases_Bool (nat_lt modseq row.modseq)) [
            | inl t ↦ rw t (rw same (rw t refl))
            | inr f ↦ rw f (rw same (rw f (rest ∙ ap (above modseq) none)))
          ]
      | inr other ↦ elim (cases_Bool (nat_lt modseq row.modseq)) [
        | inl t ↦ rw t (rw other rest)
        | inr f ↦ rw f (rw other rest)
      ]
    ]

above_alike : (items : List FetchItem) (mode : FetchMode) (modseq : ℕ) (shown : ViewedMessage) (o : Option ListedMessage) → mode.changed_since ≡ Some modseq → answer_of items mode shown (above modseq o) (above modseq o) ≡ answer_of items mode shown o o
above_alike items mode modseq shown None e = refl
above_alike items mode modseq shown (Some row) e =
    elim (cases_Bool (nat_lt modseq row.modseq)) [
      | inl t ↦ rw t refl
      | inr f ↦
          let gone : is_above_changed_since mode.changed_since row ≡ false = ap (λ c. is_above_changed_since c row) e ∙ f in
          rw f (rw gone refl)
    ]

pub changed_alike : (items : List FetchItem) (mode : FetchMode) (modseq : ℕ) (rows : List ListedMessage) (named : List ViewedMessage) → mode.changed_since ≡ Some modseq → AreRisingRows 1 rows → fetch_answers items mode (changed_since modseq rows) (changed_since modseq rows) named ≡ fetch_answers items mode rows rows named
changed_alike items mode modseq rows [] e h = refl
changed_alike items mode modseq rows (shown ∷ named) e h =
    let changed = changed_since modseq rows in
    let one : answer_of items mode shown (row_of shown.uid changed) (row_of shown.uid changed) ≡ answer_of items mode shown (row_of shown.uid rows) (row_of shown.uid rows) =
    ap (λ o. answer_of items mode shown o o) (row_of_changed modseq shown.uid 1 rows h) ∙ above_alike items mode modseq shown (row_of shown.uid rows) e in
    ap (λ x. x ++ fetch_answers items mode changed changed named) one
    ∙ ap (λ x. answer_of items mode shown (row_of shown.uid rows) (row_of shown.uid rows) ++ x) (changed_alike items mode modseq rows named e h)
