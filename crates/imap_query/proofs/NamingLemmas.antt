use Rattle.std.proofs.Common.{◌≡◌, ◌∙◌, ap, sym, refl, subst, arith, ℕ, true, false, ◌==◌, inl, inr, List, [], ◌∷◌, ◌++◌, length, map}
use Rattle.imap_answers.specs.declared.answer.Answer.{Answer}
use Rattle.imap_query.specs.ListEntries.{AreShown, names_of}
use Rattle.imap_query.specs.ListNames.{AreSubscribedNames, ListsMatching, ListsNames, name_answer, subscribed_answer}
use Rattle.imap_query.specs.Patterns.{IsIn, IsNameMatch}
use Rattle.imap_query.specs.Placing.{insert_all, shown_mailboxes}
use Rattle.imap_query.specs.declared.list_entries.ListEntry.{ListEntry}
use Rattle.imap_query.specs.declared.list_answers.ListMode.{ListMode}
use Rattle.imap_query.proofs.ListingLemmas.{IsMailboxOf, mailboxes_complete, mailboxes_sound}
use Rattle.imap_query.proofs.PlacingLemmas.{all_ascending, all_has, all_new}

-- the names of entries
record HasEntry (name : List ℕ) (entries : List ListEntry) : Type 0 where
  entry : ListEntry
  here : IsIn entry entries
  named : entry.name ≡ name

entry_named : (name : List ℕ) (entries : List ListEntry) → IsIn name (names_of entries) → HasEntry name entries
entry_named name [] h = absurd h
entry_named name (entry ∷ entries) h =
    elim h [
      | inl e ↦ record { entry = entry; here = inl refl; named = e }
      | inr t ↦ let r = entry_named name entries t in record { entry = r.entry; here = inr r.here; named = r.named }
    ]

named_entry : (entry : ListEntry) (entries : List ListEntry) → IsIn entry entries → IsIn entry.name (names_of entries)
named_entry entry [] h = absurd h
named_entry entry (other ∷ entries) h =
    elim h [
      | inl e ↦ inl (ap (λ (y : ListEntry). y.name) e)
      | inr t ↦ inr (named_entry entry entries t)
    ]

one_mailbox : (pattern : List ℕ) (names : List (List ℕ)) (x y : ListEntry) → IsMailboxOf pattern names x → IsMailboxOf pattern names y → x.name ≡ y.name → x ≡ y
one_mailbox pattern names x y h k e = λ i. record { name = e i; is_mailbox = (h.1 ∙ sym k.1) i }

-- the subscribed names that are inserted are those that match
subscribed_names_of_shown : (pattern : List ℕ) (names : List (List ℕ)) → AreSubscribedNames names pattern (names_of (insert_all (shown_mailboxes pattern names) []))
subscribed_names_of_shown pattern names =
    let P : ListEntry → Type 0 = IsMailboxOf pattern names in
    let one = one_mailbox pattern names in
    let matched = shown_mailboxes pattern names in
    record {
      ascending = all_ascending P one matched [] tt;
      exactly = λ name. (
        λ h.
            let r = entry_named name (insert_all matched []) h in
            elim (all_has P one r.entry matched [] r.here) [
              | inl t ↦ let m = mailboxes_sound pattern names r.entry t in (subst (IsNameMatch pattern) r.named m.0, subst (λ (s : List ℕ). IsIn s names) r.named m.2)
              | inr u ↦ absurd u
            ],
        λ h.
            let entry : ListEntry = record { name = name; is_mailbox = true } in
            named_entry entry (insert_all matched []) (all_new P one entry matched [] (mailboxes_sound pattern names) (λ y u. absurd u) (mailboxes_complete pattern names entry h.0 refl h.1)),
      );
    }

pub shows_root : (mode : ListMode) (reference pattern : List ℕ) (folders subscriptions : List (List ℕ)) (answers : List Answer) → length pattern ≡ 0 → ListsNames mode [] [] folders subscriptions answers → ListsNames mode reference pattern folders subscriptions answers
shows_root mode reference [] folders subscriptions answers l h = h
shows_root mode reference (octet ∷ pattern) folders subscriptions answers l h = absurd (omega arith)

pub shows_subscribed : (mode : ListMode) (reference pattern : List ℕ) (folders subscriptions : List (List ℕ)) (answers : List Answer) → (length pattern == 0) ≡ false → mode.subscribed_only ≡ true
    → answers ≡ map (subscribed_answer folders) (names_of (insert_all (shown_mailboxes (reference ++ pattern) subscriptions) [])) → ListsNames mode reference pattern folders subscriptions answers
shows_subscribed mode reference [] folders subscriptions answers l t e = absurd cc
shows_subscribed mode reference (octet ∷ pattern) folders subscriptions answers l t e =
    subst (λ only. ListsMatching only mode.return_subscribed (reference ++ octet ∷ pattern) folders subscriptions answers) (sym t)
    (names_of (insert_all (shown_mailboxes (reference ++ octet ∷ pattern) subscriptions) []), subscribed_names_of_shown (reference ++ octet ∷ pattern) subscriptions, e)

pub shows_listed : (mode : ListMode) (reference pattern : List ℕ) (folders subscriptions : List (List ℕ)) (entries : List ListEntry) (answers : List Answer) → (length pattern == 0) ≡ false → mode.subscribed_only ≡ false
    → AreShown reference pattern folders entries → answers ≡ map (name_answer mode.return_subscribed subscriptions) entries → ListsNames mode reference pattern folders subscriptions answers
shows_listed mode reference [] folders subscriptions entries answers l f h e = absurd cc
shows_listed mode reference (octet ∷ pattern) folders subscriptions entries answers l f h e =
    subst (λ only. ListsMatching only mode.return_subscribed (reference ++ octet ∷ pattern) folders subscriptions answers) (sym f) (entries, h, e)
