-- Which mailboxes RENAME renames (RFC 3501, section 6.3.5).

use Rattle.std.specs.Prelude.{◌≡◌, ◌⊎◌, ℕ, ◌+◌, Bool, true, false, not, ◌&&◌, ◌||◌, List, []}
use Rattle.std.specs.Prelude.{◌∷◌, ◌++◌, length, take, drop, map, Option, Some, None}
use Rattle.std.specs.Prelude.{if◌then◌else◌}
use Rattle.std.specs.List.{filter, list_any}
use Rattle.std.specs.Str.{bytes_eq}
use Rattle.imap_types.specs.Names.{is_inbox}
use Rattle.imap_answers.specs.declared.fixed_words.Refusal.{Refusal}
use Rattle.imap_answers.specs.declared.fixed_words.Refusal.TheVariants as refusals
use Rattle.imap_query.specs.Patterns.{is_among}
use Rattle.rev1_front.specs.declared.rename_plan.RenamePlan.{RenamePlan}
use Rattle.rev1_front.specs.declared.rename_plan.RenamePlan.TheVariants as plans
use Rattle.rev1_front.specs.declared.rename_plan.RenamedMailbox.{RenamedMailbox}

-- The new name without a separator `/` (47) at its end (RFC 3501, section 6.3.3).
abbrev pub IsWithoutSeparator : List ℕ → List ℕ → Type 0
IsWithoutSeparator name front =
    (name ≡ front ++ 47 ∷ [])
    ⊎ (((other : List ℕ) → name ≡ other ++ 47 ∷ [] → ⊥) × (front ≡ name))

-- Whether a name is below another: it goes on with a separator.
abbrev pub is_below : List ℕ → List ℕ → Bool
is_below above name = bytes_eq (take (length above + 1) name) (above ++ 47 ∷ [])

-- Whether a mailbox is renamed: it has the old name, or is below it. What is below INBOX stays.
abbrev pub is_renamed : List ℕ → List ℕ → Bool
is_renamed from name = bytes_eq name from || (not (is_inbox from) && is_below from name)

-- A mailbox with the new name in place of the old one.
abbrev pub renamed_mailbox : List ℕ → List ℕ → List ℕ → RenamedMailbox
renamed_mailbox from to name =
    record { from = name; to = to ++ drop (length from) name }

-- The mailboxes that are renamed, in their order.
abbrev pub renamed_mailboxes : List ℕ → List ℕ → List (List ℕ) → List RenamedMailbox
renamed_mailboxes from to mailboxes =
    map (renamed_mailbox from to) (filter (is_renamed from) mailboxes)

-- Whether there are none.
abbrev pub are_none : List RenamedMailbox → Bool
are_none [] = true
are_none (mailbox ∷ mailboxes) = false

-- Whether a mailbox has one of the new names.
abbrev pub any_exists : List RenamedMailbox → List (List ℕ) → Bool
any_exists renamed mailboxes = list_any (λ mailbox. is_among mailboxes mailbox.to) renamed

-- Why nothing is renamed: there is no such mailbox; the new name is the old one or below it; a
-- mailbox has one of the new names. INBOX always exists.
abbrev pub rename_fault : List ℕ → List ℕ → List (List ℕ) → Option Refusal
rename_fault from to mailboxes =
    if are_none (renamed_mailboxes from to mailboxes) then Some refusals.NoSuchMailbox
    else (if bytes_eq to from || is_below from to then Some refusals.NameNotAllowed
    else (if is_inbox to || any_exists (renamed_mailboxes from to mailboxes) mailboxes
    then Some refusals.MailboxExists else None))

-- What RENAME does, by its fault, if any.
abbrev pub IsPlanFor : Option Refusal → List RenamedMailbox → RenamePlan → Type 0
IsPlanFor (Some reason) renamed plan = plan ≡ plans.Refused reason
IsPlanFor None renamed (plans.Mailboxes mailboxes) = mailboxes.items ≡ renamed
IsPlanFor None renamed (plans.Refused reason) = ⊥

-- What RENAME from one name to another does among the mailboxes that exist.
abbrev pub IsRenamePlan : List ℕ → List ℕ → List (List ℕ) → RenamePlan → Type 0
IsRenamePlan from to mailboxes plan =
    (front : List ℕ)
    × IsWithoutSeparator to front
    × IsPlanFor (rename_fault from front mailboxes) (renamed_mailboxes from front mailboxes) plan
