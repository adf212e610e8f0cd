-- FETCH of items that don't set `\Seen`.
use Rattle.std.proofs.Common.{◌≡◌, inl, inr, ℕ, Bool, true, false, ◌&&◌, not, List, [], ◌∷◌, ◌++◌, refl, ap, ◌∙◌, Option, Some, None}
use Rattle.std.specs.List.{list_any}
use Rattle.std.proofs.lemmas.Bool.{cases_Bool}
use Rattle.crdt_ops.specs.declared.kind.Kind.{Kind}
use Rattle.imap_syntax.specs.declared.fetch.FetchItem.{FetchItem}
use Rattle.imap_query.specs.FetchCommand.{is_above_changed_since, is_seen_set, sets_seen}
use Rattle.imap_query.specs.declared.fetch_command.FetchMode.{FetchMode}
use Rattle.mailbox_rows.specs.ListedMessage.{ListedMessage}
use Rattle.imap_commands.specs.Arguments.{OpenMailbox}
use Rattle.imap_commands.specs.FetchCommand.{mode_of, seen_store, seen_stores}
use Rattle.imap_commands.specs.Report.{message_at}
use Rattle.imap_syntax.specs.declared.arguments.Fetch.{Fetch}

unmarked_row : (folder : List ℕ) (items : List FetchItem) (mode : FetchMode) (o : Option ListedMessage) → ((row : ListedMessage) → is_seen_set items mode row ≡ false) → seen_store folder items mode o ≡ []
unmarked_row folder items mode None h = refl
unmarked_row folder items mode (Some row) h =
    let no = h row in
    elim (cases_Bool (is_above_changed_since mode.changed_since row)) [
      | inl t ↦ rw t (rw no refl)
      | inr f ↦ rw f refl
    ]

unmarked : (mailbox : OpenMailbox) (request : Fetch) (numbers : List ℕ) → ((row : ListedMessage) → is_seen_set request.items (mode_of mailbox false request) row ≡ false) → [] ≡ seen_stores mailbox request numbers
unmarked mailbox request [] h = refl
unmarked mailbox request (n ∷ numbers) h =
    let none = unmarked_row mailbox.name request.items (mode_of mailbox false request) (message_at mailbox.rows mailbox.view n) h in
    rw none (unmarked mailbox request numbers h)

pub read_only_stores : (mailbox : OpenMailbox) (request : Fetch) (numbers : List ℕ) → mailbox.read_only ≡ true → [] ≡ seen_stores mailbox request numbers
read_only_stores mailbox request numbers r = unmarked mailbox request numbers (λ row. rw r refl)

pub unset_stores : (mailbox : OpenMailbox) (request : Fetch) (numbers : List ℕ) → list_any sets_seen request.items ≡ false → [] ≡ seen_stores mailbox request numbers
unset_stores mailbox request numbers s = unmarked mailbox request numbers (λ row. unset (not mailbox.read_only) row.flags.seen (list_any sets_seen request.items) s)
  where
    unset : (writable seen any : Bool) → any ≡ false → (writable && (not seen && any)) ≡ false
    unset true true any h = refl
    unset true false any h = h
    unset false seen any h = refl
