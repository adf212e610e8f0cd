-- Syncs of a view when nothing is listed: a full one takes all messages out, and a partial one takes none out.
use Rattle.std.specs.Prelude.{nat_lt, nat_eq}
use Rattle.std.proofs.Common.{◌≡◌, inl, inr, ℕ, suc, ◌+◌, ◌-◌, ◌<◌, Bool, false, List, [], ◌∷◌, ◌++◌, length, drop, None, Some, refl, ap, ◌∙◌, append-nil, arith}
use Rattle.std.proofs.lemmas.Bool.{cases_Bool}
use Rattle.std.proofs.lemmas.Bool.Decides.{nat_tests}
use Rattle.std.proofs.lemmas.List.{drop_more}
use Rattle.std.specs.List.{filter}
use Rattle.imap_answers.specs.declared.answer.Answer.TheVariants.{Expunge}
use Rattle.imap_types.specs.declared.flags.Flags.{Flags}
use Rattle.session_view.specs.Replay.{after_silent, with_flags_at}
use Rattle.session_view.specs.Sync.{exists_if_more, expunges, fetches_of_sync, is_listed, sync_answers, view_after_sync}
use Rattle.session_view.specs.declared.reply_replay.SilentFlags.{SilentFlags}
use Rattle.session_view.specs.declared.view_entry.ViewEntry.{ViewEntry}
use Rattle.session_view.specs.declared.view_entry.SyncKind.TheVariants.{Full, Partial}
use Rattle.session_view.proofs.LawLemmas.{ended_empties, ended_stays}

some_other : (n : ℕ) → (None ≡ Some n) → ⊥
some_other n e = absurd cc

pub full_sync_of_none : (view : List ViewEntry) → view_after_sync Full [] view ≡ []
full_sync_of_none view = ended_empties 0 None [] view (some_other 0)

pub partial_sync_of_none : (view : List ViewEntry) → view_after_sync Partial [] view ≡ view
partial_sync_of_none view = ended_stays 0 None [] view (some_other 0)

none_listed : (view : List ViewEntry) → filter (is_listed []) view ≡ []
none_listed [] = refl
none_listed (e ∷ view) = none_listed view

no_fetches : (modseq : Bool) (n : ℕ) (view : List ViewEntry) → fetches_of_sync modseq [] n view ≡ []
no_fetches modseq n [] = refl
no_fetches modseq n (e ∷ view) = no_fetches modseq (n + 1) view

no_exists : (n : ℕ) → exists_if_more n (n + 0) ≡ []
no_exists n =
    let none : nat_lt n (n + 0) ≡ false = grind (arith, nat_tests) in
    rw none refl

pub answers_of_full_sync : (modseq : Bool) (view : List ViewEntry) → sync_answers Full modseq [] view ≡ expunges [] 1 view
answers_of_full_sync modseq view = rw (none_listed view) (append-nil (expunges [] 1 view))

pub answers_of_partial_sync : (modseq : Bool) (view : List ViewEntry) → sync_answers Partial modseq [] view ≡ []
answers_of_partial_sync modseq view = rw (no_exists (length view), no_fetches modseq 1 view) refl

with_length : (view : List ViewEntry) (k : ℕ) (flags : Flags) → length (with_flags_at view k flags) ≡ length view
with_length [] k flags = refl
with_length (e ∷ view) k flags = elim (cases_Bool (nat_eq k 1)) [ inl t ↦ rw t refl | inr f ↦ rw f (ap (λ (n : ℕ). suc n) (with_length view (k - 1) flags)) ]

pub silent_length : (view : List ViewEntry) (silents : List SilentFlags) → length (after_silent view silents) ≡ length view
silent_length view [] = refl
silent_length view (s ∷ silents) = silent_length (with_flags_at view s.number s.flags) silents ∙ with_length view s.number s.flags

-- EXPUNGE of the message at place k comes after those of the later messages
pub expunges_drop : (view : List ViewEntry) (m k : ℕ) → k < length view → expunges [] m (drop k view) ≡ expunges [] (m + 1) (drop (k + 1) view) ++ Expunge m ∷ []
expunges_drop [] m k l = absurd (omega (arith, l))
expunges_drop (e ∷ view) m k l = ap (expunges [] m) (drop_more (e ∷ view) k e l)
