use Rattle.std.proofs.Common.{◌≡◌, ◌∙◌, ap, sym, refl, arith, ℕ, zero, suc, ◌+◌, ◌≤◌, List, [], ◌∷◌, ◌++◌, length, map, drop, append_assoc, append-nil}
use Rattle.std.specs.List.{flat_map, slice_get}
use Rattle.std.specs.Option.{option_to_list}
use Rattle.crdt_ops.specs.declared.kind.Kind.{Kind}
use Rattle.mailbox_rows.specs.ListedMessage.{ListedMessage}
use Rattle.imap_commands.specs.ExpungeCommand.{expunge_at, expunge_of}

abbrev uids_of : List ListedMessage → List ℕ
uids_of rows = map (λ (row : ListedMessage). row.uid) rows

pub drop_past : {A : Type 0} (xs : List A) (n : ℕ) → length xs ≤ n → drop n xs ≡ []
drop_past [] zero l = refl
drop_past [] (suc n) l = refl
drop_past (x ∷ xs) zero l = absurd (omega arith)
drop_past (x ∷ xs) (suc n) l = drop_past xs n (omega arith)

expunges_from : (folder : List ℕ) (rows : List ListedMessage) (k : ℕ) → flat_map (expunge_of folder) (drop k rows) ≡ expunge_at folder (slice_get rows k) ++ flat_map (expunge_of folder) (drop (k + 1) rows)
expunges_from folder [] zero = refl
expunges_from folder [] (suc k) = let e : suc k + 1 ≡ suc (k + 1) = omega arith in rw e refl
expunges_from folder (row ∷ rows) zero = refl
expunges_from folder (row ∷ rows) (suc k) = let e : suc k + 1 ≡ suc (k + 1) = omega arith in rw e (expunges_from folder rows k)

-- one further message
pub expunges_step : (folder : List ℕ) (rows : List ListedMessage) (k : ℕ) (old new total : List Kind) → new ≡ old ++ expunge_at folder (slice_get rows k) → old ++ flat_map (expunge_of folder) (drop k rows) ≡ total
    → new ++ flat_map (expunge_of folder) (drop (k + 1) rows) ≡ total
expunges_step folder rows k old new total n t =
    let rest = flat_map (expunge_of folder) (drop (k + 1) rows) in
    ap (λ ks. ks ++ rest) n
    ∙ append_assoc old (expunge_at folder (slice_get rows k)) rest
    ∙ ap (λ ks. old ++ ks) (sym (expunges_from folder rows k))
    ∙ t

-- after the last message
pub expunges_end : (folder : List ℕ) (rows : List ListedMessage) (k : ℕ) (so_far total : List Kind) → length rows ≤ k → so_far ++ flat_map (expunge_of folder) (drop k rows) ≡ total → so_far ≡ total
expunges_end folder rows k so_far total l t =
    sym (append-nil so_far) ∙ ap (λ rs. so_far ++ flat_map (expunge_of folder) rs) (sym (drop_past rows k l)) ∙ t

uids_from : (rows : List ListedMessage) (k : ℕ) → uids_of (drop k rows) ≡ uids_of (option_to_list (slice_get rows k)) ++ uids_of (drop (k + 1) rows)
uids_from [] zero = refl
uids_from [] (suc k) = let e : suc k + 1 ≡ suc (k + 1) = omega arith in rw e refl
uids_from (row ∷ rows) zero = refl
uids_from (row ∷ rows) (suc k) = let e : suc k + 1 ≡ suc (k + 1) = omega arith in rw e (uids_from rows k)

pub uids_step : (rows : List ListedMessage) (k : ℕ) (old new total : List ℕ) → new ≡ old ++ uids_of (option_to_list (slice_get rows k)) → old ++ uids_of (drop k rows) ≡ total → new ++ uids_of (drop (k + 1) rows) ≡ total
uids_step rows k old new total n t =
    ap (λ us. us ++ uids_of (drop (k + 1) rows)) n
    ∙ append_assoc old (uids_of (option_to_list (slice_get rows k))) (uids_of (drop (k + 1) rows))
    ∙ ap (λ us. old ++ us) (sym (uids_from rows k))
    ∙ t

pub uids_end : (rows : List ListedMessage) (k : ℕ) (so_far total : List ℕ) → length rows ≤ k → so_far ++ uids_of (drop k rows) ≡ total → so_far ≡ total
uids_end rows k so_far total l t = sym (append-nil so_far) ∙ ap (λ rs. so_far ++ uids_of rs) (sym (drop_past rows k l)) ∙ t
