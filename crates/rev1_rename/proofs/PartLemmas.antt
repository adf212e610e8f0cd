-- Calls for one mailbox after another, and parts of calls.
use Rattle.std.proofs.Common.{◌≡◌, ℕ, ◌+◌, ◌-◌, ◌<◌, zero, suc, true, List, [], ◌∷◌, ◌++◌, refl, sym, ap, ◌∙◌, subst, append_assoc, append-nil, get_or, length, take, drop, arith}
use Rattle.mailbox_rows.proofs.EditLemmas.{slice_get_drop}
use Rattle.imap_syntax.specs.declared.command.Command.TheVariants as commands
use Rattle.imap_node.specs.Replies.{is_done}
use Rattle.imap_node.specs.declared.reply.Reply.{Reply}
use Rattle.rev1_front.specs.declared.rename_plan.RenamedMailbox.{RenamedMailbox}
use Rattle.rev1_rename.specs.Exchanges.{Exchange}
use Rattle.rev1_rename.specs.Steps.{AreCreations, AreRenamings, IsAmong, IsRenaming, done}
use Rattle.rev1_rename.specs.Turns.{Have, between}

-- ---- one more mailbox

creations_suc : (ms : List RenamedMailbox) (calls : List Exchange) (i : ℕ) (d : RenamedMailbox) (reply : Reply) → i < length ms → AreCreations (take i ms) calls → is_done reply ≡ true
    → AreCreations (take (suc i) ms) (calls ++ done (commands.Create (get_or ms i d).to) reply ∷ [])
creations_suc [] calls i d reply l are is = absurd (omega arith)
creations_suc (m ∷ ms) [] zero d reply l are is = (refl, is, tt)
creations_suc (m ∷ ms) (call ∷ calls) zero d reply l are is = absurd are
creations_suc (m ∷ ms) [] (suc i) d reply l are is = absurd are
creations_suc (m ∷ ms) (call ∷ calls) (suc i) d reply l are is = (are.0, are.1, creations_suc ms calls i d reply (omega arith) are.2 is)

pub creations_more : (ms : List RenamedMailbox) (calls : List Exchange) (i : ℕ) (m : RenamedMailbox) (name : List ℕ) (reply : Reply) → i < length ms → m ≡ get_or ms i m → name ≡ m.to → AreCreations (take i ms) calls → is_done reply ≡ true
    → AreCreations (take (i + 1) ms) (calls ++ done (commands.Create name) reply ∷ [])
creations_more ms calls i m name reply l at e are is =
    let k : suc i ≡ i + 1 = omega arith in
    let same : (get_or ms i m).to ≡ name = sym (e ∙ ap (λ (x : RenamedMailbox). x.to) at) in
    subst (λ (n : List ℕ). AreCreations (take (i + 1) ms) (calls ++ done (commands.Create n) reply ∷ [])) same
    (subst (λ (n : ℕ). AreCreations (take n ms) (calls ++ done (commands.Create (get_or ms i m).to) reply ∷ [])) k (creations_suc ms calls i m reply l are is))

renamings_suc : (ms : List RenamedMailbox) (calls more : List Exchange) (i : ℕ) (d : RenamedMailbox) → i < length ms → AreRenamings (take i ms) calls → IsRenaming (get_or ms i d) more
    → AreRenamings (take (suc i) ms) (calls ++ more)
renamings_suc [] calls more i d l are is = absurd (omega arith)
renamings_suc (m ∷ ms) calls more zero d l are is = (more, [], is, refl, ap (λ (xs : List Exchange). xs ++ more) are ∙ sym (append-nil more))
renamings_suc (m ∷ ms) calls more (suc i) d l are is =
    (are.0, are.1 ++ more, are.2, renamings_suc ms are.1 more i d (omega arith) are.3 is, ap (λ (xs : List Exchange). xs ++ more) are.4 ∙ append_assoc are.0 are.1 more)

pub renamings_more : (ms : List RenamedMailbox) (calls more : List Exchange) (i : ℕ) (m : RenamedMailbox) → i < length ms → m ≡ get_or ms i m → AreRenamings (take i ms) calls → IsRenaming m more
    → AreRenamings (take (i + 1) ms) (calls ++ more)
renamings_more ms calls more i m l at are is =
    let k : suc i ≡ i + 1 = omega arith in
    subst (λ (n : ℕ). AreRenamings (take n ms) (calls ++ more)) k (renamings_suc ms calls more i m l are (subst (λ (x : RenamedMailbox). IsRenaming x more) at is))

-- ---- places

pub among_at : (ms : List RenamedMailbox) (i : ℕ) (d : RenamedMailbox) → i < length ms → IsAmong (get_or ms i d) ms
among_at [] i d l = absurd (omega arith)
among_at (m ∷ ms) zero d l = (0, refl)
among_at (m ∷ ms) (suc i) d l = let a = among_at ms i d (omega arith) in (suc a.0, a.1)

pub only_among : (m other : RenamedMailbox) (ms : List RenamedMailbox) → IsAmong m ms → IsAmong other (m ∷ []) → IsAmong other ms
only_among m other ms a (zero, e) = let same : m ≡ other = cc in subst (λ (x : RenamedMailbox). IsAmong x ms) same a
only_among m other ms a (suc i, e) = cc

pub among_dropped : (n : ℕ) (ms : List RenamedMailbox) (m : RenamedMailbox) → IsAmong m (drop n ms) → IsAmong m ms
among_dropped n ms m a = (n + a.0, sym (slice_get_drop n ms a.0) ∙ a.1)

-- ---- the mailboxes from one place to another

pub between_none : (n : ℕ) (ms : List RenamedMailbox) → between n n ms ≡ []
between_none n ms = let z : n - n ≡ 0 = omega arith in rw z refl

pub between_more : (n count : ℕ) (ms : List RenamedMailbox) → between n (n + count) ms ≡ take count (drop n ms)
between_more n count ms = let z : (n + count) - n ≡ count = omega arith in ap (λ (k : ℕ). take k (drop n ms)) z

-- ---- parts of calls

pub have_front : (part rest : List Exchange) → Have part (part ++ rest)
have_front part rest = ([], rest, refl)

pub have_none : (calls : List Exchange) → Have [] calls
have_none calls = ([], calls, refl)

pub have_after : (earlier part calls : List Exchange) → Have part calls → Have part (earlier ++ calls)
have_after earlier part calls h = (earlier ++ h.0, h.1, ap (λ (xs : List Exchange). earlier ++ xs) h.2 ∙ sym (append_assoc earlier (h.0 ++ part) h.1) ∙ ap (λ (xs : List Exchange). xs ++ h.1) (sym (append_assoc earlier h.0 part)))

pub have_before : (part calls later : List Exchange) → Have part calls → Have part (calls ++ later)
have_before part calls later h =
    (h.0, h.1 ++ later, ap (λ (xs : List Exchange). xs ++ later) h.2 ∙ append_assoc (h.0 ++ part) h.1 later)
