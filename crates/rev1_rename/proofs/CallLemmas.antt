-- Calls, one after another.
use Rattle.std.proofs.Common.{◌≡◌, ◌⊎◌, inl, inr, ℕ, false, true, List, [], ◌∷◌, ◌++◌, refl, sym, ap, ◌∙◌, subst}
use Rattle.std.specs.Prelude.{IfOk, IsErrAnd, OnErr, OnOk, Option, Some, Result, Ok, Err}
use Rattle.imap_node.specs.Replies.{is_done}
use Rattle.imap_node.specs.declared.reply.Reply.{Reply}
use Rattle.imap_syntax.specs.declared.command.Command.{Command}
use Rattle.replica_lock.specs.Passes.{IsCalledIn, PassState}
use Rattle.replica_lock.specs.declared.event.BookEvent.TheVariants as events
use Rattle.replica_lock.specs.declared.outcome.Outcome.{Outcome}
use Rattle.replica_lock.specs.declared.outcome.Outcome.TheVariants.{Replied}
use Rattle.rev1_rename.specs.Exchanges.{AreExchanges, Exchange, Gives, IsExchange}
use Rattle.rev1_rename.specs.Steps.{DeleteNothing, MoveNothing, done, is_delete, is_move}
use Rattle.rev1_rename.specs.declared.exchange.RenameFault.{RenameFault}

pub exchanges_append : (xs ys : List Exchange) (p q r : PassState) → AreExchanges p xs q → AreExchanges q ys r → AreExchanges p (xs ++ ys) r
exchanges_append [] ys p q r e h = subst (λ (s : PassState). AreExchanges s ys r) e h
exchanges_append (x ∷ xs) ys p q r e h = (e.0, e.1, exchanges_append xs ys e.0 q r e.2 h)

-- a command that was carried out
pub given_ok : (command : Command) (reply : Reply) (p q : PassState) → IsExchange p (done command reply) q → AreExchanges p (done command reply ∷ []) q
given_ok command reply p q h = (q, h, refl)

-- at most one call with a command
abbrev pub AtMostOne : Command → List Exchange → Type 0
AtMostOne command calls = (calls ≡ []) ⊎ ((outcome : Outcome) × (calls ≡ record { command = command; outcome = outcome } ∷ []))

pub given_any : (command : Command) (result : Result Reply RenameFault) (p q : PassState) → Gives p command result q
    → (calls : List Exchange) × AreExchanges p calls q × AtMostOne command calls
given_any command (Ok reply) p q h = (done command reply ∷ [], given_ok command reply p q h.1, inr (Replied reply, refl))
given_any command (Err fault) p q (inl same) = ([], same, inl refl)
given_any command (Err fault) p q (inr h) = (record { command = command; outcome = h.0 } ∷ [], (q, h.1, refl), inr (h.0, refl))

pub at_most_deletes_nothing : (command : Command) (calls : List Exchange) → is_delete command ≡ false → AtMostOne command calls → DeleteNothing calls
at_most_deletes_nothing command calls n (inl none) = subst (λ (xs : List Exchange). DeleteNothing xs) (sym none) tt
at_most_deletes_nothing command calls n (inr one) = subst (λ (xs : List Exchange). DeleteNothing xs) (sym one.1) (n, tt)

pub at_most_moves_nothing : (command : Command) (calls : List Exchange) → is_move command ≡ false → AtMostOne command calls → MoveNothing calls
at_most_moves_nothing command calls n (inl none) = subst (λ (xs : List Exchange). MoveNothing xs) (sym none) tt
at_most_moves_nothing command calls n (inr one) = subst (λ (xs : List Exchange). MoveNothing xs) (sym one.1) (n, tt)

-- an error
pub at_fault : {T E : Type 0} (r : Result T E) (Q : E → Type 0) (P : Type 0) → IsErrAnd r Q → OnOk r P
at_fault (Ok x) Q P h = absurd h
at_fault (Err e) Q P h = tt

pub at_error : {T E : Type 0} (r : Result T E) (P : Type 0) → P → OnErr r P
at_error (Ok x) P p = tt
at_error (Err e) P p = p

pub on_ok_map : {T E : Type 0} (r : Result T E) (P Q : Type 0) → OnOk r P → (P → Q) → OnOk r Q
on_ok_map (Ok x) P Q p f = f p
on_ok_map (Err e) P Q p f = tt

-- the call of an outcome
pub call_is : (command : Command) (tag : List ℕ) (moment : ℕ) (p q : PassState) → IsCalledIn p (λ n. events.Command n moment (record { tag = tag; command = command })) q
    → (outcome : Outcome) × IsExchange p (record { command = command; outcome = outcome }) q
call_is command tag moment p q h =
    let called = h.2 in
    (called.2, (tag, moment, h, ap (λ (s : PassState). s.last) called.6))

pub delete_nothing_append : (xs ys : List Exchange) → DeleteNothing xs → DeleteNothing ys → DeleteNothing (xs ++ ys)
delete_nothing_append [] ys h k = k
delete_nothing_append (x ∷ xs) ys h k = (h.0, delete_nothing_append xs ys h.1 k)

-- the result of a call
pub gives_of_call : (command : Command) (tag : List ℕ) (moment : ℕ) (p q : PassState) (result : Result Reply RenameFault) (last : Option Outcome) → IsCalledIn p (λ n. events.Command n moment (record { tag = tag; command = command })) q
    → last ≡ q.last → IfOk result (λ reply. (is_done reply ≡ true) × (last ≡ Some (Replied reply))) → Gives p command result q
gives_of_call command tag moment p q (Ok reply) last called same done = (done.0, (tag, moment, called, sym same ∙ done.1))
gives_of_call command tag moment p q (Err fault) last called same none = inr (call_is command tag moment p q called)
