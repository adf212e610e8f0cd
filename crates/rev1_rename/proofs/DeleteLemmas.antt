-- Calls that delete no message.
use Rattle.std.proofs.Common.{◌≡◌, ◌⊎◌, inl, inr, ℕ, ◌<◌, zero, suc, false, true, List, [], ◌∷◌, ◌++◌, Some, refl, sym, ap, ◌∙◌, subst, append_assoc, append-nil, slice_get, get_or, length}
use Rattle.std.proofs.lemmas.Bool.{false≢true}
use Rattle.imap_syntax.specs.declared.command.Command.{Command}
use Rattle.imap_syntax.specs.declared.command.Command.TheVariants as commands
use Rattle.replica_lock.specs.declared.outcome.Outcome.TheVariants.{Replied}
use Rattle.replica_lock.specs.Passes.{PassState}
use Rattle.imap_types.specs.Names.{is_inbox}
use Rattle.imap_node.specs.Replies.{is_done}
use Rattle.imap_node.specs.declared.reply.Reply.{Reply}
use Rattle.rev1_rename.specs.declared.exchange.RenameFault.{RenameFault}
use Rattle.std.specs.Prelude.{Result}
use Rattle.rev1_front.specs.declared.rename_plan.RenamedMailbox.{RenamedMailbox}
use Rattle.rev1_rename.specs.Exchanges.{AreExchanges, Exchange, Gives, IsExchange}
use Rattle.rev1_rename.specs.Steps.{AreCreations, AreDeletionsOf, DeleteNoMessages, DeleteNothing, DeletesNoMessage, IsAmong, IsAtMostDelete, IsDeletion, IsEmptying, IsNew, MoveNothing, WasEmptied, done, is_delete, is_move}
use Rattle.rev1_rename.proofs.CallLemmas.{AtMostOne, delete_nothing_append, exchanges_append, given_any, given_ok}
use Rattle.rev1_rename.proofs.PartLemmas.{among_at, only_among}

module _ (ms : List RenamedMailbox) where
  -- no DELETE
  no_delete : (before : List Exchange) (command : Command) → is_delete command ≡ false → DeletesNoMessage ms before command
  no_delete before command h name e = absurd (false≢true (sym h ∙ ap is_delete e))

  pub nothing_deleted : (before calls : List Exchange) → DeleteNothing calls → DeleteNoMessages ms before calls
  nothing_deleted before [] h = tt
  nothing_deleted before (call ∷ calls) h = (no_delete before call.command h.0, nothing_deleted (before ++ call ∷ []) calls h.1)

  pub safe_append : (before xs ys : List Exchange) → DeleteNoMessages ms before xs → DeleteNoMessages ms (before ++ xs) ys → DeleteNoMessages ms before (xs ++ ys)
  safe_append before [] ys h k = subst (λ (b : List Exchange). DeleteNoMessages ms b ys) (append-nil before) k
  safe_append before (x ∷ xs) ys h k =
      (h.0, safe_append (before ++ x ∷ []) xs ys h.1 (subst (λ (b : List Exchange). DeleteNoMessages ms b ys) (sym (append_assoc before (x ∷ []) xs)) k))

  more_before : (earlier before : List Exchange) (command : Command) → DeletesNoMessage ms before command → DeletesNoMessage ms (earlier ++ before) command
  more_before earlier before command h name e = further (h name e)
    where
      further : WasEmptied ms before name ⊎ IsNew before name → WasEmptied ms (earlier ++ before) name ⊎ IsNew (earlier ++ before) name
      further (inl w) = inl (w.0, w.1, w.2, earlier ++ w.3, w.4, ap (λ (xs : List Exchange). earlier ++ xs) w.5 ∙ sym (append_assoc earlier w.3 w.4), w.6)
      further (inr n) =
          inr (earlier ++ n.0, n.1, n.2, n.3, ap (λ (xs : List Exchange). earlier ++ xs) n.4 ∙ sym (append_assoc earlier n.0 (record { command = commands.Create name; outcome = n.2 } ∷ n.1)), n.5)

  pub safe_after : (earlier before calls : List Exchange) → DeleteNoMessages ms before calls → DeleteNoMessages ms (earlier ++ before) calls
  safe_after earlier before [] h = tt
  safe_after earlier before (call ∷ calls) h =
      (more_before earlier before call.command h.0, subst (λ (b : List Exchange). DeleteNoMessages ms b calls) (sym (append_assoc earlier before (call ∷ []))) (safe_after earlier (before ++ call ∷ []) calls h.1))

  pub safe_both : (xs ys : List Exchange) → DeleteNoMessages ms [] xs → DeleteNoMessages ms [] ys → DeleteNoMessages ms [] (xs ++ ys)
  safe_both xs ys h k = safe_append [] xs ys h (subst (λ (b : List Exchange). DeleteNoMessages ms b ys) (append-nil xs) (safe_after xs [] ys k))

-- more mailboxes
module _ (few many : List RenamedMailbox) (within : (m : RenamedMailbox) → IsAmong m few → IsAmong m many) where
  emptied_among : (before : List Exchange) (name : List ℕ) → WasEmptied few before name ⊎ IsNew before name → WasEmptied many before name ⊎ IsNew before name
  emptied_among before name (inl w) = inl (w.0, within w.0 w.1, w.2, w.3, w.4, w.5, w.6)
  emptied_among before name (inr n) = inr n

  pub safe_among : (before calls : List Exchange) → DeleteNoMessages few before calls → DeleteNoMessages many before calls
  safe_among before [] h = tt
  safe_among before (call ∷ calls) h = ((λ name e. emptied_among before name (h.0 name e)), safe_among (before ++ call ∷ []) calls h.1)

pub one_more_safe : (ms : List RenamedMailbox) (calls more : List Exchange) (i : ℕ) (m : RenamedMailbox) → i < length ms → m ≡ get_or ms i m → DeleteNoMessages ms [] calls → DeleteNoMessages (m ∷ []) [] more → DeleteNoMessages ms [] (calls ++ more)
one_more_safe ms calls more i m l at safe more_safe =
    let among : IsAmong m ms = subst (λ (x : RenamedMailbox). IsAmong x ms) (sym at) (among_at ms i m l) in
    safe_both ms calls more safe (safe_among (m ∷ []) ms (λ other a. only_among m other ms among a) [] more more_safe)

-- a mailbox that was emptied
at_most_safe : (m : RenamedMailbox) (emptying calls : List Exchange) → IsEmptying m emptying → IsAtMostDelete m.from calls → DeleteNoMessages (m ∷ []) emptying calls
at_most_safe m emptying calls e (inl none) = subst (λ (cs : List Exchange). DeleteNoMessages (m ∷ []) emptying cs) (sym none) tt
at_most_safe m emptying calls e (inr one) =
    subst (λ (cs : List Exchange). DeleteNoMessages (m ∷ []) emptying cs) (sym one.1) ((λ name h. inl (m, (0, refl), from_is name h, [], emptying, refl, e)), tt)
  where
    from_is : (name : List ℕ) → commands.Delete m.from ≡ commands.Delete name → m.from ≡ name
    from_is name h = cc

pub emptied_then_deleted : (m : RenamedMailbox) (emptying calls : List Exchange) → IsEmptying m emptying → DeleteNothing emptying → IsAtMostDelete m.from calls → DeleteNoMessages (m ∷ []) [] (emptying ++ calls)
emptied_then_deleted m emptying calls e n d = safe_append (m ∷ []) [] emptying calls (nothing_deleted (m ∷ []) [] emptying n) (at_most_safe m emptying calls e d)

-- mailboxes that are new
creations_move_nothing : (ms : List RenamedMailbox) (calls : List Exchange) → AreCreations ms calls → MoveNothing calls
creations_move_nothing [] [] h = tt
creations_move_nothing (m ∷ ms) (call ∷ calls) h = (ap is_move h.0, creations_move_nothing ms calls h.2)
creations_move_nothing [] (call ∷ calls) h = absurd h
creations_move_nothing (m ∷ ms) [] h = absurd h

pub creations_delete_nothing : (ms : List RenamedMailbox) (calls : List Exchange) → AreCreations ms calls → DeleteNothing calls
creations_delete_nothing [] [] h = tt
creations_delete_nothing (m ∷ ms) (call ∷ calls) h = (ap is_delete h.0, creations_delete_nothing ms calls h.2)
creations_delete_nothing [] (call ∷ calls) h = absurd h
creations_delete_nothing (m ∷ ms) [] h = absurd h

created_is_new : (ms : List RenamedMailbox) (calls : List Exchange) (m : RenamedMailbox) (i : ℕ) → AreCreations ms calls → slice_get ms i ≡ Some m → IsNew calls m.to
created_is_new [] calls m i h k = cc
created_is_new (first ∷ ms) (call ∷ calls) m zero h k =
    let same : first ≡ m = cc in
    ([], calls, call.outcome, h.1, ap (λ (c : Command). record { command = c; outcome = call.outcome } ∷ calls) (h.0 ∙ ap (λ (mailbox : RenamedMailbox). commands.Create mailbox.to) same), creations_move_nothing ms calls h.2)
created_is_new (first ∷ ms) (call ∷ calls) m (suc i) h k =
    let n = created_is_new ms calls m i h.2 k in
    (call ∷ n.0, n.1, n.2, n.3, ap (λ (xs : List Exchange). call ∷ xs) n.4, n.5)
created_is_new (first ∷ ms) [] m i h k = absurd h

move_nothing_append : (xs ys : List Exchange) → MoveNothing xs → MoveNothing ys → MoveNothing (xs ++ ys)
move_nothing_append [] ys h k = k
move_nothing_append (x ∷ xs) ys h k = (h.0, move_nothing_append xs ys h.1 k)

new_after : (before rest : List Exchange) (name : List ℕ) → IsNew before name → MoveNothing rest → IsNew (before ++ rest) name
new_after before rest name n still =
    (n.0, n.1 ++ rest, n.2, n.3, ap (λ (xs : List Exchange). xs ++ rest) n.4 ∙ append_assoc n.0 (record { command = commands.Create name; outcome = n.2 } ∷ n.1) rest, move_nothing_append n.1 rest n.5 still)

pub deletions_more : (ms : List RenamedMailbox) (calls more : List Exchange) (m : RenamedMailbox) → AreDeletionsOf ms calls → IsAmong m ms → AtMostOne (commands.Delete m.to) more → AreDeletionsOf ms (calls ++ more)
deletions_more ms [] more m h a (inl none) = subst (λ (xs : List Exchange). AreDeletionsOf ms xs) (sym none) tt
deletions_more ms [] more m h a (inr one) = subst (λ (xs : List Exchange). AreDeletionsOf ms xs) (sym one.1) (m, a, refl, tt)
deletions_more ms (call ∷ calls) more m h a o = (h.0, h.1, h.2, deletions_more ms calls more m h.3 a o)

deletions_safe : (ms all : List RenamedMailbox) (creations rest calls : List Exchange) → AreCreations ms creations → MoveNothing rest → AreDeletionsOf ms calls → DeleteNoMessages all (creations ++ rest) calls
deletions_safe ms all creations rest [] c still d = tt
deletions_safe ms all creations rest (call ∷ calls) c still d = (
  (λ name h. inr (subst (λ (n : List ℕ). IsNew (creations ++ rest) n) (to_is name (sym d.2 ∙ h)) (new_after creations rest d.0.to (created_is_new ms creations d.0 d.1.0 c d.1.1) still))),
  subst (λ (b : List Exchange). DeleteNoMessages all b calls) (sym (append_assoc creations rest (call ∷ [])))
      (deletions_safe ms all creations (rest ++ call ∷ []) calls c (move_nothing_append rest (call ∷ []) still (ap is_move d.2, tt)) d.3),
)
  where
    to_is : (name : List ℕ) → commands.Delete d.0.to ≡ commands.Delete name → d.0.to ≡ name
    to_is name h = cc

-- creations that are undone
pub undone_safe : (ms all : List RenamedMailbox) (creations rest calls : List Exchange) → AreCreations ms creations → DeleteNothing rest → MoveNothing rest → AreDeletionsOf ms calls
    → DeleteNoMessages all [] ((creations ++ rest) ++ calls)
undone_safe ms all creations rest calls c n still d =
    safe_append all [] (creations ++ rest) calls
    (nothing_deleted all [] (creations ++ rest) (delete_nothing_append creations rest (creations_delete_nothing ms creations c) n))
    (deletions_safe ms all creations rest calls c still d)

-- ---- a DELETE that was given

pub at_most_of_name : (given name : List ℕ) (calls : List Exchange) → given ≡ name → AtMostOne (commands.Delete given) calls → IsAtMostDelete name calls
at_most_of_name given name calls e h = subst (λ (n : List ℕ). AtMostOne (commands.Delete n) calls) e h

pub deleted_old : (m : RenamedMailbox) (name : List ℕ) (reply : Reply) (p q : PassState) → is_inbox m.from ≡ false → name ≡ m.from → (is_done reply ≡ true) × IsExchange p (done (commands.Delete name) reply) q
    → (calls : List Exchange) × AreExchanges p calls q × IsAtMostDelete m.from calls × IsDeletion m calls
deleted_old m name reply p q other e h =
    let call = done (commands.Delete m.from) reply in
    (call ∷ [], given_ok (commands.Delete m.from) reply p q (subst (λ (n : List ℕ). IsExchange p (done (commands.Delete n) reply) q) e h.1), inr (Replied reply, refl), inr (reply, other, h.0, refl))

pub one_more_deleted : (ms : List RenamedMailbox) (calls : List Exchange) (i : ℕ) (m : RenamedMailbox) (name : List ℕ) (result : Result Reply RenameFault) (p q r : PassState) → i < length ms → m ≡ get_or ms i m → name ≡ m.to
    → AreExchanges p calls q → AreDeletionsOf ms calls → Gives q (commands.Delete name) result r → (calls : List Exchange) × AreExchanges p calls r × AreDeletionsOf ms calls
one_more_deleted ms calls i m name result p q r l at e ex are gives =
    let given = given_any (commands.Delete name) result q r gives in
    let among : IsAmong m ms = subst (λ (x : RenamedMailbox). IsAmong x ms) (sym at) (among_at ms i m l) in
    (calls ++ given.0, exchanges_append calls given.0 p q r ex given.1, deletions_more ms calls given.0 m are among (subst (λ (n : List ℕ). AtMostOne (commands.Delete n) given.0) e given.2))
