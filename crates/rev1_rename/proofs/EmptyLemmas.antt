-- Calls that empty a mailbox.
use Rattle.std.proofs.Common.{◌≡◌, ◌⊎◌, inl, inr, ℕ, false, true, List, [], ◌∷◌, ◌++◌, refl, sym, ap, ◌∙◌, subst}
use Rattle.imap_types.specs.declared.sequence_set.SequenceRange.{SequenceRange}
use Rattle.imap_syntax.specs.declared.command.Command.{Command}
use Rattle.imap_syntax.specs.declared.command.Command.TheVariants as commands
use Rattle.imap_node.specs.Replies.{is_done}
use Rattle.imap_node.specs.declared.reply.Reply.{Reply}
use Rattle.replica_lock.specs.Passes.{PassState}
use Rattle.rev1_front.specs.declared.rename_plan.RenamedMailbox.{RenamedMailbox}
use Rattle.rev1_rename.specs.Exchanges.{AreExchanges, Exchange, Gives, IsExchange, has_messages}
use Rattle.rev1_rename.specs.declared.exchange.RenameFault.{RenameFault}
use Rattle.std.specs.Prelude.{Result}
use Rattle.rev1_rename.specs.Steps.{DeleteNothing, IsEmptying, all_messages, done, move_all_to}
use Rattle.rev1_rename.proofs.CallLemmas.{at_most_deletes_nothing, delete_nothing_append, exchanges_append, given_any, given_ok}

pub moved_all : (name copy : List ℕ) (set : List SequenceRange) (moved : Reply) (p q : PassState) → copy ≡ name → set ≡ all_messages
    → (is_done moved ≡ true) × IsExchange p (done (commands.Move (record { by_uid = true; messages = set; name = copy })) moved) q
    → (calls : List Exchange) × AreExchanges p calls q × DeleteNothing calls × ((reply : Reply) × (is_done reply ≡ true) × (calls ≡ done (move_all_to name) reply ∷ []))
moved_all name copy set moved p q e s h =
    let same : commands.Move (record { by_uid = true; messages = set; name = copy }) ≡ move_all_to name =
    ap (λ (n : List ℕ). commands.Move (record { by_uid = true; messages = set; name = n })) e ∙ ap (λ (ranges : List SequenceRange). commands.Move (record { by_uid = true; messages = ranges; name = name })) s
    in (
      done (move_all_to name) moved ∷ [],
      given_ok (move_all_to name) moved p q (subst (λ (command : Command). IsExchange p (done command moved) q) same h.1),
      (refl, tt),
      (moved, h.0, refl),
    )

-- ---- what is given between SELECT and UNSELECT

abbrev pub IsMiddle : RenamedMailbox → Reply → List Exchange → Type 0
IsMiddle m selected middle =
    ((has_messages selected ≡ false) × (middle ≡ [])) ⊎ ((moved : Reply) × (is_done moved ≡ true) × (middle ≡ done (move_all_to m.to) moved ∷ []))

abbrev pub IsMiddleTo : RenamedMailbox → Reply → PassState → PassState → Type 0
IsMiddleTo m selected q r = (middle : List Exchange) × AreExchanges q middle r × IsMiddle m selected middle

middle_deletes_nothing : (m : RenamedMailbox) (selected : Reply) (middle : List Exchange) → IsMiddle m selected middle → DeleteNothing middle
middle_deletes_nothing m selected middle (inl none) = subst (λ (xs : List Exchange). DeleteNothing xs) (sym none.1) tt
middle_deletes_nothing m selected middle (inr one) = subst (λ (xs : List Exchange). DeleteNothing xs) (sym one.2) (refl, tt)

module _ (m : RenamedMailbox) (from : List ℕ) (selected : Reply) (p q : PassState) (e : from ≡ m.from) (h : IsExchange p (done (commands.Select from false) selected) q) where
  select_is : IsExchange p (done (commands.Select m.from false) selected) q
  select_is = subst (λ (n : List ℕ). IsExchange p (done (commands.Select n false) selected) q) e h

  pub not_moved : (r : PassState) (calls : List Exchange) → AreExchanges q calls r → DeleteNothing calls → (xs : List Exchange) × AreExchanges p xs r × DeleteNothing xs
  not_moved r calls ex n = (done (commands.Select m.from false) selected ∷ calls, (q, select_is, ex), (refl, n))

  pub not_left : (r s : PassState) (result : Result Reply RenameFault) → IsMiddleTo m selected q r → Gives r commands.Unselect result s → (xs : List Exchange) × AreExchanges p xs s × DeleteNothing xs
  not_left r s result mid gives =
      let given = given_any commands.Unselect result r s gives in
      not_moved s (mid.0 ++ given.0) (exchanges_append mid.0 given.0 q r s mid.1 given.1) (delete_nothing_append mid.0 given.0 (middle_deletes_nothing m selected mid.0 mid.2) (at_most_deletes_nothing commands.Unselect given.0 refl given.2))

  pub emptied : (r s : PassState) (left : Reply) → is_done selected ≡ true → IsMiddleTo m selected q r → (is_done left ≡ true) × IsExchange r (done commands.Unselect left) s
      → (xs : List Exchange) × AreExchanges p xs s × DeleteNothing xs × IsEmptying m xs
  emptied r s left is mid given = by_middle mid.0 mid.1 mid.2
    where
      by_middle : (middle : List Exchange) → AreExchanges q middle r → IsMiddle m selected middle → (xs : List Exchange) × AreExchanges p xs s × DeleteNothing xs × IsEmptying m xs
      by_middle middle ex (inl none) =
          let same : q ≡ r = sym (subst (λ (xs : List Exchange). AreExchanges q xs r) none.1 ex) in (
            done (commands.Select m.from false) selected ∷ done commands.Unselect left ∷ [],
            (q, select_is, (s, subst (λ (t : PassState). IsExchange t (done commands.Unselect left) s) (sym same) given.1, refl)),
            (refl, (refl, tt)),
            (selected, left, is, given.0, inl (none.0, refl)),
          )
      by_middle middle ex (inr one) =
          let moves = subst (λ (xs : List Exchange). AreExchanges q xs r) one.2 ex in (
            done (commands.Select m.from false) selected ∷ done (move_all_to m.to) one.0 ∷ done commands.Unselect left ∷ [],
            (q, select_is, (moves.0, moves.1, (s, subst (λ (t : PassState). IsExchange t (done commands.Unselect left) s) moves.2 given.1, refl))),
            (refl, (refl, (refl, tt))),
            (selected, left, is, given.0, inr (one.0, one.1, refl)),
          )
