-- The parts of a turn, and turns, one after another.
use Rattle.std.proofs.Common.{◌≡◌, ◌⊎◌, inl, inr, ℕ, ◌+◌, false, List, [], ◌∷◌, ◌++◌, refl, sym, ap, ◌∙◌, subst, codes, drop, take}
use Rattle.std.specs.Prelude.{Result}
use Rattle.imap_node.specs.Replies.{reply_answers}
use Rattle.imap_node.specs.declared.reply.Reply.{Reply}
use Rattle.imap_syntax.specs.declared.command.Command.{Command}
use Rattle.imap_syntax.specs.declared.command.Command.TheVariants.{ListNames}
use Rattle.replica_lock.specs.Passes.{PassState}
use Rattle.rev1_front.specs.Renames.{IsRenamePlan}
use Rattle.rev1_front.specs.declared.rename_plan.RenamePlan.{RenamePlan}
use Rattle.rev1_front.specs.declared.rename_plan.RenamePlan.TheVariants.{Mailboxes}
use Rattle.rev1_front.specs.declared.rename_plan.RenamedMailbox.{RenamedMailbox}
use Rattle.rev1_rename.specs.Exchanges.{AreExchanges, Exchange, Gives, IsExchange, names_of_answers}
use Rattle.rev1_rename.specs.Steps.{AreCreations, AreRenamings, DeleteNoMessages, DeleteNothing, IsAmong, done}
use Rattle.rev1_rename.specs.Turns.{AreTurns, FindsMailboxes, Have, IsTurn, between, list_all}
use Rattle.rev1_rename.specs.declared.exchange.RenameFault.{RenameFault}
use Rattle.rev1_rename.specs.declared.work.RenameWork.{RenameWork}
use Rattle.rev1_rename.proofs.CallLemmas.{at_most_deletes_nothing, delete_nothing_append, given_any, given_ok}
use Rattle.rev1_rename.proofs.DeleteLemmas.{creations_delete_nothing, nothing_deleted, safe_among, safe_both}
use Rattle.rev1_rename.proofs.PartLemmas.{among_dropped, between_more, between_none, have_after, have_before, have_none}

-- ---- the LIST

pub listed : (reference pattern : List ℕ) (reply : Reply) (p q : PassState) → reference ≡ [] → pattern ≡ codes "*"
    → IsExchange p (done (ListNames (record { subscribed_only = false; reference = reference; pattern = pattern; return_subscribed = false })) reply) q → AreExchanges p (done list_all reply ∷ []) q
listed reference pattern reply p q e f h =
    let same : ListNames (record { subscribed_only = false; reference = reference; pattern = pattern; return_subscribed = false }) ≡ list_all =
    ap (λ (r : List ℕ). ListNames (record { subscribed_only = false; reference = r; pattern = pattern; return_subscribed = false })) e
    ∙ ap (λ (s : List ℕ). ListNames (record { subscribed_only = false; reference = []; pattern = s; return_subscribed = false })) f
    in
    given_ok list_all reply p q (subst (λ (command : Command). IsExchange p (done command reply) q) same h)

pub not_listed : (reference pattern : List ℕ) (result : Result Reply RenameFault) (p q : PassState)
    → Gives p (ListNames (record { subscribed_only = false; reference = reference; pattern = pattern; return_subscribed = false })) result q
    → (calls : List Exchange) × AreExchanges p calls q × DeleteNothing calls
not_listed reference pattern result p q h =
    let command = ListNames (record { subscribed_only = false; reference = reference; pattern = pattern; return_subscribed = false }) in
    let given = given_any command result p q h in
    (given.0, given.1, at_most_deletes_nothing command given.0 refl given.2)

pub planned : (from to : List ℕ) (names all slice : List (List ℕ)) (plan other : RenamePlan) → plan ≡ other → slice ≡ all → all ≡ names → IsRenamePlan from to slice plan → IsRenamePlan from to names other
planned from to names all slice plan other e f n h = subst (λ (p : RenamePlan). IsRenamePlan from to names p) e (subst (λ (ns : List (List ℕ)). IsRenamePlan from to ns plan) (f ∙ n) h)

-- ---- the parts of a turn

abbrev pub IsFound : RenameWork → RenameWork → List Exchange → Type 0
IsFound old new calls = (new.mailboxes ≡ old.mailboxes) ⊎ ((old.mailboxes.items ≡ []) × FindsMailboxes old new calls)

module _ (old first : RenameWork) (calls : List Exchange) (names : (first.from ≡ old.from) × (first.to ≡ old.to)) (counts : (first.created ≡ old.created) × (first.renamed ≡ old.renamed)) (n : DeleteNothing calls) (found : IsFound old first calls) where
  none_between : (a b : ℕ) (ms : List RenamedMailbox) → b ≡ a → between a b ms ≡ []
  none_between a b ms e = ap (λ (k : ℕ). between a k ms) e ∙ between_none a ms

  pub found_turn : IsTurn old first calls
  found_turn =
      record {
        names = names;
        mailboxes = found;
        created = ([], subst (λ (ms : List RenamedMailbox). AreCreations ms []) (sym (none_between old.created first.created first.mailboxes.items counts.0)) tt, have_none calls);
        renamed = ([], subst (λ (ms : List RenamedMailbox). AreRenamings ms []) (sym (none_between old.renamed first.renamed first.mailboxes.items counts.1)) refl, have_none calls);
        safe = nothing_deleted first.mailboxes.items [] calls n;
      }

  later_found : (later : RenameWork) (more : List Exchange) → later.mailboxes ≡ first.mailboxes → IsFound old first calls → IsFound old later (calls ++ more)
  later_found later more same (inl kept) = inl (same ∙ kept)
  later_found later more same (inr new) =
      let f = new.1 in
      inr (new.0, (f.0, f.1 ++ more, f.2, ap (λ (xs : List Exchange). xs ++ more) f.3, subst (λ ms. IsRenamePlan old.from old.to (names_of_answers (reply_answers f.0)) (Mailboxes ms)) (sym same) f.4))

  module _ (second : RenameWork) (creating : List Exchange) (second_names : (second.from ≡ first.from) × (second.to ≡ first.to)) (kept : (second.mailboxes ≡ first.mailboxes) × (second.renamed ≡ first.renamed))
      (creations : List Exchange) (created : AreCreations (between first.created second.created second.mailboxes.items) creations) (have : Have creations creating) (safe : DeleteNoMessages second.mailboxes.items [] creating) where
    created_from_old : AreCreations (between old.created second.created second.mailboxes.items) creations
    created_from_old = subst (λ (k : ℕ). AreCreations (between k second.created second.mailboxes.items) creations) counts.0 created

    safe_so_far : DeleteNoMessages second.mailboxes.items [] (calls ++ creating)
    safe_so_far = safe_both second.mailboxes.items calls creating (nothing_deleted second.mailboxes.items [] calls n) safe

    pub created_turn : IsTurn old second (calls ++ creating)
    created_turn =
        record {
          names = (second_names.0 ∙ names.0, second_names.1 ∙ names.1);
          mailboxes = later_found second creating kept.0 found;
          created = (creations, created_from_old, have_after calls creations creating have);
          renamed = ([], subst (λ (ms : List RenamedMailbox). AreRenamings ms []) (sym (none_between old.renamed second.renamed second.mailboxes.items (kept.1 ∙ counts.1))) refl, have_none (calls ++ creating));
          safe = safe_so_far;
        }

    pub renamed_turn : (third : RenameWork) (renaming : List Exchange) → (third.from ≡ second.from) × (third.to ≡ second.to) → (third.mailboxes ≡ second.mailboxes) × (third.created ≡ second.created) → (renamings : List Exchange)
        → AreRenamings (between second.renamed third.renamed third.mailboxes.items) renamings → Have renamings renaming → DeleteNoMessages third.mailboxes.items [] renaming → IsTurn old third (calls ++ (creating ++ renaming))
    renamed_turn third renaming third_names same renamings renamed has still =
        record {
          names = (third_names.0 ∙ second_names.0 ∙ names.0, third_names.1 ∙ second_names.1 ∙ names.1);
          mailboxes = later_found third (creating ++ renaming) (same.0 ∙ kept.0) found;
          created = (
            creations,
            subst (λ (k : ℕ). AreCreations (between old.created k third.mailboxes.items) creations) (sym same.1) (subst (λ ms. AreCreations (between old.created second.created ms.items) creations) (sym same.0) created_from_old),
            have_after calls creations (creating ++ renaming) (have_before creations creating renaming have),
          );
          renamed = (
            renamings,
            subst (λ (k : ℕ). AreRenamings (between k third.renamed third.mailboxes.items) renamings) (kept.1 ∙ counts.1) renamed,
            have_after calls renamings (creating ++ renaming) (have_after creating renamings renaming has),
          );
          safe = safe_both third.mailboxes.items calls (creating ++ renaming) (nothing_deleted third.mailboxes.items [] calls n)
              (safe_both third.mailboxes.items creating renaming (subst (λ ms. DeleteNoMessages ms.items [] creating) (sym same.0) safe) still);
        }

-- ---- creations and renamings of those that are left

pub creations_between : (n count : ℕ) (ms left : List RenamedMailbox) (calls : List Exchange) → left ≡ drop n ms → AreCreations (take count left) calls → AreCreations (between n (n + count) ms) calls
creations_between n count ms left calls e are =
    subst (λ (xs : List RenamedMailbox). AreCreations xs calls) (sym (between_more n count ms)) (subst (λ (xs : List RenamedMailbox). AreCreations (take count xs) calls) e are)

pub renamings_between : (n count : ℕ) (ms left : List RenamedMailbox) (calls : List Exchange) → left ≡ drop n ms → AreRenamings (take count left) calls → AreRenamings (between n (n + count) ms) calls
renamings_between n count ms left calls e are =
    subst (λ (xs : List RenamedMailbox). AreRenamings xs calls) (sym (between_more n count ms)) (subst (λ (xs : List RenamedMailbox). AreRenamings (take count xs) calls) e are)

pub no_creations : (n : ℕ) (ms : List RenamedMailbox) → AreCreations (between n n ms) []
no_creations n ms = subst (λ (xs : List RenamedMailbox). AreCreations xs []) (sym (between_none n ms)) tt

pub left_safe : (n : ℕ) (ms left : List RenamedMailbox) (calls : List Exchange) → left ≡ drop n ms → DeleteNoMessages left [] calls → DeleteNoMessages ms [] calls
left_safe n ms left calls e safe = safe_among left ms (λ m a. among_dropped n ms m (subst (λ (xs : List RenamedMailbox). IsAmong m xs) e a)) [] calls safe

pub created_safe : (ms made : List RenamedMailbox) (creations rest : List Exchange) → AreCreations made creations → DeleteNothing rest → DeleteNoMessages ms [] (creations ++ rest)
created_safe ms made creations rest are n = nothing_deleted ms [] (creations ++ rest) (delete_nothing_append creations rest (creations_delete_nothing made creations are) n)

pub no_turns : (w : RenameWork) (p : PassState) → AreTurns w p [] w p
no_turns w p = (refl, refl)

pub turns_more : (turns : List (List Exchange)) (calls : List Exchange) (w v u : RenameWork) (p q r : PassState) → AreTurns w p turns v q → AreExchanges q calls r → IsTurn v u calls
    → AreTurns w p (turns ++ calls ∷ []) u r
turns_more [] calls w v u p q r h e t =
    (u, r, subst (λ (s : PassState). AreExchanges s calls r) h.1 e, subst (λ (x : RenameWork). IsTurn x u calls) h.0 t, (refl, refl))
turns_more (first ∷ turns) calls w v u p q r h e t = (h.0, h.1, h.2, h.3, turns_more turns calls h.0 v u h.1 q r h.4 e t)
