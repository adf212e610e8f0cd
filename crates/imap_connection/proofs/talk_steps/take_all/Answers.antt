use Rattle.std.proofs.Common.{◌≡◌, ◌+◌, ◌<◌, ◌⊎◌, inl, inr, ℕ, List, ◌∷◌, length, drop, drop-cons, add-one, get_or, subst, sym, ap, ◌∙◌, arith, false, true≢false, Bool, IsTrue, ◌↔◌, suc}
use Rattle.std.proofs.lemmas.List.{drop_all}
use Rattle.imap_lex.specs.declared.item.Item.{Item}
use Rattle.imap_connection.specs.Conversation.{BreaksOff, Converses, items_at}
use Rattle.imap_connection.proofs.TurnLemmas.{Underway, underway_next, underway_done, underway_out, underway_broken}
use Rattle.imap_connection.proofs.talk_steps.take_all.Goals as goal

-- the rest of the items begins with the current one
next_item : (items : List Item) (i : ℕ) (item : Item) → i < length items → item ≡ get_or items i item → drop i items ≡ item ∷ drop (i + 1) items
next_item items i item h e = rw add-one (drop-cons items i item h ∙ ap (λ x. x ∷ drop (suc i) items) (sym e))

pub returns-in-Err-clause-err : goal.returns-in-Err-clause-err
returns-in-Err-clause-err c =
    let items = items_at c.args.moment c.args.items.now in
    let at = next_item c.args.items.now c.loop-item.item-index c.item-item.result (omega arith) c.item-item.is in
    let u = subst (λ left. Underway c.args.node.now.state c.args.session items c.args.turns.now.items c.loop-item.node.state (items_at c.args.moment left) c.loop-item.turns.items) at c.loop-item.invariant in
    let b = underway_broken c.in-Err.why _ c.take_item.new.node.state _ _ _ c.take_item.new.turns.items u (c.in-Err.ensures {u = tt}).err in
    (b.0, b.1, subst (BreaksOff c.in-Err.why c.args.node.now.state c.args.session items b.0) (sym c.close.ensures) b.2)

pub returns-then-has_logged_out-clause-ok : goal.returns-then-has_logged_out-clause-ok
returns-then-has_logged_out-clause-ok c =
    let items = items_at c.args.moment c.args.items.now in
    let at = next_item c.args.items.now c.loop-item.item-index c.item-item.result (omega arith) c.item-item.is in
    let u = subst (λ left. Underway c.args.node.now.state c.args.session items c.args.turns.now.items c.loop-item.node.state (items_at c.args.moment left) c.loop-item.turns.items) at c.loop-item.invariant in
    let b = underway_out _ c.take_item.new.node.state _ _ _ c.take_item.new.turns.items u (c.in_default.ensures {u = tt}).ok (c.has_logged_out.ensures.0 c.if-has_logged_out.true) in
    (b.0, b.1, subst (Converses c.args.node.now.state c.args.session items b.0) (sym c.close-then-has_logged_out.ensures) b.2)

still_active : (b : Bool) (P Q : Type 0) → (IsTrue b ↔ Q) → b ≡ false → P ⊎ Q → P
still_active b P Q h f t = elim t [ inl p ↦ p | inr q ↦ absurd (true≢false (sym (h.1 q) ∙ f)) ]

pub loop-item-preserved : goal.loop-item-preserved
loop-item-preserved c =
    let items = items_at c.args.moment c.args.items.now in
    let at = next_item c.args.items.now c.loop-item.item-index c.item-item.result (omega arith) c.item-item.is in
    let u = subst (λ left. Underway c.args.node.now.state c.args.session items c.args.turns.now.items c.loop-item.node.state (items_at c.args.moment left) c.loop-item.turns.items) at c.loop-item.invariant in
    let active = still_active c.has_logged_out.result _ _ c.has_logged_out.ensures c.if-has_logged_out.false c.take_item.ensures.open in
    underway_next _ c.take_item.new.node.state _ _ _ c.take_item.new.turns.items u (c.in_default.ensures {u = tt}).ok active

pub returns-clause-ok : goal.returns-clause-ok
returns-clause-ok c =
    let none = drop_all c.loop-item.item-index c.args.items.now (omega arith) in
    underway_done _ _ (subst (λ left. Underway c.args.node.now.state c.args.session (items_at c.args.moment c.args.items.now) c.args.turns.now.items c.loop-item.node.state (items_at c.args.moment left) c.loop-item.turns.items) none c.loop-item.invariant)
