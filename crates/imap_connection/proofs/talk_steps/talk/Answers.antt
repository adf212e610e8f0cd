use Rattle.std.proofs.Common.{◌≡◌, List, [], ◌++◌, subst, sym, ap, ◌∙◌, append-nil, true≢false}
use Rattle.std.proofs.lemmas.List.{map-append}
use Rattle.imap_lex.specs.Framing.{Cut, cut_from}
use Rattle.imap_lex.specs.declared.item.Item.{Item}
use Rattle.imap_node.specs.Nodes.{IsActive, NodeState}
use Rattle.imap_connection.specs.Conversation.{BreaksOff, Converses, TimedItem, item_at, items_at}
use Rattle.imap_connection.specs.Talks.{EndsTalk, cut_at}
use Rattle.imap_connection.specs.declared.turn.Turn.{Turn}
use Rattle.imap_connection.proofs.TalkLemmas.{ends_broken_off, ends_talk, items_before_fault, no_framing, stopped_early, timed_prefix}
use Rattle.imap_connection.proofs.talk_steps.talk.Goals as goal

-- a statement about items and turns, from the one about the turns that a call added to an empty
-- list
from_none : (P : List Item → List Turn → Type 0) (items slice : List Item) (none turns : List Turn) → slice ≡ items → none ≡ [] → ((more : List Turn) × (turns ≡ none ++ more) × P slice more) → P items turns
from_none P items slice none turns e n t = subst (λ (ts : List Turn). P items ts) (sym (t.1 ∙ ap (λ ts. ts ++ t.0) n)) (subst (λ (xs : List Item). P xs t.0) e t.2)

pub returns-in-Ok-clause-err : goal.returns-in-Ok-clause-err
returns-in-Ok-clause-err c =
    let old = c.args.node.now.state in
    let new = c.take_all.new.node.state in
    let given = c.in-Ok.items.items in
    let why = c.in-Err-take_all.why in
    let cut = cut_from c.args.framer.now.limits c.args.framer.now.state c.args.piece.now in
    let broken = from_none (λ xs ts. BreaksOff why old c.args.session (items_at c.args.moment xs) ts new) given c.deref.result.now c.new-turns.result.items c.take_all.new.turns.items
    c.deref.ensures.value c.new-turns.ensures.items (c.in-Err-take_all.ensures {u = tt}).err in
    let whole : cut.0 ≡ given = ap (λ (cut : Cut). cut.0) (c.in-Ok.ensures {u = tt}).ok in
    ends_broken_off why old c.args.session c.args.framer.now.state (cut_at c.args.moment cut) (items_at c.args.moment given) c.take_all.new.turns.items new
    (timed_prefix c.args.moment given cut.0 ([], whole ∙ sym (append-nil given))) broken

pub returns-in-Ok-clause-failed : goal.returns-in-Ok-clause-failed
returns-in-Ok-clause-failed c fault e =
    let old = c.args.node.now.state in
    let new = c.take_all.new.node.state in
    let b = (c.in-Err-take_all.ensures {u = tt}).err in
    absurd (no_framing fault old c.args.session (items_at c.args.moment c.deref.result.now) b.0 new (subst (λ why. BreaksOff why old c.args.session (items_at c.args.moment c.deref.result.now) b.0 new) e b.2))

pub returns-in-Err-take_all-2-clause-err : goal.returns-in-Err-take_all-2-clause-err
returns-in-Err-take_all-2-clause-err c =
    let old = c.args.node.now.state in
    let new = c.take_all-in-Err.new.node.state in
    let given = c.in-Err.fault.items.items in
    let why = c.in-Err-take_all-2.why in
    let cut = cut_from c.args.framer.now.limits c.args.framer.now.state c.args.piece.now in
    let broken = from_none (λ xs ts. BreaksOff why old c.args.session (items_at c.args.moment xs) ts new) given c.deref-in-Err.result.now c.new-turns.result.items c.take_all-in-Err.new.turns.items
    c.deref-in-Err.ensures.value c.new-turns.ensures.items (c.in-Err-take_all-2.ensures {u = tt}).err in
    let front = items_before_fault c.in-Err.fault.why given c.args.framer.now.state c.feed.new.self.state cut (c.in-Err.ensures {u = tt}).err in
    ends_broken_off why old c.args.session c.args.framer.now.state (cut_at c.args.moment cut) (items_at c.args.moment given) c.take_all-in-Err.new.turns.items new
    (timed_prefix c.args.moment given cut.0 front) broken

pub returns-then-not-is_active-clause-ok : goal.returns-then-not-is_active-clause-ok
returns-then-not-is_active-clause-ok c =
    let old = c.args.node.now.state in
    let new = c.take_all-in-Err.new.node.state in
    let given = c.in-Err.fault.items.items in
    let over = from_none (λ xs ts. Converses old c.args.session (items_at c.args.moment xs) ts new) given c.deref-in-Err.result.now c.new-turns.result.items c.take_all-in-Err.new.turns.items
    c.deref-in-Err.ensures.value c.new-turns.ensures.items (c.in_default.ensures {u = tt}).ok in
    let stopped : IsActive new c.args.session → ⊥ = λ g. true≢false (sym (c.is_active.ensures.1 g) ∙ c.if-not-is_active.true) in
    let front = items_before_fault c.in-Err.fault.why given c.args.framer.now.state c.feed.new.self.state _ (c.in-Err.ensures {u = tt}).err in (
      subst (λ (xs : List TimedItem). Converses old c.args.session xs c.take_all-in-Err.new.turns.items new) (sym (ap (items_at c.args.moment) front.1 ∙ map-append (item_at c.args.moment) given front.0))
          (stopped_early old c.args.session (items_at c.args.moment given) (items_at c.args.moment front.0) _ _ c.requires stopped over),
      λ g. absurd (stopped g),
    )

pub returns-clause-err : goal.returns-clause-err
returns-clause-err c =
    let old = c.args.node.now.state in
    let new = c.take_all-in-Err.new.node.state in
    let given = c.in-Err.fault.items.items in
    let over = from_none (λ xs ts. Converses old c.args.session (items_at c.args.moment xs) ts new) given c.deref-in-Err.result.now c.new-turns.result.items c.take_all-in-Err.new.turns.items
    c.deref-in-Err.ensures.value c.new-turns.ensures.items (c.in_default.ensures {u = tt}).ok in
    let cut = cut_from c.args.framer.now.limits c.args.framer.now.state c.args.piece.now in
    let active : IsActive new c.args.session = c.is_active.ensures.0 c.if-not-is_active.false in
    subst (λ (n : NodeState). EndsTalk c.say_goodbye-why.result old c.args.session c.args.framer.now.state (cut_at c.args.moment cut) c.say_goodbye-why.new.turns.items n) (sym c.close.ensures)
    (ends_talk old new c.args.session c.args.moment given c.args.framer.now.state c.feed.new.self.state cut active c.say_goodbye-why.result c.in-Err.fault.why
    c.take_all-in-Err.new.turns.items c.say_goodbye-why.new.turns.items (c.in-Err.ensures {u = tt}).err over c.say_goodbye-why.ensures)
