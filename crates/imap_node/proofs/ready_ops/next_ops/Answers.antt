use Rattle.std.proofs.Common.{◌≡◌, ℕ, ◌+◌, ◌<◌, ◌≤◌, List, ◌∷◌, length, arith, sym, ap, ◌∙◌, subst}
use Rattle.crdt_ops.specs.declared.kind.Kind.{Kind}
use Rattle.crdt_ops.specs.declared.op.Op.{Op}
use Rattle.std.proofs.lemmas.List.{nil_from_length}
use Rattle.imap_node.proofs.NextLemmas.{IsMade, made_all, made_append, made_can, made_none}
use Rattle.tags_clocks.specs.Clock.{IsRaised, count_of}
use Rattle.imap_node.proofs.ready_ops.next_ops.Goals as goal

pub loop-kind-init : goal.loop-kind-init
loop-kind-init c =
    made_none c.args.replica.now.start.replica c.args.replica.now.applied c.args.kinds.items c.into_iter-kind-iterator.result.rest.items c.in_ok-ops.ops.items c.in_ok-clock.clock c.clock.result.now
    c.into_iter-kind-iterator.ensures.into_iter_gives.0 (c.in_ok-ops.ensures {u = tt}).items (c.in_ok-clock.ensures {u = tt}) c.clock.ensures (c.requires.numbers c.clock.result.now c.clock.ensures)

pub next_op-requires-clause-can : goal.next_op-requires-clause-can
next_op-requires-clause-can c =
    let rest = c.next.new.self.rest.items in
    made_can c.args.replica.now.start.replica c.args.replica.now.applied c.args.kinds.items c.in-Some.kind rest c.loop-kind.ops.items c.loop-kind.clock c.clock.result.now
    (subst (λ (ks : List Kind). IsMade c.args.replica.now.start.replica c.args.replica.now.applied c.args.kinds.items ks c.loop-kind.ops.items c.loop-kind.clock) (c.in-Some.ensures {u = tt}).steps.0 c.loop-kind.invariant)
    c.requires.can c.clock.ensures

pub next_op-requires-clause-number : goal.next_op-requires-clause-number
next_op-requires-clause-number c =
    let fits_numbers : count_of c.loop-kind.clock c.args.replica.now.start.replica + length (c.in-Some.kind ∷ c.next.new.self.rest.items) ≤ 4294967295 =
    subst (λ (ks : List Kind). count_of c.loop-kind.clock c.args.replica.now.start.replica + length ks ≤ 4294967295) (c.in-Some.ensures {u = tt}).steps.0 c.loop-kind.invariant.fits_numbers in
    subst (λ (r : ℕ). count_of c.loop-kind.clock r < 4294967295) (sym c.id.ensures) (omega (arith, fits_numbers))

pub loop-kind-preserved : goal.loop-kind-preserved
loop-kind-preserved c =
    let r = c.args.replica.now.start.replica in
    let made = c.in_ok-op.ensures {u = tt} in
    let rest = c.next.new.self.rest.items in
    let op = c.in_ok-op.op in
    let number : c.get.result ≡ op.id.number = c.get.ensures.number ∙ ap (λ (o : Op). o.id.number) c.op.ensures.op in
    let raised : IsRaised c.loop-kind.clock r op.id.number c.raise.new.self =
    subst (λ (n : ℕ). IsRaised c.loop-kind.clock r n c.raise.new.self) number
    (subst (λ (x : ℕ). IsRaised c.loop-kind.clock x c.get.result c.raise.new.self) c.id-in-loop-kind.ensures (c.in_ok-raise.ensures {u = tt}).raised) in
    subst (λ (os : List Op). IsMade r c.args.replica.now.applied c.args.kinds.items rest os c.raise.new.self) (sym (c.in_ok-push.ensures {u = tt}).items)
    (made_append r c.args.replica.now.applied c.args.kinds.items c.in-Some.kind rest c.loop-kind.ops.items c.loop-kind.clock op c.raise.new.self
    (subst (λ (ks : List Kind). IsMade r c.args.replica.now.applied c.args.kinds.items ks c.loop-kind.ops.items c.loop-kind.clock) (c.in-Some.ensures {u = tt}).steps.0 c.loop-kind.invariant)
    made.kind made.clock (made.replica ∙ c.id.ensures) (made.number ∙ ap (λ (x : ℕ). count_of c.loop-kind.clock x + 1) c.id.ensures) c.op.ensures.sound raised)

pub returns-clause-next : goal.returns-clause-next
returns-clause-next c =
    let r = c.args.replica.now.start.replica in
    made_all r c.args.replica.now.applied c.args.kinds.items c.loop-kind.ops.items c.loop-kind.clock
    (subst (λ (ks : List Kind). IsMade r c.args.replica.now.applied c.args.kinds.items ks c.loop-kind.ops.items c.loop-kind.clock) (nil_from_length c.loop-kind.kind-iterator.rest.items (sym c.loop-kind.kind-iterator.rest.ok.0 ∙ (c.in-None.ensures {u = tt}).steps.0)) c.loop-kind.invariant)

pub returns-clause-sound : goal.returns-clause-sound
returns-clause-sound c = c.loop-kind.invariant.sound
