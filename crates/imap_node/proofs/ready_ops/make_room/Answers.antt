use Rattle.std.proofs.Common.{◌≡◌, inr, List, [], ◌++◌, Result, Ok, Err, length, refl, sym, ap, ◌∙◌, subst}
use Rattle.std.proofs.lemmas.Bool.{eqb-true}
use Rattle.std.proofs.lemmas.List.{nil_from_length}
use Rattle.causal_inbox.specs.declared.delivery.IssueFault.{IssueFault}
use Rattle.crdt_ops.specs.declared.op.Op.{Op}
use Rattle.imap_node.specs.Operations.{CanFollow}
use Rattle.imap_node.proofs.NextLemmas.{next_applied, no_cut}
use Rattle.uid_projection.specs.declared.first_numbers.Counters.{Counters}
use Rattle.uid_projection.specs.Applied.{IsApplied}
use Rattle.imap_node.proofs.ready_ops.make_room.Goals as goal

fine_or_not : {E T X : Type 0} (r : Result T E) (t : T) (e : E) → r ≡ Ok t → r ≡ Err e → X
fine_or_not {E} {T} {X} r t e a b = let k : ◌≡◌ {A = Result T E} (Ok t) (Err e) = sym a ∙ b in absurd cc

pub returns-then-is_empty-clause-ready : goal.returns-then-is_empty-clause-ready
returns-then-is_empty-clause-ready c =
    let old = c.args.replica.now in
    let ops = c.args.ops.now in
    let none : ops ≡ [] = nil_from_length ops (eqb-true (length ops) 0 (sym c.is_empty.ensures ∙ c.if-is_empty.true)) in
    record {
      follow = record {
        causal = next_applied old.start.replica old.applied c.requires.next.0 ops c.op_list-list.ensures.sound c.op_list-list.ensures.lawful.causal c.requires.sound c.requires.next.1;
        not_exhausted = λ x. no_cut x.0 x.1 x.2 (sym none ∙ x.3);
      };
      room = λ some. absurd (some none);
    }

pub returns-in-Ok-clause-ready : goal.returns-in-Ok-clause-ready
returns-in-Ok-clause-ready c =
    let old = c.args.replica.now in
    let ops = c.args.ops.now in
    let whole : IsApplied (old.applied ++ ops) = next_applied old.start.replica old.applied c.requires.next.0 ops c.op_list-list.ensures.sound c.op_list-list.ensures.lawful.causal c.requires.sound c.requires.next.1 in
    let follow : CanFollow old.start old.applied ops = record {
      causal = whole;
      not_exhausted = λ x. fine_or_not c.ready.result _ _ c.in-Ok.is ((c.ready.ensures.exhausted whole.causal).1 x);
    } in
    record {
      follow = subst (λ (s : Counters). CanFollow s c.ready.new.self.applied ops) (sym c.ready.ensures.start) (subst (λ (os : List Op). CanFollow old.start os ops) (sym c.ready.ensures.applied) follow);
      room = λ _. (c.in-Ok.ensures {u = tt}).room;
    }

pub returns-in-Err-Exhausted-clause-err : goal.returns-in-Err-Exhausted-clause-err
returns-in-Err-Exhausted-clause-err c =
    let old = c.args.replica.now in
    let ops = c.args.ops.now in
    let whole : IsApplied (old.applied ++ ops) = next_applied old.start.replica old.applied c.requires.next.0 ops c.op_list-list.ensures.sound c.op_list-list.ensures.lawful.causal c.requires.sound c.requires.next.1 in
    inr (refl, (c.ready.ensures.exhausted whole.causal).0 (c.in-Err-Exhausted.is ∙ ap (λ (f : IssueFault). Err f) c.in-Err-Exhausted.field-0-is))
