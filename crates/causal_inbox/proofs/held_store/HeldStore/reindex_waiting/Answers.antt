use Rattle.std.proofs.Common.{◌≡◌, ◌∷◌, List, Some, length, slice_get, refl, ap, subst, sym, ◌∙◌, arith}
use Rattle.merge_laws.specs.Orders.{IsIn}
use Rattle.causal_inbox.specs.declared.cause_index.CauseEntry.{CauseEntry}
use Rattle.causal_inbox.specs.Inbox.{AreAscending}
use Rattle.causal_inbox.specs.CauseIndex.{AreApart, AreIndexed, IsCauseIndex, HeldState}
use Rattle.causal_inbox.proofs.CauseCountLemmas.{count_within, moved_count, moved_indexed, none_counted, under_count, unwoken}
use Rattle.causal_inbox.proofs.held_store.HeldStore.reindex_waiting.Goals as goal

pub loop-init : goal.loop-init
loop-init g c =
    let w = count_within (Some c.args.id) c.args.self.now.entries in
    let e = c.len-end.ensures in
    let v = ap (λ (h : HeldState _). length h.entries) c.self.view_is in
    record {
      list = refl;
      cause = refl;
      indexed = λ woken applied k h p f. f;
      count = λ applied k h p. omega (arith, w, e, v);
    }

pub returns-in-None-clause-indexed : goal.returns-in-None-clause-indexed
returns-in-None-clause-indexed g c = λ woken applied k h p f.
    let o = g.O.Caused in
    unwoken o.id o.clock c.args.id woken applied c.loop.self.list c.loop.self.entries (c.loop.invariant.indexed woken applied k h p f)
    (λ x i. c.in-None.ensures {u = tt} x (subst (λ (s : HeldState _). IsIn x s.entries) (sym c.self-in-loop.view_is) i))

pub loop-preserved : goal.loop-preserved
loop-preserved g c =
    let o = g.O.Caused in
    let inv = c.loop.invariant in
    let s = c.loop.self in
    let m = c.reindex.ensures.entries in
    let is : IsCauseIndex o.id s.list s.entries = subst (λ (h : HeldState _). IsCauseIndex o.id h.list h.entries) c.self-in-loop.view_is c.self-in-loop.invariant.entries in
    let a : AreAscending o.id s.list = subst (λ (h : HeldState _). AreAscending o.id h.list) c.self-in-loop.view_is c.self-in-loop.invariant.ascending in
    let disjoint : (applied : List g.row.O.Denot) → AreApart o.id c.args.self.now.list applied → AreApart o.id s.list applied = λ applied p. subst (λ xs. AreApart o.id xs applied) (sym inv.list) p in
    record {
      list = c.reindex.ensures.list ∙ inv.list;
      cause = refl;
      indexed = λ woken applied k h p f.
          subst (λ xs. AreIndexed o.id o.clock (c.args.id ∷ woken) applied xs c.reindex.new.self.entries) (sym c.reindex.ensures.list)
          (moved_indexed o.id o.clock c.args.clock.now (c.args.id ∷ woken) applied s.list c.in-Some.at s.entries c.reindex.new.self.entries a is m k (disjoint applied p) (inv.indexed woken applied k h p f));
      count = λ applied k h p.
          let under : (f : CauseEntry) → slice_get s.entries c.in-Some.at ≡ Some f → f.cause ≡ Some c.args.id = λ f at. (c.in-Some.ensures {u = tt}).1 f (ap (λ (x : HeldState _). slice_get x.entries c.in-Some.at) c.self-in-loop.view_is ∙ at) in
          let n = moved_count o.id o.clock c.args.clock.now c.args.id applied s.list c.in-Some.at s.entries c.reindex.new.self.entries m k (disjoint applied p) h under in
          let b = inv.count applied k h p in
          omega (arith, n, b);
    }

pub returns-clause-indexed : goal.returns-clause-indexed
returns-clause-indexed g c = λ woken applied k h p f.
    let o = g.O.Caused in
    let b = c.loop.invariant.count applied k h p in
    let t = c.loop-test.false in
    unwoken o.id o.clock c.args.id woken applied c.loop.self.list c.loop.self.entries (c.loop.invariant.indexed woken applied k h p f)
    (none_counted (Some c.args.id) c.loop.self.entries (omega (arith, b, t)))
