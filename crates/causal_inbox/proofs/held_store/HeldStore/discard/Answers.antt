use Rattle.std.proofs.Common.{◌≡◌, ap, subst}
use Rattle.causal_inbox.specs.Inbox.{AreAscending}
use Rattle.causal_inbox.specs.CauseIndex.{HeldState}
use Rattle.causal_inbox.proofs.AscendingLemmas.{held_without_remove, held_after_remove}
use Rattle.causal_inbox.proofs.held_store.HeldStore.discard.Goals as goal

pub returns-in-Some-clause-others : goal.returns-in-Some-clause-others
returns-in-Some-clause-others g c =
    let o = g.O.Caused in
    (held_after_remove o.id c.args.self.now.list c.self.inside.list c.take_out.new.self.list c.in-Some.at c.args.id c.take_out.ensures.list (ap (λ (h : HeldState _). h.list) c.self.view_is)
    (subst (λ (h : HeldState _). AreAscending o.id h.list) c.self.view_is c.self.invariant.ascending) (c.in-Some.ensures {u = tt})).1

pub returns-in_default-clause-others : goal.returns-in_default-clause-others
returns-in_default-clause-others g c = held_without_remove g.O.Caused.id c.args.self.now.list c.self.inside.list c.args.id (ap (λ (h : HeldState _). h.list) c.self.view_is) (c.in_default.ensures {u = tt})
