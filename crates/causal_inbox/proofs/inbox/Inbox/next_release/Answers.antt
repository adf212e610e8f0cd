use Rattle.std.proofs.Common.{◌≡◌, get_or, ap, sym, subst}
use Rattle.causal_inbox.proofs.AscendingLemmas.{element_at}
use Rattle.causal_inbox.proofs.ReceivedLemmas.{next_released}
use Rattle.causal_inbox.proofs.inbox.Inbox.next_release.Goals as goal

pub returns : goal.returns
returns g c =
    let o = g.R.Op.Caused in
    let s = c.args.self.now.received in
    let held : c.self.inside.held.list ≡ s.held = ap (λ k. k.received.held) c.self.view_is in
    let e = element_at s.held c.in_ok-at.at c.in_ok-at.ensures.0 in (
      e.0,
      c.slice_at.ensures e.0 (subst (λ xs. e.0 ≡ get_or xs c.in_ok-at.at e.0) (sym held) e.1),
      next_released o.id o.clock s c.in_ok-at.at e.0 c.in_ok-at.ensures e.1,
    )
