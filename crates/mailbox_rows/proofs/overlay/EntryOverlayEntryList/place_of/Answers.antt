use Rattle.std.proofs.Common.{◌∙◌, MatchOption, ap, sym, subst}
use Rattle.mailbox_rows.specs.ListingEntries.{IsAt, Lacks, LacksAt, indexed_over}
use Rattle.mailbox_rows.proofs.IndexLemmas.{lacks_indexed, lacks_unindexed, match_weaker}
use Rattle.mailbox_rows.proofs.overlay.EntryOverlayEntryList.place_of.Goals as goal

pub returns-in-Some : goal.returns-in-Some
returns-in-Some c =
    let o = c.self.inside in
    let es = o.list.items in
    let origin = c.args.origin.now in
    let f = indexed_over o.own.entries o.stored.now.entries in
    subst (λ es. MatchOption c.place_with.result (Lacks origin es) (IsAt origin es)) (ap (λ x. x.entries) c.self.view_is) (match_weaker (LacksAt c.in-Some.uid origin es) (Lacks origin es) (IsAt origin es) c.place_with.result (lacks_indexed f origin c.in-Some.uid es c.self.invariant.1 (sym c.uid_of_origin.ensures ∙ c.in-Some.is)) c.place_with.ensures)

pub returns-in-None : goal.returns-in-None
returns-in-None c =
    let o = c.self.inside in
    let origin = c.args.origin.now in
    subst (Lacks origin) (ap (λ x. x.entries) c.self.view_is) (lacks_unindexed (indexed_over o.own.entries o.stored.now.entries) origin o.list.items c.self.invariant.1 (sym c.uid_of_origin.ensures ∙ c.in-None.is))
