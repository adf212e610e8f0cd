use Rattle.std.proofs.Common.{◌∙◌, MatchOption, ap, sym, subst}
use Rattle.mailbox_rows.specs.ListingEntries.{IsAt, Lacks, LacksAt, indexed_value}
use Rattle.mailbox_rows.proofs.IndexLemmas.{lacks_indexed, lacks_unindexed, match_weaker}
use Rattle.mailbox_rows.proofs.entry_table.EntryTableEntryList.place_of.Goals as goal

pub returns-in-Some : goal.returns-in-Some
returns-in-Some c =
    let t = c.self.inside in
    let origin = c.args.origin.now in
    subst (λ es. MatchOption c.place_with.result (Lacks origin es) (IsAt origin es)) (ap (λ x. x.entries) c.self.view_is) (match_weaker (LacksAt c.in-Some.uid origin t.list.items) (Lacks origin t.list.items) (IsAt origin t.list.items) c.place_with.result (lacks_indexed (indexed_value t.uids.entries) origin c.in-Some.uid t.list.items c.self.invariant.1.indexed (sym c.uid_of.ensures ∙ c.in-Some.is)) c.place_with.ensures)

pub returns-in-None : goal.returns-in-None
returns-in-None c =
    let t = c.self.inside in
    let origin = c.args.origin.now in
    subst (Lacks origin) (ap (λ x. x.entries) c.self.view_is) (lacks_unindexed (indexed_value t.uids.entries) origin t.list.items c.self.invariant.1.indexed (sym c.uid_of.ensures ∙ c.in-None.is))
