use Rattle.std.proofs.Common.{◌≡◌, ◌∙◌, false, get_or, ap, sym, subst}
use Rattle.std.specs.List.{slice_get}
use Rattle.std.proofs.lemmas.Option.{get_or_from_slice_get, slice_get-get_or}
use Rattle.mailbox_rows.specs.declared.entry.ListingEntry.{ListingEntry}
use Rattle.mailbox_rows.specs.ListingEntries.{is_id}
use Rattle.mailbox_rows.proofs.IndexLemmas.{get_at_edge, is_id_sym, lacks_at}
use Rattle.mailbox_rows.proofs.entry_search.place_with.Goals as goal

pub returns-else-eq : goal.returns-else-eq
returns-else-eq g c =
    let es = g.L.EntryPlaces.entries c.args.list.now in
    let n = c.first_place_from-place.result in
    let x = c.in-Some.entry in
    let other : is_id c.args.origin.now x.origin ≡ false = is_id_sym x.origin c.args.origin.now (sym c.eq.ensures ∙ c.if-eq.false) in
    lacks_at c.args.uid c.args.origin.now es (λ k d inside same.
    let here : get_or es k d ≡ x = ap (λ j. get_or es j d) (get_at_edge c.args.uid es n c.requires c.first_place_from-place.ensures.within c.first_place_from-place.ensures.edge k d inside same) ∙ get_or_from_slice_get es n x d (sym c.at.ensures ∙ c.in-Some.is) in
    subst (λ (e : ListingEntry). is_id c.args.origin.now e.origin ≡ false) (sym here) other)

pub returns-in-None : goal.returns-in-None
returns-in-None g c =
    let es = g.L.EntryPlaces.entries c.args.list.now in
    let n = c.first_place_from-place.result in
    lacks_at c.args.uid c.args.origin.now es (λ k d inside same.
    let listed = ap (slice_get es) (get_at_edge c.args.uid es n c.requires c.first_place_from-place.ensures.within c.first_place_from-place.ensures.edge k d inside same) in
    absurd (cc (slice_get-get_or es k d inside, listed, sym c.at.ensures ∙ c.in-None.is)))
