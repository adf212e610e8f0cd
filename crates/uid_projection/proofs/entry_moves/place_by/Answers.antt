use Rattle.std.proofs.Common.{◌∙◌, ap, sym}
use Rattle.std.proofs.lemmas.Option.{get_or_from_slice_get, slice_get_within}
use Rattle.mailbox_rows.specs.declared.entry.ListingEntry.{ListingEntry}
use Rattle.uid_projection.proofs.entry_moves.place_by.Goals as goal

pub returns-then-is_of : goal.returns-then-is_of
returns-then-is_of g c =
    let (e, at_place, own) = c.is_of.ensures c.if-is_of.true in
    let at = sym c.get.ensures ∙ at_place in
    record {
      within = slice_get_within _ c.args.near e at;
      has_origin = λ d. ap (λ (x : ListingEntry). x.origin) (get_or_from_slice_get _ c.args.near e d at) ∙ own;
    }
