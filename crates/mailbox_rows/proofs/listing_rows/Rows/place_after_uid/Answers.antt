use Rattle.std.proofs.Common.{◌+◌, subst}
use Rattle.mailbox_rows.proofs.WindowLemmas.{IsSeam, beyond_seam, seam_at}
use Rattle.mailbox_rows.proofs.listing_rows.Rows.place_after_uid.Goals as goal

pub returns-clause-beyond : goal.returns-clause-beyond
returns-clause-beyond c =
    let rows = c.args.self.now in
    let n = c.first_place_from.result in
    let seam = seam_at (c.from.result + 1) rows n c.first_place_from.ensures.rising c.first_place_from.ensures.within c.first_place_from.ensures.edge in
    beyond_seam c.args.uid rows n c.first_place_from.ensures.within (subst (λ u. IsSeam (u + 1) rows n) c.from.ensures seam)
