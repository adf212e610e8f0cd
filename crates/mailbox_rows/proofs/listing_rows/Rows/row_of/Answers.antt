use Rattle.std.proofs.Common.{◌≡◌, option_map, ap, subst, rules, ◌∙◌}
use Rattle.mailbox_rows.specs.RowViews.{listed_message, row_of}
use Rattle.mailbox_rows.proofs.WindowLemmas.{IsSeam, row_of_seam, if_uid, seam_at}
use Rattle.mailbox_rows.proofs.listing_rows.Rows.row_of.Goals as goal

pub returns-then-row-uid : goal.returns-then-row-uid
returns-then-row-uid c =
    let rows = c.args.self.now in
    let n = c.first_place_from.result in
    let seam = subst (λ u. IsSeam u rows n) c.from.ensures (seam_at c.from.result rows n c.first_place_from.ensures.rising c.first_place_from.ensures.within c.first_place_from.ensures.edge) in
    let changed : if_uid c.args.uid (option_map listed_message c.row_at.result) ≡ row_of c.args.uid rows = ap (if_uid c.args.uid) c.row_at.ensures ∙ row_of_seam c.args.uid 1 rows n c.first_place_from.ensures.rising seam in
    let is = ap (λ r. if_uid c.args.uid (option_map listed_message r)) c.in-Some.is in
    search (rules, changed, is)

pub returns-else-row-uid : goal.returns-else-row-uid
returns-else-row-uid c =
    let rows = c.args.self.now in
    let n = c.first_place_from.result in
    let seam = subst (λ u. IsSeam u rows n) c.from.ensures (seam_at c.from.result rows n c.first_place_from.ensures.rising c.first_place_from.ensures.within c.first_place_from.ensures.edge) in
    let changed : if_uid c.args.uid (option_map listed_message c.row_at.result) ≡ row_of c.args.uid rows = ap (if_uid c.args.uid) c.row_at.ensures ∙ row_of_seam c.args.uid 1 rows n c.first_place_from.ensures.rising seam in
    let is = ap (λ r. if_uid c.args.uid (option_map listed_message r)) c.in-Some.is in
    search (rules, changed, is)

pub returns-in-None : goal.returns-in-None
returns-in-None c =
    let rows = c.args.self.now in
    let n = c.first_place_from.result in
    let seam = subst (λ u. IsSeam u rows n) c.from.ensures (seam_at c.from.result rows n c.first_place_from.ensures.rising c.first_place_from.ensures.within c.first_place_from.ensures.edge) in
    let changed : if_uid c.args.uid (option_map listed_message c.row_at.result) ≡ row_of c.args.uid rows = ap (if_uid c.args.uid) c.row_at.ensures ∙ row_of_seam c.args.uid 1 rows n c.first_place_from.ensures.rising seam in
    let is = ap (λ r. if_uid c.args.uid (option_map listed_message r)) c.in-None.is in
    search (rules, changed, is)
