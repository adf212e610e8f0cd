use Rattle.std.proofs.Common.{◌≡◌, ◌∙◌, ap, sym, subst, refl, take, Some}
use Rattle.imap_types.specs.DateTimes.{IsDateTime}
use Rattle.imap_grammar.specs.Reading.{zeroed}
use Rattle.imap_grammar.proofs.DateTimeLaws.{date_made, date_none}
use Rattle.imap_grammar.proofs.append.date_time.Goals as goal

pub returns-in-Some : goal.returns-in-Some
returns-in-Some c =
    let map_read : c.zero_for_space.result ≡ zeroed (take 28 c.args.octets.now) = c.zero_for_space.ensures ∙ ap zeroed c.split_at.ensures.front in
    let known : IsDateTime (zeroed (take 28 c.args.octets.now)) = subst IsDateTime map_read (c.in-Some.ensures.exact.0 refl) in
    date_made c.args.octets.now c.in-Some.date c.if-octets-lt28.false known (c.in-Some.ensures.value ∙ map_read) ∙ ap (λ r. Some (c.in-Some.date, r)) (sym c.split_at.ensures.back)

pub returns-in-None : goal.returns-in-None
returns-in-None c =
    let map_read : c.zero_for_space.result ≡ zeroed (take 28 c.args.octets.now) = c.zero_for_space.ensures ∙ ap zeroed c.split_at.ensures.front in
    date_none c.args.octets.now c.if-octets-lt28.false (λ known. let e = c.in-None.ensures.exact.1 (subst IsDateTime (sym map_read) known) in cc)
