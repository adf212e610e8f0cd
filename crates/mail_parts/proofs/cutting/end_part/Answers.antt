use Rattle.std.proofs.Common.{◌≡◌, ◌∙◌, ap, arith, get_or, rules, set}
use Rattle.std.proofs.lemmas.Grind.{common_steps}
use Rattle.mail_parts.specs.Reading.{ended_part}
use Rattle.mail_parts.proofs.DelimiterLemmas.{set_at}
use Rattle.mail_parts.proofs.cutting.end_part.Goals as goal

pub returns : goal.returns
returns c front back part l e =
    let i : c.index-part.result.now ≡ get_or c.args.parts.now.items c.args.index part = first_of (search rules, grind (arith, common_steps)) in
    ap (set c.args.parts.now.items c.args.index) (c.ended_part.ensures ∙ ap (λ p. ended_part p c.args.end) i) ∙ set_at c.args.parts.now.items front back part part c.args.index (λ p. ended_part p c.args.end) l e
