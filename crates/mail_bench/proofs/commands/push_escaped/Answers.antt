use Rattle.std.proofs.Common.{◌<◌, ◌++◌, length, take, get_or, ap, sym, ◌∙◌, arith}
use Rattle.std.proofs.lemmas.List.{flat_map_more, take_more}
use Rattle.std.specs.List.{flat_map}
use Rattle.mail_bench.specs.Commands.{escaped}
use Rattle.mail_bench.proofs.commands.push_escaped.Goals as goal

pub loop-octet-preserved : goal.loop-octet-preserved
loop-octet-preserved c =
    let i = c.loop-octet.octet-index in
    let octets = c.args.octets.now in
    let before = c.args.out.now.items in
    let inside : i < length octets = omega arith in
    c.in_ok-push_octet.ensures {u = tt} ∙ ap (λ text. text ++ escaped (get_or octets i 0)) c.loop-octet.invariant
    ∙ flat_map_more escaped before (take i octets) (get_or octets i 0) ∙ ap (λ os. before ++ flat_map escaped os) (sym (take_more octets i 0 inside))
