use Rattle.std.proofs.Common.{◌∙◌, ap, drop, sym}
use Rattle.std.proofs.lemmas.List.{take-append-drop}
use Rattle.durable_log.proofs.memory.write_at.Goals as goal

pub returns-in_err-tail-clause-front : goal.returns-in_err-tail-clause-front
returns-in_err-tail-clause-front c =
    let place = c.args.place in
    let items = c.args.contents.now.items in
    (drop place items, ap (λ v. v.items) c.in_err-tail.ensures.err ∙ sym (take-append-drop place items))
