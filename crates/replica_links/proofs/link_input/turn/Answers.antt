use Rattle.std.proofs.Common.{[], ◌∷◌, None, Some, refl}
use Rattle.replica_links.proofs.link_input.turn.Goals as goal

pub returns-in-Message : goal.returns-in-Message
returns-in-Message g c = (Some c.in-Message.msg ∷ [], (c.answer-continues.new.taker, c.answer-continues.new.links, (c.answer-continues.result, c.answer-continues.ensures), (refl, refl)))

pub returns-in-Due : goal.returns-in-Due
returns-in-Due g c = (None ∷ [], (c.args.taker.now, c.ask_all.new.links, (refl, c.ask_all.ensures), (refl, refl)))
