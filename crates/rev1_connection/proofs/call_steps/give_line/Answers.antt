use Rattle.std.proofs.Common.{◌∙◌, refl, sym}
use Rattle.rev1_connection.proofs.call_steps.give_line.Goals as goal

pub returns-clause-ok : goal.returns-clause-ok
returns-clause-ok g c whole given s = (c.in-Ok.reply, c.in-Ok.ensures, sym c.is_out_of_memory.ensures ∙ c.if-is_out_of_memory.false, s, c.awake.ensures, refl)
