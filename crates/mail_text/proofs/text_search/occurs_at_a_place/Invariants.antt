use Rattle.std.proofs.Common.{◌≡◌, length}
use Rattle.mail_text.specs.TextSearch.{occurs_in}
use Rattle.mail_text.proofs.text_search.occurs_at_a_place.Given as goal

abbrev pub invariant-loop-rest : goal.invariant-loop-rest
invariant-loop-rest l = occurs_in l.word l.rest ≡ occurs_in l.word l.text

abbrev pub decreases-loop-rest : goal.decreases-loop-rest
decreases-loop-rest l = length l.rest
