use Rattle.std.proofs.Common.{ap, sym, ◌∙◌}
use Rattle.imap_print.specs.ReadingAnswers.{line_at}
use Rattle.imap_print.proofs.AnswerRoundTrips.{line-round_trip}
use Rattle.imap_print.proofs.ReadingLemmas.{some_pair}
use Rattle.imap_print.proofs.answer_reader.one_reading.Goals as goal

pub returns : goal.returns
returns c one other rest more h i e = some_pair one other rest more (sym (line-round_trip one rest h) ∙ ap line_at e ∙ line-round_trip other more i)
