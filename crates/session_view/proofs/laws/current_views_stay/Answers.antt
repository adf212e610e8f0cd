use Rattle.session_view.proofs.CurrentLemmas.{nothing_sent, view_stays}
use Rattle.session_view.proofs.laws.current_views_stay.Goals as goal

pub returns-clause-answers : goal.returns-clause-answers
returns-clause-answers c = λ kind modseq rows view rising h. nothing_sent kind modseq rows view rising h

pub returns-clause-view : goal.returns-clause-view
returns-clause-view c = λ kind rows view rising h. view_stays kind rows view rising h
