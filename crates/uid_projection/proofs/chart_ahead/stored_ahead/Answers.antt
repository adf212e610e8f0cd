use Rattle.uid_projection.proofs.chart_ahead.stored_ahead.Goals as goal

pub returns-clause-shows : goal.returns-clause-shows
returns-clause-shows c = λ list k t none. c.ahead_by.ensures.shows list k t c.chart_of.ensures none
