use Rattle.std.proofs.Common.{◌∙◌, ap}
use Rattle.imap_lex.specs.Framing.{Cut}
use Rattle.imap_lex.proofs.FrameLemmas.{cut_of_frames}
use Rattle.imap_connection.proofs.BetweenOthersLemmas.{stretches_whole, talks_between_others, last_talk_between_others}
use Rattle.imap_connection.proofs.EndLemmas.{ends_between_others}
use Rattle.imap_connection.proofs.laws.others_come_between.Goals as goal

pub returns : goal.returns
returns c = record {
  runs = λ r t. talks_between_others r.old r.new r.session r.limits r.before r.after r.pieces r.turns t;
  last = λ r l t b. last_talk_between_others r.old r.new l.new r.session r.limits r.before r.after r.pieces l.piece r.turns l.turns t b.1.0;
  items = λ limits state pieces_at. stretches_whole limits state pieces_at;
  frames = λ limits pieces_at items rest f. stretches_whole limits _ pieces_at ∙ ap (λ (c : Cut). c.0) (cut_of_frames limits _ rest items f).1;
  fault = λ r l why bye g t b. ends_between_others r.old r.new l.new r.session r.limits r.before r.after r.pieces l.piece r.turns l.turns why bye g t b.1;
}
