use Rattle.imap_connection.proofs.StreamLemmas.{talks_joined, last_talk_joined, untimed_whole}
use Rattle.imap_connection.proofs.laws.pieces_are_one_stream.Goals as goal

pub returns : goal.returns
returns c = record {
  runs = λ r t. talks_joined r.old r.new r.session r.limits r.before r.after r.pieces r.turns t;
  last = λ r l t b. last_talk_joined r.old r.new l.new r.session r.limits r.before r.after l.after r.pieces l.piece r.turns l.turns b.0 t b.1;
  items = λ limits state pieces. untimed_whole limits state pieces;
}
