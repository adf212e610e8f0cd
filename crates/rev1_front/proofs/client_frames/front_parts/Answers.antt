use Rattle.rev1_front.proofs.ClientLemmas.{no_worded, unnamed, worded_by}
use Rattle.rev1_front.proofs.client_frames.front_parts.Goals as goal

pub returns-in-None : goal.returns-in-None
returns-in-None c = no_worded c.args.frame.now c.in-None.ensures

pub returns-in-None-find_word : goal.returns-in-None-find_word
returns-in-None-find_word c =
    unnamed c.args.frame.now (c.in-Some.tag.now, c.in-Some.rest.now) (c.atom_span.result.0.now, c.atom_span.result.1.now) c.in-Some.ensures c.atom_span.ensures c.in-None-find_word.ensures

pub returns-in-Some-find_word : goal.returns-in-Some-find_word
returns-in-Some-find_word c =
    worded_by c.args.frame.now (c.in-Some.tag.now, c.in-Some.rest.now) (c.atom_span.result.0.now, c.atom_span.result.1.now) c.in-Some.ensures c.atom_span.ensures c.in-Some-find_word.word c.in-Some-find_word.ensures
