use Rattle.mail_audit.proofs.KnownUidLemmas.{known_at_place, unknown_end, unknown_at_place}
use Rattle.mail_audit.proofs.slots.uid_at.Goals as goal

pub returns-in-None : goal.returns-in-None
returns-in-None c = let l = (c.in-None.ensures {u = tt}).item in unknown_end c.args.place c.args.at c.args.entries.now c.requires.within c.requires.parts l.3

pub returns-then-entry-place : goal.returns-then-entry-place
returns-then-entry-place c = let l = (c.in-Some.ensures {u = tt}).item in known_at_place c.args.place c.args.at c.args.entries.now c.in-Some.entry.now c.requires.parts l.3.0 l.1 c.if-entry-place.true

pub returns-else-entry-place : goal.returns-else-entry-place
returns-else-entry-place c = let l = (c.in-Some.ensures {u = tt}).item in unknown_at_place c.args.place c.args.at c.args.entries.now c.in-Some.entry.now c.requires.within c.requires.parts l.3.0 l.1 c.if-entry-place.false
