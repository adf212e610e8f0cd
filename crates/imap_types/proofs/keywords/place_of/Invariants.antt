use Rattle.std.proofs.Common.{◌≡◌, ◌++◌, take, drop}
use Rattle.imap_types.specs.Keywords.{with_word}
use Rattle.imap_types.proofs.keywords.place_of.Given as goal

abbrev pub invariant-loop-place : goal.invariant-loop-place
invariant-loop-place l = with_word l.text l.texts ≡ take l.place l.texts ++ with_word l.text (drop l.place l.texts)
