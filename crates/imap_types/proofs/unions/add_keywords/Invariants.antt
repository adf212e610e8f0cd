use Rattle.std.proofs.Common.{◌≡◌, take}
use Rattle.std.specs.List.{fold}
use Rattle.imap_types.specs.Keywords.{with_word}
use Rattle.imap_types.proofs.unions.add_keywords.Given as goal

abbrev pub invariant-loop-word : goal.invariant-loop-word
invariant-loop-word l = l.union ≡ fold (λ done word. with_word word done) l.initial.union (take l.word-index l.more)
