use Rattle.std.proofs.Common.{◌≡◌, ◌∷◌, ◌++◌, take, flat_map, map}
use Rattle.imap_print.proofs.strings.push_after.Given as goal

abbrev pub invariant-loop-value : goal.invariant-loop-value
invariant-loop-value g l = l.out.items ≡ l.initial.out.items ++ flat_map (λ next. l.between ∷ next) (map g.W.TextWriter.text_of (take l.value-index l.values))
