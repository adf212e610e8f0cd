use Rattle.std.proofs.Common.{◌≡◌, ◌-◌, ◌^◌, ◌∙◌, [], ap, sym, drop, length-drop, arith}
use Rattle.std.proofs.lemmas.List.{nil_from_length}
use Rattle.imap_grammar.proofs.Digits.{capped, capped_is}
use Rattle.rev1_front.proofs.tokens.number.Goals as goal

pub returns : goal.returns
returns c =
    let ds = c.args.digits.now in
    let n : drop c.loop-digit.digit-index ds ≡ [] = nil_from_length _ (omega (arith, length-drop c.loop-digit.digit-index ds)) in
    ap (capped (2 ^ 64 - 1) c.loop-digit.number) (sym n) ∙ c.loop-digit.invariant ∙ capped_is (2 ^ 64 - 1) 0 ds (omega arith)
