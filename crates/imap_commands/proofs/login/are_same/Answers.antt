use Rattle.std.proofs.Common.{◌≡◌, ℕ, length, take, Bool, true, false, List, refl, sym, ap, ◌∙◌, rules}
use Rattle.std.proofs.lemmas.Slice.Eq.{bytes_eq-Decides}
use Rattle.std.proofs.Math.Seq.{take-length}
use Rattle.std.specs.Str.{bytes_eq}
use Rattle.imap_commands.proofs.login.are_same.Goals as goal

is_false : (b : Bool) → (b ≡ true → ⊥) → false ≡ b
is_false true n = absurd (n refl)
is_false false n = refl

-- a test of both answers
of_tests : (b : Bool) (xs ys : List ℕ) → (b ≡ true → xs ≡ ys) → (b ≡ false → xs ≡ ys → ⊥) → b ≡ bytes_eq xs ys
of_tests true xs ys same other = sym ((bytes_eq-Decides xs ys).1 (same refl))
of_tests false xs ys same other = is_false (bytes_eq xs ys) (λ h. other refl ((bytes_eq-Decides xs ys).0 h))

pub returns : goal.returns
returns c =
    let at = c.loop-at.invariant in
    let one = c.args.one.now in
    let other = c.args.other.now in
    let lens : length one ≡ length other = search rules in
    let end : c.loop-at.at ≡ length one = search rules in
    let whole : take c.loop-at.at one ≡ one = ap (λ (n : ℕ). take n one) end ∙ take-length one in
    let whole_other : take c.loop-at.at other ≡ other = ap (λ (n : ℕ). take n other) (end ∙ lens) ∙ take-length other in
    of_tests c.loop-at.are_same one other (λ h. sym whole ∙ at.0 h ∙ whole_other) at.1
