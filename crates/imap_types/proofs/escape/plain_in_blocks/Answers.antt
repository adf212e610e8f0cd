use Rattle.std.proofs.Common.{◌≡◌, ◌+◌, ◌-◌, ◌∙◌, ℕ, ap, arith, drop, sym, take}
use Rattle.std.specs.List.{list_all}
use Rattle.imap_types.specs.Escape.{is_plain}
use Rattle.imap_types.proofs.EscapeLemmas.{plain_joined}
use Rattle.imap_types.proofs.escape.plain_in_blocks.Goals as goal

pub loop-count-preserved : goal.loop-count-preserved
loop-count-preserved c =
    let count = c.loop-count.count in
    let block : count + 32 - count ≡ 32 = omega arith in (
      omega (arith, c.loop-count.invariant.0, c.loop-count-test.true),
      plain_joined c.args.escape count 32 c.args.octets.now c.loop-count.invariant.1
          (ap (λ (n : ℕ). list_all (is_plain c.args.escape) (take n (drop count c.args.octets.now))) (sym block) ∙ sym c.are_plain.ensures ∙ c.if-are_plain.true),
    )
