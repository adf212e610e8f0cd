use Rattle.std.proofs.Common.{◌≡◌, inl, refl, ◌∙◌, false, true, sym}
use Rattle.link_wire.proofs.HelloLemmas.{one_proof-by}
use Rattle.link_runtime.proofs.handshake.check_proof.Goals as goal

not_both : (b : _) → b ≡ true → b ≡ false → ⊥
not_both b t f = absurd cc

pub returns-else-are_equal-clause-err : goal.returns-else-are_equal-clause-err
returns-else-are_equal-clause-err c = (
  λ spelled. not_both c.are_equal.result (c.are_equal.ensures.1 (one_proof-by c.args.line.now c.in-Some.digest _ c.in-Some.ensures spelled ∙ sym c.proof_digest-expected.ensures)) c.if-are_equal.false,
  inl refl,
)
