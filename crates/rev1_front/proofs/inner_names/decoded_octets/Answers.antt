use Rattle.std.proofs.Common.{Global, Vec, ℕ, ap}
use Rattle.rev1_front.proofs.NameLemmas.{decoded_some}
use Rattle.rev1_front.proofs.inner_names.decoded_octets.Goals as goal

pub returns-in-Some : goal.returns-in-Some
returns-in-Some c = decoded_some c.args.octets.now c.into_bytes.result.items c.in_ok-decode.field-0 c.in-Some.name c.in-Some.is (ap (λ (v : Vec ℕ Global). v.items) c.into_bytes.ensures.value) c.in_ok-decode.ensures
