use Rattle.std.proofs.Common.{refl}
use Rattle.uid_projection.proofs.laws.concurrent_store_and_expunge.Goals as goal

pub returns : goal.returns
returns c = record { before = refl; later = refl; removed = refl }
