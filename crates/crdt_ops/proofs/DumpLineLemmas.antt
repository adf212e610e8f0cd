-- A line of a name with equal ids.
use Rattle.std.proofs.Common.{◌≡◌, ℕ, List, ◌++◌, Result, subst}
use Rattle.std.specs.Prelude.{OnOk}
use Rattle.tags_clocks.specs.declared.id.OpId.{OpId}
use Rattle.crdt_ops.specs.DumpLines.{name_line}

pub same_ids : {A E : Type 0} (r : Result A E) (old new word name : List ℕ) (ids seen : List OpId) → ids ≡ seen → OnOk r (new ≡ old ++ name_line word name ids) → OnOk r (new ≡ old ++ name_line word name seen)
same_ids r old new word name ids seen e h = subst (λ (is : List OpId). OnOk r (new ≡ old ++ name_line word name is)) e h
