use Rattle.node_laws.proofs.UnionLemmas.{union_is, union_of_two, union_only}
use Rattle.node_laws.proofs.unions.flags_are_unions.Goals as goal

pub returns : goal.returns
returns c = record { union = union_is; only = union_only; added = union_of_two }
