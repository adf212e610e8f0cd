use Rattle.std.proofs.Common.{◌≡◌, List, [], ◌∷◌, ◌++◌}
use Rattle.crdt_ops.specs.declared.op.Op.{Op}
use Rattle.uid_projection.proofs.charts.Charts.new.Goals as goal

no_cut : (front : List Op) (o : Op) (back : List Op) → ◌≡◌ {A = List Op} [] (front ++ o ∷ back) → ⊥
no_cut [] o back e = absurd cc
no_cut (x ∷ front) o back e = absurd cc

pub returns-clause-follows : goal.returns-clause-follows
returns-clause-follows c = record {
  first = c.requires;
  applied = record { sound = λ o h. absurd h; causal = λ front o back e. absurd (no_cut front o back e) };
  table = c.in_ok-charts.ensures c.requires;
  nothing = c.new.ensures.entries;
}
