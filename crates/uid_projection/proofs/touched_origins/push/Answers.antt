use Rattle.std.proofs.Common.{inl, refl, sym, subst, [], ◌∷◌}
use Rattle.merge_laws.specs.Orders.{IsIn}
use Rattle.merge_laws.proofs.Lists.{in_back, in_front}
use Rattle.uid_projection.proofs.touched_origins.push.Goals as goal

pub returns-clause-retained : goal.returns-clause-retained
returns-clause-retained c = λ i h. subst (IsIn i) (sym (c.in_ok-push.ensures {u = tt}).items) (in_front i c.args.ids.now.items (c.args.id.now ∷ []) h)

pub returns-clause-put : goal.returns-clause-put
returns-clause-put c = subst (IsIn c.args.id.now) (sym (c.in_ok-push.ensures {u = tt}).items) (in_back c.args.id.now c.args.ids.now.items (c.args.id.now ∷ []) (inl refl))
