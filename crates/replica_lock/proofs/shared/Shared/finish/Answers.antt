use Rattle.std.proofs.Common.{Err, IfErr, Ok, Result}
use Rattle.replica_lock.proofs.shared.Shared.finish.Goals as goal

weaker : {A B : Type 0} {P Q : B → Type 0} (r : Result A B) → ((e : B) → P e → Q e) → IfErr r P → IfErr r Q
weaker (Ok a) f h = h
weaker (Err e) f h = f e h

pub returns-clause-denied : goal.returns-clause-denied
returns-clause-denied g c = weaker c.settle.result (λ e h. (c.into_inner.result, h)) c.settle.ensures.denied
