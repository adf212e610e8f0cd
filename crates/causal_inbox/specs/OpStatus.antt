-- What an inbox knows of an operation before it receives it.

use Rattle.std.specs.Prelude.{ℕ, List, ◌++◌}
use Rattle.tags_clocks.specs.declared.id.OpId.{OpId}
use Rattle.merge_laws.specs.Orders.{HasId, IsRipe}
use Rattle.causal_inbox.specs.declared.delivery.OpKnowledge.{OpKnowledge}
use Rattle.causal_inbox.specs.declared.delivery.OpKnowledge.TheVariants.{Same, Other, New}
use Rattle.causal_inbox.specs.declared.inbox.OpStatus.{OpStatus}
use Rattle.causal_inbox.specs.declared.inbox.OpStatus.TheVariants.{Received, Conflicting, Ripe}
use Rattle.causal_inbox.specs.declared.inbox.OpStatus.TheVariants.{Early}
use Rattle.causal_inbox.specs.Inbox.{ReceivedOps, IsReceived, IsNew}

-- What an inbox knows of an operation: it was received, or another with its id was, or neither was.
abbrev pub IsKnowledgeOf : {S O : Type 0} → (O → OpId) → ReceivedOps S O → O → OpKnowledge → Type 0
IsKnowledgeOf id s o Same = IsReceived s o
IsKnowledgeOf id s o Other = (¬ IsReceived s o) × HasId id (s.applied ++ s.held) (id o)
IsKnowledgeOf id s o New = IsNew id s o

-- What a delivery does with an operation depends on this: it was received, or another with its id
-- was; or neither was, and it is ripe or early.
abbrev pub HasStatus : {S O : Type 0} → (O → OpId) → (O → List (ℕ × ℕ)) → ReceivedOps S O → O
    → OpStatus → Type 0
HasStatus id clock s o Received = IsReceived s o
HasStatus id clock s o Conflicting = (¬ IsReceived s o) × HasId id (s.applied ++ s.held) (id o)
HasStatus id clock s o Ripe = IsNew id s o × IsRipe id clock s.applied o
HasStatus id clock s o Early = IsNew id s o × ¬ IsRipe id clock s.applied o
