use Rattle.std.proofs.Common.{◌≡◌, ℕ, ◌+◌, List, [], ◌∷◌, append-nil, refl, sym, ap, ◌∙◌, subst}
use Rattle.std.specs.Prelude.{Ok}
use Rattle.causal_inbox.specs.Inbox.{IsClockOf}
use Rattle.crdt_ops.specs.declared.kind.Kind.{Kind}
use Rattle.crdt_ops.specs.declared.op.Op.{Op}
use Rattle.crdt_ops.specs.Sound.{IsSound}
use Rattle.imap_commands.specs.declared.session.State.{State}
use Rattle.imap_node.specs.Operations.{AreNext, CanIssueAll, id_of}
use Rattle.imap_node.specs.Responses.{input_intent}
use Rattle.imap_node.specs.declared.input.Input.{Input}
use Rattle.imap_node.proofs.CanIssueLemmas.{input_can}
use Rattle.imap_node.proofs.NextLemmas.{can_issue_by_clock}
use Rattle.imap_node.proofs.ExistingFolderLemmas.{mapped_in}
use Rattle.merge_laws.specs.Orders.{AreSound, IsIn}
use Rattle.merge_laws.proofs.Lists.{split_at}
use Rattle.tags_clocks.specs.Clock.{count_of}
use Rattle.uid_projection.specs.declared.first_numbers.Counters.{Counters}
use Rattle.uid_projection.specs.Applied.{IsApplied}

-- ---- what was issued

first_clock : (replica : ℕ) (applied : List Op) (kinds : List Kind) (ops : List Op) → AreNext replica applied kinds ops → (o : Op) → IsIn o ops → (clock : List (ℕ × ℕ)) × IsClockOf id_of applied clock
first_clock replica applied kinds [] h o i = absurd i
first_clock replica applied kinds (x ∷ xs) h o i = (x.clock, subst (λ (os : List Op). IsClockOf id_of os x.clock) (append-nil applied) (h.next [] x xs refl).clock)

-- operations issued with allowed kinds are sound
pub next_sound : (replica : ℕ) (applied : List Op) (kinds : List Kind) (ops : List Op) → CanIssueAll applied kinds → AreNext replica applied kinds ops → AreSound IsSound ops
next_sound replica applied kinds ops all h = λ o i.
    let cut = split_at o ops i in
    let n = h.next cut.0 o cut.1 cut.2 in
    let first = first_clock replica applied kinds ops h o i in
    let can = can_issue_by_clock applied cut.0 o.kind first.0 o.clock (all o.kind (subst (IsIn o.kind) h.of_kinds (mapped_in ops o i))) first.1 n.clock in
    record {
      own = ap (λ (r : ℕ). count_of o.clock r + 1) n.own ∙ sym n.number;
      covered = can.covered;
      name = can.lawful.name;
      flags = can.lawful.flags;
      inbox_stays = can.lawful.inbox_stays;
      count = can.lawful.count;
    }

module _ (start : Counters) (applied : List Op) (a : IsApplied applied) (stamp : List ℕ) (state : State) (input : Input) (given : List Kind) (intended : input_intent start applied stamp state input ≡ Ok given) (ops : List Op) (next : AreNext start.replica applied given ops) where
  -- what an input issues is sound
  pub issue_sound : AreSound IsSound ops
  issue_sound = next_sound start.replica applied given ops (input_can start applied a stamp state input given intended) next
