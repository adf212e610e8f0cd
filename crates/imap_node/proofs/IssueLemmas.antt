use Rattle.std.proofs.Common.{inl, inr, ℕ, ◌+◌, List, [], ◌∷◌, ◌++◌, map, append-nil, refl, sym, ap, ◌∙◌, subst}
use Rattle.causal_inbox.specs.Inbox.{AreRemainingHeld, IsClockOf}
use Rattle.crdt_ops.specs.Sound.{IsSound}
use Rattle.crdt_ops.specs.declared.kind.Kind.{Kind}
use Rattle.crdt_ops.specs.declared.op.Op.{Op}
use Rattle.merge_laws.specs.Orders.{IsIn}
use Rattle.merge_laws.proofs.Lists.{id_in_front, split_at}
use Rattle.tags_clocks.specs.Clock.{count_of}
use Rattle.imap_node.specs.Issues.{Issues, issued_by}
use Rattle.imap_node.specs.Nodes.{NodeState}
use Rattle.imap_node.specs.Operations.{AreNext, CanIssue, CanIssueAll, CanIssueBy, IsFresh, IsNext}
use Rattle.imap_node.specs.Responses.{AreHeldAfter, Responds}
use Rattle.imap_node.specs.declared.input.Input.{Input}
use Rattle.imap_node.specs.declared.reply.Reply.{Reply}
use Rattle.imap_node.specs.declared.reply.Reply.TheVariants.{Done, Refused}
use Rattle.imap_node.proofs.CanIssueLemmas.{input_can}
use Rattle.imap_node.proofs.NextLemmas.{can_issue_by_clock, next_applied, next_issued, next_ripe, no_cut}
use Rattle.uid_projection.specs.Applied.{IsApplied}
use Rattle.crdt_ops.specs.Ops.{id_of}

-- an operation that may be issued and comes next is sound
next_sound : (replica : ℕ) (applied front : List Op) (op : Op) (counts : List (ℕ × ℕ)) → IsClockOf id_of applied counts → CanIssue applied op.kind → IsNext replica (applied ++ front) op → IsSound op
next_sound replica applied front op counts c can n =
    let by : CanIssueBy op.clock op.kind = can_issue_by_clock applied front op.kind counts op.clock can c n.clock in
    record {
      own = ap (λ (r : ℕ). count_of op.clock r + 1) n.own ∙ sym n.number;
      covered = by.covered;
      name = can.lawful.name;
      flags = can.lawful.flags;
      inbox_stays = can.lawful.inbox_stays;
      count = can.lawful.count;
    }

-- if operations come next, the applied operations have a clock
clock_exists : (replica : ℕ) (applied : List Op) (kinds : List Kind) (ops : List Op) (op : Op) → AreNext replica applied kinds ops → IsIn op ops → (clock : List (ℕ × ℕ)) × IsClockOf id_of applied clock
clock_exists replica applied kinds [] op h i = absurd i
clock_exists replica applied kinds (o ∷ ops) op h i =
    (o.clock, subst (λ (os : List Op). IsClockOf (λ (p : Op). p.id) os o.clock) (append-nil applied) (h.next [] o ops refl).clock)

pub kind_in : (ops : List Op) (op : Op) → IsIn op ops → IsIn op.kind (map (λ (o : Op). o.kind) ops)
kind_in [] op i = absurd i
kind_in (o ∷ ops) op i = elim i [ inl e ↦ inl (ap (λ (p : Op). p.kind) e) | inr t ↦ inr (kind_in ops op t) ]

-- operations that come next and may be issued are sound, the replica's own and new
pub next_fresh : (replica : ℕ) (applied : List Op) (kinds : List Kind) (ops : List Op) → CanIssueAll applied kinds → AreNext replica applied kinds ops → (op : Op) → IsIn op ops → IsFresh replica applied op
next_fresh replica applied kinds ops can h op i =
    let cut = split_at op ops i in
    let n = h.next cut.0 op cut.1 cut.2 in
    let c = clock_exists replica applied kinds ops op h i in
    record {
      sound = next_sound replica applied cut.0 op c.0 c.1 (can op.kind (subst (IsIn op.kind) h.of_kinds (kind_in ops op i))) n;
      own = n.own;
      fresh = λ has. (next_ripe replica (applied ++ cut.0) op n).1 (id_in_front id_of op.id applied cut.0 has);
    }

held_still : (ops old new : List Op) → AreHeldAfter ops old new → AreRemainingHeld id_of ops old new
held_still [] old new h = λ o. (λ i. (subst (IsIn o) h i, λ none. none), λ p. subst (IsIn o) (sym h) p.0)
held_still (op ∷ ops) old new h = h

-- a node issues the operations of its reply
pub issues_of_responds : (old new : NodeState) (n : ℕ) (input : Input) (reply : Reply) → IsApplied old.applied → Responds old n input reply new → Issues old (issued_by reply) new
issues_of_responds old new n input (Done answers silent issued) a (session, at, c) =
    let can = input_can old.start old.applied a c.stamp session.state input c.kinds c.intended in
    let fresh = next_fresh old.start.replica old.applied c.kinds issued can c.next in
    record {
      start = c.becomes.start;
      applied = c.becomes.applied;
      held = held_still issued old.held new.held c.becomes.held;
      issued = next_issued old.start.replica old.applied c.kinds issued c.next;
      kinds = c.kinds;
      next = c.next;
      fresh = fresh;
      not_exhausted = c.not_exhausted;
      whole = subst IsApplied (sym c.becomes.applied) (next_applied old.start.replica old.applied c.kinds issued a.sound a.causal (λ o i. (fresh o i).sound) c.next);
    }
issues_of_responds old new n input (Refused why closed) a (session, at, h) = record {
  start = h.2.start;
  applied = h.2.applied;
  held = held_still [] old.held new.held h.2.held;
  issued = λ front o back e. absurd (no_cut front o back e);
  kinds = [];
  next = record { of_kinds = refl; next = λ front op back e. absurd (no_cut front op back e) };
  fresh = λ op i. absurd i;
  not_exhausted = λ (front, o, back, k, x). absurd (no_cut front o back k);
  whole = subst IsApplied (sym (h.2.applied ∙ append-nil old.applied)) a;
}
