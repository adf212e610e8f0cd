use Rattle.std.proofs.Common.{◌≡◌, ℕ, List, [], Option, None, Some, min, ap, arith, sym, subst, ◌∙◌}
use Rattle.crdt_ops.specs.declared.op.Op.{Op}
use Rattle.op_log.specs.LineBounds.{lines_bound}
use Rattle.replica_lock.specs.StoreRoom.{HasRoom, issued_by}
use Rattle.replica_lock.proofs.laws.refused_commands_issue.Goals as goal

-- each log has room for nothing
no_octets_fit : (room : Option ℕ) → HasRoom room 0
no_octets_fit None = tt
no_octets_fit (Some room) = omega arith

-- operations for which there is no room are some
are_some : (ops : List Op) (room : Option ℕ) (needed octets : ℕ) → octets ≡ min needed 18446744073709551615 → needed ≡ lines_bound ops → (HasRoom room octets → ⊥) → ops ≡ [] → ⊥
are_some ops room needed octets o e lacks none =
    let nothing : octets ≡ 0 = o ∙ ap (λ (n : ℕ). min n 18446744073709551615) (e ∙ ap lines_bound none) in
    lacks (subst (λ (n : ℕ). HasRoom room n) (sym nothing) (no_octets_fit room))

pub returns : goal.returns
returns c = λ node n moment tagged room octets lacks.
    let needed = lacks.1 in (needed.0, needed.2, are_some (issued_by needed.0.reply) room lacks.0 octets lacks.2 needed.3 lacks.3)
