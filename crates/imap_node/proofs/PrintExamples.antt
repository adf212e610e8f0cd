use Rattle.std.proofs.Common.{◌≡◌, ◌++◌, List, [], ◌∷◌, true, false, Some, arith, refl}
use Rattle.crdt_ops.specs.declared.op.Op.{Op}
use Rattle.imap_types.specs.declared.flags.Flags.{Flags}
use Rattle.imap_commands.specs.declared.session.State.TheVariants.{Selected}
use Rattle.uid_projection.proofs.ExhaustionLemmas.{none_exhausted}
use Rattle.imap_node.specs.Printing.{IsAnswerableIn, IsPresentable}

-- a node that has applied nothing can be shown
no_cut : (front : List Op) (o : Op) (back : List Op) → [] ≡ front ++ o ∷ back → ⊥
no_cut [] o back e = cc
no_cut (x ∷ front) o back e = cc

pub fresh_shown : IsPresentable (record { replica = 1; uid = 1; k = 1 }) []
fresh_shown = record {
  lawful = record { named = omega arith; replica = omega arith; first = omega arith; uid = omega arith };
  lasting = record {
    applied = record { sound = λ o i. absurd i; causal = λ front o back e. absurd (no_cut front o back e) };
    not_exhausted = none_exhausted (record { replica = 1; uid = 1; k = 1 }) [];
  };
  writable = λ o i. absurd i;
  count = omega arith;
}

-- a session that idles, whose view has a message
pub flagless : Flags
flagless = record { answered = false; flagged = false; deleted = false; seen = false; draft = false; keywords = [] }

pub seeing : IsAnswerableIn (record { state = Selected (record { name = 65 ∷ []; uidvalidity = 65537; entries = record { uid = 4; flags = flagless } ∷ [] }) true; condstore = false; idling = Some (97 ∷ 49 ∷ []) })
seeing = record { state = record { small = (omega arith, tt); rising = (omega arith, tt) }; idling = refl }
