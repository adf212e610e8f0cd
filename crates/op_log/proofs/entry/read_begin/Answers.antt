use Rattle.std.proofs.Common.{◌≡◌, ℕ, Option, Some, None, ◌++◌, sym, ap, ◌∙◌, codes, List}
use Rattle.text_fields.specs.FieldReading.{replica_at}
use Rattle.text_fields.proofs.FieldLemmas.{replica_complete, replica_sound}
use Rattle.op_log.proofs.entry.read_begin.Goals as goal

pub returns-in-Some-clause-sound : goal.returns-in-Some-clause-sound
returns-in-Some-clause-sound c =
    let t = replica_sound c.args.field.now c.in-Some.replica (sym c.in-Some.ensures) in
    (t.0, ap (λ (xs : List ℕ). codes "log 1 " ++ xs) t.1)

pub returns-in-Some-clause-only : goal.returns-in-Some-clause-only
returns-in-Some-clause-only c = λ replica small e.
    let same : ◌≡◌ {A = Option ℕ} (Some c.in-Some.replica) (Some replica) = c.in-Some.ensures ∙ ap replica_at e ∙ replica_complete replica small in
    cc

pub returns-in-None-clause-only : goal.returns-in-None-clause-only
returns-in-None-clause-only c = λ replica small e.
    let same : ◌≡◌ {A = Option ℕ} None (Some replica) = c.in-None.ensures ∙ ap replica_at e ∙ replica_complete replica small in
    absurd cc
