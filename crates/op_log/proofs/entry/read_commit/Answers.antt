use Rattle.std.proofs.Common.{◌≡◌, ℕ, Option, Some, None, ◌++◌, sym, ap, ◌∙◌, arith, codes, List}
use Rattle.text_fields.specs.FieldReading.{number_at}
use Rattle.text_fields.proofs.FieldLemmas.{number_complete, number_sound}
use Rattle.op_log.proofs.entry.read_commit.Goals as goal

pub returns-in-Some-clause-sound : goal.returns-in-Some-clause-sound
returns-in-Some-clause-sound c =
    let t = number_sound 18446744073709551615 c.in-Some.synced c.args.field.now (omega arith) (sym c.in-Some.ensures.read) in
    (t.0, ap (λ (xs : List ℕ). codes "commit " ++ xs) t.1)

pub returns-in-Some-clause-only : goal.returns-in-Some-clause-only
returns-in-Some-clause-only c = λ synced small e.
    let same : ◌≡◌ {A = Option ℕ} (Some c.in-Some.synced) (Some synced) = c.in-Some.ensures.read ∙ ap (number_at 18446744073709551615) e ∙ number_complete 18446744073709551615 synced (omega arith) small in
    cc

pub returns-in-None-clause-only : goal.returns-in-None-clause-only
returns-in-None-clause-only c = λ synced small e.
    let same : ◌≡◌ {A = Option ℕ} None (Some synced) = c.in-None.ensures.read ∙ ap (number_at 18446744073709551615) e ∙ number_complete 18446744073709551615 synced (omega arith) small in
    absurd cc
