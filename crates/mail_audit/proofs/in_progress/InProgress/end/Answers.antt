use Rattle.std.proofs.Common.{ℕ, List, ap, sym, subst, ◌∙◌, arith}
use Rattle.std.specs.BTreeMap.{is_at}
use Rattle.std.specs.Map.{values_of}
use Rattle.std.specs.Ordering.{nat_cmp}
use Rattle.mail_audit.specs.Counts.{count_of}
use Rattle.mail_audit.specs.NumberedCommands.{AreRising, stored_for, numbers_of}
use Rattle.mail_audit.specs.Transcripts.{without_ended}
use Rattle.mail_audit.specs.declared.in_progress.RunningCommand.{RunningCommand}
use Rattle.mail_audit.proofs.RunningLemmas.{counted_remove, first_ended, first_taken, first_exists, none_ended, rising_remove}
use Rattle.mail_audit.proofs.in_progress.InProgress.end.Goals as goal

pub returns-in_default : goal.returns-in_default
returns-in_default c =
    let tag = c.args.tag.now in
    sym (none_ended tag c.self.inside.commands.entries (c.self.invariant.3 tag ∙ (c.in_default.ensures {u = tt}).none)) ∙ ap (without_ended tag) c.self.view_is

pub overflow_sub-self : goal.overflow_sub-self
overflow_sub-self c =
    let m = counted_remove (λ (r : RunningCommand). r.may_expunge) (is_at (nat_cmp c.in-Some.number)) c.self.inside.commands.entries c.in-Some-remove.command (c.in-Some-remove.ensures {u = tt}).value in
    grind (arith, m, c.self.invariant.0, c.from.ensures)

pub overflow_sub-self-in-Some-remove : goal.overflow_sub-self-in-Some-remove
overflow_sub-self-in-Some-remove c =
    let m = counted_remove (λ (r : RunningCommand). r.idles) (is_at (nat_cmp c.in-Some.number)) c.self.inside.commands.entries c.in-Some-remove.command (c.in-Some-remove.ensures {u = tt}).value in
    grind (arith, m, c.self.invariant.1, c.from-in-Some-remove.ensures)

pub invariant_of-self-in-Some-remove : goal.invariant_of-self-in-Some-remove
invariant_of-self-in-Some-remove c =
    let es = c.self.inside.commands.entries in
    let inv = c.self.invariant in
    let n = c.in-Some.number in
    let test = is_at (nat_cmp n) in
    let o = c.in-Some.ensures {u = tt} in
    let removed = c.in-Some-remove.ensures {u = tt} in
    let m = counted_remove (λ (r : RunningCommand). r.may_expunge) test es c.in-Some-remove.command removed.value in
    let k = counted_remove (λ (r : RunningCommand). r.idles) test es c.in-Some-remove.command removed.value in
    let a = ap (λ (xs : List (ℕ × RunningCommand)). count_of (λ (r : RunningCommand). r.may_expunge) (values_of xs)) removed.entries in
    let b = ap (λ (xs : List (ℕ × RunningCommand)). count_of (λ (r : RunningCommand). r.idles) (values_of xs)) removed.entries in
    let f = c.from.ensures in
    let g = c.from-in-Some-remove.ensures in (
      grind (arith, m, a, f, inv.0),
      grind (arith, k, b, g, inv.1),
      subst (AreRising 0 c.self.inside.next) (sym removed.entries) (rising_remove 0 c.self.inside.next test es inv.2),
      λ tag. ap (numbers_of tag) removed.entries ∙ first_taken 0 c.self.inside.next c.args.tag.now es n c.self.inside.numbers.entries c.take_first.new.numbers.entries inv.2 inv.3 o.taken o.others tag,
    )

pub invariant_of-self-in_default-remove : goal.invariant_of-self-in_default-remove
invariant_of-self-in_default-remove c =
    let tag = c.args.tag.now in
    absurd (first_exists tag c.self.inside.commands.entries c.in-Some.number (stored_for tag c.take_first.new.numbers.entries) (c.self.invariant.3 tag ∙ (c.in-Some.ensures {u = tt}).taken) (c.in_default-remove.ensures {u = tt}).value)

pub returns-in-Some-remove : goal.returns-in-Some-remove
returns-in-Some-remove c =
    let tag = c.args.tag.now in
    let taken = c.self.invariant.3 tag ∙ (c.in-Some.ensures {u = tt}).taken in
    ap values_of (c.in-Some-remove.ensures {u = tt}).entries
    ∙ sym (first_ended 0 c.self.inside.next tag c.self.inside.commands.entries c.in-Some.number (stored_for tag c.take_first.new.numbers.entries) c.self.invariant.2 taken)
    ∙ ap (without_ended tag) c.self.view_is

pub returns-in_default-remove : goal.returns-in_default-remove
returns-in_default-remove c =
    let tag = c.args.tag.now in
    absurd (first_exists tag c.self.inside.commands.entries c.in-Some.number (stored_for tag c.take_first.new.numbers.entries) (c.self.invariant.3 tag ∙ (c.in-Some.ensures {u = tt}).taken) (c.in_default-remove.ensures {u = tt}).value)
