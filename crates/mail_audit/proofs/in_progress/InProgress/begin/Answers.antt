use Rattle.std.proofs.Common.{◌≡◌, ℕ, ◌+◌, List, [], ◌∷◌, ◌++◌, ap, sym, subst, ◌∙◌, arith, rules, if◌then◌else◌}
use Rattle.std.specs.BTreeMap.{is_at}
use Rattle.std.specs.Map.{remove_entry, values_of}
use Rattle.std.specs.Ordering.{nat_cmp}
use Rattle.std.specs.Str.{bytes_eq}
use Rattle.mail_audit.specs.Counts.{count_of}
use Rattle.mail_audit.specs.NumberedCommands.{AreRising, stored_for, numbers_of}
use Rattle.mail_audit.specs.declared.in_progress.RunningCommand.{RunningCommand}
use Rattle.mail_audit.proofs.RunningLemmas.{counted_append, counted_most, numbers_append, insert_last, rising_length, rising_append, remove_appended, values_append}
use Rattle.mail_audit.proofs.in_progress.InProgress.begin.Goals as goal

pub invariant_of-self-in-Err : goal.invariant_of-self-in-Err
invariant_of-self-in-Err c =
    let es = c.self.inside.commands.entries in
    let n = c.self.inside.next in
    let inv = c.self.invariant in
    let put = (c.in_ok-insert.ensures {u = tt}).entries ∙ insert_last 0 n es c.args.command inv.2 in
    let back = c.remove.ensures.entries ∙ ap (remove_entry (is_at (nat_cmp n))) put ∙ remove_appended 0 n es c.args.command inv.2 in
    subst (λ (xs : List (ℕ × RunningCommand)). (c.self.inside.expunging ≡ count_of (λ (r : RunningCommand). r.may_expunge) (values_of xs)) × (c.self.inside.idling ≡ count_of (λ (r : RunningCommand). r.idles) (values_of xs)) × AreRising 0 n xs × ((tag : List ℕ) → numbers_of tag xs ≡ stored_for tag c.add.new.numbers.entries)) (sym back) (inv.0, inv.1, inv.2, λ tag. inv.3 tag ∙ sym ((c.in-Err.ensures {u = tt}).err tag))

pub overflow_add-self-2 : goal.overflow_add-self-2
overflow_add-self-2 c =
    let es = c.self.inside.commands.entries in
    let m = counted_most (λ (r : RunningCommand). r.may_expunge) (values_of es) in
    let l = rising_length 0 c.self.inside.next es c.self.invariant.2 in
    grind (arith, m, l, c.self.invariant.0, c.from.ensures, c.if-number.false)

pub overflow_add-self-3 : goal.overflow_add-self-3
overflow_add-self-3 c =
    let es = c.self.inside.commands.entries in
    let m = counted_most (λ (r : RunningCommand). r.idles) (values_of es) in
    let l = rising_length 0 c.self.inside.next es c.self.invariant.2 in
    grind (arith, m, l, c.self.invariant.1, c.from-2.ensures, c.if-number.false)

pub invariant_of-self-2 : goal.invariant_of-self-2
invariant_of-self-2 c =
    let es = c.self.inside.commands.entries in
    let n = c.self.inside.next in
    let inv = c.self.invariant in
    let command = c.args.command in
    let put = (c.in_ok-insert.ensures {u = tt}).entries ∙ insert_last 0 n es command inv.2 in
    let values = ap values_of put ∙ values_append es n command in
    let f = c.from.ensures in
    let g = c.from-2.ensures in
    let a = ap (count_of (λ (r : RunningCommand). r.may_expunge)) values ∙ counted_append (λ (r : RunningCommand). r.may_expunge) (values_of es) command in
    let b = ap (count_of (λ (r : RunningCommand). r.idles)) values ∙ counted_append (λ (r : RunningCommand). r.idles) (values_of es) command in
    let copied : c.in_ok-tag.tag.items ≡ command.tag = (let k : c.in_ok-tag.tag.items ≡ c.as_bytes.result.now = search rules in k) ∙ c.as_bytes.ensures in (
      grind (arith, a, f, inv.0),
      grind (arith, b, g, inv.1),
      subst (AreRising 0 (n + 1)) (sym put) (rising_append 0 n es command inv.2),
      λ tag. ap (numbers_of tag) put ∙ numbers_append tag es n command ∙ ap (λ (ns : List ℕ). ns ++ (if bytes_eq tag command.tag then n ∷ [] else [])) (inv.3 tag)
          ∙ sym (((c.in_default.ensures {u = tt}).ok tag) ∙ ap (λ (t : List ℕ). stored_for tag c.self.inside.numbers.entries ++ (if bytes_eq tag t then n ∷ [] else [])) copied),
    )

pub returns : goal.returns
returns c =
    let es = c.self.inside.commands.entries in
    let n = c.self.inside.next in
    let put = (c.in_ok-insert.ensures {u = tt}).entries ∙ insert_last 0 n es c.args.command c.self.invariant.2 in
    ap values_of put ∙ values_append es n c.args.command ∙ ap (λ (rs : List RunningCommand). rs ++ c.args.command ∷ []) c.self.view_is
