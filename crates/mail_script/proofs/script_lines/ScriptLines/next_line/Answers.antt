use Rattle.std.proofs.Common.{arith, ap, take, length, ◌-◌, ◌+◌, sym, ◌∙◌}
use Rattle.mail_script.specs.Reading.{cut_at}
use Rattle.mail_script.proofs.LineLemmas.{all_searched, count_fits, next_line_is, none_between, part_is, taken_fits}
use Rattle.mail_script.proofs.script_lines.ScriptLines.next_line.Goals as goal

pub invariant_of-self : goal.invariant_of-self
invariant_of-self c =
    let o = c.self.inside.octets in
    let n = c.in-None.ensures ∙ ap (cut_at 10) (part_is c.self.inside.searched o.items c.deref.result.now c.deref.ensures.value) in
    (all_searched c.self.inside.taken c.self.inside.searched c.len-self-inside.result o.items c.args.self.now c.self.invariant (omega (arith, o.ok.0)) n (sym c.self.view_is)).1

pub slice_bounds-from_slice-end : goal.slice_bounds-from_slice-end
slice_bounds-from_slice-end c =
    let o = c.self.inside.octets in
    let n = c.in-Some.ensures ∙ ap (cut_at 10) (part_is c.self.inside.searched o.items c.deref.result.now c.deref.ensures.value) in
    count_fits c.self.inside.taken c.self.inside.searched o.items c.args.self.now c.rest.result.now c.in-Some.end.now c.in-Some.field-0-1.now c.self.invariant (sym c.self.view_is) c.rest.ensures n

pub invariant_of-self-in-Some : goal.invariant_of-self-in-Some
invariant_of-self-in-Some c =
    let o = c.self.inside.octets in
    let n = c.in-Some.ensures ∙ ap (cut_at 10) (part_is c.self.inside.searched o.items c.deref.result.now c.deref.ensures.value) in
    none_between _ o.items (taken_fits c.self.inside.taken c.self.inside.searched o.items c.in-Some.end.now c.in-Some.field-0-1.now c.self.invariant n)

pub returns-in-None-clause-ok : goal.returns-in-None-clause-ok
returns-in-None-clause-ok c =
    let o = c.self.inside.octets in
    let n = c.in-None.ensures ∙ ap (cut_at 10) (part_is c.self.inside.searched o.items c.deref.result.now c.deref.ensures.value) in (
      (all_searched c.self.inside.taken c.self.inside.searched c.len-self-inside.result o.items c.args.self.now c.self.invariant (omega (arith, o.ok.0)) n (sym c.self.view_is)).0,
      c.self.view_is,
    )

pub returns-in_ok-line-in-Some-clause-ok : goal.returns-in_ok-line-in-Some-clause-ok
returns-in_ok-line-in-Some-clause-ok c =
    let o = c.self.inside.octets in
    let n = c.in-Some.ensures ∙ ap (cut_at 10) (part_is c.self.inside.searched o.items c.deref.result.now c.deref.ensures.value) in
    next_line_is c.self.inside.taken c.self.inside.searched o.items c.args.self.now c.in-Some.end.now c.in-Some.field-0-1.now c.in_ok-line-in-Some.line c.self.invariant (sym c.self.view_is) n
    (c.in_ok-line-in-Some.ensures ∙ ap (take (c.self.inside.searched - c.self.inside.taken + length c.in-Some.end.now)) c.rest.ensures)
