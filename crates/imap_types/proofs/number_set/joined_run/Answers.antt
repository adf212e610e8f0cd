use Rattle.std.proofs.Common.{◌≡◌, ◌+◌, ◌-◌, ◌<◌, ◌++◌, length, get_or, set, sym, subst, arith}
use Rattle.imap_types.specs.Numbers.{AreRunsFrom, numbers_in, numbers_of}
use Rattle.imap_types.specs.declared.number_set.Run.{Run}
use Rattle.imap_types.proofs.NumbersLemmas.{runs_apart_last, runs_joined}
use Rattle.imap_types.proofs.number_set.joined_run.Goals as goal

pub returns-then-last-next-clause-none : goal.returns-then-last-next-clause-none
returns-then-last-next-clause-none c =
    let runs = c.args.runs.now in
    let x = c.in_ok-last.last.now in
    let at : get_or runs (length runs - 1) x ≡ x = sym c.in_ok-last.ensures.item.1 in
    let filled : 0 < length runs = c.in_ok-last.ensures.item.3.0 in
    runs_apart_last (length runs - 1) runs x c.args.next (omega arith) c.requires.runs c.requires.above
    (λ t. let u : x.last + 1 ≡ c.args.next.first = subst (λ (r : Run). r.last + 1 ≡ c.args.next.first) at t in omega (arith, c.if-last-next.true))
    c.requires.order

pub returns-clause-some : goal.returns-clause-some
returns-clause-some c =
    let runs = c.args.runs.now in
    let x = c.in_ok-last.last.now in
    let at : x ≡ get_or runs (length runs - 1) x = c.in_ok-last.ensures.item.1 in
    let filled : 0 < length runs = c.in_ok-last.ensures.item.3.0 in
    let touch : x.last + 1 ≡ c.args.next.first = omega (arith, c.if-last-next.false) in
    let touch' : (get_or runs (length runs - 1) x).last + 1 ≡ c.args.next.first = subst (λ (r : Run). r.last + 1 ≡ c.args.next.first) at touch in
    let j = runs_joined 1 (length runs - 1) runs x c.args.next (omega arith) c.requires.runs touch' c.requires.order in
    let both : AreRunsFrom 1 (set runs (length runs - 1) (record { first = x.first; last = c.args.next.last })) × (numbers_in (set runs (length runs - 1) (record { first = x.first; last = c.args.next.last })) ≡ numbers_in runs ++ numbers_of c.args.next) =
    subst (λ (r : Run). AreRunsFrom 1 (set runs (length runs - 1) (record { first = r.first; last = c.args.next.last })) × (numbers_in (set runs (length runs - 1) (record { first = r.first; last = c.args.next.last })) ≡ numbers_in runs ++ numbers_of c.args.next)) (sym at) j in
    (filled, both.0, both.1)
