use Rattle.std.proofs.Common.{rules, ◌≡◌, ◌⊎◌, ◌+◌, inl, inr, [], List, ℕ, true, length, refl, sym, ap, subst, ◌∙◌, arith}
use Rattle.link_wire.specs.LineCuts.{ContinuesLine, CutterState, at_start}
use Rattle.link_runtime.specs.LineInputs.{HasLost, IsLineRefused}
use Rattle.link_runtime.proofs.InputLemmas.{continues, cut_line, err_more, given_more, given_start, longer, refused_more}
use Rattle.link_runtime.proofs.line_input.next_line.Goals as goal

pub loop-read-init : goal.loop-read-init
loop-read-init g c =
    let k = continues c.in_ok-line.field-0 _ _ _ _ _ c.in-None.is (c.in_ok-line.ensures {u = tt}).ok in
    let before : c.deref.result.now ≡ c.args.rest.now.items = c.deref.ensures.value ∙ ap (λ v. v.items) c.replace-begun.ensures.value in
    let cut : ContinuesLine (at_start 128) c.args.rest.now.items c.cut.new.cutter =
    subst (λ (octets : List ℕ). ContinuesLine (at_start 128) octets c.cut.new.cutter) before (subst (λ (s : CutterState). ContinuesLine s c.deref.result.now c.cut.new.cutter) c.new-cutter.ensures k.0) in
    record {
      given = given_start (g.S.Source.left c.args.source.now) c.args.rest.now.items c.cut.new.cutter cut;
      none_left = k.1 ∙ ap (λ v. v.items) c.replace-begun.ensures.after ∙ c.new.ensures.items;
      reads = refl;
      long = omega arith;
    }

pub loop-read-preserved : goal.loop-read-preserved
loop-read-preserved g c =
    let at = c.loop-read in
    let step = c.in_ok-line-2.ensures {u = tt} in
    let r = step.cut in
    let k = continues c.in_ok-line-2.field-0 _ _ _ _ _ c.in-None-2.is r.2 in
    record {
      given = given_more (g.S.Source.left c.args.source.now) c.args.rest.now.items (g.S.Source.left at.source) at.cutter r.0 (g.S.Source.left c.read_and_cut.new.source) c.read_and_cut.new.cutter at.invariant.given r.1 k.0;
      none_left = k.1 ∙ at.invariant.none_left;
      reads = step.same ∙ at.invariant.reads;
      long = let l = longer at.cutter r.0 c.read_and_cut.new.cutter k.0 in let n = at.invariant.long in let some = r.3 in omega (arith, l, n, some);
    }

pub returns-in_err-line-2-clause-err : goal.returns-in_err-line-2-clause-err
returns-in_err-line-2-clause-err g c =
    let at = c.loop-read in
    let left = g.S.Source.left c.args.source.now in
    let mid = g.S.Source.left at.source in
    let now = g.S.Source.left c.read_and_cut.new.source in
    let failed = g.S.Source.failures c.read_and_cut.new.source in
    let ended = g.S.Source.is_ended c.read_and_cut.new.source in
    err_more c.from_residual-in_err-line-2.result (IsLineRefused at.cutter [] mid now (HasLost (g.S.Source.failures at.source) failed ended)) _
    (λ fault r. refused_more left c.args.rest.now.items mid at.cutter now _ _ fault at.invariant.given
    (λ lost. elim lost [ inl e ↦ inl (e ∙ ap (λ (n : ℕ). n + 1) at.invariant.reads) | inr e ↦ inr e ]) r)
    (search rules)

pub returns-in-Some-2-clause-line : goal.returns-in-Some-2-clause-line
returns-in-Some-2-clause-line g c =
    let at = c.loop-read in
    cut_line (g.S.Source.left c.args.source.now) c.args.rest.now.items (g.S.Source.left at.source) at.cutter (g.S.Source.left c.read_and_cut.new.source) c.read_and_cut.new.cutter c.in_ok-line-2.field-0 c.in-Some-2.line at.rest.items c.read_and_cut.new.rest.items
    at.invariant.given at.invariant.none_left c.in-Some-2.is (c.in_ok-line-2.ensures {u = tt}).cut
