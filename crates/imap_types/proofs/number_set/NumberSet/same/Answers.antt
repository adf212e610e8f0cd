use Rattle.std.proofs.Common.{◌≡◌, ◌&&◌, eqb, ap, sym, ◌∙◌, Decides}
use Rattle.std.proofs.lemmas.Bool.{and_parts, and_from}
use Rattle.std.proofs.lemmas.Bool.Decides.{Decides-eqb}
use Rattle.std.proofs.lemmas.Slice.Eq.{slice_eq-Decides}
use Rattle.imap_types.specs.Numbers.{numbers_in, runs_of}
use Rattle.imap_types.specs.declared.number_set.Run.{Run}
use Rattle.imap_types.proofs.number_set.NumberSet.same.Goals as goal

runs_decide : (p q : Run) → Decides (eqb p.first q.first && eqb p.last q.last) (p ≡ q)
runs_decide p q = (
  λ e. let h = and_parts _ _ e in λ i. record { first = (Decides-eqb p.first q.first).0 h.0 i; last = (Decides-eqb p.last q.last).0 h.1 i },
  λ e. and_from _ _ ((Decides-eqb p.first q.first).1 (ap (λ r. r.first) e)) ((Decides-eqb p.last q.last).1 (ap (λ r. r.last) e)),
)

pub returns : goal.returns
returns c =
    let s = slice_eq-Decides runs_decide _ _ _ c.eq.ensures in (
      λ t. sym c.runs.ensures.numbers ∙ ap numbers_in (s.0 t) ∙ c.runs-2.ensures.numbers,
      λ e. s.1 (c.runs.ensures.runs ∙ ap runs_of e ∙ sym c.runs-2.ensures.runs),
    )
