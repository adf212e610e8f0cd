use Rattle.std.proofs.Common.{◌≡◌, ◌-◌, ◌<◌, ◌∙◌, length, get_or, sym, ap, arith}
use Rattle.imap_types.specs.Numbers.{greatest}
use Rattle.imap_types.specs.declared.number_set.Run.{Run}
use Rattle.imap_types.proofs.NumbersLemmas.{greatest-last}
use Rattle.imap_types.proofs.number_set.NumberSet.greatest.Goals as goal

pub returns-in-Some : goal.returns-in-Some
returns-in-Some c =
    let runs = c.self.inside.runs.items in
    let x = c.in-Some.run'.now in
    let value : c.deref.result.now ≡ runs = c.deref.ensures.value in
    let item : x ≡ get_or c.deref.result.now (length c.deref.result.now - 1) x = c.in-Some.ensures.item.1 in
    let filled : 0 < length c.deref.result.now = c.in-Some.ensures.item.3.0 in
    let item' : x ≡ get_or runs (length runs - 1) x = rw value at item in
    let filled' : 0 < length runs = rw value at filled in
    ap (λ (r : Run). r.last) item' ∙ sym (greatest-last 1 (length runs - 1) runs x (omega arith) c.self.invariant) ∙ ap greatest c.self.view_is
