use Rattle.std.proofs.Common.{◌≡◌, ◌++◌, List, ℕ, Result, Ok, Err, OnOk, append_assoc, ap, ◌∙◌, codes}
use Rattle.std.specs.Fmt.{decimal}
use Rattle.mail_script.proofs.outcome_line.push_text.Goals as goal

two_appended : {T E : Type 0} (r : Result T E) (old mid new front back : List ℕ) → mid ≡ old ++ front → OnOk r (new ≡ mid ++ back) → OnOk r (new ≡ old ++ (front ++ back))
two_appended (Ok x) old mid new front back m h = h ∙ ap (λ (t : List ℕ). t ++ back) m ∙ append_assoc old front back
two_appended (Err e) old mid new front back m h = tt

pub returns-in_ok-push-in-BadScript-clause-ok : goal.returns-in_ok-push-in-BadScript-clause-ok
returns-in_ok-push-in-BadScript-clause-ok c =
    rw (c.in-BadScript.is)
    (two_appended c.push_number-in-BadScript.result c.args.out.now.items c.push-in-BadScript.new.out.items c.push_number-in-BadScript.new.out.items (codes "bad script: line ") (decimal c.in-BadScript.line)
    c.in_ok-push-in-BadScript.ensures.ok
    c.push_number-in-BadScript.ensures.ok)

pub returns-in-CannotRead-clause-ok : goal.returns-in-CannotRead-clause-ok
returns-in-CannotRead-clause-ok c = rw (c.in-CannotRead.is) (c.push-in-CannotRead.ensures.ok)
