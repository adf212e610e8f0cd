-- Results that may be none, by another fact.
use Rattle.std.proofs.Common.{◌≡◌, Bool, true, false, Option, Some, None, Result, Ok, Err, sym, ◌∙◌}
use Rattle.std.specs.Prelude.{IfOk, MatchOption, OnErr, OnOk}

-- what holds of a value, or of none, by another form of the fact
pub lifted : {E X : Type 0} (P Q : X → Type 0) (r : Result (Option X) E) → ((x : X) → P x → Q x) → ((x : X) → Q x → P x)
    → IfOk r (λ it. MatchOption it ((x : X) → P x → ⊥) P) → IfOk r (λ it. MatchOption it ((x : X) → Q x → ⊥) Q)
lifted P Q (Err e) to back h = h
lifted P Q (Ok None) to back h = λ x q. h x (back x q)
lifted P Q (Ok (Some x)) to back h = to x h

-- what a call that succeeded says, by what is known
pub on_ok : {T E : Type 0} (r : Result T E) {P Q : Type 0} → (P → Q) → OnOk r P → OnOk r Q
on_ok (Ok x) f h = f h
on_ok (Err e) f h = h

pub if_ok : {T E : Type 0} (r : Result T E) (P Q : T → Type 0) → ((x : T) → P x → Q x) → IfOk r P → IfOk r Q
if_ok (Ok x) P Q f h = f x h
if_ok (Err e) P Q f h = h

-- what holds of an error
pub at_error : {T E : Type 0} (r : Result T E) (P : Type 0) → P → OnErr r P
at_error (Ok x) P h = tt
at_error (Err e) P h = h

-- what a test that failed says
pub not_so : {P : Type 0} (b : Bool) → (P → b ≡ true) → b ≡ false → P → ⊥
not_so b to f p =
    let k : true ≡ false = sym (to p) ∙ f in
    (let z : true ≡ false = k in cc)
