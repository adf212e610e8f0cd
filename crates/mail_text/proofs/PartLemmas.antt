use Rattle.std.proofs.Common.{◌≡◌, ℕ, ◌<◌, ◌++◌, true, false, List, [], ◌∷◌, length, ap, sym, ◌∙◌, arith, refl, append_assoc}
use Rattle.std.specs.List.{concat}
use Rattle.mail_text.specs.TextLines.{body_lines, header_lines, is_empty_line, lines_of}
use Rattle.mail_text.specs.HeaderAndBody.{body_of, header_of}
use Rattle.mail_text.specs.Cuts.{IsWithin, IsAfterHeader}
use Rattle.mail_text.proofs.LineLemmas.{lines-joined}

append_nil : (xs : List ℕ) → xs ++ [] ≡ xs
append_nil [] = refl
append_nil (x ∷ xs) = ap (λ ys. x ∷ ys) (append_nil xs)

pub starts : (text : List ℕ) → IsWithin text text
starts text = record { front = []; split = refl; header = refl; body = refl }

-- a line that isn't empty
pub within_tail : (text rest line tail : List ℕ) → IsWithin text rest → lines_of rest ≡ line ∷ lines_of tail → line ++ tail ≡ rest → is_empty_line line ≡ false → IsWithin text tail
within_tail text rest line tail w e p f =
    let h : header_of rest ≡ line ++ header_of tail = ap (λ ls. concat (header_lines ls)) e ∙ rw f refl in
    let b : body_of rest ≡ body_of tail = ap (λ ls. concat (body_lines ls)) e ∙ rw f refl in
    record {
      front = w.front ++ line;
      split = w.split ∙ ap (λ xs. w.front ++ xs) (sym p) ∙ sym (append_assoc w.front line tail);
      header = w.header ∙ ap (λ xs. w.front ++ xs) h ∙ sym (append_assoc w.front line (header_of tail));
      body = w.body ∙ b;
    }

-- the empty line
pub ends : (text rest line tail : List ℕ) → IsWithin text rest → lines_of rest ≡ line ∷ lines_of tail → line ++ tail ≡ rest → is_empty_line line ≡ true → IsAfterHeader text tail
ends text rest line tail w e p f =
    let h : header_of rest ≡ line ++ [] = ap (λ ls. concat (header_lines ls)) e ∙ rw f refl in
    let b : body_of rest ≡ tail = ap (λ ls. concat (body_lines ls)) e ∙ rw f (lines-joined tail) in
    let k : header_of text ≡ w.front ++ line = w.header ∙ ap (λ xs. w.front ++ xs) (h ∙ append_nil line) in
    record {
      split = w.split ∙ ap (λ xs. w.front ++ xs) (sym p) ∙ sym (append_assoc w.front line tail) ∙ ap (λ xs. xs ++ tail) (sym k);
      body = w.body ∙ b;
    }

-- no further lines
pub all_header : (text rest : List ℕ) → IsWithin text rest → length rest < 1 → IsAfterHeader text rest
all_header text [] w l = let k : header_of text ≡ w.front = w.header ∙ append_nil w.front in record { split = w.split ∙ ap (λ xs. xs ++ []) (sym k); body = w.body }
all_header text (x ∷ rest) w l = absurd (omega arith)
