use Rattle.std.proofs.Common.{◌≡◌, ℕ, true, false, List, [], ◌∷◌, ◌++◌, ap, sym, ◌∙◌, refl, append_assoc, flat_map}
use Rattle.std.proofs.lemmas.List.{append-nil}
use Rattle.mailbox_utf7.specs.ModifiedUtf7.{Run, direct_octets, in_shift, is_direct, octets_of_run, runs_of, spelling_of}
use Rattle.mailbox_utf7.specs.ModifiedUtf7.Run.{Direct, Shifted}
use Rattle.mailbox_utf7.specs.Reading.{after_shift, shift_if_any, spelling_after}

-- one more character in a shift
after_shift-one : (ps : List ℕ) (c : ℕ) (runs : List Run) → after_shift (ps ++ c ∷ []) runs ≡ after_shift ps (in_shift c runs)
after_shift-one [] c runs = refl
after_shift-one (p ∷ ps) c runs = ap (in_shift p) (after_shift-one ps c runs)

pub spelling_after-shifted : (ps : List ℕ) (c : ℕ) (rest : List ℕ) → is_direct c ≡ false → spelling_after (ps ++ c ∷ []) rest ≡ spelling_after ps (c ∷ rest)
spelling_after-shifted ps c rest f = rw f (ap (flat_map octets_of_run) (after_shift-one ps c (runs_of rest)))

-- a shift that has ended
after_shift-direct : (p : ℕ) (ps : List ℕ) (c : ℕ) (runs : List Run) → after_shift (p ∷ ps) (Direct c ∷ runs) ≡ Shifted (p ∷ ps) ∷ Direct c ∷ runs
after_shift-direct p [] c runs = refl
after_shift-direct p (q ∷ ps) c runs = ap (in_shift p) (after_shift-direct q ps c runs)

pub spelling_after-direct : (ps : List ℕ) (c : ℕ) (rest : List ℕ) → is_direct c ≡ true → spelling_after ps (c ∷ rest) ≡ shift_if_any ps ++ (direct_octets c ++ spelling_of rest)
spelling_after-direct [] c rest t = rw t refl
spelling_after-direct (p ∷ ps) c rest t = rw t (ap (flat_map octets_of_run) (after_shift-direct p ps c (runs_of rest)))

after_shift-nil : (p : ℕ) (ps : List ℕ) → after_shift (p ∷ ps) [] ≡ Shifted (p ∷ ps) ∷ []
after_shift-nil p [] = refl
after_shift-nil p (q ∷ ps) = ap (in_shift p) (after_shift-nil q ps)

pub spelling_after-nil : (ps : List ℕ) → spelling_after ps [] ≡ shift_if_any ps
spelling_after-nil [] = refl
spelling_after-nil (p ∷ ps) = ap (flat_map octets_of_run) (after_shift-nil p ps) ∙ append-nil _

-- a printable character was written, after the shift before it
pub direct_written : (output mid new pending after : List ℕ) (c : ℕ) → is_direct c ≡ true → mid ≡ output ++ shift_if_any pending → after ≡ [] → new ≡ mid ++ direct_octets c
    → (rest : List ℕ) → new ++ spelling_after after rest ≡ output ++ spelling_after pending (c ∷ rest)
direct_written output mid new pending after c t m a n rest =
    (λ i. (n ∙ ap (λ o. o ++ direct_octets c) m) i ++ spelling_after (a i) rest)
    ∙ append_assoc (output ++ shift_if_any pending) (direct_octets c) (spelling_of rest)
    ∙ append_assoc output (shift_if_any pending) _
    ∙ ap (λ o. output ++ o) (sym (spelling_after-direct pending c rest t))

-- a character waits for its shift's end
pub shifted_waits : (output new pending after : List ℕ) (c : ℕ) → is_direct c ≡ false → new ≡ output → after ≡ pending ++ c ∷ []
    → (rest : List ℕ) → new ++ spelling_after after rest ≡ output ++ spelling_after pending (c ∷ rest)
shifted_waits output new pending after c f n a rest =
    (λ i. n i ++ spelling_after (a i) rest) ∙ ap (λ o. output ++ o) (spelling_after-shifted pending c rest f)
