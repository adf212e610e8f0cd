-- The agreement of a function, which may run out of memory, with its definition.

use Rattle.std.specs.Prelude.{◌≡◌, ◌⊎◌, Result, Ok, Err}
use Rattle.imap_answers.specs.declared.fixed_words.Refusal.{Refusal}
use Rattle.imap_answers.specs.declared.fixed_words.Refusal.TheVariants.{NoMemory}

-- The function's result is the definition's, as `view` shows it; or the function ran out of memory.
abbrev pub EqualsOrLacksMemory : {X Y : Type 0} → (X → Y) → Result X Refusal → Result Y Refusal
    → Type 0
EqualsOrLacksMemory view (Ok x) outcome = outcome ≡ Ok (view x)
EqualsOrLacksMemory view (Err why) outcome = (why ≡ NoMemory) ⊎ (outcome ≡ Err why)
