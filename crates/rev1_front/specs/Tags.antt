-- The tags of commands, and the lines that bear them (RFC 3501, sections 2.2.1 and 2.2.2).

use Rattle.std.specs.Prelude.{◌≡◌, ℕ, Bool, true, ◌||◌, ◌==◌, List, [], ◌∷◌, ◌++◌}
use Rattle.std.specs.Prelude.{Option, Some, None}
use Rattle.imap_answers.specs.declared.answer.Answer.{Answer}
use Rattle.imap_answers.specs.declared.answer.Answer.TheVariants as answers
use Rattle.rev1_front.specs.declared.taken.Taken.{Taken}
use Rattle.rev1_front.specs.declared.taken.Taken.TheVariants as taken

-- The tag of an answer that is a tagged line.
abbrev pub tag_of_answer : Answer → Option (List ℕ)
tag_of_answer (answers.Completed tag code command) = Some tag
tag_of_answer (answers.Refused tag reason) = Some tag
tag_of_answer _ = None

-- The tag of what a frame is to a session.
abbrev pub tag_of_taken : Taken → Option (List ℕ)
tag_of_taken (taken.Answer answer) = tag_of_answer answer
tag_of_taken (taken.Refused tag reason) = Some tag
tag_of_taken (taken.Identity tag) = Some tag
tag_of_taken (taken.Challenge tag) = Some tag
tag_of_taken (taken.Command tagged form) = Some tagged.tag
tag_of_taken (taken.AsksDays fetch) = Some fetch.tag
tag_of_taken (taken.Line tag line) = Some tag
tag_of_taken (taken.Rename tag from to) = Some tag

-- Whether a text is empty or begins with `*` (42) or `+` (43), as no tag does (RFC 3501, section 9,
-- tag).
abbrev pub is_untagged : List ℕ → Bool
is_untagged [] = true
is_untagged (octet ∷ octets) = (octet == 42) || (octet == 43)

-- A text of an answer with this tag, or without one.
abbrev pub HasTagOf : Option (List ℕ) → List ℕ → Type 0
HasTagOf None text = is_untagged text ≡ true
HasTagOf (Some tag) text = (rest : List ℕ) × (text ≡ tag ++ 32 ∷ rest)

-- A text for each answer, in their order, with the answer's tag.
abbrev pub AreTextsOf : List Answer → List (List ℕ) → Type 0
AreTextsOf [] texts = texts ≡ []
AreTextsOf (answer ∷ given) [] = ⊥
AreTextsOf (answer ∷ given) (text ∷ texts) =
    HasTagOf (tag_of_answer answer) text × AreTextsOf given texts
