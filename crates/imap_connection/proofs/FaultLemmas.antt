use Rattle.std.proofs.Common.{◌≡◌, ◌⊎◌, inl, inr, ◌↔◌, ℕ, List, Result, Ok, Err, refl, subst}
use Rattle.imap_syntax.specs.Commands.{IsSpelled}
use Rattle.imap_syntax.specs.Faults.{HasTag, NamesCommand}
use Rattle.imap_syntax.specs.declared.command.Tagged.{Tagged}
use Rattle.imap_grammar.specs.declared.fault.ParseFault.{ParseFault}
use Rattle.imap_grammar.specs.declared.fault.ParseFault.TheVariants as faults
use Rattle.imap_answers.specs.declared.answer.Answer.{Answer}
use Rattle.imap_connection.specs.FaultAnswers.{HasUnknownWord, IsFaultAnswer, IsReason, IsUnspelled}
use Rattle.imap_connection.specs.RequestSteps.{AnswersFault, reason_for}

module _ (frame : List ℕ) (why : ParseFault) where
  -- The parser's refusal of a frame, for this fault.
  pub record Refuses : Type 0 where
    pub only : (tagged : Tagged) → IsSpelled tagged frame → (◌≡◌ {A = Result Tagged ParseFault} (Err why) (Ok tagged)) ⊎ (◌≡◌ {A = Result Tagged ParseFault} (Err why) (Err faults.NoMemory))
    pub no_tag : (◌≡◌ {A = Result Tagged ParseFault} (Err why) (Err faults.NoTag)) ↔ (HasTag frame → ⊥)
    pub unknown : (◌≡◌ {A = Result Tagged ParseFault} (Err why) (Err faults.UnknownCommand)) ↔ (HasTag frame × (NamesCommand frame → ⊥))

known : (frame : List ℕ) (why : ParseFault) → Refuses frame why → (◌≡◌ {A = Result Tagged ParseFault} (Err why) (Err faults.UnknownCommand) → ⊥) → HasUnknownWord frame → ⊥
known frame why r n u = n (r.unknown.1 u)

unspelled : (frame : List ℕ) (why : ParseFault) → Refuses frame why → (◌≡◌ {A = Result Tagged ParseFault} (Err why) (Err faults.NoMemory) → ⊥) → IsUnspelled frame
unspelled frame why r n tagged s = elim (r.only tagged s) [ inl e ↦ cc | inr e ↦ n e ]

reason_is : (frame : List ℕ) (why : ParseFault) → HasTag frame → Refuses frame why → IsReason frame (reason_for why)
reason_is frame faults.NoTag t r = absurd (r.no_tag.0 refl t)
reason_is frame faults.UnknownCommand t r = r.unknown.0 refl
reason_is frame faults.BadSyntax t r = (unspelled frame faults.BadSyntax r (λ e. cc), known frame faults.BadSyntax r (λ e. cc))
reason_is frame faults.NotInProfile t r = (unspelled frame faults.NotInProfile r (λ e. cc), known frame faults.NotInProfile r (λ e. cc))
reason_is frame faults.NoMemory t r = known frame faults.NoMemory r (λ e. cc)

-- the answer to the fault, with or without a tag, is the answer to the frame
pub answers_fault : (frame : List ℕ) (why : ParseFault) (answer : Answer) → Refuses frame why → AnswersFault why frame answer → IsFaultAnswer frame answer
answers_fault frame why answer r a =
    elim a [
      | inl n ↦ inl n
      | inr t ↦ inr (t.0, t.1, reason_for why, t.2, reason_is frame why (t.0, t.1, t.2) r, t.3)
    ]

-- the answer to the frame, given the parser's result
pub fault_of_result : (frame : List ℕ) (why : ParseFault) (answer : Answer) (result : Result Tagged ParseFault) → result ≡ Err why
    → ((tagged : Tagged) → IsSpelled tagged frame → (result ≡ Ok tagged) ⊎ (result ≡ Err faults.NoMemory))
    → ((result ≡ Err faults.NoTag) ↔ (HasTag frame → ⊥))
    → ((result ≡ Err faults.UnknownCommand) ↔ (HasTag frame × (NamesCommand frame → ⊥)))
    → AnswersFault why frame answer → IsFaultAnswer frame answer
fault_of_result frame why answer result e o n u a =
    answers_fault frame why answer (record {
      only = subst (λ (r : Result Tagged ParseFault). (tagged : Tagged) → IsSpelled tagged frame → (r ≡ Ok tagged) ⊎ (r ≡ Err faults.NoMemory)) e o;
      no_tag = subst (λ (r : Result Tagged ParseFault). (r ≡ Err faults.NoTag) ↔ (HasTag frame → ⊥)) e n;
      unknown = subst (λ (r : Result Tagged ParseFault). (r ≡ Err faults.UnknownCommand) ↔ (HasTag frame × (NamesCommand frame → ⊥))) e u;
    }) a
