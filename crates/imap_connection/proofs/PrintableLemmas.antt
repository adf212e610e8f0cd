use Rattle.std.proofs.Common.{◌≡◌, inl, inr, ℕ, Bool, true, not, ◌&&◌, List, [], ◌∷◌, length, refl, sym, subst}
use Rattle.std.specs.List.{list_all}
use Rattle.std.proofs.Math.Dec.{eqb-suc-zero}
use Rattle.imap_answers.specs.Printable.{IsPrintable, IsTag}
use Rattle.imap_answers.specs.declared.answer.Answer.{Answer}
use Rattle.imap_syntax.specs.Strings.{run}
use Rattle.imap_syntax.specs.declared.octet_class.OctetClass.TheVariants as classes
use Rattle.imap_types.specs.Keywords.{is_tag_octet}
use Rattle.imap_connection.specs.FaultAnswers.{IsFaultAnswer, IsLiteralAnswer}

tag_is : (tag text : List ℕ) → run classes.Tag tag text → IsTag tag
tag_is [] text h = absurd (h.0 refl)
tag_is (octet ∷ octets) text h = subst (λ (b : Bool). (not b && list_all is_tag_octet (octet ∷ octets)) ≡ true) (sym (eqb-suc-zero (length octets))) h.1

-- the answer to a frame that spells no command can be printed
pub fault_printable : (frame : List ℕ) (answer : Answer) → IsFaultAnswer frame answer → IsPrintable answer
fault_printable frame answer h =
    elim h [
      | inl n ↦ subst IsPrintable (sym n.1) tt
      | inr t ↦ subst IsPrintable (sym t.5) (tag_is t.0 t.0 t.3.0)
    ]

-- the answer to a command beginning that is refused can be printed
pub literal_printable : (front : List ℕ) (answer : Answer) → IsLiteralAnswer front answer → IsPrintable answer
literal_printable front answer h =
    elim h [
      | inl n ↦ subst IsPrintable (sym n.1) tt
      | inr t ↦ subst IsPrintable (sym t.3) (tag_is t.0 t.0 t.2.0)
    ]
