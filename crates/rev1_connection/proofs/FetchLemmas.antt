use Rattle.std.proofs.Common.{◌≡◌, ◌⊎◌, ◌↔◌, inl, inr, ℕ, Bool, true, List, ◌∷◌, length, take, drop, Result, Ok, Err, ap, sym, ◌∙◌, subst, arith, min}
use Rattle.std.specs.Prelude.{IfOk}
use Rattle.std.proofs.Math.Seq.{drop-append_seam}
use Rattle.std.proofs.lemmas.Bool.{cases_lt}
use Rattle.std.proofs.lemmas.Bool.Decides.{same_from_decides}
use Rattle.std.proofs.lemmas.List.{take_all}
use Rattle.std.proofs.lemmas.Slice.Eq.{bytes_eq-Decides}
use Rattle.imap_types.specs.Keywords.{to_lower_case}
use Rattle.mail_text.specs.TextSearch.{is_prefix}
use Rattle.imap_answers.specs.declared.answer.Answer.{Answer}
use Rattle.imap_grammar.specs.declared.fault.ParseFault.{ParseFault}
use Rattle.imap_grammar.specs.declared.fault.ParseFault.TheVariants as faults
use Rattle.imap_syntax.specs.Commands.{IsSpelled}
use Rattle.imap_syntax.specs.Faults.{IsTagged}
use Rattle.imap_syntax.specs.declared.command.Tagged.{Tagged}
use Rattle.rev1_connection.specs.FrontRequests.{IsFetchAfter, IsUntakenRequest, cut_fetch}
use Rattle.rev1_connection.specs.declared.request.FrontRequest.{FrontRequest}
use Rattle.rev1_connection.proofs.HandlingLemmas.{ok_map}

-- the octets after a tag
tagged_after : (frame tag rest after : List ℕ) → IsTagged frame tag rest → after ≡ drop (length tag) frame → after ≡ 32 ∷ rest
tagged_after frame tag rest after t e = e ∙ ap (drop (length tag)) t.1 ∙ drop-append_seam tag (32 ∷ rest)

-- what a frame with a tag is
pub untaken : {E : Type 0} (r : Result FrontRequest E) (frame tag after : List ℕ) (answer : Answer) → ((rest : List ℕ) × IsTagged frame tag rest) → after ≡ drop (length tag) frame
    → IfOk r (IsFetchAfter tag (cut_fetch after) answer) → IfOk r (IsUntakenRequest frame answer)
untaken r frame tag after answer t e h =
    ok_map r h (λ request k. inr (tag, t.0, t.1, subst (λ (a : List ℕ). IsFetchAfter tag (cut_fetch a) answer request) (tagged_after frame tag t.0 after t.1 e) k))

-- ---- a word at the beginning

-- by as many octets as there are
taken_word : (letters octets : List ℕ) → take (min (length letters) (length octets)) octets ≡ take (length letters) octets
taken_word letters octets = elim (cases_lt (length octets) (length letters)) [
  | inl l ↦ let n : min (length letters) (length octets) ≡ length octets = omega arith in ap (λ k. take k octets) n ∙ take_all (length octets) octets (omega arith) ∙ sym (take_all (length letters) octets (omega arith))
  | inr l ↦ let n : min (length letters) (length octets) ≡ length letters = omega arith in ap (λ k. take k octets) n
]

pub prefix_test : (letters octets : List ℕ) (n : ℕ) (b : Bool) → n ≡ min (length letters) (length octets) → (b ≡ true) ↔ (to_lower_case (take n octets) ≡ to_lower_case letters) → b ≡ is_prefix letters octets
prefix_test letters octets n b e h =
    let t : take n octets ≡ take (length letters) octets = ap (λ k. take k octets) e ∙ taken_word letters octets in
    same_from_decides b (is_prefix letters octets) (λ k. ap to_lower_case (sym t) ∙ h.0 k, λ k. h.1 (ap to_lower_case t ∙ k))
    (bytes_eq-Decides (to_lower_case (take (length letters) octets)) (to_lower_case letters))

-- ---- the command of the profile

-- a frame that isn't read spells no command, unless memory ran out
pub not_spelled : (frame : List ℕ) (r : Result Tagged ParseFault) → ((tagged : Tagged) → IsSpelled tagged frame → (r ≡ Ok tagged) ⊎ (r ≡ Err faults.NoMemory)) → (e : ParseFault) → r ≡ Err e → (e ≡ faults.NoMemory → ⊥) → (tagged : Tagged) → IsSpelled tagged frame → ⊥
not_spelled frame r only e h other tagged s = elim (only tagged s) [
  | inl k ↦ cc
  | inr k ↦ other (let same : ◌≡◌ {A = Result Tagged ParseFault} (Err e) (Err faults.NoMemory) = sym h ∙ k in cc)
]
