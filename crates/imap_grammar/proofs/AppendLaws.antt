-- The arguments of APPEND.
use Rattle.std.proofs.Common.{◌≡◌, ℕ, true, false, List, [], ◌∷◌, Option, Some, None, ap, ◌∙◌, refl, eqb, inl, inr}
use Rattle.std.proofs.lemmas.Bool.{eqb-true}
use Rattle.std.specs.Option.{unwrap_or}
use Rattle.imap_types.specs.declared.flags.Flags.{Flags}
use Rattle.imap_syntax.specs.Dates.{date_time}
use Rattle.imap_syntax.specs.Languages.{◌⌢◌, exactly, sp, optional}
use Rattle.imap_syntax.specs.MessageFlags.{append_flags, flag_group}
use Rattle.imap_grammar.specs.Reading.{literal_at, follows_space}
use Rattle.imap_grammar.specs.CommandReading.{append_date_at, append_flags_at, append_parts_at, flags_given, literal_text_at}
use Rattle.imap_syntax.specs.Strings.{begins_with, literal, mailbox}
use Rattle.imap_grammar.proofs.DateTimeLaws.{date_begins, date_reads}
use Rattle.imap_grammar.proofs.FlagLaws.{group_reads}
use Rattle.imap_grammar.proofs.FlagSets.{written_are, written_is}
use Rattle.imap_grammar.proofs.ReaderLaws.{IsArgEnd, IsWordEnd, HasPrefix, IsReader, both_reads, chosen, exactly_is, front_begins, map_reads, optional_ends, parts_around, peeked_reads, follows_space_no, sp_ends, spaced_reads}
use Rattle.imap_grammar.proofs.Texts.{literal_complete, literal_sound, mailbox_reads}

literal_text_sound : (octets : List ℕ) (x : List ℕ × List ℕ) → literal_text_at octets ≡ Some x → HasPrefix (literal x.0) octets x.1
literal_text_sound [] x h = cc
literal_text_sound (b ∷ bs) x h = elim (chosen (eqb b 123) (literal_at bs) None (Some x) h) [
  | inl t ↦ let f = literal_sound bs x t.1 in (f.0, f.1, ap (λ c. c ∷ bs) (eqb-true b 123 t.0) ∙ f.2)
  | inr n ↦ absurd cc
]

text_reads : (end : List ℕ → Type 0) → IsReader literal_text_at literal end
text_reads end = record {
  sound = literal_text_sound;
  complete = λ octets rest value f s. let g = literal_complete octets rest value f in ap literal_text_at g.1 ∙ g.2;
}

text_no_peek : (mark : ℕ) → eqb 123 mark ≡ false → (value octets rest : List ℕ) → HasPrefix (sp ⌢ literal value) octets rest → follows_space mark octets ≡ false
text_no_peek mark n value octets rest f =
    let p = parts_around sp (literal value) octets rest f in
    let q = parts_around (exactly (123 ∷ [])) _ p.0 rest p.2 in
    ap (follows_space mark) (exactly_is (32 ∷ []) octets p.0 p.1) ∙ follows_space_no mark p.0 (ap (begins_with mark) (exactly_is (123 ∷ []) p.0 q.0 q.1) ∙ n)

abbrev NoPeek : ℕ → List ℕ → Type 0
NoPeek mark rest = follows_space mark rest ≡ false

append_date_reads : IsReader append_date_at (optional date_time) (NoPeek 34)
append_date_reads = peeked_reads 34 (date_reads (NoPeek 34)) date_begins (NoPeek 34) (λ rest s. s) (λ rest s. s)

append_flags_reads : IsReader append_flags_at append_flags (NoPeek 40)
append_flags_reads =
    map_reads (peeked_reads 40 (group_reads (NoPeek 40)) (λ value octets rest f. front_begins 40 _ octets rest f) (NoPeek 40) (λ rest s. s) (λ rest s. s))
    flags_given append_flags (λ value text h. (value, h, written_are (unwrap_or value []))) (λ it text h. (h.0, h.1, written_is (unwrap_or h.0 []) it h.2))

first_differs : (octets : List ℕ) → begins_with 34 octets ≡ true → begins_with 40 octets ≡ false
first_differs [] h = cc
first_differs (b ∷ bs) h = ap (λ c. eqb c 40) (eqb-true b 34 h)

date_no_peek : (date : Option (List ℕ)) (value octets rest : List ℕ) → HasPrefix (optional date_time date ⌢ sp ⌢ literal value) octets rest → follows_space 40 octets ≡ false
date_no_peek None value octets rest f =
    let p = parts_around (optional date_time None) _ octets rest f in
    ap (follows_space 40) (exactly_is [] octets p.0 p.1) ∙ text_no_peek 40 refl value p.0 rest p.2
date_no_peek (Some date) value octets rest f =
    let p = parts_around (optional date_time (Some date)) _ octets rest f in
    let q = parts_around sp (date_time date) octets p.0 p.1 in
    ap (follows_space 40) (exactly_is (32 ∷ []) octets q.0 q.1) ∙ follows_space_no 40 q.0 (first_differs q.0 (date_begins date q.0 p.0 q.2))

flags_end : (flags : Flags) (date : Option (List ℕ)) (value octets rest : List ℕ) → HasPrefix (append_flags flags ⌢ optional date_time date ⌢ sp ⌢ literal value) octets rest → IsWordEnd octets
flags_end flags date value octets rest f =
    let p = parts_around (append_flags flags) _ octets rest f in
    let q = parts_around (optional date_time date) _ p.0 rest p.2 in
    let tail : IsWordEnd p.0 = optional_ends date_time date p.0 q.0 q.1 (sp_ends (literal value) q.0 rest q.2) in
    optional_ends flag_group p.1.1.0 octets p.0 (p.1.0, p.1.1.1, p.1.2) tail

pub append_parts : IsReader append_parts_at (λ p. sp ⌢ mailbox p.0 ⌢ append_flags p.1.0 ⌢ optional date_time p.1.1.0 ⌢ sp ⌢ literal p.1.1.1) IsArgEnd
append_parts =
    spaced_reads (both_reads mailbox_reads
    (both_reads append_flags_reads
    (both_reads append_date_reads (spaced_reads (text_reads IsArgEnd)) (λ octets rest value f s. text_no_peek 34 refl value octets rest f))
    (λ octets rest value f s. date_no_peek value.0 value.1 octets rest f))
    (λ octets rest value f s. flags_end value.0 value.1.0 value.1.1 octets rest f))
