-- Modifiers with their mod-sequence.
use Rattle.std.proofs.Common.{◌≡◌, ℕ, true, false, List, ap, ◌∙◌}
use Rattle.std.specs.List.{list_all}
use Rattle.imap_types.specs.Keywords.{to_lower_case}
use Rattle.imap_syntax.specs.Commands.{modifier}
use Rattle.imap_syntax.specs.Languages.{◌⌢◌, sp, word, optional}
use Rattle.imap_grammar.specs.Reading.{◌>>=◌, after_word, modifier_at, modifier_group_at, number_at, follows_space, spaced}
use Rattle.imap_syntax.specs.Strings.{is_in, number_to}
use Rattle.imap_syntax.specs.declared.octet_class.OctetClass.TheVariants.{Digit, Item}
use Rattle.imap_grammar.proofs.ReaderLaws.{IsArgEnd, IsReader, bind_some, closes_ends, front_begins, joined, parens_reads, parts_around, peeked_reads, sp_ends, spaced_reads}
use Rattle.imap_grammar.proofs.SetLaws.{number_reads}
use Rattle.imap_grammar.proofs.Spans.{ends_stop}
use Rattle.imap_grammar.proofs.WordLaws.{after_word_complete, after_word_sound, ends_item}

module _ (token : List ℕ) (words : list_all (is_in Item) (to_lower_case token) ≡ true) where
  inner_reads : IsReader (λ octets. after_word token octets >>= spaced (number_at 9223372036854775807)) (λ value. word token ⌢ sp ⌢ number_to 9223372036854775807 value) IsArgEnd
  inner_reads = record {
    sound = λ octets x h.
        let a = bind_some (after_word token octets) _ x h in
        joined (word token) (sp ⌢ number_to 9223372036854775807 x.0) octets a.0 x.1 (after_word_sound token octets a.0 a.1) ((spaced_reads (number_reads 9223372036854775807)).sound a.0 x a.2);
    complete = λ octets rest value f s.
        let p = parts_around (word token) (sp ⌢ number_to 9223372036854775807 value) octets rest f in
        ap (λ r. r >>= spaced (number_at 9223372036854775807)) (after_word_complete token octets p.0 words p.1 (ends_item p.0 (sp_ends (number_to 9223372036854775807 value) p.0 rest p.2)))
        ∙ (spaced_reads (number_reads 9223372036854775807)).complete p.0 rest value p.2 (ends_stop Digit rest (closes_ends rest s));
  }

  group_reads : (end : List ℕ → Type 0) → IsReader (modifier_group_at token) (modifier token) end
  group_reads end = parens_reads inner_reads {stops = end}

  pub modifier_reads : (end : List ℕ → Type 0) → ((rest : List ℕ) → end rest → follows_space 40 rest ≡ false) → IsReader (modifier_at token) (optional (modifier token)) end
  modifier_reads end calm = peeked_reads 40 (group_reads end) (λ value octets rest f. front_begins 40 _ octets rest f) end (λ rest s. s) calm
