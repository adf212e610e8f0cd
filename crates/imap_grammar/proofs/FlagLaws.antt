-- Flags: the code reads exactly the texts that spell flags.
use Rattle.std.proofs.Common.{◌≡◌, ℕ, true, false, cond, List, [], ◌∷◌, ◌++◌, Some, ap, ◌∙◌, refl, subst, arith, eqb, inl, inr}
use Rattle.std.proofs.lemmas.Bool.{and_parts, eqb-true}
use Rattle.std.proofs.lemmas.Bool.Decides.{nat_tests}
use Rattle.std.specs.List.{list_all}
use Rattle.imap_types.specs.Keywords.{to_lower_case, is_atom_octet}
use Rattle.imap_syntax.specs.Languages.{exactly, sp, word, listed, maybe_listed}
use Rattle.imap_syntax.specs.MessageFlags.{flag, flag_group, stored, stored_texts}
use Rattle.imap_grammar.specs.Reading.{flag_at, flag_group_at, flags_of, listed_at, map_read, maybe_flags_at, named, named_at, no_flags, run_at, store_flags_at, stored_texts_at, ◌>>=◌}
use Rattle.imap_syntax.specs.Strings.{begins_with, is_in, run}
use Rattle.imap_syntax.specs.Words.{system_flags, system_word}
use Rattle.imap_syntax.specs.declared.octet_class.OctetClass.TheVariants.{Atom, Item}
use Rattle.imap_syntax.specs.declared.flags.Flag.{Flag}
use Rattle.imap_syntax.specs.declared.flags.Flag.TheVariants.{System, Keyword}
use Rattle.imap_syntax.specs.declared.flags.SystemFlag.{SystemFlag}
use Rattle.imap_syntax.specs.declared.flags.SystemFlag.TheVariants as system
use Rattle.imap_grammar.proofs.FlagSets.{written_are, written_is}
use Rattle.imap_grammar.proofs.ReaderLaws.{IsArgEnd, IsWordEnd, HasPrefix, IsReader, BeginsWithClosingParen, bind_some, chosen, closes_ends, closes_no_space, enclosed_reads, exactly_is, front_begins, joined, map_reads, parts_around, closing_paren_closes, some_is, stopping}
use Rattle.imap_grammar.proofs.Lists.{listed_reads}
use Rattle.imap_grammar.proofs.Spans.{run_reads}
use Rattle.imap_grammar.proofs.WordLaws.{ends_item, table_reads}

system_named : (w : SystemFlag) → named system_word system_flags (system_word w) ≡ Some w
system_named system.Answered = refl
system_named system.Flagged = refl
system_named system.Deleted = refl
system_named system.Seen = refl
system_named system.Draft = refl

system_letters : (w : SystemFlag) → list_all (is_in Item) (to_lower_case (system_word w)) ≡ true
system_letters system.Answered = refl
system_letters system.Flagged = refl
system_letters system.Deleted = refl
system_letters system.Seen = refl
system_letters system.Draft = refl

system_reads : IsReader (named_at system_word system_flags) (λ w. word (system_word w)) IsWordEnd
system_reads = stopping (table_reads system_word system_flags system_named system_letters) IsWordEnd ends_item

flag_sound : (octets : List ℕ) (x : Flag × List ℕ) → flag_at octets ≡ Some x → HasPrefix (flag x.0) octets x.1
flag_sound [] x h = cc
flag_sound (b ∷ bs) x h =
    elim (chosen (eqb b 92) (map_read System (named_at system_word system_flags) bs) (map_read Keyword (run_at Atom) (b ∷ bs)) (Some x) h) [
      | inl t ↦
          let a = bind_some (named_at system_word system_flags bs) _ x t.1 in
          subst (λ (y : Flag × List ℕ). HasPrefix (flag y.0) (b ∷ bs) y.1) (some_is (System a.0.0, a.0.1) x a.2)
          (joined (exactly (92 ∷ [])) (word (system_word a.0.0)) (b ∷ bs) bs a.0.1 (92 ∷ [], refl, ap (λ c. c ∷ bs) (eqb-true b 92 t.0)) (system_reads.sound bs a.0 a.1))
      | inr n ↦
          let a = bind_some (run_at Atom (b ∷ bs)) _ x n.1 in
          subst (λ (y : Flag × List ℕ). HasPrefix (flag y.0) (b ∷ bs) y.1) (some_is (Keyword a.0.0, a.0.1) x a.2) ((run_reads Atom).sound (b ∷ bs) a.0 a.1)
    ]

atom_no : (b : ℕ) → is_atom_octet b ≡ true → (eqb b 92 ≡ false) × (eqb b 40 ≡ false) × (eqb b 41 ≡ false)
atom_no b h = (grind (arith, nat_tests), grind (arith, nat_tests), grind (arith, nat_tests))

-- the first octet of an atom
atom_first : (keyword text octets rest : List ℕ) → run Atom keyword text → octets ≡ text ++ rest → (begins_with 92 octets ≡ false) × (begins_with 40 octets ≡ false) × (begins_with 41 octets ≡ false)
atom_first [] text octets rest r e = absurd (r.0 refl)
atom_first (b ∷ bs) text octets rest r e =
    let is : octets ≡ (b ∷ bs) ++ rest = e ∙ ap (λ xs. xs ++ rest) r.2 in
    let n = atom_no b (and_parts (is_atom_octet b) (list_all (is_in Atom) bs) r.1).0 in
    (ap (begins_with 92) is ∙ n.0, ap (begins_with 40) is ∙ n.1, ap (begins_with 41) is ∙ n.2)

no_escape : (octets : List ℕ) → begins_with 92 octets ≡ false → flag_at octets ≡ map_read Keyword (run_at Atom) octets
no_escape [] h = refl
no_escape (b ∷ bs) h = ap (λ c. cond c (map_read System (named_at system_word system_flags) bs) (map_read Keyword (run_at Atom) (b ∷ bs))) h

flag_complete : (value : Flag) (octets rest : List ℕ) → HasPrefix (flag value) octets rest → IsWordEnd rest → flag_at octets ≡ Some (value, rest)
flag_complete (System known) octets rest f s =
    let p = parts_around (exactly (92 ∷ [])) (word (system_word known)) octets rest f in
    ap flag_at (exactly_is (92 ∷ []) octets p.0 p.1) ∙ ap (λ r. r >>= λ first. Some (System first.0, first.1)) (system_reads.complete p.0 rest known p.2 s)
flag_complete (Keyword keyword) octets rest f s =
    no_escape octets (atom_first keyword f.0 octets rest f.1 f.2).0 ∙ ap (λ r. r >>= λ first. Some (Keyword first.0, first.1)) ((run_reads Atom).complete octets rest keyword f s)

flag_reads : IsReader flag_at flag IsWordEnd
flag_reads = record { sound = flag_sound; complete = λ octets rest value f s. flag_complete value octets rest f s }

flags_reads : IsReader (listed_at 32 flag_at) (listed sp flag) IsArgEnd
flags_reads = listed_reads 32 flag_reads IsArgEnd closes_no_space closes_ends (λ octets. refl)

flag_first : (value : Flag) (octets rest : List ℕ) → HasPrefix (flag value) octets rest → (begins_with 40 octets ≡ false) × (begins_with 41 octets ≡ false)
flag_first (System known) octets rest f =
    let p = parts_around (exactly (92 ∷ [])) (word (system_word known)) octets rest f in
    let e = exactly_is (92 ∷ []) octets p.0 p.1 in
    (ap (begins_with 40) e, ap (begins_with 41) e)
flag_first (Keyword keyword) octets rest f = let n = atom_first keyword f.0 octets rest f.1 f.2 in (n.1, n.2)

list_first : (values : List Flag) (octets rest : List ℕ) → HasPrefix (listed sp flag values) octets rest → (begins_with 40 octets ≡ false) × (begins_with 41 octets ≡ false)
list_first [] octets rest f = absurd f.1
list_first (v ∷ vs) octets rest f = let p = parts_around (flag v) _ octets rest f in flag_first v octets p.0 p.1

maybe_from : (values : List Flag) (octets rest : List ℕ) → HasPrefix (listed sp flag values) octets rest → HasPrefix (maybe_listed sp flag values) octets rest
maybe_from [] octets rest f = absurd f.1
maybe_from (v ∷ vs) octets rest f = f

maybe_sound : (octets : List ℕ) (x : List Flag × List ℕ) → maybe_flags_at octets ≡ Some x → HasPrefix (maybe_listed sp flag x.0) octets x.1
maybe_sound [] x h = cc
maybe_sound (b ∷ bs) x h =
    elim (chosen (eqb b 41) (Some ([], b ∷ bs)) (listed_at 32 flag_at (b ∷ bs)) (Some x) h) [
      | inl t ↦ subst (λ (y : List Flag × List ℕ). HasPrefix (maybe_listed sp flag y.0) (b ∷ bs) y.1) (some_is ([], b ∷ bs) x t.1) ([], refl, refl)
      | inr n ↦ maybe_from x.0 (b ∷ bs) x.1 (flags_reads.sound (b ∷ bs) x n.1)
    ]

shut_none : (rest : List ℕ) → begins_with 41 rest ≡ true → maybe_flags_at rest ≡ Some ([], rest)
shut_none [] h = cc
shut_none (b ∷ bs) h = ap (λ c. cond c (Some ([], b ∷ bs)) (listed_at 32 flag_at (b ∷ bs))) h

shut_some : (octets : List ℕ) → begins_with 41 octets ≡ false → maybe_flags_at octets ≡ listed_at 32 flag_at octets
shut_some [] h = refl
shut_some (b ∷ bs) h = ap (λ c. cond c (Some ([], b ∷ bs)) (listed_at 32 flag_at (b ∷ bs))) h

maybe_complete : (values : List Flag) (octets rest : List ℕ) → HasPrefix (maybe_listed sp flag values) octets rest → BeginsWithClosingParen rest → maybe_flags_at octets ≡ Some (values, rest)
maybe_complete [] octets rest f s = ap maybe_flags_at (exactly_is [] octets rest f) ∙ shut_none rest s
maybe_complete (v ∷ vs) octets rest f s = shut_some octets (list_first (v ∷ vs) octets rest f).1 ∙ flags_reads.complete octets rest (v ∷ vs) f (closing_paren_closes rest s)

pub group_reads : (end : List ℕ → Type 0) → IsReader flag_group_at flag_group end
group_reads end = enclosed_reads 40 41 (record { sound = maybe_sound; complete = λ octets rest values f s. maybe_complete values octets rest f s }) end

texts_sound : (octets : List ℕ) (x : List Flag × List ℕ) → stored_texts_at octets ≡ Some x → HasPrefix (stored_texts x.0) octets x.1
texts_sound [] x h = cc
texts_sound (b ∷ bs) x h =
    elim (chosen (eqb b 40) (flag_group_at (b ∷ bs)) (listed_at 32 flag_at (b ∷ bs)) (Some x) h) [
      | inl t ↦ let f = (group_reads IsArgEnd).sound (b ∷ bs) x t.1 in (f.0, inl f.1, f.2)
      | inr n ↦ let f = flags_reads.sound (b ∷ bs) x n.1 in (f.0, inr f.1, f.2)
    ]

open_group : (octets : List ℕ) → begins_with 40 octets ≡ true → stored_texts_at octets ≡ flag_group_at octets
open_group [] h = cc
open_group (b ∷ bs) h = ap (λ c. cond c (flag_group_at (b ∷ bs)) (listed_at 32 flag_at (b ∷ bs))) h

open_list : (octets : List ℕ) → begins_with 40 octets ≡ false → stored_texts_at octets ≡ listed_at 32 flag_at octets
open_list [] h = refl
open_list (b ∷ bs) h = ap (λ c. cond c (flag_group_at (b ∷ bs)) (listed_at 32 flag_at (b ∷ bs))) h

texts_complete : (values : List Flag) (octets rest : List ℕ) → HasPrefix (stored_texts values) octets rest → IsArgEnd rest → stored_texts_at octets ≡ Some (values, rest)
texts_complete values octets rest f s = elim f.1 [
  | inl g ↦ open_group octets (front_begins 40 _ octets rest (f.0, g, f.2)) ∙ (group_reads IsArgEnd).complete octets rest values (f.0, g, f.2) s
  | inr l ↦ open_list octets (list_first values octets rest (f.0, l, f.2)).0 ∙ flags_reads.complete octets rest values (f.0, l, f.2) s
]

texts_reads : IsReader stored_texts_at stored_texts IsArgEnd
texts_reads = record { sound = texts_sound; complete = λ octets rest values f s. texts_complete values octets rest f s }

pub stored_reads : IsReader store_flags_at stored IsArgEnd
stored_reads = map_reads texts_reads (flags_of no_flags) stored (λ value text h. (value, h, written_are value)) (λ it text h. (h.0, h.1, written_is h.0 it h.2))
