-- FETCH items and sections.
use Rattle.std.proofs.Common.{◌≡◌, ℕ, Bool, true, false, cond, codes, List, [], ◌∷◌, Option, Some, None, ap, sym, ◌∙◌, refl, subst, arith, eqb, inl, inr, not}
use Rattle.std.proofs.lemmas.Bool.{eqb-true}
use Rattle.std.proofs.lemmas.Bool.Decides.{nat_tests}
use Rattle.std.proofs.lemmas.Slice.Eq.{bytes_eq-Decides}
use Rattle.std.specs.List.{list_all}
use Rattle.std.specs.Str.{bytes_eq}
use Rattle.imap_types.specs.Keywords.{to_lower_case}
use Rattle.imap_types.specs.declared.section.Section.{Section}
use Rattle.imap_types.specs.declared.section.Section.TheVariants.{Whole, Header, Text, Fields, FieldsNot}
use Rattle.imap_syntax.specs.Faults.{begins_with_class}
use Rattle.imap_syntax.specs.Items.{fast_items, fetch_item, fetched, field_names, item_tail, item_word, partial, section}
use Rattle.imap_syntax.specs.Languages.{◌⌢◌, exactly, nothing, sp, word, in_parens, listed}
use Rattle.imap_grammar.specs.Reading.{after, fast_or_item_at, before, body_at, both, bracketed_at, fetched_at, field_names_at, is_nil, item_at, item_tail_at, listed_at, map_read, named, named_at, number_at, nz_at, parens_at, partial_at, section_at, section_tail_at, span, ◌>>=◌}
use Rattle.imap_syntax.specs.Strings.{begins_with, is_in, is_pattern_octet, number_to, nz}
use Rattle.imap_syntax.specs.Words.{fetch_word, fetch_words, section_word, section_words}
use Rattle.imap_syntax.specs.declared.octet_class.OctetClass.TheVariants.{Astring, Digit, Item}
use Rattle.imap_syntax.specs.declared.fetch.FetchItem.{FetchItem}
use Rattle.imap_syntax.specs.declared.fetch.FetchItem.TheVariants as items
use Rattle.imap_syntax.specs.declared.fetch.FetchWord.{FetchWord}
use Rattle.imap_syntax.specs.declared.fetch.FetchWord.TheVariants as words
use Rattle.imap_syntax.specs.declared.fetch.Partial.{Partial}
use Rattle.imap_syntax.specs.declared.fetch.SectionWord.{SectionWord}
use Rattle.imap_syntax.specs.declared.fetch.SectionWord.TheVariants as sections
use Rattle.imap_grammar.proofs.ReaderLaws.{IsArgEnd, IsWordEnd, HasPrefix, IsReader, after_complete, after_sound, bind_some, both_reads, chosen, closes_ends, closes_no_space, enclosed_reads, exactly_is, joined, keyed_reads, parens_reads, parts_around, some_is, spaced_reads, sp_ends}
use Rattle.imap_grammar.proofs.Lists.{listed_reads}
use Rattle.imap_grammar.proofs.SetLaws.{number_reads, nz_reads}
use Rattle.imap_grammar.proofs.Spans.{span_parts}
use Rattle.imap_grammar.proofs.Texts.{text_reads}
use Rattle.imap_grammar.proofs.WordLaws.{NoItem, ends_item, item_span, named_at_complete, named_at_sound, table_reads, word_first}

-- ---- Sections.

section_named : (w : SectionWord) → named section_word section_words (section_word w) ≡ Some w
section_named sections.Header = refl
section_named sections.Text = refl
section_named sections.Fields = refl
section_named sections.FieldsNot = refl

section_letters : (w : SectionWord) → list_all (is_in Item) (to_lower_case (section_word w)) ≡ true
section_letters sections.Header = refl
section_letters sections.Text = refl
section_letters sections.Fields = refl
section_letters sections.FieldsNot = refl

names_reads : (end : List ℕ → Type 0) → IsReader field_names_at field_names end
names_reads end = spaced_reads (parens_reads (listed_reads 32 (text_reads Astring) IsArgEnd closes_no_space closes_ends (λ octets. refl)) {stops = end})

abbrev Bracket : List ℕ → Type 0
Bracket rest = begins_with 93 rest ≡ true

bracket_item : (rest : List ℕ) → Bracket rest → NoItem rest
bracket_item [] h = refl
bracket_item (b ∷ bs) h = ap (is_in Item) (eqb-true b 93 h)

tail_sound : (w : SectionWord) (octets mid : List ℕ) (x : Section × List ℕ) → HasPrefix (word (section_word w)) octets mid → section_tail_at w mid ≡ Some x → HasPrefix (section x.0) octets x.1
tail_sound sections.Header octets mid x f h = subst (λ (y : Section × List ℕ). HasPrefix (section y.0) octets y.1) (some_is (Header, mid) x h) f
tail_sound sections.Text octets mid x f h = subst (λ (y : Section × List ℕ). HasPrefix (section y.0) octets y.1) (some_is (Text, mid) x h) f
tail_sound sections.Fields octets mid x f h =
    let a = bind_some (field_names_at mid) _ x h in
    subst (λ (y : Section × List ℕ). HasPrefix (section y.0) octets y.1) (some_is (Fields a.0.0, a.0.1) x a.2)
    (joined (word (section_word sections.Fields)) (field_names a.0.0) octets mid a.0.1 f ((names_reads IsArgEnd).sound mid a.0 a.1))
tail_sound sections.FieldsNot octets mid x f h =
    let a = bind_some (field_names_at mid) _ x h in
    subst (λ (y : Section × List ℕ). HasPrefix (section y.0) octets y.1) (some_is (FieldsNot a.0.0, a.0.1) x a.2)
    (joined (word (section_word sections.FieldsNot)) (field_names a.0.0) octets mid a.0.1 f ((names_reads IsArgEnd).sound mid a.0 a.1))

section_sound : (octets : List ℕ) (x : Section × List ℕ) → section_at octets ≡ Some x → HasPrefix (section x.0) octets x.1
section_sound [] x h = cc
section_sound (b ∷ bs) x h =
    elim (chosen (eqb b 93) (Some (Whole, b ∷ bs)) (named_at section_word section_words (b ∷ bs) >>= λ parsed. section_tail_at parsed.0 parsed.1) (Some x) h) [
      | inl t ↦ subst (λ (y : Section × List ℕ). HasPrefix (section y.0) (b ∷ bs) y.1) (some_is (Whole, b ∷ bs) x t.1) ([], refl, refl)
      | inr n ↦
          let a = bind_some (named_at section_word section_words (b ∷ bs)) _ x n.1 in
          tail_sound a.0.0 (b ∷ bs) a.0.1 x (named_at_sound section_word section_words (b ∷ bs) a.0 a.1) a.2
    ]

whole_complete : (rest : List ℕ) → Bracket rest → section_at rest ≡ Some (Whole, rest)
whole_complete [] h = cc
whole_complete (b ∷ bs) h = ap (λ c. cond c (Some (Whole, b ∷ bs)) (named_at section_word section_words (b ∷ bs) >>= λ parsed. section_tail_at parsed.0 parsed.1)) h

no_bracket : (octets : List ℕ) → begins_with 93 octets ≡ false → section_at octets ≡ (named_at section_word section_words octets >>= λ parsed. section_tail_at parsed.0 parsed.1)
no_bracket [] h = refl
no_bracket (b ∷ bs) h = ap (λ c. cond c (Some (Whole, b ∷ bs)) (named_at section_word section_words (b ∷ bs) >>= λ parsed. section_tail_at parsed.0 parsed.1)) h

section_word_complete : (w : SectionWord) (octets mid : List ℕ) → HasPrefix (word (section_word w)) octets mid → NoItem mid → begins_with 93 octets ≡ false → section_at octets ≡ section_tail_at w mid
section_word_complete w octets mid f s n =
    no_bracket octets n ∙ ap (λ r. r >>= λ parsed. section_tail_at parsed.0 parsed.1) (named_at_complete section_word section_words w octets mid (section_named w) (section_letters w) f s)

section_complete : (value : Section) (octets rest : List ℕ) → HasPrefix (section value) octets rest → Bracket rest → section_at octets ≡ Some (value, rest)
section_complete Whole octets rest f s = ap section_at (exactly_is [] octets rest f) ∙ whole_complete rest s
section_complete Header octets rest f s = section_word_complete sections.Header octets rest f (bracket_item rest s) (word_first (section_word sections.Header) octets rest 93 refl refl refl f)
section_complete Text octets rest f s = section_word_complete sections.Text octets rest f (bracket_item rest s) (word_first (section_word sections.Text) octets rest 93 refl refl refl f)
section_complete (Fields names) octets rest f s =
    let p = parts_around (word (section_word sections.Fields)) (field_names names) octets rest f in
    section_word_complete sections.Fields octets p.0 p.1 (ends_item p.0 (sp_ends _ p.0 rest p.2)) (word_first (section_word sections.Fields) octets p.0 93 refl refl refl p.1)
    ∙ ap (λ r. r >>= λ first. Some (Fields first.0, first.1)) ((names_reads Bracket).complete p.0 rest names p.2 s)
section_complete (FieldsNot names) octets rest f s =
    let p = parts_around (word (section_word sections.FieldsNot)) (field_names names) octets rest f in
    section_word_complete sections.FieldsNot octets p.0 p.1 (ends_item p.0 (sp_ends _ p.0 rest p.2)) (word_first (section_word sections.FieldsNot) octets p.0 93 refl refl refl p.1)
    ∙ ap (λ r. r >>= λ first. Some (FieldsNot first.0, first.1)) ((names_reads Bracket).complete p.0 rest names p.2 s)

bracketed_reads : (end : List ℕ → Type 0) → IsReader bracketed_at (λ value. exactly (91 ∷ []) ⌢ section value ⌢ exactly (93 ∷ [])) end
bracketed_reads end = enclosed_reads 91 93 (record { sound = section_sound; complete = λ octets rest value f s. section_complete value octets rest f s }) end

-- ---- Partials.

partial_sound : (octets : List ℕ) (x : Option Partial × List ℕ) → partial_at octets ≡ Some x → HasPrefix (partial x.0) octets x.1
partial_sound [] x h = subst (λ (y : Option Partial × List ℕ). HasPrefix (partial y.0) [] y.1) (some_is (None, []) x h) ([], refl, refl)
partial_sound (b ∷ bs) x h =
    elim (chosen (eqb b 60) (number_at 4294967295 bs >>= λ start. after (46 ∷ []) start.1 >>= λ dot. nz_at dot >>= λ count. after (62 ∷ []) count.1 >>= λ rest. Some (Some (record { start = start.0; count = count.0 }), rest)) (Some (None, b ∷ bs)) (Some x) h) [
      | inl t ↦
          let n = bind_some (number_at 4294967295 bs) _ x t.1 in
          let d = bind_some (after (46 ∷ []) n.0.1) _ x n.2 in
          let c = bind_some (nz_at d.0) _ x d.2 in
          let e = bind_some (after (62 ∷ []) c.0.1) _ x c.2 in
          let this : Partial = record { start = n.0.0; count = c.0.0 } in
          subst (λ (y : Option Partial × List ℕ). HasPrefix (partial y.0) (b ∷ bs) y.1) (some_is (Some this, e.0) x e.2)
          (joined (exactly (60 ∷ [])) _ (b ∷ bs) bs e.0 (60 ∷ [], refl, ap (λ c. c ∷ bs) (eqb-true b 60 t.0))
          (joined (number_to 4294967295 n.0.0) _ bs n.0.1 e.0 ((number_reads 4294967295).sound bs n.0 n.1)
          (joined (exactly (46 ∷ [])) _ n.0.1 d.0 e.0 (after_sound (46 ∷ []) n.0.1 d.0 d.1)
          (joined (nz c.0.0) _ d.0 c.0.1 e.0 (nz_reads.sound d.0 c.0 c.1) (after_sound (62 ∷ []) c.0.1 e.0 e.1)))))
      | inr f ↦ subst (λ (y : Option Partial × List ℕ). HasPrefix (partial y.0) (b ∷ bs) y.1) (some_is (None, b ∷ bs) x f.1) ([], refl, refl)
    ]

end_no_less : (b : ℕ) → not (is_pattern_octet b) ≡ true → eqb b 60 ≡ false
end_no_less b h = grind (arith, nat_tests)

partial_none : (rest : List ℕ) → IsWordEnd rest → partial_at rest ≡ Some (None, rest)
partial_none [] h = refl
partial_none (b ∷ bs) h =
    ap (λ c. cond c (number_at 4294967295 bs >>= λ start. after (46 ∷ []) start.1 >>= λ dot. nz_at dot >>= λ count. after (62 ∷ []) count.1 >>= λ rest. Some (Some (record { start = start.0; count = count.0 }), rest)) (Some (None, b ∷ bs)))
    (end_no_less b h)

partial_complete : (value : Option Partial) (octets rest : List ℕ) → HasPrefix (partial value) octets rest → IsWordEnd rest → partial_at octets ≡ Some (value, rest)
partial_complete None octets rest f s = ap partial_at (exactly_is [] octets rest f) ∙ partial_none rest s
partial_complete (Some this) octets rest f s =
    let p = parts_around (exactly (60 ∷ [])) _ octets rest f in
    let q = parts_around (number_to 4294967295 this.start) _ p.0 rest p.2 in
    let r = parts_around (exactly (46 ∷ [])) _ q.0 rest q.2 in
    let t = parts_around (nz this.count) (exactly (62 ∷ [])) r.0 rest r.2 in
    let dot : q.0 ≡ 46 ∷ r.0 = exactly_is (46 ∷ []) q.0 r.0 r.1 in
    let close : t.0 ≡ 62 ∷ rest = exactly_is (62 ∷ []) t.0 rest t.2 in
    ap partial_at (exactly_is (60 ∷ []) octets p.0 p.1)
    ∙ ap (λ r. r >>= λ start. after (46 ∷ []) start.1 >>= λ dot. nz_at dot >>= λ count. after (62 ∷ []) count.1 >>= λ rest. Some (Some (record { start = start.0; count = count.0 }), rest)) ((number_reads 4294967295).complete p.0 q.0 this.start q.1 (ap (begins_with_class Digit) dot))
    ∙ ap (λ r. r >>= λ dot. nz_at dot >>= λ count. after (62 ∷ []) count.1 >>= λ rest. Some (Some (record { start = this.start; count = count.0 }), rest)) (after_complete (46 ∷ []) q.0 r.0 r.1)
    ∙ ap (λ r. r >>= λ count. after (62 ∷ []) count.1 >>= λ rest. Some (Some (record { start = this.start; count = count.0 }), rest)) (nz_reads.complete r.0 t.0 this.count t.1 (ap (begins_with_class Digit) close))
    ∙ ap (λ r. r >>= λ rest. Some (Some this, rest)) (after_complete (62 ∷ []) t.0 rest t.2)

partial_reads : IsReader partial_at partial IsWordEnd
partial_reads = record { sound = partial_sound; complete = λ octets rest value f s. partial_complete value octets rest f s }

-- ---- Items.

fetch_named : (w : FetchWord) → named fetch_word fetch_words (fetch_word w) ≡ Some w
fetch_named words.Flags = refl
fetch_named words.InternalDate = refl
fetch_named words.Size = refl
fetch_named words.Uid = refl
fetch_named words.ModSeq = refl
fetch_named words.Body = refl
fetch_named words.BodyPeek = refl

fetch_letters : (w : FetchWord) → list_all (is_in Item) (to_lower_case (fetch_word w)) ≡ true
fetch_letters words.Flags = refl
fetch_letters words.InternalDate = refl
fetch_letters words.Size = refl
fetch_letters words.Uid = refl
fetch_letters words.ModSeq = refl
fetch_letters words.Body = refl
fetch_letters words.BodyPeek = refl

fetch_some : (w : FetchWord) → is_nil (to_lower_case (fetch_word w)) ≡ false
fetch_some words.Flags = refl
fetch_some words.InternalDate = refl
fetch_some words.Size = refl
fetch_some words.Uid = refl
fetch_some words.ModSeq = refl
fetch_some words.Body = refl
fetch_some words.BodyPeek = refl

not_fast : (w : FetchWord) → bytes_eq (to_lower_case (fetch_word w)) (to_lower_case (codes "FAST")) ≡ false
not_fast words.Flags = refl
not_fast words.InternalDate = refl
not_fast words.Size = refl
not_fast words.Uid = refl
not_fast words.ModSeq = refl
not_fast words.Body = refl
not_fast words.BodyPeek = refl

parts_reads : IsReader (both bracketed_at partial_at) (λ p. (exactly (91 ∷ []) ⌢ section p.0 ⌢ exactly (93 ∷ [])) ⌢ partial p.1) IsWordEnd
parts_reads = both_reads (bracketed_reads (λ rest. Unit {0})) partial_reads (λ octets rest value f s. tt)

abbrev IsItemTail : FetchWord → List ℕ → FetchItem × List ℕ → Type 0
IsItemTail w octets x = (item_word x.0 ≡ w) × HasPrefix (item_tail x.0) octets x.1

plain_sound : (w : FetchWord) (it : FetchItem) (octets : List ℕ) (x : FetchItem × List ℕ) → item_word it ≡ w → HasPrefix (item_tail it) octets octets → Some (it, octets) ≡ Some x → IsItemTail w octets x
plain_sound w it octets x e f h = subst (IsItemTail w octets) (some_is (it, octets) x h) (e, f)

body_sound : (peek : Bool) (w : FetchWord) (octets : List ℕ) (x : FetchItem × List ℕ) → ((s : Section) (p : Option Partial) → item_word (items.Body peek s p) ≡ w) → body_at peek octets ≡ Some x → IsItemTail w octets x
body_sound peek w octets x is h =
    let a = bind_some (both bracketed_at partial_at octets) _ x h in
    subst (IsItemTail w octets) (some_is (items.Body peek a.0.0.0 a.0.0.1, a.0.1) x a.2) (is a.0.0.0 a.0.0.1, parts_reads.sound octets a.0 a.1)

item_sound : (w : FetchWord) (octets : List ℕ) (x : FetchItem × List ℕ) → item_tail_at w octets ≡ Some x → IsItemTail w octets x
item_sound words.Flags octets x h = plain_sound words.Flags items.Flags octets x refl ([], refl, refl) h
item_sound words.InternalDate octets x h = plain_sound words.InternalDate items.InternalDate octets x refl ([], refl, refl) h
item_sound words.Size octets x h = plain_sound words.Size items.Size octets x refl ([], refl, refl) h
item_sound words.Uid octets x h = plain_sound words.Uid items.Uid octets x refl ([], refl, refl) h
item_sound words.ModSeq octets x h = plain_sound words.ModSeq items.ModSeq octets x refl ([], refl, refl) h
item_sound words.Body octets x h = body_sound false words.Body octets x (λ s p. refl) h
item_sound words.BodyPeek octets x h = body_sound true words.BodyPeek octets x (λ s p. refl) h

plain_complete : (it : FetchItem) (octets rest : List ℕ) → HasPrefix nothing octets rest → ◌≡◌ {A = Option (FetchItem × List ℕ)} (Some (it, octets)) (Some (it, rest))
plain_complete it octets rest f = ap (λ xs. Some (it, xs)) (exactly_is [] octets rest f)

item_complete : (it : FetchItem) (octets rest : List ℕ) → HasPrefix (item_tail it) octets rest → IsWordEnd rest → item_tail_at (item_word it) octets ≡ Some (it, rest)
item_complete items.Flags octets rest f s = plain_complete items.Flags octets rest f
item_complete items.InternalDate octets rest f s = plain_complete items.InternalDate octets rest f
item_complete items.Size octets rest f s = plain_complete items.Size octets rest f
item_complete items.Uid octets rest f s = plain_complete items.Uid octets rest f
item_complete items.ModSeq octets rest f s = plain_complete items.ModSeq octets rest f
item_complete (items.Body true this_section this_partial) octets rest f s =
    ap (λ r. r >>= λ first. Some (items.Body true first.0.0 first.0.1, first.1)) (parts_reads.complete octets rest (this_section, this_partial) f s)
item_complete (items.Body false this_section this_partial) octets rest f s =
    ap (λ r. r >>= λ first. Some (items.Body false first.0.0 first.0.1, first.1)) (parts_reads.complete octets rest (this_section, this_partial) f s)

plain_stop : (octets rest : List ℕ) → HasPrefix nothing octets rest → IsWordEnd rest → NoItem octets
plain_stop octets rest f s = subst NoItem (sym (exactly_is [] octets rest f)) (ends_item rest s)

item_stop : (it : FetchItem) (octets rest : List ℕ) → HasPrefix (item_tail it) octets rest → IsWordEnd rest → NoItem octets
item_stop items.Flags octets rest f s = plain_stop octets rest f s
item_stop items.InternalDate octets rest f s = plain_stop octets rest f s
item_stop items.Size octets rest f s = plain_stop octets rest f s
item_stop items.Uid octets rest f s = plain_stop octets rest f s
item_stop items.ModSeq octets rest f s = plain_stop octets rest f s
item_stop (items.Body peek this_section this_partial) octets rest f s =
    let p = parts_around (exactly (91 ∷ []) ⌢ section this_section ⌢ exactly (93 ∷ [])) _ octets rest f in
    let q = parts_around (exactly (91 ∷ [])) _ octets p.0 p.1 in
    subst NoItem (sym (exactly_is (91 ∷ []) octets q.0 q.1)) refl

pub item_reads : IsReader item_at fetch_item IsWordEnd
item_reads = keyed_reads (table_reads fetch_word fetch_words fetch_named fetch_letters) item_tail_at item_word item_tail IsWordEnd item_sound item_complete item_stop

-- ---- The items of a FETCH.

list_reads : IsReader (listed_at 32 item_at) (listed sp fetch_item) IsArgEnd
list_reads = listed_reads 32 item_reads IsArgEnd closes_no_space closes_ends (λ octets. refl)

fast_or_item_sound : (octets : List ℕ) (x : List FetchItem × List ℕ) → fast_or_item_at octets ≡ Some x → HasPrefix (fetched x.0) octets x.1
fast_or_item_sound octets x h =
    elim (chosen (bytes_eq (to_lower_case (span (is_in Item) octets).0) (to_lower_case (codes "FAST"))) (Some (fast_items, (span (is_in Item) octets).1)) (map_read (λ item. item ∷ []) item_at octets) (Some x) h) [
      | inl t ↦
          subst (λ (y : List FetchItem × List ℕ). HasPrefix (fetched y.0) octets y.1) (some_is (fast_items, (span (is_in Item) octets).1) x t.1)
          ((span (is_in Item) octets).0, inr (inl ((bytes_eq-Decides _ _).0 t.0, refl)), span_parts (is_in Item) octets)
      | inr n ↦
          let a = bind_some (item_at octets) _ x n.1 in
          let f = item_reads.sound octets a.0 a.1 in
          subst (λ (y : List FetchItem × List ℕ). HasPrefix (fetched y.0) octets y.1) (some_is (a.0.0 ∷ [], a.0.1) x a.2) (f.0, inr (inr (a.0.0, f.1, refl)), f.2)
    ]

fetched_sound : (octets : List ℕ) (x : List FetchItem × List ℕ) → fetched_at octets ≡ Some x → HasPrefix (fetched x.0) octets x.1
fetched_sound [] x h = cc
fetched_sound (b ∷ bs) x h =
    elim (chosen (eqb b 40) (before (listed_at 32 item_at) (after (41 ∷ [])) bs) (fast_or_item_at (b ∷ bs)) (Some x) h) [
      | inl t ↦
          let a = bind_some (listed_at 32 item_at bs) _ x t.1 in
          let c = bind_some (after (41 ∷ []) a.0.1) _ x a.2 in
          let j = joined (exactly (40 ∷ [])) _ (b ∷ bs) bs c.0 (40 ∷ [], refl, ap (λ c. c ∷ bs) (eqb-true b 40 t.0)) (joined (listed sp fetch_item a.0.0) (exactly (41 ∷ [])) bs a.0.1 c.0 (list_reads.sound bs a.0 a.1) (after_sound (41 ∷ []) a.0.1 c.0 c.1)) in
          subst (λ (y : List FetchItem × List ℕ). HasPrefix (fetched y.0) (b ∷ bs) y.1) (some_is (a.0.0, c.0) x c.2) (j.0, inl j.1, j.2)
      | inr n ↦ fast_or_item_sound (b ∷ bs) x n.1
    ]

no_group : (octets : List ℕ) → begins_with 40 octets ≡ false → fetched_at octets ≡ fast_or_item_at octets
no_group [] h = refl
no_group (b ∷ bs) h = ap (λ c. cond c (before (listed_at 32 item_at) (after (41 ∷ [])) bs) (fast_or_item_at (b ∷ bs))) h

fast_complete : (octets rest : List ℕ) → HasPrefix (word (codes "FAST")) octets rest → IsWordEnd rest → fetched_at octets ≡ Some (fast_items, rest)
fast_complete octets rest f s =
    no_group octets (word_first (codes "FAST") octets rest 40 refl refl refl f)
    ∙ ap (λ (y : List ℕ × List ℕ). cond (bytes_eq (to_lower_case y.0) (to_lower_case (codes "FAST"))) (Some (fast_items, y.1)) (map_read (λ item. item ∷ []) item_at octets)) (item_span (codes "FAST") octets rest refl f (ends_item rest s))
    ∙ ap (λ c. cond c (Some (fast_items, rest)) (map_read (λ item. item ∷ []) item_at octets)) ((bytes_eq-Decides _ _).1 f.1)

one_complete : (it : FetchItem) (octets rest : List ℕ) → HasPrefix (fetch_item it) octets rest → IsWordEnd rest → fetched_at octets ≡ Some (it ∷ [], rest)
one_complete it octets rest f s =
    let w : FetchWord = item_word it in
    let p = parts_around (word (fetch_word w)) (item_tail it) octets rest f in
    let cut : span (is_in Item) octets ≡ (p.1.0, p.0) = item_span (fetch_word w) octets p.0 (fetch_letters w) p.1 (item_stop it p.0 rest p.2 s) in
    let other : bytes_eq (to_lower_case (span (is_in Item) octets).0) (to_lower_case (codes "FAST")) ≡ false =
    ap (λ (y : List ℕ × List ℕ). bytes_eq (to_lower_case y.0) (to_lower_case (codes "FAST"))) cut ∙ ap (λ t. bytes_eq t (to_lower_case (codes "FAST"))) p.1.1 ∙ not_fast w in
    no_group octets (word_first (fetch_word w) octets p.0 40 (fetch_letters w) (fetch_some w) refl p.1)
    ∙ ap (λ c. cond c (Some (fast_items, (span (is_in Item) octets).1)) (map_read (λ item. item ∷ []) item_at octets)) other
    ∙ ap (λ r. r >>= λ first. Some (first.0 ∷ [], first.1)) (item_reads.complete octets rest it f s)

group_complete : (values : List FetchItem) (octets rest : List ℕ) → HasPrefix (in_parens (listed sp fetch_item values)) octets rest → fetched_at octets ≡ Some (values, rest)
group_complete values octets rest f =
    let p = parts_around (exactly (40 ∷ [])) _ octets rest f in
    let e : octets ≡ 40 ∷ p.0 = exactly_is (40 ∷ []) octets p.0 p.1 in
    ap fetched_at e ∙ sym (ap (parens_at (listed_at 32 item_at)) e) ∙ (parens_reads list_reads {stops = λ rest. Unit {0}}).complete octets rest values f tt

fetched_complete : (values : List FetchItem) (octets rest : List ℕ) → HasPrefix (fetched values) octets rest → IsWordEnd rest → fetched_at octets ≡ Some (values, rest)
fetched_complete values octets rest f s = elim f.1 [
  | inl g ↦ group_complete values octets rest (f.0, g, f.2)
  | inr o ↦ elim o [
    | inl a ↦ fast_complete octets rest (f.0, a.0, f.2) s ∙ ap (λ v. Some (v, rest)) a.1
    | inr one ↦ one_complete one.0 octets rest (f.0, one.1, f.2) s ∙ ap (λ v. Some (v, rest)) one.2
  ]
]

pub fetched_reads : IsReader fetched_at fetched IsWordEnd
fetched_reads = record { sound = fetched_sound; complete = λ octets rest values f s. fetched_complete values octets rest f s }
