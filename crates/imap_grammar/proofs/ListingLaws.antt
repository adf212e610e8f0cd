-- The options of LIST.
use Rattle.std.proofs.Common.{◌≡◌, ℕ, Bool, true, false, cond, codes, List, [], ◌∷◌, ◌++◌, Some, ap, sym, ◌∙◌, refl, subst, arith, eqb, inl, inr}
use Rattle.std.proofs.lemmas.Bool.{and_parts, eqb-true}
use Rattle.std.proofs.lemmas.Bool.Decides.{nat_tests}
use Rattle.std.specs.List.{list_all}
use Rattle.imap_types.specs.Keywords.{is_astring_octet}
use Rattle.imap_syntax.specs.Commands.{options, returns, selection}
use Rattle.imap_syntax.specs.Faults.{begins_with_class}
use Rattle.imap_syntax.specs.Languages.{◌⌢◌, exactly, nothing, sp, word}
use Rattle.imap_grammar.specs.Reading.{◌>>=◌, after, after_word, before, spaced}
use Rattle.imap_grammar.specs.CommandReading.{options_at, options_inner_at, returns_at, selection_at}
use Rattle.imap_syntax.specs.Strings.{astring, begins_with, is_in, run}
use Rattle.imap_syntax.specs.declared.octet_class.OctetClass.TheVariants.{Astring, Item}
use Rattle.imap_grammar.proofs.ReaderLaws.{IsArgEnd, IsWordEnd, HasPrefix, IsReader, after_complete, after_sound, bind_some, chosen, closes_ends, closes_no_space, exactly_is, front_begins, joined, parts_around, some_is, sp_ends, spaced_reads}
use Rattle.imap_grammar.proofs.WordLaws.{after_word_complete, after_word_sound, ends_item, word_first}

inner : Bool → List ℕ → Type 0
inner true = word (codes "SUBSCRIBED") ⌢ exactly (41 ∷ [])
inner false = nothing ⌢ exactly (41 ∷ [])

inner_sound : (octets : List ℕ) (x : Bool × List ℕ) → options_inner_at octets ≡ Some x → HasPrefix (inner x.0) octets x.1
unfolding inner
inner_sound [] x h = cc
inner_sound (b ∷ bs) x h =
    elim (chosen (eqb b 41) (Some (false, bs)) (after_word (codes "SUBSCRIBED") (b ∷ bs) >>= λ tail. after (41 ∷ []) tail >>= λ rest. Some (true, rest)) (Some x) h) [
      | inl t ↦
          subst (λ (y : Bool × List ℕ). HasPrefix (inner y.0) (b ∷ bs) y.1) (some_is (false, bs) x t.1)
          (joined nothing (exactly (41 ∷ [])) (b ∷ bs) (b ∷ bs) bs ([], refl, refl) (41 ∷ [], refl, ap (λ c. c ∷ bs) (eqb-true b 41 t.0)))
      | inr n ↦
          let w = bind_some (after_word (codes "SUBSCRIBED") (b ∷ bs)) _ x n.1 in
          let e = bind_some (after (41 ∷ []) w.0) _ x w.2 in
          subst (λ (y : Bool × List ℕ). HasPrefix (inner y.0) (b ∷ bs) y.1) (some_is (true, e.0) x e.2)
          (joined (word (codes "SUBSCRIBED")) (exactly (41 ∷ [])) (b ∷ bs) w.0 e.0 (after_word_sound (codes "SUBSCRIBED") (b ∷ bs) w.0 w.1) (after_sound (41 ∷ []) w.0 e.0 e.1))
    ]

not_closed : (octets : List ℕ) → begins_with 41 octets ≡ false → options_inner_at octets ≡ (after_word (codes "SUBSCRIBED") octets >>= λ tail. after (41 ∷ []) tail >>= λ rest. Some (true, rest))
not_closed [] h = refl
not_closed (b ∷ bs) h = ap (λ c. cond c (Some (false, bs)) (after_word (codes "SUBSCRIBED") (b ∷ bs) >>= λ tail. after (41 ∷ []) tail >>= λ rest. Some (true, rest))) h

inner_complete : (value : Bool) (octets rest : List ℕ) → HasPrefix (inner value) octets rest → options_inner_at octets ≡ Some (value, rest)
unfolding inner
inner_complete false octets rest f =
    let p = parts_around nothing (exactly (41 ∷ [])) octets rest f in
    ap options_inner_at (exactly_is [] octets p.0 p.1 ∙ exactly_is (41 ∷ []) p.0 rest p.2)
inner_complete true octets rest f =
    let p = parts_around (word (codes "SUBSCRIBED")) (exactly (41 ∷ [])) octets rest f in
    let close : p.0 ≡ 41 ∷ rest = exactly_is (41 ∷ []) p.0 rest p.2 in
    let stop : begins_with_class Item p.0 ≡ false = ap (begins_with_class Item) close in
    not_closed octets (word_first (codes "SUBSCRIBED") octets p.0 41 refl refl refl p.1)
    ∙ ap (λ r. r >>= λ tail. after (41 ∷ []) tail >>= λ rest. Some (true, rest)) (after_word_complete (codes "SUBSCRIBED") octets p.0 refl p.1 stop)
    ∙ ap (λ r. r >>= λ rest. Some (true, rest)) (after_complete (41 ∷ []) p.0 rest p.2)

inner_options : (value : Bool) (octets rest : List ℕ) → HasPrefix (exactly (40 ∷ []) ⌢ inner value) octets rest → HasPrefix (options value) octets rest
unfolding inner
inner_options true octets rest f = f
inner_options false octets rest f = f

options_inner : (value : Bool) (octets rest : List ℕ) → HasPrefix (options value) octets rest → HasPrefix (exactly (40 ∷ []) ⌢ inner value) octets rest
unfolding inner
options_inner true octets rest f = f
options_inner false octets rest f = f

options_reads : (end : List ℕ → Type 0) → IsReader options_at options end
options_reads end = record {
  sound = λ octets x h.
      let a = bind_some (after (40 ∷ []) octets) _ x h in
      inner_options x.0 octets x.1 (joined (exactly (40 ∷ [])) (inner x.0) octets a.0 x.1 (after_sound (40 ∷ []) octets a.0 a.1) (inner_sound a.0 x a.2));
  complete = λ octets rest value f s.
      let p = parts_around (exactly (40 ∷ [])) (inner value) octets rest (options_inner value octets rest f) in
      ap (λ r. r >>= options_inner_at) (after_complete (40 ∷ []) octets p.0 p.1) ∙ inner_complete value p.0 rest p.2;
}

options_begin : (value : Bool) (Q : List ℕ → Type 0) (octets rest : List ℕ) → HasPrefix (options value ⌢ Q) octets rest → begins_with 40 octets ≡ true
options_begin value Q octets rest f =
    let p = parts_around (options value) Q octets rest f in
    front_begins 40 (inner value) octets p.0 (options_inner value octets p.0 p.1)

-- ---- Selection.

chosen_form : (value : Bool) (octets rest : List ℕ) → HasPrefix (options value ⌢ sp) octets rest → HasPrefix (selection value) octets rest
chosen_form true octets rest f = f
chosen_form false octets rest f = (f.0, inr f.1, f.2)

selection_sound : (octets : List ℕ) (x : Bool × List ℕ) → selection_at octets ≡ Some x → HasPrefix (selection x.0) octets x.1
selection_sound [] x h = subst (λ (y : Bool × List ℕ). HasPrefix (selection y.0) [] y.1) (some_is (false, []) x h) ([], inl refl, refl)
selection_sound (b ∷ bs) x h =
    elim (chosen (eqb b 40) (before options_at (after (32 ∷ [])) (b ∷ bs)) (Some (false, b ∷ bs)) (Some x) h) [
      | inl t ↦
          let o = bind_some (options_at (b ∷ bs)) _ x t.1 in
          let s = bind_some (after (32 ∷ []) o.0.1) _ x o.2 in
          subst (λ (y : Bool × List ℕ). HasPrefix (selection y.0) (b ∷ bs) y.1) (some_is (o.0.0, s.0) x s.2)
          (chosen_form o.0.0 (b ∷ bs) s.0 (joined (options o.0.0) sp (b ∷ bs) o.0.1 s.0 ((options_reads IsArgEnd).sound (b ∷ bs) o.0 o.1) (after_sound (32 ∷ []) o.0.1 s.0 s.1)))
      | inr n ↦ subst (λ (y : Bool × List ℕ). HasPrefix (selection y.0) (b ∷ bs) y.1) (some_is (false, b ∷ bs) x n.1) ([], inl refl, refl)
    ]

abbrev pub NoParen : List ℕ → Type 0
NoParen rest = begins_with 40 rest ≡ false

selection_none : (rest : List ℕ) → NoParen rest → selection_at rest ≡ Some (false, rest)
selection_none [] h = refl
selection_none (b ∷ bs) h = ap (λ c. cond c (before options_at (after (32 ∷ [])) (b ∷ bs)) (Some (false, b ∷ bs))) h

selection_some : (octets : List ℕ) → begins_with 40 octets ≡ true → selection_at octets ≡ before options_at (after (32 ∷ [])) octets
selection_some [] h = cc
selection_some (b ∷ bs) h = ap (λ c. cond c (before options_at (after (32 ∷ [])) (b ∷ bs)) (Some (false, b ∷ bs))) h

selected_complete : (value : Bool) (octets rest : List ℕ) → HasPrefix (options value ⌢ sp) octets rest → selection_at octets ≡ Some (value, rest)
selected_complete value octets rest f =
    let p = parts_around (options value) sp octets rest f in
    selection_some octets (options_begin value sp octets rest f)
    ∙ ap (λ r. r >>= λ first. after (32 ∷ []) first.1 >>= λ rest. Some (first.0, rest)) ((options_reads (λ r. Unit {0})).complete octets p.0 value p.1 tt)
    ∙ ap (λ r. r >>= λ rest. Some (value, rest)) (after_complete (32 ∷ []) p.0 rest p.2)

selection_complete : (value : Bool) (octets rest : List ℕ) → HasPrefix (selection value) octets rest → NoParen rest → selection_at octets ≡ Some (value, rest)
selection_complete true octets rest f s = selected_complete true octets rest f
selection_complete false octets rest f s = elim f.1 [
  | inl e ↦ ap selection_at (exactly_is [] octets rest (f.0, e, f.2)) ∙ selection_none rest s
  | inr o ↦ selected_complete false octets rest (f.0, o, f.2)
]

pub selection_reads : IsReader selection_at selection NoParen
selection_reads = record { sound = selection_sound; complete = λ octets rest value f s. selection_complete value octets rest f s }

astring_octet : (b : ℕ) → is_astring_octet b ≡ true → eqb b 40 ≡ false
astring_octet b h = grind (arith, nat_tests)

run_first : (value text octets rest : List ℕ) → run Astring value text → octets ≡ text ++ rest → begins_with 40 octets ≡ false
run_first [] text octets rest r e = absurd (r.0 refl)
run_first (b ∷ bs) text octets rest r e = ap (begins_with 40) (e ∙ ap (λ xs. xs ++ rest) r.2) ∙ astring_octet b (and_parts (is_astring_octet b) (list_all (is_in Astring) bs) r.1).0

pub astring_no_paren : (value octets rest : List ℕ) → HasPrefix (astring value) octets rest → NoParen octets
astring_no_paren value octets rest f = elim f.1 [
  | inl r ↦ run_first value f.0 octets rest r f.2
  | inr s ↦ elim s [
    | inl q ↦ ap (begins_with 40) (f.2 ∙ ap (λ xs. xs ++ rest) q.1)
    | inr l ↦ let p = parts_around (exactly (123 ∷ [])) _ octets rest (f.0, l, f.2) in ap (begins_with 40) (exactly_is (123 ∷ []) octets p.0 p.1)
  ]
]

-- ---- Return.

abbrev Returning : Bool → List ℕ → Type 0
Returning value = sp ⌢ word (codes "RETURN") ⌢ sp ⌢ options value

returned_form : (value : Bool) (octets rest : List ℕ) → HasPrefix (Returning value) octets rest → HasPrefix (returns value) octets rest
returned_form true octets rest f = f
returned_form false octets rest f = (f.0, inr f.1, f.2)

returns_sound : (octets : List ℕ) (x : Bool × List ℕ) → returns_at octets ≡ Some x → HasPrefix (returns x.0) octets x.1
returns_sound [] x h = subst (λ (y : Bool × List ℕ). HasPrefix (returns y.0) [] y.1) (some_is (false, []) x h) ([], inl refl, refl)
returns_sound (b ∷ bs) x h =
    elim (chosen (eqb b 32) (after_word (codes "RETURN") bs >>= spaced options_at) (Some (false, b ∷ bs)) (Some x) h) [
      | inl t ↦
          let w = bind_some (after_word (codes "RETURN") bs) _ x t.1 in
          returned_form x.0 (b ∷ bs) x.1
          (joined sp _ (b ∷ bs) bs x.1 (32 ∷ [], refl, ap (λ c. c ∷ bs) (eqb-true b 32 t.0))
          (joined (word (codes "RETURN")) (sp ⌢ options x.0) bs w.0 x.1 (after_word_sound (codes "RETURN") bs w.0 w.1) ((spaced_reads (options_reads IsArgEnd)).sound w.0 x w.2)))
      | inr n ↦ subst (λ (y : Bool × List ℕ). HasPrefix (returns y.0) (b ∷ bs) y.1) (some_is (false, b ∷ bs) x n.1) ([], inl refl, refl)
    ]

returns_none : (rest : List ℕ) → begins_with 32 rest ≡ false → returns_at rest ≡ Some (false, rest)
returns_none [] h = refl
returns_none (b ∷ bs) h = ap (λ c. cond c (after_word (codes "RETURN") bs >>= spaced options_at) (Some (false, b ∷ bs))) h

returned_complete : (value : Bool) (octets rest : List ℕ) → HasPrefix (Returning value) octets rest → IsArgEnd rest → returns_at octets ≡ Some (value, rest)
returned_complete value octets rest f s =
    let p = parts_around sp _ octets rest f in
    let q = parts_around (word (codes "RETURN")) (sp ⌢ options value) p.0 rest p.2 in
    ap returns_at (exactly_is (32 ∷ []) octets p.0 p.1)
    ∙ ap (λ r. r >>= spaced options_at) (after_word_complete (codes "RETURN") p.0 q.0 refl q.1 (ends_item q.0 (sp_ends (options value) q.0 rest q.2)))
    ∙ (spaced_reads (options_reads IsArgEnd)).complete q.0 rest value q.2 s

returns_complete : (value : Bool) (octets rest : List ℕ) → HasPrefix (returns value) octets rest → IsArgEnd rest → returns_at octets ≡ Some (value, rest)
returns_complete true octets rest f s = returned_complete true octets rest f s
returns_complete false octets rest f s = elim f.1 [
  | inl e ↦ ap returns_at (exactly_is [] octets rest (f.0, e, f.2)) ∙ returns_none rest (closes_no_space rest s)
  | inr o ↦ returned_complete false octets rest (f.0, o, f.2) s
]

pub returns_reads : IsReader returns_at returns IsArgEnd
returns_reads = record { sound = returns_sound; complete = λ octets rest value f s. returns_complete value octets rest f s }

pub returns_end : (value : Bool) (octets rest : List ℕ) → HasPrefix (returns value) octets rest → IsArgEnd rest → IsWordEnd octets
returns_end true octets rest f s = sp_ends _ octets rest f
returns_end false octets rest f s = elim f.1 [
  | inl e ↦ subst IsWordEnd (sym (exactly_is [] octets rest (f.0, e, f.2))) (closes_ends rest s)
  | inr o ↦ sp_ends _ octets rest (f.0, o, f.2)
]
