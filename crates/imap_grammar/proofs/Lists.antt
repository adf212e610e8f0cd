-- Lists of values, as the loop of the code reads them.
use Rattle.std.proofs.Common.{◌≡◌, ℕ, zero, suc, ◌-◌, ◌+◌, ◌≤◌, ◌<◌, List, [], ◌∷◌, ◌++◌, Option, Some, None, refl, sym, ap, ◌∙◌, append_assoc, arith, length, subst, false, cond, eqb, inl, inr, length-append}
use Rattle.std.proofs.lemmas.Bool.{eqb-true, eq-eqb}
use Rattle.std.proofs.lemmas.List.{append-nil}
use Rattle.imap_grammar.specs.declared.fault.ParseFault.{ParseFault}
use Rattle.imap_grammar.specs.declared.fault.ParseFault.TheVariants.{NoMemory, BadSyntax, NotInProfile, NoTag, UnknownCommand}
use Rattle.imap_grammar.specs.Reading.{◌>>=◌, IsFaultOfReading, next_at, and_more, more_at, listed_at}
use Rattle.imap_syntax.specs.Languages.{exactly, each_after, listed}
use Rattle.imap_syntax.specs.Strings.{begins_with}
use Rattle.imap_grammar.proofs.ReaderLaws.{HasPrefix, IsReader, bind_some, chosen, exactly_is, joined, parts_around, some_is}

module _ {A : Type 0} where
  -- the values read so far, and those read next
  abbrev pub with_list : List A → Option (List A × List ℕ) → Option (List A × List ℕ)
  with_list front read = read >>= λ x. Some (front ++ x.0, x.1)

  regroup : (front : List A) (value : A) (read : Option (List A × List ℕ)) → with_list front (read >>= λ x. Some (value ∷ x.0, x.1)) ≡ with_list (front ++ value ∷ []) read
  regroup front value (Some x) = ap (λ (vs : List A). Some (vs, x.1)) (sym (append_assoc front (value ∷ []) x.0))
  regroup front value None = refl

  module _ (separator : ℕ) (read : List ℕ → Option (A × List ℕ)) where
    pub list_continues : (front : List A) (count i : ℕ) (octets after : List ℕ) (value : A) (total : Option (List A × List ℕ)) → i < count → next_at separator read octets ≡ Some (Some (value, after))
        → with_list front (more_at (count - i) separator read octets) ≡ total → with_list (front ++ value ∷ []) (more_at (count - (i + 1)) separator read after) ≡ total
    list_continues front count i octets after value total lt h so_far =
        let k : count - i ≡ suc (count - (i + 1)) = omega arith in
        let one : more_at (count - i) separator read octets ≡ (more_at (count - (i + 1)) separator read after >>= λ x. Some (value ∷ x.0, x.1)) =
        ap (λ n. more_at n separator read octets) k ∙ ap (λ o. o >>= λ next. and_more (more_at (count - (i + 1)) separator read) octets next) h in
        sym (ap (with_list front) one ∙ regroup front value (more_at (count - (i + 1)) separator read after)) ∙ so_far

    pub stops_here : (front : List A) (count i : ℕ) (octets : List ℕ) (total : Option (List A × List ℕ)) → i < count → next_at separator read octets ≡ Some None
        → with_list front (more_at (count - i) separator read octets) ≡ total → total ≡ Some (front, octets)
    stops_here front count i octets total lt h so_far =
        let k : count - i ≡ suc (count - (i + 1)) = omega arith in
        let one : more_at (count - i) separator read octets ≡ Some ([], octets) =
        ap (λ n. more_at n separator read octets) k ∙ ap (λ o. o >>= λ next. and_more (more_at (count - (i + 1)) separator read) octets next) h in
        sym so_far ∙ ap (with_list front) one ∙ ap (λ (vs : List A). Some (vs, octets)) (append-nil front)

    pub is_done : (front : List A) (count i : ℕ) (octets : List ℕ) (total : Option (List A × List ℕ)) → count ≤ i → with_list front (more_at (count - i) separator read octets) ≡ total → total ≡ Some (front, octets)
    is_done front count i octets total le so_far =
        let k : count - i ≡ 0 = omega arith in
        sym so_far ∙ ap (λ n. with_list front (more_at n separator read octets)) k ∙ ap (λ (vs : List A). Some (vs, octets)) (append-nil front)

    fails_none : (front : List A) (count i : ℕ) (octets : List ℕ) (total : Option (List A × List ℕ)) → i < count → next_at separator read octets ≡ None
        → with_list front (more_at (count - i) separator read octets) ≡ total → total ≡ None
    fails_none front count i octets total lt h so_far =
        let k : count - i ≡ suc (count - (i + 1)) = omega arith in
        let one : more_at (count - i) separator read octets ≡ None =
        ap (λ n. more_at n separator read octets) k ∙ ap (λ o. o >>= λ next. and_more (more_at (count - (i + 1)) separator read) octets next) h in
        sym so_far ∙ ap (with_list front) one

    pub fails : (e : ParseFault) (front : List A) (count i : ℕ) (octets : List ℕ) (total : Option (List A × List ℕ)) → i < count → IsFaultOfReading e (next_at separator read octets)
        → with_list front (more_at (count - i) separator read octets) ≡ total → IsFaultOfReading e total
    fails NoMemory front count i octets total lt h so_far = tt
    fails BadSyntax front count i octets total lt h so_far = fails_none front count i octets total lt h so_far
    fails NotInProfile front count i octets total lt h so_far = fails_none front count i octets total lt h so_far
    fails NoTag front count i octets total lt h so_far = absurd h
    fails UnknownCommand front count i octets total lt h so_far = absurd h

-- The law of lists.
module _ {A : Type 0} (separator : ℕ) {read : List ℕ → Option (A × List ℕ)} {form : A → List ℕ → Type 0} {stops : List ℕ → Type 0} (reads : IsReader read form stops) where
  abbrev ListTail : List A → List ℕ → Type 0
  ListTail = each_after (exactly (separator ∷ [])) form

  more_sound : (n : ℕ) (octets : List ℕ) (x : List A × List ℕ) → more_at n separator read octets ≡ Some x → HasPrefix (ListTail x.0) octets x.1
  more_sound zero octets x h = subst (λ (y : List A × List ℕ). HasPrefix (ListTail y.0) octets y.1) (some_is ([], octets) x h) ([], refl, refl)
  more_sound (suc n) [] x h = subst (λ (y : List A × List ℕ). HasPrefix (ListTail y.0) [] y.1) (some_is ([], []) x h) ([], refl, refl)
  more_sound (suc n) (b ∷ bs) x h =
      let a = bind_some (cond (eqb b separator) (read bs >>= λ v. Some (Some v)) (Some None)) _ x h in
      elim (chosen (eqb b separator) (read bs >>= λ v. Some (Some v)) (Some None) (Some a.0) a.1) [
        | inl t ↦
            let v = bind_some (read bs) _ a.0 t.1 in
            let e : Some v.0 ≡ a.0 = some_is (Some v.0) a.0 v.2 in
            let h2 : (more_at n separator read v.0.1 >>= λ others. Some (v.0.0 ∷ others.0, others.1)) ≡ Some x = ap (and_more (more_at n separator read) (b ∷ bs)) e ∙ a.2 in
            let m = bind_some (more_at n separator read v.0.1) _ x h2 in
            let first : HasPrefix (exactly (separator ∷ [])) (b ∷ bs) bs = (separator ∷ [], refl, ap (λ c. c ∷ bs) (eqb-true b separator t.0)) in
            subst (λ (y : List A × List ℕ). HasPrefix (ListTail y.0) (b ∷ bs) y.1) (some_is (v.0.0 ∷ m.0.0, m.0.1) x m.2)
            (joined (exactly (separator ∷ [])) _ (b ∷ bs) bs m.0.1 first
            (joined (form v.0.0) (ListTail m.0.0) bs v.0.1 m.0.1 (reads.sound bs v.0 v.1) (more_sound n v.0.1 m.0 m.1)))
        | inr f ↦
            let e : None ≡ a.0 = some_is None a.0 f.1 in
            let h2 : Some ([], b ∷ bs) ≡ Some x = ap (and_more (more_at n separator read) (b ∷ bs)) e ∙ a.2 in
            subst (λ (y : List A × List ℕ). HasPrefix (ListTail y.0) (b ∷ bs) y.1) (some_is ([], b ∷ bs) x h2) ([], refl, refl)
      ]

  next_none : (rest : List ℕ) → begins_with separator rest ≡ false → next_at separator read rest ≡ Some None
  next_none [] h = refl
  next_none (b ∷ bs) h = ap (λ c. cond c (read bs >>= λ x. Some (Some x)) (Some None)) h

  module _ (ends_list : List ℕ → Type 0) (no_separator : (rest : List ℕ) → ends_list rest → begins_with separator rest ≡ false) (stops_end : (rest : List ℕ) → ends_list rest → stops rest) (stops_more : (octets : List ℕ) → stops (separator ∷ octets)) where
    tail_stops : (values : List A) (octets rest : List ℕ) → HasPrefix (ListTail values) octets rest → ends_list rest → stops octets
    tail_stops [] octets rest f s = subst stops (sym (exactly_is [] octets rest f)) (stops_end rest s)
    tail_stops (v ∷ vs) octets rest f s =
        let p = parts_around (exactly (separator ∷ [])) _ octets rest f in
        subst stops (sym (exactly_is (separator ∷ []) octets p.0 p.1)) (stops_more p.0)

    more_complete : (n : ℕ) (values : List A) (octets rest : List ℕ) → HasPrefix (ListTail values) octets rest → ends_list rest → length values ≤ n → more_at n separator read octets ≡ Some (values, rest)
    more_complete zero [] octets rest f s l = ap (λ xs. Some ([], xs)) (exactly_is [] octets rest f)
    more_complete zero (v ∷ vs) octets rest f s l = absurd (omega arith)
    more_complete (suc n) [] octets rest f s l =
        let e : octets ≡ rest = exactly_is [] octets rest f in
        ap (more_at (suc n) separator read) e ∙ ap (λ r. r >>= λ next. and_more (more_at n separator read) rest next) (next_none rest (no_separator rest s))
    more_complete (suc n) (v ∷ vs) octets rest f s l =
        let p = parts_around (exactly (separator ∷ [])) _ octets rest f in
        let q = parts_around (form v) (ListTail vs) p.0 rest p.2 in
        let e : octets ≡ separator ∷ p.0 = exactly_is (separator ∷ []) octets p.0 p.1 in
        let r : read p.0 ≡ Some (v, q.0) = reads.complete p.0 q.0 v q.1 (tail_stops vs q.0 rest q.2 s) in
        let x : next_at separator read (separator ∷ p.0) ≡ Some (Some (v, q.0)) =
        ap (λ c. cond c (read p.0 >>= λ x. Some (Some x)) (Some None)) (eq-eqb separator separator refl) ∙ ap (λ o. o >>= λ x. Some (Some x)) r in
        ap (more_at (suc n) separator read) e
        ∙ ap (λ r. r >>= λ next. and_more (more_at n separator read) (separator ∷ p.0) next) x
        ∙ ap (λ r. r >>= λ others. Some (v ∷ others.0, others.1)) (more_complete n vs q.0 rest q.2 s (omega arith))

    -- there are at most as many values as octets
    tail_length : (values : List A) (octets rest : List ℕ) → HasPrefix (ListTail values) octets rest → length values ≤ length octets
    tail_length [] octets rest f = omega arith
    tail_length (v ∷ vs) octets rest f =
        let p = parts_around (exactly (separator ∷ [])) _ octets rest f in
        let q = parts_around (form v) (ListTail vs) p.0 rest p.2 in
        let e : length octets ≡ length (separator ∷ p.0) = ap length (exactly_is (separator ∷ []) octets p.0 p.1) in
        let g : length p.0 ≡ length (q.1.0 ++ q.0) = ap length q.1.2 in
        let i : length vs ≤ length q.0 = tail_length vs q.0 rest q.2 in
        omega (arith, length-append q.1.0 q.0)

    listed_complete : (values : List A) (octets rest : List ℕ) → HasPrefix (listed (exactly (separator ∷ [])) form values) octets rest → ends_list rest → listed_at separator read octets ≡ Some (values, rest)
    listed_complete [] octets rest f s = absurd f.1
    listed_complete (v ∷ vs) octets rest f s =
        let p = parts_around (form v) (ListTail vs) octets rest f in
        let r : read octets ≡ Some (v, p.0) = reads.complete octets p.0 v p.1 (tail_stops vs p.0 rest p.2 s) in
        let g : length octets ≡ length (p.1.0 ++ p.0) = ap length p.1.2 in
        let i : length vs ≤ length p.0 = tail_length vs p.0 rest p.2 in
        let m = more_complete (length octets) vs p.0 rest p.2 s (omega (arith, length-append p.1.0 p.0)) in
        ap (λ r. r >>= λ first. more_at (length octets) separator read first.1 >>= λ others. Some (first.0 ∷ others.0, others.1)) r
        ∙ ap (λ r. r >>= λ others. Some (v ∷ others.0, others.1)) m

    pub listed_reads : IsReader (listed_at separator read) (listed (exactly (separator ∷ [])) form) ends_list
    listed_reads = record {
      sound = λ octets x h.
          let a = bind_some (read octets) _ x h in
          let m = bind_some (more_at (length octets) separator read a.0.1) _ x a.2 in
          subst (λ (y : List A × List ℕ). HasPrefix (listed (exactly (separator ∷ [])) form y.0) octets y.1) (some_is (a.0.0 ∷ m.0.0, m.0.1) x m.2)
          (joined (form a.0.0) (ListTail m.0.0) octets a.0.1 m.0.1 (reads.sound octets a.0 a.1) (more_sound (length octets) a.0.1 m.0 m.1));
      complete = λ octets rest values f s. listed_complete values octets rest f s;
    }
