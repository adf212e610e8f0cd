-- Keys of IMAP4rev1 are read as keys of the profile with the same steps.
use Rattle.std.proofs.lemmas.Bool.{and_parts}
use Rattle.std.proofs.Common.{◌≡◌, ◌&&◌, cond, eqb, inl, inr, ℕ, zero, suc, ◌+◌, ◌≤◌, Bool, true, false, ◌||◌, List, [], ◌∷◌, ◌++◌, codes, decimal, length, take, map, refl, sym, ap, ◌∙◌, subst, append_assoc, append-nil, length-append, arith}
use Rattle.std.proofs.Math.Seq.{drop-append-add, drop-append_seam, take-append_seam}
use Rattle.std.specs.List.{list_all}
use Rattle.imap_types.specs.declared.day.Day.{Day}
use Rattle.imap_answers.specs.Strings.{separated_by}
use Rattle.imap_types.specs.DateTimes.{is_digit}
use Rattle.imap_grammar.specs.Reading.{date_at}
use Rattle.imap_syntax.specs.Dates.{date}
use Rattle.imap_syntax.specs.KeyWords.{key_word as profile_word}
use Rattle.imap_syntax.specs.Keys.{all_of, greatest, key_over, key_within, search_keys, test}
use Rattle.imap_syntax.specs.Languages.{◌⌢◌, each_after, in_parens, listed, never, sp, word}
use Rattle.imap_syntax.specs.Sets.{sequence_set}
use Rattle.imap_syntax.specs.Strings.{is_in, number_to, run, text_of}
use Rattle.imap_syntax.specs.declared.flags.SystemFlag.TheVariants as system
use Rattle.imap_syntax.specs.declared.octet_class.OctetClass.TheVariants.{Astring, Atom, Digit, Pattern}
use Rattle.imap_syntax.specs.declared.search.DateRelation.{DateRelation}
use Rattle.imap_syntax.specs.declared.search.DateRelation.TheVariants as order
use Rattle.imap_syntax.specs.declared.search.SearchKeyWord.{SearchKeyWord}
use Rattle.imap_syntax.specs.declared.search.SearchKeyWord.TheVariants as key
use Rattle.imap_syntax.specs.declared.search.SearchStep.{SearchStep}
use Rattle.imap_syntax.specs.declared.search.SearchStep.TheVariants.{Not, Or}
use Rattle.imap_syntax.specs.declared.search.SearchTest.{SearchTest}
use Rattle.imap_syntax.specs.declared.search.SearchTest.TheVariants as tests
use Rattle.imap_syntax.specs.declared.search.TextPlace.TheVariants as place
use Rattle.imap_grammar.proofs.ReaderLaws.{IsWordEnd}
use Rattle.rev1_front.specs.Rev1Keys.{HaveUids, all_messages, entry, front_key, no_message, only_uid, rev1_key_within, rev1_keys, sent_word, with_uids}
use Rattle.rev1_front.specs.SearchForms.{is_related, sent_uids}
use Rattle.rev1_front.specs.SearchReading.{ReadKey, day_after_space, entry_len, first_key, key_word, keys_read, modseq_from, profile_keys, sent_text, text_len, texts_len, uids_text, whole_day}
use Rattle.rev1_front.specs.declared.search_days.SentDay.{SentDay}
use Rattle.rev1_front.specs.declared.search_keys.KeyWord.{KeyWord}
use Rattle.rev1_front.specs.declared.search_keys.KeyWord.TheVariants as words
use Rattle.rev1_front.proofs.KeyLemmas.{joined_keys, keys_nil, or_false}
use Rattle.rev1_front.proofs.TokenReads.{AreTexts, Reads, key_at, reads_both, reads_key, reads_octet, reads_texts, some_front, spaced_all, texts_len_is, texts_stop, token_is}
use Rattle.rev1_front.proofs.UidTexts.{AreUids, related_uids, uids_set}
use Rattle.rev1_front.proofs.WordTokens.{IsKeyToken, class_text, date_is_text, date_whole, digit_no_quote, number_text, quoted_entry, run_text, set_kind, set_some, set_text, word_kind, word_some, word_text}

-- what the words of the profile ask for
abbrev kind_of : SearchKeyWord → KeyWord
kind_of key.All = words.Texts 0
kind_of (key.System flag is_set) = words.Texts 0
kind_of (key.Keyword is_set) = words.Texts 1
kind_of (key.Place this) = words.Texts 1
kind_of key.Header = words.Texts 2
kind_of (key.Dated this) = words.Texts 1
kind_of key.Larger = words.Texts 1
kind_of key.Smaller = words.Texts 1
kind_of key.ModSeq = words.ModSeq
kind_of key.Uid = words.Texts 1
kind_of key.Not = words.Texts 0
kind_of key.Or = words.Texts 0

kind_is : (w : SearchKeyWord) → (key_word (profile_word w) ≡ kind_of w) × IsKeyToken (profile_word w)
kind_is key.All = (refl, (refl, refl))
kind_is (key.System system.Answered true) = (refl, (refl, refl))
kind_is (key.System system.Answered false) = (refl, (refl, refl))
kind_is (key.System system.Flagged true) = (refl, (refl, refl))
kind_is (key.System system.Flagged false) = (refl, (refl, refl))
kind_is (key.System system.Deleted true) = (refl, (refl, refl))
kind_is (key.System system.Deleted false) = (refl, (refl, refl))
kind_is (key.System system.Seen true) = (refl, (refl, refl))
kind_is (key.System system.Seen false) = (refl, (refl, refl))
kind_is (key.System system.Draft true) = (refl, (refl, refl))
kind_is (key.System system.Draft false) = (refl, (refl, refl))
kind_is (key.Keyword true) = (refl, (refl, refl))
kind_is (key.Keyword false) = (refl, (refl, refl))
kind_is (key.Place place.Bcc) = (refl, (refl, refl))
kind_is (key.Place place.Cc) = (refl, (refl, refl))
kind_is (key.Place place.From) = (refl, (refl, refl))
kind_is (key.Place place.Subject) = (refl, (refl, refl))
kind_is (key.Place place.To) = (refl, (refl, refl))
kind_is (key.Place place.Body) = (refl, (refl, refl))
kind_is (key.Place place.Text) = (refl, (refl, refl))
kind_is key.Header = (refl, (refl, refl))
kind_is (key.Dated order.Before) = (refl, (refl, refl))
kind_is (key.Dated order.On) = (refl, (refl, refl))
kind_is (key.Dated order.Since) = (refl, (refl, refl))
kind_is key.Larger = (refl, (refl, refl))
kind_is key.Smaller = (refl, (refl, refl))
kind_is key.ModSeq = (refl, (refl, refl))
kind_is key.Uid = (refl, (refl, refl))
kind_is key.Not = (refl, (refl, refl))
kind_is key.Or = (refl, (refl, refl))

module _ (days : List SentDay) where
  -- a word of the profile and the texts after it
  profile_texts : (w : SearchKeyWord) (front rest : List ℕ) (args : List (List ℕ)) → kind_of w ≡ words.Texts (length args) → word (profile_word w) front → AreTexts args → IsWordEnd rest
      → Reads days (front ++ spaced_all args) (front ++ spaced_all args) false rest
  profile_texts w front rest args k f t s =
      let i = kind_is w in
      reads_texts days front rest front args (word_text (profile_word w) front i.1 f) (word_some (profile_word w) front i.1 f) (word_kind (profile_word w) front f ∙ i.0 ∙ k) t s

  same_text : (text other rest : List ℕ) → text ≡ other → Reads days other other false rest → Reads days text text false rest
  same_text text other rest e r = subst (λ (x : List ℕ). Reads days x x false rest) (sym e) r

  no_texts : (w : SearchKeyWord) (text rest : List ℕ) → kind_of w ≡ words.Texts 0 → word (profile_word w) text → IsWordEnd rest → Reads days text text false rest
  no_texts w text rest k f s = same_text text (text ++ []) rest (sym (append-nil text)) (profile_texts w text rest [] k f tt s)

  one_text : (w : SearchKeyWord) (form : List ℕ → Type 0) (text rest : List ℕ) → kind_of w ≡ words.Texts 1 → ((arg : List ℕ) → form arg → (value : List ℕ) × text_of Pattern value arg) → (word (profile_word w) ⌢ sp ⌢ form) text → IsWordEnd rest
      → Reads days text text false rest
  one_text w form text rest k is h s =
      let t = h.3 in
      let e : text ≡ h.0 ++ (32 ∷ (t.1 ++ [])) = h.4 ∙ ap (λ xs. h.0 ++ xs) (t.4 ∙ ap (λ xs. xs ++ t.1) t.2 ∙ ap (λ xs. 32 ∷ xs) (sym (append-nil t.1))) in
      same_text text (h.0 ++ (32 ∷ (t.1 ++ []))) rest e (profile_texts w h.0 rest (t.1 ∷ []) k h.2 (is t.1 t.3, tt) s)

  two_texts : (w : SearchKeyWord) (form next : List ℕ → Type 0) (text rest : List ℕ) → kind_of w ≡ words.Texts 2 → ((arg : List ℕ) → form arg → (value : List ℕ) × text_of Pattern value arg) → ((arg : List ℕ) → next arg → (value : List ℕ) × text_of Pattern value arg)
      → (word (profile_word w) ⌢ sp ⌢ form ⌢ sp ⌢ next) text → IsWordEnd rest → Reads days text text false rest
  two_texts w form next text rest k is are h s =
      let t = h.3 in
      let u = t.3 in
      let v = u.3 in
      let tail : u.1 ≡ 32 ∷ (v.1 ++ []) = v.4 ∙ ap (λ xs. xs ++ v.1) v.2 ∙ ap (λ xs. 32 ∷ xs) (sym (append-nil v.1)) in
      let e : text ≡ h.0 ++ (32 ∷ (u.0 ++ (32 ∷ (v.1 ++ [])))) = h.4 ∙ ap (λ xs. h.0 ++ xs) (t.4 ∙ ap (λ xs. xs ++ t.1) t.2 ∙ ap (λ xs. 32 ∷ xs) (u.4 ∙ ap (λ xs. u.0 ++ xs) tail)) in
      same_text text (h.0 ++ (32 ∷ (u.0 ++ (32 ∷ (v.1 ++ []))))) rest e (profile_texts w h.0 rest (u.0 ∷ v.1 ∷ []) k h.2 (is u.0 u.2, (are v.1 v.3, tt)) s)

  -- MODSEQ, with an entry or without
  abbrev made : ℕ → List ℕ → Bool → ReadKey
  made len text asks = record { len = len; text = text; asks = asks }

  modseq_reads : (front num rest value : List ℕ) (args : List (List ℕ)) → word (codes "MODSEQ") front → text_of Pattern value num → entry_len (spaced_all args ++ (32 ∷ (num ++ rest))) ≡ length (spaced_all args) → IsWordEnd rest
      → Reads days (front ++ (spaced_all args ++ (32 ∷ num))) (front ++ (32 ∷ num)) false rest
  modseq_reads front num rest value args w n e s =
      let i = kind_is key.ModSeq in
      let inner : (spaced_all args ++ (32 ∷ num)) ++ rest ≡ spaced_all args ++ (32 ∷ (num ++ rest)) = append_assoc (spaced_all args) (32 ∷ num) rest in
      let whole : (front ++ (spaced_all args ++ (32 ∷ num))) ++ rest ≡ front ++ (spaced_all args ++ (32 ∷ (num ++ rest))) = append_assoc front (spaced_all args ++ (32 ∷ num)) rest ∙ ap (λ xs. front ++ xs) inner in
      let kind : key_word front ≡ words.ModSeq = word_kind (codes "MODSEQ") front w ∙ i.0 in
      let key = key_at days front (spaced_all args ++ (32 ∷ (num ++ rest))) front words.ModSeq (word_text (codes "MODSEQ") front i.1 w) (texts_stop args (32 ∷ (num ++ rest)) refl) kind in
      let tl : text_len (32 ∷ (num ++ rest)) ≡ suc (length num) = ap suc (token_is num rest value n s) in
      let len : (length front + length (spaced_all args)) + suc (length num) ≡ length (front ++ (spaced_all args ++ (32 ∷ num))) = omega (arith, length-append front (spaced_all args ++ (32 ∷ num)), length-append (spaced_all args) (32 ∷ num)) in
      reads_key days (front ++ (spaced_all args ++ (32 ∷ num))) (front ++ (32 ∷ num)) rest false (some_front front (spaced_all args ++ (32 ∷ num)) (word_some (codes "MODSEQ") front i.1 w))
      (ap (first_key days) whole ∙ key
      ∙ ap (λ r. modseq_from (length front) (length front + entry_len r) (front ++ (spaced_all args ++ (32 ∷ (num ++ rest))))) (drop-append_seam front (spaced_all args ++ (32 ∷ (num ++ rest))))
      ∙ ap (λ m. modseq_from (length front) (length front + m) (front ++ (spaced_all args ++ (32 ∷ (num ++ rest))))) e
      ∙ ap (λ r. made ((length front + length (spaced_all args)) + text_len r) (take (length front) (front ++ (spaced_all args ++ (32 ∷ (num ++ rest)))) ++ take (text_len r) r) false)
      (drop-append-add front (spaced_all args ++ (32 ∷ (num ++ rest))) (length (spaced_all args)) ∙ drop-append_seam (spaced_all args) (32 ∷ (num ++ rest)))
      ∙ ap (λ m. made ((length front + length (spaced_all args)) + m) (take (length front) (front ++ (spaced_all args ++ (32 ∷ (num ++ rest)))) ++ take m (32 ∷ (num ++ rest))) false) tl
      ∙ ap (λ xs. made ((length front + length (spaced_all args)) + suc (length num)) (xs ++ (32 ∷ take (length num) (num ++ rest))) false) (take-append_seam front (spaced_all args ++ (32 ∷ (num ++ rest))))
      ∙ ap (λ xs. made ((length front + length (spaced_all args)) + suc (length num)) (front ++ (32 ∷ xs)) false) (take-append_seam num rest)
      ∙ ap (λ m. made m (front ++ (32 ∷ num)) false) len)

  -- without an entry a number follows
  no_entry : (digits num rest : List ℕ) → run Digit digits num → entry_len (32 ∷ (num ++ rest)) ≡ 0
  no_entry [] num rest r = absurd (r.0 refl)
  no_entry (d ∷ ds) num rest r =
      let p = and_parts (is_digit d) (list_all (is_in Digit) ds) r.1 in
      let n : eqb d 34 ≡ false = digit_no_quote d p.0 in
      ap (λ (xs : List ℕ). entry_len (32 ∷ (xs ++ rest))) r.2
      ∙ ap (λ b. cond (b && true) (texts_len 2 (32 ∷ (d ∷ ds) ++ rest)) 0) n

  plain_modseq : (value : ℕ) (text rest : List ℕ) → (word (codes "MODSEQ") ⌢ sp ⌢ number_to greatest value) text → IsWordEnd rest → Reads days text text false rest
  plain_modseq value text rest h s =
      let t = h.3 in
      let e : text ≡ h.0 ++ (32 ∷ t.1) = h.4 ∙ ap (λ xs. h.0 ++ xs) (t.4 ∙ ap (λ xs. xs ++ t.1) t.2) in
      same_text text (h.0 ++ (32 ∷ t.1)) rest e (modseq_reads h.0 t.1 rest t.3.0.0 [] h.2 (run_text Digit t.3.0.0 t.1 t.3.0.1) (no_entry t.3.0.0 t.1 rest t.3.0.1) s)

  entry_modseq : (value : ℕ) (text rest : List ℕ) → (word (codes "MODSEQ") ⌢ entry ⌢ sp ⌢ number_to greatest value) text → IsWordEnd rest
      → (out : List ℕ) × Reads days text out false rest × test (tests.ModSeq value) out
  entry_modseq value text rest h s =
      let back = h.3 in
      let names = back.2 in
      let a = names.2 in
      let b = a.3 in
      let c = b.3 in
      let t = back.3 in
      let n = number_text greatest value t.1 t.3 in
      let last : b.1 ≡ 32 ∷ (c.1 ++ []) = c.4 ∙ ap (λ xs. xs ++ c.1) c.2 ∙ ap (λ xs. 32 ∷ xs) (sym (append-nil c.1)) in
      let entries : back.0 ≡ 32 ∷ (b.0 ++ (32 ∷ (c.1 ++ []))) = a.4 ∙ ap (λ xs. xs ++ a.1) a.2 ∙ ap (λ xs. 32 ∷ xs) (b.4 ∙ ap (λ xs. b.0 ++ xs) last) in
      let number : back.1 ≡ 32 ∷ t.1 = t.4 ∙ ap (λ xs. xs ++ t.1) t.2 in
      let e : text ≡ h.0 ++ (spaced_all (b.0 ∷ c.1 ∷ []) ++ (32 ∷ t.1)) = h.4 ∙ ap (λ xs. h.0 ++ xs) (back.4 ∙ ap (λ xs. xs ++ back.1) entries ∙ ap (λ xs. (32 ∷ (b.0 ++ (32 ∷ (c.1 ++ [])))) ++ xs) number) in
      let quote : (rest : List ℕ) → entry_len ((32 ∷ (b.0 ++ (32 ∷ (c.1 ++ [])))) ++ rest) ≡ texts_len 2 ((32 ∷ (b.0 ++ (32 ∷ (c.1 ++ [])))) ++ rest) = λ rest. quoted_entry (b.0 ++ (32 ∷ (c.1 ++ []))) b.0 (32 ∷ (c.1 ++ [])) names.0 rest b.2 refl in
      let len : entry_len (spaced_all (b.0 ∷ c.1 ∷ []) ++ (32 ∷ (t.1 ++ rest))) ≡ length (spaced_all (b.0 ∷ c.1 ∷ [])) =
      quote (32 ∷ (t.1 ++ rest)) ∙ texts_len_is (b.0 ∷ c.1 ∷ []) (32 ∷ (t.1 ++ rest)) ((names.0, inr (inl b.2)), ((names.1, run_text Atom names.1 c.1 c.3), tt)) refl in
      let r = modseq_reads h.0 t.1 rest n.0 (b.0 ∷ c.1 ∷ []) h.2 n.1 len s in (
        h.0 ++ (32 ∷ t.1),
        subst (λ (x : List ℕ). Reads days x (h.0 ++ (32 ∷ t.1)) false rest) (sym e) r,
        (h.0, 32 ∷ t.1, h.2, (32 ∷ [], t.1, refl, t.3, refl), refl),
      )

  -- ---- Tests of the profile.

  test_reads : (this : SearchTest) (text rest : List ℕ) → test this text → IsWordEnd rest → Reads days text text false rest
  test_reads tests.All text rest h s = no_texts key.All text rest refl h s
  test_reads (tests.System flag is_set) text rest h s = no_texts (key.System flag is_set) text rest refl h s
  test_reads (tests.Keyword keyword is_set) text rest h s = one_text (key.Keyword is_set) (run Atom keyword) text rest refl (λ arg r. (keyword, run_text Atom keyword arg r)) h s
  test_reads (tests.Holds this string) text rest h s = one_text (key.Place this) (text_of Astring string) text rest refl (λ arg r. (string, class_text Astring string arg r)) h s
  test_reads (tests.Header name string) text rest h s = two_texts key.Header (text_of Astring name) (text_of Astring string) text rest refl (λ arg r. (name, class_text Astring name arg r)) (λ arg r. (string, class_text Astring string arg r)) h s
  test_reads (tests.Dated relation day) text rest h s = one_text (key.Dated relation) (date day) text rest refl (λ arg r. date_is_text day arg r) h s
  test_reads (tests.Larger size) text rest h s = one_text key.Larger (number_to greatest size) text rest refl (λ arg r. number_text greatest size arg r) h s
  test_reads (tests.Smaller size) text rest h s = one_text key.Smaller (number_to greatest size) text rest refl (λ arg r. number_text greatest size arg r) h s
  test_reads (tests.ModSeq value) text rest h s = plain_modseq value text rest h s
  test_reads (tests.Uids uids) text rest h s = one_text key.Uid (sequence_set uids) text rest refl (λ arg r. (arg, set_text uids arg r)) h s
  test_reads (tests.Numbers numbers) text rest h s = same_text text (text ++ []) rest (sym (append-nil text))
      (reads_texts days text rest text [] (set_text numbers text h) (set_some numbers text h) (set_kind numbers text h) tt s)

  -- ---- Keys in keys.

  after_space : (arg out rest : List ℕ) (asks : Bool) → Reads days arg out asks rest → Reads days (32 ∷ arg) (32 ∷ out) asks rest
  after_space arg out rest asks r = reads_both days (32 ∷ []) arg (32 ∷ []) out rest false asks (reads_octet days 32 (arg ++ rest) refl refl) r

  after_word : (w : SearchKeyWord) (front arg out rest : List ℕ) (asks : Bool) → kind_of w ≡ words.Texts 0 → word (profile_word w) front → Reads days arg out asks rest → Reads days (front ++ (32 ∷ arg)) (front ++ (32 ∷ out)) asks rest
  after_word w front arg out rest asks k f r =
      reads_both days front (32 ∷ arg) front (32 ∷ out) rest false asks (no_texts w front (32 ∷ (arg ++ rest)) k f refl) (after_space arg out rest asks r)

  reads_nothing : (rest : List ℕ) → Reads days [] [] false rest
  reads_nothing rest n = let e : n + length {A = ℕ} [] ≡ n = omega arith in (n, omega arith, ap (λ k. keys_read k days rest) e)

  renamed : (text other out rest : List ℕ) (asks : Bool) → text ≡ other → Reads days other out asks rest → Reads days text out asks rest
  renamed text other out rest asks e r = subst (λ (x : List ℕ). Reads days x out asks rest) (sym e) r

  -- what is read of a text: a text of the profile with the same meaning
  abbrev IsReadAs : {A : Type 0} → (A → List ℕ → Type 0) → A → List ℕ → List ℕ → Type 0
  IsReadAs form value text rest = (out : List ℕ) × (asks : Bool) × Reads days text out asks rest × form value out

  module _ (inner form : List SearchStep → List ℕ → Type 0) (reads : (steps : List SearchStep) (text rest : List ℕ) → inner steps text → IsWordEnd rest → IsReadAs form steps text rest) where
    more_stop : (keys : List (List SearchStep)) (text rest : List ℕ) → each_after sp inner keys text → IsWordEnd rest → IsWordEnd (text ++ rest)
    more_stop [] text rest h s = subst (λ (x : List ℕ). IsWordEnd (x ++ rest)) (sym h) s
    more_stop (k ∷ ks) text rest h s =
        let e : text ≡ 32 ∷ h.1 = h.4 ∙ ap (λ xs. xs ++ h.1) h.2 in
        subst (λ (x : List ℕ). IsWordEnd (x ++ rest)) (sym e) refl

    more_read : (keys : List (List SearchStep)) (text rest : List ℕ) → each_after sp inner keys text → IsWordEnd rest → IsReadAs (each_after sp form) keys text rest
    more_read [] text rest h s = ([], false, renamed text [] [] rest false h (reads_nothing rest), refl)
    more_read (k ∷ ks) text rest h s =
        let t = h.3 in
        let m = more_read ks t.1 rest t.3 s in
        let r = reads k t.0 (t.1 ++ rest) t.2 (more_stop ks t.1 rest t.3 s) in
        let e : text ≡ 32 ∷ (t.0 ++ t.1) = h.4 ∙ ap (λ xs. xs ++ h.1) h.2 ∙ ap (λ xs. 32 ∷ xs) t.4 in (
          32 ∷ (r.0 ++ m.0),
          r.1 || m.1,
          renamed text (32 ∷ (t.0 ++ t.1)) (32 ∷ (r.0 ++ m.0)) rest (r.1 || m.1) e
              (after_space (t.0 ++ t.1) (r.0 ++ m.0) rest (r.1 || m.1) (reads_both days t.0 t.1 r.0 m.0 rest r.1 m.1 r.2 m.2)),
          (32 ∷ [], r.0 ++ m.0, refl, (r.0, m.0, r.3, m.3, refl), refl),
        )

    list_read : (keys : List (List SearchStep)) (text rest : List ℕ) → listed sp inner keys text → IsWordEnd rest → IsReadAs (listed sp form) keys text rest
    list_read [] text rest h s = absurd h
    list_read (k ∷ ks) text rest h s =
        let m = more_read ks h.1 rest h.3 s in
        let r = reads k h.0 (h.1 ++ rest) h.2 (more_stop ks h.1 rest h.3 s) in (
          r.0 ++ m.0,
          r.1 || m.1,
          renamed text (h.0 ++ h.1) (r.0 ++ m.0) rest (r.1 || m.1) h.4 (reads_both days h.0 h.1 r.0 m.0 rest r.1 m.1 r.2 m.2),
          (r.0, m.0, r.3, m.3, refl),
        )

    not_read : (steps operand : List SearchStep) (text rest : List ℕ) → (word (profile_word key.Not) ⌢ sp ⌢ inner operand) text → operand ++ Not ∷ [] ≡ steps → IsWordEnd rest → IsReadAs (key_over form) steps text rest
    not_read steps operand text rest h i s =
        let t = h.3 in
        let r = reads operand t.1 rest t.3 s in
        let e : text ≡ h.0 ++ (32 ∷ t.1) = h.4 ∙ ap (λ xs. h.0 ++ xs) (t.4 ∙ ap (λ xs. xs ++ t.1) t.2) in (
          h.0 ++ (32 ∷ r.0),
          r.1,
          renamed text (h.0 ++ (32 ∷ t.1)) (h.0 ++ (32 ∷ r.0)) rest r.1 e (after_word key.Not h.0 t.1 r.0 rest r.1 refl h.2 r.2),
          inr (inl (operand, (h.0, 32 ∷ r.0, h.2, (32 ∷ [], r.0, refl, r.3, refl), refl), i)),
        )

    or_read : (steps this that : List SearchStep) (text rest : List ℕ) → (word (profile_word key.Or) ⌢ sp ⌢ inner this ⌢ sp ⌢ inner that) text → this ++ that ++ Or ∷ [] ≡ steps → IsWordEnd rest → IsReadAs (key_over form) steps text rest
    or_read steps this that text rest h i s =
        let t = h.3 in
        let u = t.3 in
        let v = u.3 in
        let q = reads that v.1 rest v.3 s in
        let r = reads this u.0 (32 ∷ (v.1 ++ rest)) u.2 refl in
        let two = reads_both days u.0 (32 ∷ v.1) r.0 (32 ∷ q.0) rest r.1 q.1 r.2 (after_space v.1 q.0 rest q.1 q.2) in
        let e : text ≡ h.0 ++ (32 ∷ (u.0 ++ (32 ∷ v.1))) =
        h.4 ∙ ap (λ xs. h.0 ++ xs) (t.4 ∙ ap (λ xs. xs ++ t.1) t.2 ∙ ap (λ xs. 32 ∷ xs) (u.4 ∙ ap (λ xs. u.0 ++ xs) (v.4 ∙ ap (λ xs. xs ++ v.1) v.2))) in (
          h.0 ++ (32 ∷ (r.0 ++ (32 ∷ q.0))),
          r.1 || q.1,
          renamed text (h.0 ++ (32 ∷ (u.0 ++ (32 ∷ v.1)))) (h.0 ++ (32 ∷ (r.0 ++ (32 ∷ q.0)))) rest (r.1 || q.1) e
              (after_word key.Or h.0 (u.0 ++ (32 ∷ v.1)) (r.0 ++ (32 ∷ q.0)) rest (r.1 || q.1) refl h.2 two),
          inr (inr (inl (this, that, (h.0, 32 ∷ (r.0 ++ (32 ∷ q.0)), h.2, (32 ∷ [], r.0 ++ (32 ∷ q.0), refl, (r.0, 32 ∷ q.0, r.3, (32 ∷ [], q.0, refl, q.3, refl), refl), refl), refl), i))),
        )

    group_read : (steps : List SearchStep) (keys : List (List SearchStep)) (text rest : List ℕ) → in_parens (listed sp inner keys) text → all_of keys ≡ steps → IsReadAs (key_over form) steps text rest
    group_read steps keys text rest h i =
        let t = h.3 in
        let r = list_read keys t.0 (41 ∷ rest) t.2 refl in
        let closed = reads_both days t.0 (41 ∷ []) r.0 (41 ∷ []) rest r.1 false r.2 (reads_octet days 41 rest refl refl) in
        let all = reads_both days (40 ∷ []) (t.0 ++ 41 ∷ []) (40 ∷ []) (r.0 ++ 41 ∷ []) rest false (r.1 || false) (reads_octet days 40 ((t.0 ++ 41 ∷ []) ++ rest) refl refl) closed in
        let e : text ≡ 40 ∷ (t.0 ++ 41 ∷ []) = h.4 ∙ ap (λ xs. xs ++ h.1) h.2 ∙ ap (λ xs. 40 ∷ xs) (t.4 ∙ ap (λ xs. t.0 ++ xs) t.3) in (
          40 ∷ (r.0 ++ 41 ∷ []),
          r.1 || false,
          renamed text (40 ∷ (t.0 ++ 41 ∷ [])) (40 ∷ (r.0 ++ 41 ∷ [])) rest (r.1 || false) e all,
          inr (inr (inr (keys, (40 ∷ [], r.0 ++ 41 ∷ [], refl, (r.0, 41 ∷ [], r.3, refl, refl), refl), i))),
        )

    key_read : (steps : List SearchStep) (text rest : List ℕ) → key_over inner steps text → IsWordEnd rest → IsReadAs (key_over form) steps text rest
    key_read steps text rest h s = elim h [
      | inl t ↦ (text, false, test_reads t.0 text rest t.1 s, inl (t.0, t.1, t.2))
      | inr a ↦ elim a [
        | inl n ↦ not_read steps n.0 text rest n.1 n.2 s
        | inr b ↦ elim b [
          | inl o ↦ or_read steps o.0 o.1 text rest o.2 o.3 s
          | inr g ↦ group_read steps g.0 text rest g.1 g.2
        ]
      ]
    ]

  -- ---- Keys of the profile stay.

  module _ (form : List SearchStep → List ℕ → Type 0) (reads : (steps : List SearchStep) (text rest : List ℕ) → form steps text → IsWordEnd rest → Reads days text text false rest) where
    more_stays_stop : (keys : List (List SearchStep)) (text rest : List ℕ) → each_after sp form keys text → IsWordEnd rest → IsWordEnd (text ++ rest)
    more_stays_stop [] text rest h s = subst (λ (x : List ℕ). IsWordEnd (x ++ rest)) (sym h) s
    more_stays_stop (k ∷ ks) text rest h s =
        let e : text ≡ 32 ∷ h.1 = h.4 ∙ ap (λ xs. xs ++ h.1) h.2 in
        subst (λ (x : List ℕ). IsWordEnd (x ++ rest)) (sym e) refl

    more_stays : (keys : List (List SearchStep)) (text rest : List ℕ) → each_after sp form keys text → IsWordEnd rest → Reads days text text false rest
    more_stays [] text rest h s = same_text text [] rest h (reads_nothing rest)
    more_stays (k ∷ ks) text rest h s =
        let t = h.3 in
        let e : text ≡ 32 ∷ (t.0 ++ t.1) = h.4 ∙ ap (λ xs. xs ++ h.1) h.2 ∙ ap (λ xs. 32 ∷ xs) t.4 in
        same_text text (32 ∷ (t.0 ++ t.1)) rest e
        (after_space (t.0 ++ t.1) (t.0 ++ t.1) rest false (reads_both days t.0 t.1 t.0 t.1 rest false false (reads k t.0 (t.1 ++ rest) t.2 (more_stays_stop ks t.1 rest t.3 s)) (more_stays ks t.1 rest t.3 s)))

    list_stays : (keys : List (List SearchStep)) (text rest : List ℕ) → listed sp form keys text → IsWordEnd rest → Reads days text text false rest
    list_stays [] text rest h s = absurd h
    list_stays (k ∷ ks) text rest h s =
        same_text text (h.0 ++ h.1) rest h.4 (reads_both days h.0 h.1 h.0 h.1 rest false false (reads k h.0 (h.1 ++ rest) h.2 (more_stays_stop ks h.1 rest h.3 s)) (more_stays ks h.1 rest h.3 s))

    key_stays : (steps : List SearchStep) (text rest : List ℕ) → key_over form steps text → IsWordEnd rest → Reads days text text false rest
    key_stays steps text rest h s = elim h [
      | inl t ↦ test_reads t.0 text rest t.1 s
      | inr a ↦ elim a [
        | inl n ↦
            let w = n.1 in
            let t = w.3 in
            let e : text ≡ w.0 ++ (32 ∷ t.1) = w.4 ∙ ap (λ xs. w.0 ++ xs) (t.4 ∙ ap (λ xs. xs ++ t.1) t.2) in
            same_text text (w.0 ++ (32 ∷ t.1)) rest e (after_word key.Not w.0 t.1 t.1 rest false refl w.2 (reads n.0 t.1 rest t.3 s))
        | inr b ↦ elim b [
          | inl o ↦
              let w = o.2 in
              let t = w.3 in
              let u = t.3 in
              let v = u.3 in
              let two = reads_both days u.0 (32 ∷ v.1) u.0 (32 ∷ v.1) rest false false (reads o.0 u.0 (32 ∷ (v.1 ++ rest)) u.2 refl) (after_space v.1 v.1 rest false (reads o.1 v.1 rest v.3 s)) in
              let e : text ≡ w.0 ++ (32 ∷ (u.0 ++ (32 ∷ v.1))) = w.4 ∙ ap (λ xs. w.0 ++ xs) (t.4 ∙ ap (λ xs. xs ++ t.1) t.2 ∙ ap (λ xs. 32 ∷ xs) (u.4 ∙ ap (λ xs. u.0 ++ xs) (v.4 ∙ ap (λ xs. xs ++ v.1) v.2))) in
              same_text text (w.0 ++ (32 ∷ (u.0 ++ (32 ∷ v.1)))) rest e (after_word key.Or w.0 (u.0 ++ (32 ∷ v.1)) (u.0 ++ (32 ∷ v.1)) rest false refl w.2 two)
          | inr g ↦
              let w = g.1 in
              let t = w.3 in
              let closed = reads_both days t.0 (41 ∷ []) t.0 (41 ∷ []) rest false false (list_stays g.0 t.0 (41 ∷ rest) t.2 refl) (reads_octet days 41 rest refl refl) in
              let all = reads_both days (40 ∷ []) (t.0 ++ 41 ∷ []) (40 ∷ []) (t.0 ++ 41 ∷ []) rest false false (reads_octet days 40 ((t.0 ++ 41 ∷ []) ++ rest) refl refl) closed in
              let e : text ≡ 40 ∷ (t.0 ++ 41 ∷ []) = w.4 ∙ ap (λ xs. xs ++ w.1) w.2 ∙ ap (λ xs. 40 ∷ xs) (t.4 ∙ ap (λ xs. t.0 ++ xs) t.3) in
              same_text text (40 ∷ (t.0 ++ 41 ∷ [])) rest e all
        ]
      ]
    ]

  within_stays : (n : ℕ) (steps : List SearchStep) (text rest : List ℕ) → key_within n steps text → IsWordEnd rest → Reads days text text false rest
  unfolding key_within
  within_stays zero steps text rest h s = key_stays (λ steps. never) (λ steps text rest i s. absurd i) steps text rest h s
  within_stays (suc n) steps text rest h s = key_stays (key_within n) (within_stays n) steps text rest h s

  -- all keys, up to the end of the line
  end_read : (m : ℕ) → 2 ≤ m → keys_read m days (13 ∷ 10 ∷ []) ≡ (13 ∷ 10 ∷ [], false)
  end_read zero h = absurd (omega arith)
  end_read (suc zero) h = absurd (omega arith)
  end_read (suc (suc m)) h = ap (λ k. (13 ∷ 10 ∷ k.0, k.1)) (keys_nil m days)

  line_read : (text out : List ℕ) (asks : Bool) → Reads days text out asks (13 ∷ 10 ∷ []) → profile_keys days (codes " " ++ (text ++ codes "\r\n")) ≡ (codes " " ++ (out ++ codes "\r\n"), asks)
  line_read text out asks r =
      let all = after_space text out (13 ∷ 10 ∷ []) asks r 2 in
      let n : length (32 ∷ (text ++ 13 ∷ 10 ∷ [])) ≡ 2 + length (32 ∷ text) = omega (arith, length-append text (13 ∷ 10 ∷ [])) in
      ap (λ k. keys_read k days (32 ∷ (text ++ 13 ∷ 10 ∷ []))) n ∙ all.2 ∙ ap (joined_keys (32 ∷ out) asks) (end_read all.0 all.1) ∙ (λ i. (32 ∷ (out ++ 13 ∷ 10 ∷ []), or_false asks i))

  pub keys_stay : (steps : List SearchStep) (text : List ℕ) → search_keys steps text → profile_keys days (codes " " ++ (text ++ codes "\r\n")) ≡ (codes " " ++ (text ++ codes "\r\n"), false)
  keys_stay steps text h = line_read text text false (list_stays (key_within 64) (within_stays 64) h.0 text (13 ∷ 10 ∷ []) h.1 refl)

  -- ---- Keys that the profile hasn't.

  old_read : (text rest : List ℕ) → word (codes "OLD") text → IsWordEnd rest → Reads days text (codes "ALL") false rest
  old_read text rest w s =
      reads_key days text (codes "ALL") rest false (word_some (codes "OLD") text (refl, refl) w)
      (key_at days text rest text words.Old (word_text (codes "OLD") text (refl, refl) w) s (word_kind (codes "OLD") text w))

  new_read : (letters text rest : List ℕ) → IsKeyToken letters → key_word letters ≡ words.Recent → word letters text → IsWordEnd rest → Reads days text (codes "NOT ALL") false rest
  new_read letters text rest t k w s =
      reads_key days text (codes "NOT ALL") rest false (word_some letters text t w)
      (key_at days text rest text words.Recent (word_text letters text t w) s (word_kind letters text w ∙ k))

  all_within : (n : ℕ) → key_within n all_messages (codes "ALL")
  unfolding key_within
  all_within zero = inl (tests.All, refl, refl)
  all_within (suc n) = inl (tests.All, refl, refl)

  none_over : (n : ℕ) (steps : List SearchStep) → no_message ≡ steps → key_over (key_within n) steps (codes "NOT ALL")
  none_over n steps e = inr (inl (all_messages, (codes "NOT", codes " ALL", refl, (codes " ", codes "ALL", refl, all_within n, refl), refl), e))

  -- a key about days, with the day that follows it
  sent_word_is : (relation : DateRelation) → (key_word (sent_word relation) ≡ words.Sent relation) × IsKeyToken (sent_word relation)
  sent_word_is order.Before = (refl, (refl, refl))
  sent_word_is order.On = (refl, (refl, refl))
  sent_word_is order.Since = (refl, (refl, refl))

  sent_read : (relation : DateRelation) (day : Day) (text rest : List ℕ) → (word (sent_word relation) ⌢ sp ⌢ date day) text → IsWordEnd rest → Reads days text (uids_text (sent_uids relation day days)) true rest
  sent_read relation day text rest h s =
      let i = sent_word_is relation in
      let t = h.3 in
      let d = date_is_text day t.1 t.3 in
      let e : text ≡ h.0 ++ (32 ∷ t.1) = h.4 ∙ ap (λ xs. h.0 ++ xs) (t.4 ∙ ap (λ xs. xs ++ t.1) t.2) in
      let whole : (h.0 ++ (32 ∷ t.1)) ++ rest ≡ h.0 ++ (32 ∷ (t.1 ++ rest)) = append_assoc h.0 (32 ∷ t.1) rest in
      let key = key_at days h.0 (32 ∷ (t.1 ++ rest)) h.0 (words.Sent relation) (word_text (sent_word relation) h.0 i.1 h.2) refl (word_kind (sent_word relation) h.0 h.2 ∙ i.0) in
      let tl : text_len (32 ∷ (t.1 ++ rest)) ≡ suc (length t.1) = ap suc (token_is t.1 rest d.0 d.1 s) in
      let len : length h.0 + suc (length t.1) ≡ length (h.0 ++ (32 ∷ t.1)) = omega (arith, length-append h.0 (32 ∷ t.1)) in
      renamed text (h.0 ++ (32 ∷ t.1)) (uids_text (sent_uids relation day days)) rest true e
      (reads_key days (h.0 ++ (32 ∷ t.1)) (uids_text (sent_uids relation day days)) rest true (some_front h.0 (32 ∷ t.1) (word_some (sent_word relation) h.0 i.1 h.2))
      (ap (first_key days) whole ∙ key
      ∙ ap (λ x. sent_text relation days (length h.0 + text_len x) (h.0 ++ (32 ∷ (t.1 ++ rest))) (day_after_space (take (text_len x) x))) (drop-append_seam h.0 (32 ∷ (t.1 ++ rest)))
      ∙ ap (λ n. sent_text relation days (length h.0 + n) (h.0 ++ (32 ∷ (t.1 ++ rest))) (day_after_space (take n (32 ∷ (t.1 ++ rest))))) tl
      ∙ ap (λ (x : List ℕ). sent_text relation days (length h.0 + suc (length t.1)) (h.0 ++ (32 ∷ (t.1 ++ rest))) (whole_day (date_at x))) (take-append_seam t.1 rest)
      ∙ ap (λ x. sent_text relation days (length h.0 + suc (length t.1)) (h.0 ++ (32 ∷ (t.1 ++ rest))) (whole_day x)) (date_whole day t.1 t.3)
      ∙ ap (λ n. made n (uids_text (sent_uids relation day days)) true) len))

  module _ (uids : HaveUids days) where
    uids_over : (n : ℕ) (relation : DateRelation) (day : Day) (steps : List SearchStep) → with_uids (sent_uids relation day days) ≡ steps → key_over (key_within n) steps (uids_text (sent_uids relation day days))
    uids_over n relation day steps e = uids_by (sent_uids relation day days) (related_uids (λ sent. is_related relation sent.day day) days uids) e
      where
        uids_by : (us : List ℕ) → AreUids us → with_uids us ≡ steps → key_over (key_within n) steps (uids_text us)
        uids_by [] u e = none_over n steps e
        uids_by (u ∷ us) h e = inl (tests.Uids (map only_uid (u ∷ us)), (codes "UID", 32 ∷ separated_by 44 (map decimal (u ∷ us)), refl, (32 ∷ [], separated_by 44 (map decimal (u ∷ us)), refl, uids_set u us h, refl), refl), e)

    front_read : (n : ℕ) (steps : List SearchStep) (text rest : List ℕ) → front_key days steps text → IsWordEnd rest → IsReadAs (key_over (key_within n)) steps text rest
    front_read n steps text rest h s = elim h [
      | inl o ↦ (codes "ALL", false, old_read text rest o.0 s, inl (tests.All, refl, o.1))
      | inr a ↦ elim a [
        | inl w ↦ elim w.0 [
          | inl new ↦ (codes "NOT ALL", false, new_read (codes "NEW") text rest (refl, refl) refl new s, none_over n steps w.1)
          | inr recent ↦ (codes "NOT ALL", false, new_read (codes "RECENT") text rest (refl, refl) refl recent s, none_over n steps w.1)
        ]
        | inr b ↦ elim b [
          | inl m ↦ let r = entry_modseq m.0 text rest m.1 s in (r.0, false, r.1, inl (tests.ModSeq m.0, r.2, m.2))
          | inr d ↦ (uids_text (sent_uids d.0 d.1 days), true, sent_read d.0 d.1 text rest d.2 s, uids_over n d.0 d.1 steps d.3)
        ]
      ]
    ]

    within_read : (n : ℕ) (steps : List SearchStep) (text rest : List ℕ) → rev1_key_within days n steps text → IsWordEnd rest → IsReadAs (key_within (suc n)) steps text rest
    unfolding rev1_key_within key_within
    within_read zero steps text rest h s = elim h [
      | inl f ↦ front_read 0 steps text rest f s
      | inr k ↦ key_read (λ steps. never) (key_within 0) (λ steps text rest i s. absurd i) steps text rest k s
    ]
    within_read (suc n) steps text rest h s = elim h [
      | inl f ↦ front_read (suc n) steps text rest f s
      | inr k ↦ key_read (rev1_key_within days n) (key_within (suc n)) (within_read n) steps text rest k s
    ]

    pub keys_taken : (steps : List SearchStep) (text : List ℕ) → rev1_keys days steps text
        → (out : List ℕ) × (asks : Bool) × (profile_keys days (codes " " ++ (text ++ codes "\r\n")) ≡ (codes " " ++ (out ++ codes "\r\n"), asks)) × search_keys steps out
    keys_taken steps text h =
        let r = list_read (rev1_key_within days 63) (key_within 64) (within_read 63) h.0 text (13 ∷ 10 ∷ []) h.1 refl in
        (r.0, r.1, line_read text r.0 r.1 r.2, (h.0, r.3, h.2))
