-- Whole frames.
use Rattle.std.proofs.Common.{◌≡◌, ◌≢◌, ◌⊎◌, ◌↔◌, ℕ, false, cond, List, [], ◌∷◌, ◌++◌, Option, Some, None, Result, Ok, Err, inl, inr, ap, sym, ◌∙◌, refl, subst}
use Rattle.std.specs.Prelude.{IfOk}
use Rattle.imap_syntax.specs.Commands.{word_of, arguments, command, IsSpelled}
use Rattle.imap_syntax.specs.Faults.{HasTag, IsTagged, NamesCommand, begins_with_class}
use Rattle.imap_syntax.specs.Languages.{◌⌢◌, sp, crlf, word}
use Rattle.imap_grammar.specs.Reading.{IsReading, after, is_nil, named, run_at, span, ◌>>=◌}
use Rattle.imap_grammar.specs.CommandReading.{AnswersTag, AnswersWord, arguments_at, ended_at, tag_at, tagged_at, word_at}
use Rattle.imap_syntax.specs.Strings.{is_in, run}
use Rattle.imap_syntax.specs.Words.{command_word, command_words}
use Rattle.imap_syntax.specs.declared.octet_class.OctetClass.TheVariants.{Tag, Atom}
use Rattle.imap_syntax.specs.declared.command.Command.{Command}
use Rattle.imap_syntax.specs.declared.command.Tagged.{Tagged}
use Rattle.imap_grammar.specs.declared.fault.ParseFault.{ParseFault}
use Rattle.imap_grammar.specs.declared.fault.ParseFault.TheVariants.{NoTag, UnknownCommand, BadSyntax, NotInProfile, NoMemory}
use Rattle.imap_syntax.specs.declared.word.CommandWord.{CommandWord}
use Rattle.imap_grammar.proofs.CommandLaws.{arguments_sound, arguments_complete, arguments_end}
use Rattle.imap_grammar.proofs.ReaderLaws.{IsArgEnd, HasPrefix, IsWordEnd, joined, parts_around, whole_from, whole_to, bind_some, some_is, after_sound, after_complete}
use Rattle.imap_grammar.proofs.Spans.{span_parts, span_all, span_complete, span_stops, run_sound, run_complete, ends_stop}
use Rattle.imap_grammar.proofs.WordLaws.{named_sound, command_complete, command_atoms, word_atoms}

-- the tag
tag_sound : (frame : List ℕ) (x : List ℕ × List ℕ) → tag_at frame ≡ Some x → HasPrefix (run Tag x.0 ⌢ sp) frame x.1
tag_sound frame x h =
    let a = bind_some (run_at Tag frame) _ x h in
    let b = bind_some (after (32 ∷ []) a.0.1) _ x a.2 in
    let e = some_is (a.0.0, b.0) x b.2 in
    subst (λ (y : List ℕ × List ℕ). HasPrefix (run Tag y.0 ⌢ sp) frame y.1) e
    (joined (run Tag a.0.0) sp frame a.0.1 b.0 (run_sound Tag frame a.0 a.1) (after_sound (32 ∷ []) a.0.1 b.0 b.1))

tag_complete : (frame mid rest tag : List ℕ) → HasPrefix (run Tag tag) frame mid → HasPrefix sp mid rest → tag_at frame ≡ Some (tag, rest)
tag_complete frame mid rest tag f s =
    let begins : begins_with_class Tag mid ≡ false = ap (begins_with_class Tag) (s.2 ∙ ap (λ xs. xs ++ rest) s.1) in
    ap (λ r. r >>= λ t. after (32 ∷ []) t.1 >>= λ r. Some (t.0, r)) (run_complete Tag frame mid tag f begins)
    ∙ ap (λ r. r >>= λ r. Some (tag, r)) (after_complete (32 ∷ []) mid rest s)

-- the end of the line
end_sound : (octets rest : List ℕ) (c d : Command) → after (13 ∷ 10 ∷ []) octets ≡ Some rest → cond (is_nil rest) (Some c) None ≡ Some d → (c ≡ d) × HasPrefix crlf octets []
end_sound octets [] c d h e = (some_is c d e, after_sound (13 ∷ 10 ∷ []) octets [] h)
end_sound octets (b ∷ bs) c d h e = cc

pub ended_sound : (w : CommandWord) (octets : List ℕ) (c : Command) → ended_at w octets ≡ Some c → (word_of c ≡ w) × HasPrefix (arguments c ⌢ crlf) octets []
ended_sound w octets c h =
    let a = bind_some (arguments_at w octets) _ c h in
    let b = bind_some (after (13 ∷ 10 ∷ []) a.0.1) _ c a.2 in
    let f = arguments_sound w octets a.0 a.1 in
    let e = end_sound a.0.1 b.0 a.0.0 c b.1 b.2 in
    subst (λ d. (word_of d ≡ w) × HasPrefix (arguments d ⌢ crlf) octets []) e.0 (f.0, joined (arguments a.0.0) crlf octets a.0.1 [] f.1 e.1)

pub ended_complete : (c : Command) (octets mid : List ℕ) → HasPrefix (arguments c) octets mid → HasPrefix crlf mid [] → ended_at (word_of c) octets ≡ Some c
ended_complete c octets mid f e =
    let is : mid ≡ 13 ∷ 10 ∷ [] = e.2 ∙ ap (λ xs. xs ++ []) e.1 in
    let s : IsArgEnd mid = subst IsArgEnd (sym is) refl in
    ap (λ r. r >>= λ this. after (13 ∷ 10 ∷ []) this.1 >>= λ rest. cond (is_nil rest) (Some this.0) None) (arguments_complete c octets mid f s)
    ∙ ap (λ r. r >>= λ rest. cond (is_nil rest) (Some c) None) (after_complete (13 ∷ 10 ∷ []) mid [] e)

-- the word
word_front : (octets : List ℕ) (w : CommandWord) → word_at octets ≡ Some w → HasPrefix (word (command_word w)) octets (span (is_in Atom) octets).1
word_front octets w h = ((span (is_in Atom) octets).0, named_sound command_word command_words (span (is_in Atom) octets).0 w h, span_parts (is_in Atom) octets)

word_span : (octets rest : List ℕ) (w : CommandWord) (f : HasPrefix (word (command_word w)) octets rest) → begins_with_class Atom rest ≡ false → span (is_in Atom) octets ≡ (f.0, rest)
word_span octets rest w f s = ap (span (is_in Atom)) f.2 ∙ span_complete Atom f.0 rest (word_atoms (command_word w) f.0 (command_atoms w) f.1) s

-- a command that is read is one that the frame spells
pub spelled_by : (frame : List ℕ) (tag : List ℕ × List ℕ) (w : CommandWord) (t : Tagged) → tag_at frame ≡ Some tag → word_at tag.1 ≡ Some w → tagged_at tag.0 w (span (is_in Atom) tag.1).1 ≡ Some t → IsSpelled t frame
spelled_by frame tag w t h i j =
    let a = bind_some (ended_at w (span (is_in Atom) tag.1).1) _ t j in
    let c : Command = a.0 in
    let rest : List ℕ = (span (is_in Atom) tag.1).1 in
    let e = some_is (record { tag = tag.0; command = c }) t a.2 in
    let g = ended_sound w rest c a.1 in
    let token : HasPrefix (word (command_word (word_of c))) tag.1 rest = subst (λ (v : CommandWord). HasPrefix (word (command_word v)) tag.1 rest) (sym g.0) (word_front tag.1 w i) in
    let p = parts_around (arguments c) crlf rest [] g.1 in
    let first = parts_around (run Tag tag.0) sp frame tag.1 (tag_sound frame tag h) in
    subst (λ (u : Tagged). IsSpelled u frame) e
    (whole_from (run Tag tag.0 ⌢ sp ⌢ command c ⌢ crlf) frame
    (joined (run Tag tag.0) _ frame first.0 [] first.1
    (joined sp _ first.0 tag.1 [] first.2
    (joined (command c) crlf tag.1 p.0 [] (joined (word (command_word (word_of c))) (arguments c) tag.1 rest p.0 token p.1) p.2))))

pub record IsRead (frame : List ℕ) (t : Tagged) : Type 0 where
  pub rest : List ℕ
  pub tag : tag_at frame ≡ Some (t.tag, rest)
  pub word : word_at rest ≡ Some (word_of t.command)
  pub all : tagged_at t.tag (word_of t.command) (span (is_in Atom) rest).1 ≡ Some t

-- a command that the frame spells is read
pub read_complete : (frame : List ℕ) (t : Tagged) → IsSpelled t frame → IsRead frame t
read_complete frame t h =
    let c : Command = t.command in
    let w : CommandWord = word_of c in
    let f = whole_to (IsSpelled t) frame h in
    let p = parts_around (run Tag t.tag) _ frame [] f in
    let q = parts_around sp _ p.0 [] p.2 in
    let r = parts_around (command c) crlf q.0 [] q.2 in
    let s = parts_around (word (command_word w)) (arguments c) q.0 r.0 r.1 in
    let line : r.0 ≡ 13 ∷ 10 ∷ [] = r.2.2 ∙ ap (λ xs. xs ++ []) r.2.1 in
    let stop : IsWordEnd s.0 = arguments_end c s.0 r.0 s.2 (subst IsArgEnd (sym line) refl) in
    let cut : span (is_in Atom) q.0 ≡ (s.1.0, s.0) = word_span q.0 s.0 w s.1 (ends_stop Atom s.0 stop) in
    record {
      rest = q.0;
      tag = tag_complete frame p.0 q.0 t.tag p.1 q.1;
      word = ap (λ (y : List ℕ × List ℕ). named command_word command_words y.0) cut ∙ command_complete s.1.0 w s.1.1;
      all = ap (λ (y : List ℕ × List ℕ). tagged_at t.tag w y.1) cut ∙ ap (λ r. r >>= λ this. Some (record { tag = t.tag; command = this })) (ended_complete c s.0 r.0 s.2 r.2);
    }

-- the command that a frame spells, if any
reading_at : List ℕ → Option Tagged
reading_at frame = tag_at frame >>= λ tag. word_at tag.1 >>= λ w. tagged_at tag.0 w (span (is_in Atom) tag.1).1

reading_is : (frame : List ℕ) (t : Tagged) → IsRead frame t → reading_at frame ≡ Some t
unfolding reading_at
reading_is frame t r =
    ap (λ o. o >>= λ tag. word_at tag.1 >>= λ w. tagged_at tag.0 w (span (is_in Atom) tag.1).1) r.tag
    ∙ ap (λ o. o >>= λ w. tagged_at t.tag w (span (is_in Atom) r.rest).1) r.word
    ∙ r.all

pub one_reading : (this that : Tagged) (frame : List ℕ) → IsSpelled this frame → IsSpelled that frame → this ≡ that
one_reading this that frame h i = some_is this that (sym (reading_is frame this (read_complete frame this h)) ∙ reading_is frame that (read_complete frame that i))

-- the answers of parse
word_spelled : (r : Result Tagged ParseFault) (frame : List ℕ) (tag : List ℕ × List ℕ) (o : Option CommandWord) → tag_at frame ≡ Some tag → word_at tag.1 ≡ o → AnswersWord r tag.0 o (span (is_in Atom) tag.1).1 → IfOk r (λ t. IsSpelled t frame)
word_spelled (Err e) frame tag o h i a = tt
word_spelled (Ok t) frame tag None h i a = cc
word_spelled (Ok t) frame tag (Some w) h i a = spelled_by frame tag w t h i a

tag_spelled : (r : Result Tagged ParseFault) (frame : List ℕ) (o : Option (List ℕ × List ℕ)) → tag_at frame ≡ o → AnswersTag r o → IfOk r (λ t. IsSpelled t frame)
tag_spelled (Err e) frame o h a = tt
tag_spelled (Ok t) frame None h a = cc
tag_spelled (Ok t) frame (Some tag) h a = word_spelled (Ok t) frame tag (word_at tag.1) h refl a

pub parse_spelled : (r : Result Tagged ParseFault) (frame : List ℕ) → AnswersTag r (tag_at frame) → IfOk r (λ t. IsSpelled t frame)
parse_spelled r frame a = tag_spelled r frame (tag_at frame) refl a

gives_one : (r : Result Tagged ParseFault) (t : Tagged) → IsReading (λ x. x) r (Some t) → (r ≡ Ok t) ⊎ (r ≡ Err NoMemory)
gives_one (Ok x) t h = inl (ap Ok (sym (some_is t x h)))
gives_one (Err NoMemory) t h = inr refl
gives_one (Err BadSyntax) t h = cc
gives_one (Err NotInProfile) t h = cc
gives_one (Err NoTag) t h = absurd h
gives_one (Err UnknownCommand) t h = absurd h

pub parse_only : (r : Result Tagged ParseFault) (frame : List ℕ) → AnswersTag r (tag_at frame) → (t : Tagged) → IsSpelled t frame → (r ≡ Ok t) ⊎ (r ≡ Err NoMemory)
parse_only r frame a t h =
    let d = read_complete frame t h in
    let b : AnswersWord r t.tag (word_at d.rest) (span (is_in Atom) d.rest).1 = subst (AnswersTag r) d.tag a in
    let e : IsReading (λ x. x) r (tagged_at t.tag (word_of t.command) (span (is_in Atom) d.rest).1) = subst (λ o. AnswersWord r t.tag o (span (is_in Atom) d.rest).1) d.word b in
    gives_one r t (subst (IsReading (λ x. x) r) d.all e)

pub has_tag : (frame : List ℕ) (x : List ℕ × List ℕ) → tag_at frame ≡ Some x → IsTagged frame x.0 x.1
has_tag frame x h =
    let p = parts_around (run Tag x.0) sp frame x.1 (tag_sound frame x h) in
    let e : p.1.0 ≡ x.0 = p.1.1.2 in
    ((p.1.1.0, p.1.1.1, refl), p.1.2 ∙ ap (λ xs. xs ++ p.0) e ∙ ap (λ xs. x.0 ++ xs) (p.2.2 ∙ ap (λ xs. xs ++ x.1) p.2.1))

pub tag_read : (frame tag rest : List ℕ) → IsTagged frame tag rest → tag_at frame ≡ Some (tag, rest)
tag_read frame tag rest h = tag_complete frame (32 ∷ rest) rest tag (tag, h.0, h.1) (32 ∷ [], refl, refl)

names_read : (frame : List ℕ) → (n : NamesCommand frame) → (tag_at frame ≡ Some (n.0, n.1 ++ n.2)) × (word_at (n.1 ++ n.2) ≡ Some n.3)
names_read frame n = (
  tag_read frame n.0 (n.1 ++ n.2) n.4,
  ap (λ (y : List ℕ × List ℕ). named command_word command_words y.0) (span_complete Atom n.1 n.2 n.5 n.6) ∙ command_complete n.1 n.3 n.7,
)

names_from : (frame : List ℕ) (tag : List ℕ × List ℕ) (w : CommandWord) → tag_at frame ≡ Some tag → word_at tag.1 ≡ Some w → NamesCommand frame
names_from frame tag w h i =
    let cut = span (is_in Atom) tag.1 in
    let t = has_tag frame tag h in
    (tag.0, cut.0, cut.1, w, (t.0, t.1 ∙ ap (λ xs. tag.0 ++ 32 ∷ xs) (span_parts (is_in Atom) tag.1)), span_all (is_in Atom) tag.1, span_stops Atom tag.1, named_sound command_word command_words cut.0 w i)

no_tag_word : (r : Result Tagged ParseFault) (tag rest : List ℕ) (o : Option CommandWord) → AnswersWord r tag o rest → r ≢ Err NoTag
no_tag_word r tag rest None a = λ e. cc
no_tag_word r tag rest (Some w) a = λ e. subst (λ q. IsReading (λ x. x) q (tagged_at tag w rest)) e a

no_tag_by : (r : Result Tagged ParseFault) (frame : List ℕ) (o : Option (List ℕ × List ℕ)) → tag_at frame ≡ o → AnswersTag r o → (r ≡ Err NoTag) ↔ (HasTag frame → ⊥)
no_tag_by r frame None h a = (λ e has. let k = tag_read frame has.0 has.1 has.2 in cc, λ n. a)
no_tag_by r frame (Some tag) h a = (λ e. absurd (no_tag_word r tag.0 (span (is_in Atom) tag.1).1 (word_at tag.1) a e), λ n. absurd (n (tag.0, tag.1, has_tag frame tag h)))

pub parse_no_tag : (r : Result Tagged ParseFault) (frame : List ℕ) → AnswersTag r (tag_at frame) → (r ≡ Err NoTag) ↔ (HasTag frame → ⊥)
parse_no_tag r frame a = no_tag_by r frame (tag_at frame) refl a

unknown_word : (r : Result Tagged ParseFault) (frame : List ℕ) (tag : List ℕ × List ℕ) (o : Option CommandWord) → tag_at frame ≡ Some tag → word_at tag.1 ≡ o → AnswersWord r tag.0 o (span (is_in Atom) tag.1).1
    → (r ≡ Err UnknownCommand) ↔ (HasTag frame × (NamesCommand frame → ⊥))
unknown_word r frame tag None h i a = (
  λ e. (
    (tag.0, tag.1, has_tag frame tag h),
    λ n.
        let k = names_read frame n in
        let t : tag ≡ (n.0, n.1 ++ n.2) = some_is tag (n.0, n.1 ++ n.2) (sym h ∙ k.0) in
        let w : word_at tag.1 ≡ Some n.3 = ap (λ (y : List ℕ × List ℕ). word_at y.1) t ∙ k.1 in
        cc,
  ),
  λ n. a,
)
unknown_word r frame tag (Some w) h i a = (
  λ e. absurd (subst (λ q. IsReading (λ x. x) q (tagged_at tag.0 w (span (is_in Atom) tag.1).1)) e a),
  λ n. absurd (n.1 (names_from frame tag w h i)),
)

unknown_by : (r : Result Tagged ParseFault) (frame : List ℕ) (o : Option (List ℕ × List ℕ)) → tag_at frame ≡ o → AnswersTag r o → (r ≡ Err UnknownCommand) ↔ (HasTag frame × (NamesCommand frame → ⊥))
unknown_by r frame None h a = (λ e. cc, λ n. let has = n.0 in let k = tag_read frame has.0 has.1 has.2 in cc)
unknown_by r frame (Some tag) h a = unknown_word r frame tag (word_at tag.1) h refl a

pub parse_unknown : (r : Result Tagged ParseFault) (frame : List ℕ) → AnswersTag r (tag_at frame) → (r ≡ Err UnknownCommand) ↔ (HasTag frame × (NamesCommand frame → ⊥))
parse_unknown r frame a = unknown_by r frame (tag_at frame) refl a

pub no_tag : (frame : List ℕ) → tag_at frame ≡ None → HasTag frame → ⊥
no_tag frame h has = let k = tag_read frame has.0 has.1 has.2 in cc
