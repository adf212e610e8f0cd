-- The tag and the word of a frame, and what the faults of the grammar say.
use Rattle.std.proofs.Common.{◌≡◌, ◌↔◌, ◌⊎◌, inl, inr, ℕ, List, ◌∷◌, ◌++◌, Option, Some, None, Result, Ok, Err, refl, sym, ap, ◌∙◌}
use Rattle.imap_syntax.specs.Commands.{IsSpelled, word_of}
use Rattle.imap_syntax.specs.Faults.{HasTag, NamesCommand}
use Rattle.imap_syntax.specs.Languages.{word}
use Rattle.imap_syntax.specs.Strings.{is_in, run}
use Rattle.imap_syntax.specs.Words.{command_word, command_words}
use Rattle.imap_syntax.specs.declared.command.Tagged.{Tagged}
use Rattle.imap_syntax.specs.declared.octet_class.OctetClass.TheVariants.{Tag, Atom}
use Rattle.imap_syntax.specs.declared.word.CommandWord.{CommandWord}
use Rattle.imap_grammar.specs.CommandReading.{tag_at, word_at}
use Rattle.imap_grammar.specs.Reading.{named, span}
use Rattle.imap_grammar.specs.declared.fault.ParseFault.{ParseFault}
use Rattle.imap_grammar.specs.declared.fault.ParseFault.TheVariants as faults
use Rattle.imap_grammar.proofs.FrameLaws.{has_tag, no_tag, read_complete, tag_read}
use Rattle.imap_grammar.proofs.ReaderLaws.{some_is}
use Rattle.imap_grammar.proofs.Spans.{span_all, span_complete, span_parts, span_stops}
use Rattle.imap_grammar.proofs.WordLaws.{command_complete, named_complete, named_sound}
use Rattle.rev1_front.specs.ClientFrames.{IsFaultOf, IsWorded}
use Rattle.rev1_front.specs.FrameForms.{front_word_text, front_words, reworded}
use Rattle.rev1_front.specs.declared.frame_parts.FrontWord.{FrontWord}
use Rattle.rev1_front.specs.declared.frame_parts.FrontWord.TheVariants as words

-- a frame that names a command
pub names_from : (frame : List ℕ) (tag : List ℕ × List ℕ) (w : CommandWord) → tag_at frame ≡ Some tag → word_at tag.1 ≡ Some w → NamesCommand frame
names_from frame tag w h i =
    let cut = span (is_in Atom) tag.1 in
    let t = has_tag frame tag h in
    (tag.0, cut.0, cut.1, w, (t.0, t.1 ∙ ap (λ xs. tag.0 ++ 32 ∷ xs) (span_parts (is_in Atom) tag.1)), span_all (is_in Atom) tag.1, span_stops Atom tag.1, named_sound command_word command_words cut.0 w i)

pub names_read : (frame : List ℕ) (tag : List ℕ × List ℕ) → tag_at frame ≡ Some tag → (n : NamesCommand frame) → word_at tag.1 ≡ Some n.3
names_read frame tag h n =
    let t : tag ≡ (n.0, n.1 ++ n.2) = some_is tag (n.0, n.1 ++ n.2) (sym h ∙ tag_read frame n.0 (n.1 ++ n.2) n.4) in
    ap (λ (y : List ℕ × List ℕ). word_at y.1) t
    ∙ ap (λ (y : List ℕ × List ℕ). named command_word command_words y.0) (span_complete Atom n.1 n.2 n.5 n.6) ∙ command_complete n.1 n.3 n.7

-- a frame that spells a command names it
pub names_spelled : (frame : List ℕ) (tagged : Tagged) → IsSpelled tagged frame → NamesCommand frame
names_spelled frame tagged s =
    let r = read_complete frame tagged s in
    names_from frame (tagged.tag, r.rest) (word_of tagged.command) r.tag r.word

pub tag_spelled : (frame : List ℕ) (tagged : Tagged) → IsSpelled tagged frame → HasTag frame
tag_spelled frame tagged s =
    let r = read_complete frame tagged s in
    (tagged.tag, r.rest, has_tag frame (tagged.tag, r.rest) r.tag)

-- a frame has no tag, or a tag and no command, or both
abbrev pub Classes : List ℕ → Type 0
Classes frame = (HasTag frame → ⊥) ⊎ ((HasTag frame × (NamesCommand frame → ⊥)) ⊎ NamesCommand frame)

word_classes : (frame : List ℕ) (tag : List ℕ × List ℕ) (o : Option CommandWord) → tag_at frame ≡ Some tag → word_at tag.1 ≡ o → Classes frame
word_classes frame tag None h e = inr (inl ((tag.0, tag.1, has_tag frame tag h), λ n. let k : word_at tag.1 ≡ Some n.3 = names_read frame tag h n in cc))
word_classes frame tag (Some w) h e = inr (inr (names_from frame tag w h e))

tag_classes : (frame : List ℕ) (o : Option (List ℕ × List ℕ)) → tag_at frame ≡ o → Classes frame
tag_classes frame None h = inl (no_tag frame h)
tag_classes frame (Some tag) h = word_classes frame tag (word_at tag.1) h refl

pub classes : (frame : List ℕ) → Classes frame
classes frame = tag_classes frame (tag_at frame) refl

-- the answers of parse, as far as faults go
module _ (frame : List ℕ) (r : Result Tagged ParseFault)
    (only : (tagged : Tagged) → IsSpelled tagged frame → (r ≡ Ok tagged) ⊎ (r ≡ Err faults.NoMemory))
    (none : (r ≡ Err faults.NoTag) ↔ (HasTag frame → ⊥))
    (unknown : (r ≡ Err faults.UnknownCommand) ↔ (HasTag frame × (NamesCommand frame → ⊥))) where
  pub not_spelled : (e : ParseFault) → r ≡ Err e → (e ≡ faults.NoMemory → ⊥) → (tagged : Tagged) → IsSpelled tagged frame → ⊥
  not_spelled e h other tagged s = elim (only tagged s) [
    | inl k ↦ cc
    | inr k ↦ other (let same : ◌≡◌ {A = Result Tagged ParseFault} (Err e) (Err faults.NoMemory) = sym h ∙ k in cc)
  ]

  names_by : (e : ParseFault) → r ≡ Err e → (e ≡ faults.NoTag → ⊥) → (e ≡ faults.UnknownCommand → ⊥) → NamesCommand frame
  names_by e h no_tag no_word = elim (classes frame) [
    | inl k ↦ absurd (no_tag (let same : ◌≡◌ {A = Result Tagged ParseFault} (Err e) (Err faults.NoTag) = sym h ∙ none.1 k in cc))
    | inr k ↦ elim k [
      | inl u ↦ absurd (no_word (let same : ◌≡◌ {A = Result Tagged ParseFault} (Err e) (Err faults.UnknownCommand) = sym h ∙ unknown.1 u in cc))
      | inr n ↦ n
    ]
  ]

  pub fault_of : (e : ParseFault) → r ≡ Err e → IsFaultOf frame e
  fault_of faults.NoTag h = none.0 h
  fault_of faults.UnknownCommand h = unknown.0 h
  fault_of faults.BadSyntax h = (names_by faults.BadSyntax h (λ k. cc) (λ k. cc), not_spelled faults.BadSyntax h (λ k. cc))
  fault_of faults.NotInProfile h = (names_by faults.NotInProfile h (λ k. cc) (λ k. cc), not_spelled faults.NotInProfile h (λ k. cc))
  fault_of faults.NoMemory h = names_by faults.NoMemory h (λ k. cc) (λ k. cc)

-- a frame with a fault spells no command, unless memory ran out
pub unspelled : (frame : List ℕ) (e : ParseFault) → IsFaultOf frame e → (e ≡ faults.NoMemory → ⊥) → (tagged : Tagged) → IsSpelled tagged frame → ⊥
unspelled frame faults.NoTag f other tagged s = f (tag_spelled frame tagged s)
unspelled frame faults.UnknownCommand f other tagged s = f.1 (names_spelled frame tagged s)
unspelled frame faults.BadSyntax f other tagged s = f.1 tagged s
unspelled frame faults.NotInProfile f other tagged s = f.1 tagged s
unspelled frame faults.NoMemory f other tagged s = other refl

-- the words that the front reads
is_front_word : (w : FrontWord) → named front_word_text front_words (front_word_text w) ≡ Some w
is_front_word words.Check = refl
is_front_word words.Id = refl
is_front_word words.Authenticate = refl
is_front_word words.Lsub = refl
is_front_word words.Rename = refl
is_front_word words.Status = refl
is_front_word words.Search = refl
is_front_word words.Uid = refl

pub front_word_read : (letters : List ℕ) (w : FrontWord) → word (front_word_text w) letters → named front_word_text front_words letters ≡ Some w
front_word_read letters w h = named_complete front_word_text front_words letters w (is_front_word w) h

-- the parts of a frame with a word of the front
pub worded_tag : (frame : List ℕ) (w : FrontWord) (tag rest : List ℕ) → (h : IsWorded w frame tag rest) → tag_at frame ≡ Some (tag, h.0 ++ rest)
worded_tag frame w tag rest h = tag_read frame tag (h.0 ++ rest) h.1

pub worded_span : (frame : List ℕ) (w : FrontWord) (tag rest : List ℕ) → (h : IsWorded w frame tag rest) → span (is_in Atom) (h.0 ++ rest) ≡ (h.0, rest)
worded_span frame w tag rest h = span_complete Atom h.0 rest h.2 h.3

pub worded_from : (frame : List ℕ) (tag : List ℕ × List ℕ) (w : FrontWord) → tag_at frame ≡ Some tag → named front_word_text front_words (span (is_in Atom) tag.1).0 ≡ Some w → IsWorded w frame tag.0 (span (is_in Atom) tag.1).1
worded_from frame tag w h i =
    let cut = span (is_in Atom) tag.1 in
    let t = has_tag frame tag h in
    (cut.0, (t.0, t.1 ∙ ap (λ xs. tag.0 ++ 32 ∷ xs) (span_parts (is_in Atom) tag.1)), span_all (is_in Atom) tag.1, span_stops Atom tag.1, named_sound front_word_text front_words cut.0 w i)

module _ (frame : List ℕ) (w v : FrontWord) (tag rest tag' rest' : List ℕ) (h : IsWorded w frame tag rest) (i : IsWorded v frame tag' rest') where
  parts_same : ◌≡◌ {A = List ℕ × List ℕ} (tag, h.0 ++ rest) (tag', i.0 ++ rest')
  parts_same = some_is (tag, h.0 ++ rest) (tag', i.0 ++ rest') (sym (worded_tag frame w tag rest h) ∙ worded_tag frame v tag' rest' i)

  cut_same : ◌≡◌ {A = List ℕ × List ℕ} (h.0, rest) (i.0, rest')
  cut_same = sym (worded_span frame w tag rest h) ∙ ap (λ (y : List ℕ × List ℕ). span (is_in Atom) y.1) parts_same ∙ worded_span frame v tag' rest' i

  pub one_tag : tag ≡ tag'
  one_tag = ap (λ (y : List ℕ × List ℕ). y.0) parts_same

  pub one_rest : rest ≡ rest'
  one_rest = ap (λ (y : List ℕ × List ℕ). y.1) cut_same

  pub one_word : w ≡ v
  one_word =
      some_is w v (sym (front_word_read h.0 w h.4) ∙ ap (λ (y : List ℕ × List ℕ). named front_word_text front_words y.0) cut_same ∙ front_word_read i.0 v i.4)

-- the tag of a frame made of parts
pub reworded_tag : (tag letters rest : List ℕ) (tagged : Tagged) → run Tag tag tag → IsSpelled tagged (reworded tag letters rest) → tagged.tag ≡ tag
reworded_tag tag letters rest tagged is s =
    let r = read_complete (reworded tag letters rest) tagged s in
    let t : tag_at (reworded tag letters rest) ≡ Some (tag, letters ++ rest) = tag_read (reworded tag letters rest) tag (letters ++ rest) (is, refl) in
    ap (λ (y : List ℕ × List ℕ). y.0) (some_is (tagged.tag, r.rest) (tag, letters ++ rest) (sym r.tag ∙ t))
