-- The union of flags, as a function, is the one that the relation determines.
use Rattle.std.proofs.Common.{◌≡◌, ℕ, Bool, true, false, ◌||◌, List, [], ◌∷◌, refl, sym, ap, ◌∙◌}
use Rattle.std.proofs.lemmas.List.Folds.{list_any-append}
use Rattle.std.specs.List.{flat_map, list_any}
use Rattle.std.specs.Str.{bytes_eq}
use Rattle.imap_types.specs.Ascending.{AreAscending}
use Rattle.imap_types.specs.declared.flags.Flags.{Flags}
use Rattle.imap_types.specs.Members.{has_word}
use Rattle.imap_types.specs.Unions.{union_of, with_flags}
use Rattle.imap_types.proofs.WordLemmas.{any_folded, ascending_folded, one_ascending}
use Rattle.node_laws.specs.Unions.{IsUnion}

any_flat : (p : List ℕ → Bool) (fs : List Flags) → list_any p (flat_map (λ f. f.keywords) fs) ≡ list_any (λ f. list_any p f.keywords) fs
any_flat p [] = refl
any_flat p (f ∷ fs) = list_any-append p f.keywords (flat_map (λ (f : Flags). f.keywords) fs) ∙ ap (λ (b : Bool). list_any p f.keywords || b) (any_flat p fs)

or_none : (b : Bool) → (b || false) ≡ b
or_none true = refl
or_none false = refl

or_last : (a b : Bool) → (a || b) ≡ (a || (b || false))
or_last a b = ap (λ (c : Bool). a || c) (sym (or_none b))

pub union_is : (parts : List Flags) → IsUnion parts (union_of parts)
union_is parts = record {
  answered = refl;
  flagged = refl;
  deleted = refl;
  seen = refl;
  draft = refl;
  words = λ word. any_folded (bytes_eq word) [] (flat_map (λ (f : Flags). f.keywords) parts) ∙ any_flat (bytes_eq word) parts;
  ascending = ascending_folded [] (flat_map (λ (f : Flags). f.keywords) parts) tt;
}

pub union_only : (parts : List Flags) (union : Flags) → IsUnion parts union → union ≡ union_of parts
union_only parts union h =
    let is = union_is parts in
    let words = one_ascending union.keywords (union_of parts).keywords h.ascending is.ascending (λ z i. is.words z ∙ sym (h.words z) ∙ i) (λ z i. h.words z ∙ sym (is.words z) ∙ i) in
    λ j. record { answered = h.answered j; flagged = h.flagged j; deleted = h.deleted j; seen = h.seen j; draft = h.draft j; keywords = words j }

pub union_of_two : (flags more : Flags) → AreAscending flags.keywords → IsUnion (flags ∷ more ∷ []) (with_flags flags more)
union_of_two flags more h = record {
  answered = or_last flags.answered more.answered;
  flagged = or_last flags.flagged more.flagged;
  deleted = or_last flags.deleted more.deleted;
  seen = or_last flags.seen more.seen;
  draft = or_last flags.draft more.draft;
  words = λ word. any_folded (bytes_eq word) flags.keywords more.keywords ∙ or_last (has_word flags.keywords word) (has_word more.keywords word);
  ascending = ascending_folded flags.keywords more.keywords h;
}
