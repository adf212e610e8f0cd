use Rattle.std.proofs.Common.{◌≡◌, ℕ, ◌^◌, ◌<◌, ◌≤◌, true, not, eqb, eqb-true, eq-eqb, List, ◌∷◌, ◌++◌, length, Option, Some, sym, refl, ap, ◌∙◌, subst, arith}
use Rattle.std.proofs.lemmas.Bool.{and_parts, and_from}
use Rattle.std.proofs.lemmas.List.Folds.{list_all-append}
use Rattle.std.specs.Fmt.{decimal}
use Rattle.text_fields.specs.FieldReading.{cut_at, number_at, positive}
use Rattle.text_fields.proofs.FieldLemmas.{bind_some, bound, cut_complete, cut_sound, decimal_lacks, number_complete, number_sound, positive_complete, positive_sound, some_of}
use Rattle.link_wire.specs.declared.header.Header.{Header}
use Rattle.link_wire.specs.declared.limits.Limits.{Limits}
use Rattle.link_wire.specs.Digests.{has_no_lf}
use Rattle.link_wire.specs.Frames.{IsHeader, header_line}
use Rattle.link_wire.specs.Framing.{header_at, tag_at}

-- ---- text without LF

pub no_lf_both : (xs ys : List ℕ) → has_no_lf xs ≡ true → has_no_lf ys ≡ true → has_no_lf (xs ++ ys) ≡ true
no_lf_both xs ys h k = list_all-append (λ octet. not (eqb octet 10)) xs ys ∙ and_from _ _ h k

pub no_lf_parts : (xs ys : List ℕ) → has_no_lf (xs ++ ys) ≡ true → (has_no_lf xs ≡ true) × (has_no_lf ys ≡ true)
no_lf_parts xs ys h = and_parts (has_no_lf xs) (has_no_lf ys) (sym (list_all-append (λ octet. not (eqb octet 10)) xs ys) ∙ h)

-- ---- headers

tag_sound : (text tag : List ℕ) → tag_at text ≡ Some tag → (length tag ≡ 32) × (text ≡ tag)
tag_sound text tag h =
    let s = some_of (eqb (length text) 32) text tag h in
    let e : length text ≡ 32 = eqb-true (length text) 32 s.0 in
    (sym (ap length s.1) ∙ e, s.1)

tag_complete : (tag : List ℕ) → length tag ≡ 32 → tag_at tag ≡ Some tag
tag_complete tag h = rw (eq-eqb (length tag) 32 h) refl

pub header_sound : (limits : Limits) (line : List ℕ) (h : Header) → limits.payload < 2 ^ 64 → header_at limits line ≡ Some h → (0 < h.announced) × (h.announced ≤ limits.payload) × (length h.tag ≡ 32) × (line ≡ header_line h.announced h.tag)
unfolding header_at
header_sound limits line h l e =
    let parts = bind_some (cut_at 32 line) _ h e in
    let number = bind_some (number_at limits.payload parts.0.0) _ h parts.2 in
    let announced = bind_some (positive number.0) _ h number.2 in
    let tag = bind_some (tag_at parts.0.1) _ h announced.2 in
    let k : ◌≡◌ {A = Option Header} (Some (record { announced = announced.0; tag = tag.0 })) (Some h) = tag.2 in
    let same : ◌≡◌ {A = Header} (record { announced = announced.0; tag = tag.0 }) h = cc in
    let n = number_sound limits.payload number.0 parts.0.0 l number.1 in
    let p = positive_sound number.0 announced.0 announced.1 in
    let t = tag_sound parts.0.1 tag.0 tag.1 in
    let whole : line ≡ header_line announced.0 tag.0 =
    cut_sound 32 line parts.0 parts.1
    ∙ ap (λ (front : List ℕ). front ++ 32 ∷ parts.0.1) (n.1 ∙ ap decimal p.1)
    ∙ ap (λ (back : List ℕ). decimal announced.0 ++ 32 ∷ back) t.1
    in
    subst (λ (h : Header). (0 < h.announced) × (h.announced ≤ limits.payload) × (length h.tag ≡ 32) × (line ≡ header_line h.announced h.tag)) same
    (subst (λ (a : ℕ). 0 < a) p.1 p.0, subst (λ (a : ℕ). a ≤ limits.payload) p.1 n.0, t.0, whole)

pub header_complete : (limits : Limits) (announced : ℕ) (tag : List ℕ) → limits.payload < 2 ^ 64 → IsHeader limits announced tag → header_at limits (header_line announced tag) ≡ Some (record { announced = announced; tag = tag })
unfolding header_at
header_complete limits announced tag l h =
    let fits = h.fits in
    let cut = cut_complete 32 (decimal announced) tag (decimal_lacks 32 announced refl (omega arith)) in
    bound (cut_at 32 (header_line announced tag)) _ (decimal announced, tag) cut
    ∙ bound (number_at limits.payload (decimal announced)) _ announced (number_complete limits.payload announced l h.fits)
    ∙ bound (positive announced) _ announced (positive_complete announced h.some)
    ∙ bound (tag_at tag) _ tag (tag_complete tag h.long)

-- A line that is read is a header, if it is no longer than one and has no LF.
pub header_line_is : (limits : Limits) (line : List ℕ) (h : Header) → limits.payload < 2 ^ 64 → header_at limits line ≡ Some h → length line ≤ limits.header → has_no_lf line ≡ true → IsHeader limits h.announced h.tag × (line ≡ header_line h.announced h.tag)
header_line_is limits line h l e within no_lf =
    let t = header_sound limits line h l e in
    let parts = no_lf_parts (decimal h.announced) (32 ∷ h.tag) (sym (ap has_no_lf t.3) ∙ no_lf) in (
      record {
        some = t.0;
        fits = t.1;
        within = subst (λ (text : List ℕ). length text ≤ limits.header) t.3 within;
        long = t.2;
        no_lf = parts.1;
      },
      t.3,
    )

-- A header has no LF before its own.
pub header_no_lf : (limits : Limits) (announced : ℕ) (tag : List ℕ) → limits.payload < 2 ^ 64 → IsHeader limits announced tag → has_no_lf (header_line announced tag) ≡ true
header_no_lf limits announced tag l h =
    let fits = h.fits in
    no_lf_both (decimal announced) (32 ∷ tag) (decimal_lacks 10 announced refl (omega arith)) h.no_lf
