-- Items, read one after another.
use Rattle.std.proofs.Common.{◌≡◌, ℕ, ◌+◌, ◌-◌, ◌<◌, ◌≤◌, suc, Bool, true, false, cond, ◌&&◌, ◌||◌, List, [], ◌∷◌, ◌++◌, length, take, drop, get_or, refl, sym, ap, ◌∙◌, subst, append_assoc, append-nil, arith, add-one, drop-cons, length-drop}
use Rattle.std.specs.Prelude.{◌==◌}
use Rattle.std.specs.List.{onto_first}
use Rattle.std.proofs.lemmas.List.{get_or-drop, nil_from_length, take_all}
use Rattle.std.proofs.Math.Seq.{take-suc}
use Rattle.rev1_fetch.specs.ItemPlaces.{is_outside, items_from, items_of, place_after}
use Rattle.rev1_fetch.specs.ReadItems.{AreAsked, AreUnread, Asked, IsAsked, IsUnread, asked_both, asked_nothing}
use Rattle.rev1_fetch.specs.declared.item_fault.ItemFault.{ItemFault}
use Rattle.rev1_fetch.specs.declared.item_places.Place.{Place}
use Rattle.rev1_fetch.specs.declared.item_places.Place.TheVariants.{Outside}

or_false : (b : Bool) → (b || false) ≡ b
or_false true = refl
or_false false = refl

or_assoc : (a b c : Bool) → ((a || b) || c) ≡ (a || (b || c))
or_assoc true b c = refl
or_assoc false b c = refl

both_nothing : (a : Asked) → asked_both a asked_nothing ≡ a
both_nothing a = λ i. record { plain = append-nil a.plain i; items = append-nil a.items i; sets_seen = or_false a.sets_seen i }

both_assoc : (a b c : Asked) → asked_both (asked_both a b) c ≡ asked_both a (asked_both b c)
both_assoc a b c = λ i. record {
  plain = append_assoc a.plain b.plain c.plain i;
  items = append_assoc a.items b.items c.items i;
  sets_seen = or_assoc a.sets_seen b.sets_seen c.sets_seen i;
}

-- one more item
pub asked_last : (front : List (List ℕ)) (item : List ℕ) (a b : Asked) → AreAsked front a → IsAsked item b → AreAsked (front ++ item ∷ []) (asked_both a b)
asked_last [] item a b h k = (b, asked_nothing, k, refl, ap (λ x. asked_both x b) h ∙ sym (both_nothing b))
asked_last (first ∷ front) item a b h k =
    (h.0, asked_both h.1 b, h.2, asked_last front item h.1 b h.3 k, ap (λ x. asked_both x b) h.4 ∙ both_assoc h.0 h.1 b)

-- octets before the first of some items
abbrev pub onto_item : List ℕ → List (List ℕ) → List (List ℕ)
onto_item octets [] = octets ∷ []
onto_item octets (item ∷ items) = (octets ++ item) ∷ items

onto_more : (octets : List ℕ) (octet : ℕ) (items : List (List ℕ)) → onto_item octets (onto_first octet items) ≡ onto_item (octets ++ octet ∷ []) items
onto_more octets octet [] = refl
onto_more octets octet (item ∷ items) = ap (λ x. x ∷ items) (sym (append_assoc octets (octet ∷ []) item))

onto_nothing : (place : Place) (text : List ℕ) → onto_item [] (items_from place text) ≡ items_from place text
onto_nothing place [] = refl
onto_nothing place (octet ∷ octets) = cases (is_outside place && (octet == 32))
  where
    first_more : (items : List (List ℕ)) → onto_item [] (onto_first octet items) ≡ onto_first octet items
    first_more [] = refl
    first_more (item ∷ items) = refl

    cases : (b : Bool) → onto_item [] (cond b ([] ∷ items_from Outside octets) (onto_first octet (items_from (place_after place octet) octets))) ≡ cond b ([] ∷ items_from Outside octets) (onto_first octet (items_from (place_after place octet) octets))
    cases true = refl
    cases false = first_more (items_from (place_after place octet) octets)

module _ (text : List ℕ) where
  -- the items up to a place
  abbrev pub ItemsUpTo : ℕ → ℕ → Place → Asked → Type 0
  ItemsUpTo start end place asked =
      (front : List (List ℕ)) × AreAsked front asked
      × (items_of text ≡ front ++ onto_item (take (end - start) (drop start text)) (items_from place (drop end text)))
      × (start ≤ end)

  pub items_begun : (asked : Asked) → asked ≡ asked_nothing → ItemsUpTo 0 0 Outside asked
  items_begun asked e = ([], e, sym (onto_nothing Outside text), omega arith)

  taken : (start end : ℕ) → start ≤ end → end < length text → take (end + 1 - start) (drop start text) ≡ take (end - start) (drop start text) ++ get_or text end 0 ∷ []
  taken start end from l =
      let room : end - start < length (drop start text) = omega (arith, length-drop start text) in
      let sum : start + (end - start) ≡ end = omega arith in
      let more : end + 1 - start ≡ suc (end - start) = omega arith in
      let at : get_or (drop start text) (end - start) 0 ≡ get_or text end 0 = get_or-drop start text (end - start) 0 ∙ ap (λ n. get_or text n 0) sum in
      ap (λ n. take n (drop start text)) more ∙ take-suc (drop start text) (end - start) 0 room ∙ ap (λ o. take (end - start) (drop start text) ++ o ∷ []) at

  dropped : (end : ℕ) → end < length text → drop end text ≡ get_or text end 0 ∷ drop (end + 1) text
  dropped end l = drop-cons text end 0 l ∙ ap (λ n. get_or text end 0 ∷ drop n text) (sym (add-one end))

  -- an octet in an item
  pub items_same : (start end : ℕ) (place : Place) (asked : Asked) → end < length text → (is_outside place && (get_or text end 0 == 32)) ≡ false → ItemsUpTo start end place asked
      → ItemsUpTo start (end + 1) (place_after place (get_or text end 0)) asked
  items_same start end place asked l other inv =
      let w : List ℕ = take (end - start) (drop start text) in
      let o : ℕ = get_or text end 0 in
      let step : items_from place (drop end text) ≡ onto_first (get_or text end 0) (items_from (place_after place (get_or text end 0)) (drop (end + 1) text)) =
      ap (items_from place) (dropped end l) ∙ ap (λ b. cond b ([] ∷ items_from Outside (drop (end + 1) text)) (onto_first (get_or text end 0) (items_from (place_after place (get_or text end 0)) (drop (end + 1) text)))) other in (
        inv.0,
        inv.1,
        inv.2 ∙ ap (λ items. inv.0 ++ onto_item (take (end - start) (drop start text)) items) step
            ∙ ap (λ items. inv.0 ++ items) (onto_more (take (end - start) (drop start text)) (get_or text end 0) (items_from (place_after place (get_or text end 0)) (drop (end + 1) text)))
            ∙ ap (λ octets. inv.0 ++ onto_item octets (items_from (place_after place (get_or text end 0)) (drop (end + 1) text))) (sym (taken start end inv.3 l)),
        omega (arith, inv.3),
      )

  -- the octet after an item
  pub items_cut : (start end : ℕ) (place : Place) (asked : Asked) → end < length text → (is_outside place && (get_or text end 0 == 32)) ≡ true → (inv : ItemsUpTo start end place asked)
      → items_of text ≡ inv.0 ++ take (end - start) (drop start text) ∷ items_from Outside (drop (end + 1) text)
  items_cut start end place asked l cut inv =
      let step : items_from place (drop end text) ≡ [] ∷ items_from Outside (drop (end + 1) text) =
      ap (items_from place) (dropped end l) ∙ ap (λ b. cond b ([] ∷ items_from Outside (drop (end + 1) text)) (onto_first (get_or text end 0) (items_from (place_after place (get_or text end 0)) (drop (end + 1) text)))) cut in
      inv.2 ∙ ap (λ items. inv.0 ++ onto_item (take (end - start) (drop start text)) items) step
      ∙ ap (λ octets. inv.0 ++ octets ∷ items_from Outside (drop (end + 1) text)) (append-nil (take (end - start) (drop start text)))

  pub items_next : (start end : ℕ) (place : Place) (w : List ℕ) (asked added after : Asked) → end < length text → (is_outside place && (get_or text end 0 == 32)) ≡ true → w ≡ take (end - start) (drop start text)
      → ItemsUpTo start end place asked → IsAsked w added → after ≡ asked_both asked added → ItemsUpTo (end + 1) (end + 1) Outside after
  items_next start end place w asked added after l cut same inv h e =
      let none : take (end + 1 - (end + 1)) (drop (end + 1) text) ≡ [] = ap (λ n. take n (drop (end + 1) text)) (zero_is end) in (
        inv.0 ++ take (end - start) (drop start text) ∷ [],
        subst (AreAsked (inv.0 ++ take (end - start) (drop start text) ∷ [])) (sym e) (asked_last inv.0 (take (end - start) (drop start text)) asked added inv.1 (subst (λ (x : List ℕ). IsAsked x added) same h)),
        items_cut start end place asked l cut inv
            ∙ ap (λ items. inv.0 ++ take (end - start) (drop start text) ∷ items) (sym (onto_nothing Outside (drop (end + 1) text)) ∙ ap (λ octets. onto_item octets (items_from Outside (drop (end + 1) text))) (sym none))
            ∙ sym (append_assoc inv.0 (take (end - start) (drop start text) ∷ []) (onto_item (take (end + 1 - (end + 1)) (drop (end + 1) text)) (items_from Outside (drop (end + 1) text)))),
        omega arith,
      )
    where
      zero_is : (n : ℕ) → n + 1 - (n + 1) ≡ 0
      zero_is n = omega arith

  pub items_fault : (start end : ℕ) (place : Place) (w : List ℕ) (asked : Asked) (fault : ItemFault) → end < length text → (is_outside place && (get_or text end 0 == 32)) ≡ true → w ≡ take (end - start) (drop start text)
      → ItemsUpTo start end place asked → IsUnread w fault → AreUnread (items_of text) fault
  items_fault start end place w asked fault l cut same inv h = (
    inv.0,
    items_from Outside (drop (end + 1) text),
    w,
    asked,
    items_cut start end place asked l cut inv ∙ ap (λ octets. inv.0 ++ octets ∷ items_from Outside (drop (end + 1) text)) (sym same),
    inv.1,
    h,
  )

  -- the last item
  items_end : (start end : ℕ) (place : Place) (asked : Asked) → end ≡ length text → (inv : ItemsUpTo start end place asked) → items_of text ≡ inv.0 ++ drop start text ∷ []
  items_end start end place asked l inv =
      let none : drop end text ≡ [] = nil_from_length (drop end text) (omega (arith, length-drop end text)) in
      let whole : take (end - start) (drop start text) ≡ drop start text = take_all (end - start) (drop start text) (omega (arith, length-drop start text)) in
      inv.2 ∙ ap (λ t. inv.0 ++ onto_item (take (end - start) (drop start text)) (items_from place t)) none
      ∙ ap (λ octets. inv.0 ++ octets ∷ []) (append-nil (take (end - start) (drop start text)) ∙ whole)

  pub items_all : (start end : ℕ) (place : Place) (w : List ℕ) (asked added after : Asked) → end ≡ length text → w ≡ drop start text → ItemsUpTo start end place asked → IsAsked w added → after ≡ asked_both asked added → AreAsked (items_of text) after
  items_all start end place w asked added after l same inv h e =
      subst (λ items. AreAsked items after) (sym (items_end start end place asked l inv))
      (subst (AreAsked (inv.0 ++ drop start text ∷ [])) (sym e) (asked_last inv.0 (drop start text) asked added inv.1 (subst (λ (x : List ℕ). IsAsked x added) same h)))

  pub last_fault : (start end : ℕ) (place : Place) (w : List ℕ) (asked : Asked) (fault : ItemFault) → end ≡ length text → w ≡ drop start text → ItemsUpTo start end place asked → IsUnread w fault → AreUnread (items_of text) fault
  last_fault start end place w asked fault l same inv h =
      (inv.0, [], w, asked, items_end start end place asked l inv ∙ ap (λ octets. inv.0 ++ octets ∷ []) (sym same), inv.1, h)
