use Rattle.std.proofs.Common.{◌≡◌, ℕ, suc, ◌+◌, ◌-◌, ◌<◌, ◌≤◌, Bool, true, false, not, ◌&&◌, List, [], ◌∷◌, ◌++◌, length, take, drop, get_or, ap, sym, arith, ◌∙◌, refl, append_assoc}
use Rattle.std.proofs.Math.Seq.{take-suc}
use Rattle.std.proofs.lemmas.List.{drop_more, get_or-drop, length-drop}
use Rattle.mail_fields.specs.AddressReading.{addresses_at}
use Rattle.mail_fields.specs.AddressWords.{phrase_of}
use Rattle.mail_fields.specs.Addresses.{addresses_from, begins_group, ends_mailbox, group_end, place_after, section_addresses}
use Rattle.mail_fields.specs.HeaderValues.{is_semicolon}
use Rattle.mail_fields.specs.declared.address_list.Address.{Address}
use Rattle.mail_fields.specs.declared.address_list.Address.TheVariants.{GroupStart}
use Rattle.mail_fields.specs.declared.address_list.ListPosition.{ListPosition}
use Rattle.mail_fields.specs.declared.address_list.Place.{Place}
use Rattle.mail_fields.specs.declared.address_list.Place.TheVariants.{Words}
use Rattle.mail_fields.specs.declared.elements.Element.{Element}

-- the element at an index, before the others
next_element : (es : List Element) (index : ℕ) (e : Element) → index < length es → e ≡ get_or es index e → drop index es ≡ e ∷ drop (index + 1) es
next_element es index e l h = drop_more es index e l ∙ ap (λ x. x ∷ drop (index + 1) es) (sym h)

section_grows : (es : List Element) (start index : ℕ) (e : Element) → start ≤ index → index < length es → e ≡ get_or es index e
    → take (index + 1 - start) (drop start es) ≡ take (index - start) (drop start es) ++ e ∷ []
section_grows es start index e s l h =
    let n : index + 1 - start ≡ suc (index - start) = omega arith in
    let d = length-drop start es in
    let at : start + (index - start) ≡ index = omega arith in
    ap (λ k. take k (drop start es)) n
    ∙ take-suc (drop start es) (index - start) e (omega (arith, d))
    ∙ ap (λ x. take (index - start) (drop start es) ++ x ∷ []) (get_or-drop start es (index - start) e ∙ ap (λ k. get_or es k e) at ∙ sym h)

nothing_yet : (es : List Element) (start : ℕ) → take (start - start) (drop start es) ≡ []
nothing_yet es start = let n : start - start ≡ 0 = omega arith in ap (λ k. take k (drop start es)) n

at_start : (es : List Element) (p : ListPosition) (start : ℕ) (g : Bool) → p.start ≡ start → p.in_group ≡ g → p.place ≡ Words → addresses_at p start es ≡ addresses_from g Words [] (drop start es)
at_start es p start g s i w =
    (λ k. addresses_from (i k) (w k) (take (start - s k) (drop (s k) es)) (drop start es)) ∙ ap (λ xs. addresses_from g Words xs (drop start es)) (nothing_yet es start)

-- a group begins
pub group_begins : (es : List Element) (p q : ListPosition) (index : ℕ) (e : Element) (section : List Element) (old new : List Address) (name : List ℕ) → index < length es → e ≡ get_or es index e
    → section ≡ take (index - p.start) (drop p.start es) → begins_group p.in_group p.place e ≡ true → name ≡ phrase_of section → new ≡ old ++ GroupStart name ∷ []
    → q.start ≡ index + 1 → q.in_group ≡ true → q.place ≡ Words → new ++ addresses_at q (index + 1) es ≡ old ++ addresses_at p index es
group_begins es p q index e section old new name l h s b n w qs qi qp =
    let here : addresses_at p index es ≡ GroupStart name ∷ addresses_from true Words [] (drop (index + 1) es) =
    (λ k. addresses_from p.in_group p.place (sym s k) (next_element es index e l h k)) ∙ rw b (ap (λ x. GroupStart x ∷ addresses_from true Words [] (drop (index + 1) es)) (sym n)) in
    (λ k. w k ++ at_start es q (index + 1) true qs qi qp k)
    ∙ append_assoc old (GroupStart name ∷ []) (addresses_from true Words [] (drop (index + 1) es))
    ∙ ap (λ xs. old ++ xs) (sym here)

-- a mailbox ends
pub mailbox_ends : (es : List Element) (p q : ListPosition) (index : ℕ) (e : Element) (section : List Element) (old mid new : List Address) → index < length es → e ≡ get_or es index e
    → section ≡ take (index - p.start) (drop p.start es) → begins_group p.in_group p.place e ≡ false → ends_mailbox p.place e ≡ true
    → mid ≡ old ++ section_addresses section → new ≡ mid ++ group_end (p.in_group && is_semicolon e)
    → q.start ≡ index + 1 → q.in_group ≡ (p.in_group && not (is_semicolon e)) → q.place ≡ Words → new ++ addresses_at q (index + 1) es ≡ old ++ addresses_at p index es
mailbox_ends es p q index e section old mid new l h s b m f g qs qi qp =
    let rest : List Address = addresses_from (p.in_group && not (is_semicolon e)) Words [] (drop (index + 1) es) in
    let here : addresses_at p index es ≡ section_addresses section ++ (group_end (p.in_group && is_semicolon e) ++ rest) =
    (λ k. addresses_from p.in_group p.place (sym s k) (next_element es index e l h k)) ∙ rw (b, m) refl in
    (λ k. g k ++ at_start es q (index + 1) (p.in_group && not (is_semicolon e)) qs qi qp k)
    ∙ append_assoc mid (group_end (p.in_group && is_semicolon e)) rest
    ∙ ap (λ xs. xs ++ (group_end (p.in_group && is_semicolon e) ++ rest)) f
    ∙ append_assoc old (section_addresses section) (group_end (p.in_group && is_semicolon e) ++ rest)
    ∙ ap (λ xs. old ++ xs) (sym here)

-- a section goes on
pub section_goes_on : (es : List Element) (p : ListPosition) (index : ℕ) (e : Element) (place : Place) (old : List Address) → index < length es → p.start ≤ index → e ≡ get_or es index e
    → begins_group p.in_group p.place e ≡ false → ends_mailbox p.place e ≡ false → place ≡ place_after p.place e
    → old ++ addresses_at (record { in_group = p.in_group; place = place; start = p.start }) (index + 1) es ≡ old ++ addresses_at p index es
section_goes_on es p index e place old l t h b m w =
    let here : addresses_at p index es ≡ addresses_from p.in_group (place_after p.place e) (take (index - p.start) (drop p.start es) ++ e ∷ []) (drop (index + 1) es) =
    ap (addresses_from p.in_group p.place (take (index - p.start) (drop p.start es))) (next_element es index e l h) ∙ rw (b, m) refl in
    ap (λ xs. old ++ xs) ((λ k. addresses_from p.in_group (w k) (section_grows es p.start index e t l h k) (drop (index + 1) es)) ∙ sym here)
