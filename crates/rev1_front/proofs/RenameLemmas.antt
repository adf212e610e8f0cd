-- The mailboxes that RENAME renames.
use Rattle.std.proofs.Common.{◌≡◌, ℕ, ◌+◌, ◌<◌, Bool, true, false, cond, List, [], ◌∷◌, ◌++◌, length, take, drop, get_or, map, eqb, sym, ap, ◌∙◌, append_assoc}
use Rattle.std.specs.List.{filter}
use Rattle.std.specs.Str.{bytes_eq}
use Rattle.std.proofs.lemmas.Bool.{eq-eqb, eqb-true}
use Rattle.std.proofs.lemmas.Bool.Decides.{same_from_decides}
use Rattle.std.proofs.lemmas.List.{append_cancel_left, map-append, take-append-drop}
use Rattle.std.proofs.lemmas.List.Elements.{filter_more}
use Rattle.std.proofs.lemmas.Slice.Eq.{bytes_eq-Decides}
use Rattle.std.proofs.Math.Seq.{take-append-add}
use Rattle.imap_syntax.specs.Strings.{begins_with}
use Rattle.rev1_front.specs.Renames.{is_below, is_renamed, renamed_mailbox, renamed_mailboxes}

-- one more mailbox
pub renamed_more : (from to : List ℕ) (ms : List (List ℕ)) (i : ℕ) (name : List ℕ) (b : Bool) → i < length ms → name ≡ get_or ms i name → is_renamed from name ≡ b
    → renamed_mailboxes from to (take (i + 1) ms) ≡ renamed_mailboxes from to (take i ms) ++ map (renamed_mailbox from to) (cond b (name ∷ []) [])
renamed_more from to ms i name b l e h =
    ap (map (renamed_mailbox from to)) (filter_more (is_renamed from) ms i name l)
    ∙ map-append (renamed_mailbox from to) (filter (is_renamed from) (take i ms)) (cond (is_renamed from (get_or ms i name)) (get_or ms i name ∷ []) [])
    ∙ ap (λ n. map (renamed_mailbox from to) (filter (is_renamed from) (take i ms)) ++ map (renamed_mailbox from to) (cond (is_renamed from n) (n ∷ []) [])) (sym e)
    ∙ ap (λ c. map (renamed_mailbox from to) (filter (is_renamed from) (take i ms)) ++ map (renamed_mailbox from to) (cond c (name ∷ []) [])) h

-- a name below another
pub below_rest : (above name rest : List ℕ) → name ≡ above ++ rest → is_below above name ≡ begins_with 47 rest
below_rest above name rest e =
    ap (λ (n : List ℕ). bytes_eq (take (length above + 1) n) (above ++ 47 ∷ [])) e
    ∙ ap (λ (t : List ℕ). bytes_eq t (above ++ 47 ∷ [])) (take-append-add above rest 1) ∙ begun rest
  where
    begun : (rest : List ℕ) → bytes_eq (above ++ take 1 rest) (above ++ 47 ∷ []) ≡ begins_with 47 rest
    begun [] = same_from_decides _ _ (bytes_eq-Decides (above ++ []) (above ++ 47 ∷ [])) (λ k. cc, λ k. let z : ◌≡◌ {A = List ℕ} [] (47 ∷ []) = append_cancel_left above [] (47 ∷ []) k in cc)
    begun (b ∷ bs) = same_from_decides _ _ (bytes_eq-Decides (above ++ b ∷ []) (above ++ 47 ∷ [])) (λ k. ap (λ o. above ++ o ∷ []) (eqb-true b 47 k), λ k. octet (append_cancel_left above (b ∷ []) (47 ∷ []) k))
      where
        octet : b ∷ [] ≡ 47 ∷ [] → eqb b 47 ≡ true
        octet e = let h : b ≡ 47 = cc in eq-eqb b 47 h

pub below_none : (above name : List ℕ) → ((rest : List ℕ) → name ≡ above ++ rest → ⊥) → is_below above name ≡ false
below_none above name none = same_from_decides _ _ (bytes_eq-Decides (take (length above + 1) name) (above ++ 47 ∷ []))
    (λ k. cc, λ k. absurd (none (47 ∷ drop (length above + 1) name) (sym (take-append-drop (length above + 1) name) ∙ ap (λ t. t ++ drop (length above + 1) name) k ∙ append_assoc above (47 ∷ []) (drop (length above + 1) name))))
