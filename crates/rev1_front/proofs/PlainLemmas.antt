use Rattle.std.proofs.Common.{◌≡◌, ◌≢◌, inl, inr, ℕ, suc, ◌+◌, ◌<◌, List, [], ◌∷◌, ◌++◌, length, take, drop, get_or, refl, sym, ap, ◌∙◌, subst, add-one, drop-cons}
use Rattle.std.proofs.lemmas.List.{take-append-drop}
use Rattle.std.proofs.Math.Seq.{take-suc}
use Rattle.rev1_front.proofs.LsubLemmas.{in_cases}
use Rattle.imap_query.specs.Patterns.{IsIn}
use Rattle.rev1_front.specs.Plain.{IsMessage, IsPlainResponse}
use Rattle.rev1_front.specs.declared.authentication.PlainResponse.TheVariants.{Malformed}

-- a NUL between octets is one of them
pub in_middle : (xs ys : List ℕ) → IsIn 0 (xs ++ 0 ∷ ys)
in_middle [] ys = inl refl
in_middle (x ∷ xs) ys = inr (in_middle xs ys)

-- octets have one first NUL
pub one_cut : (xs ys us vs : List ℕ) → (¬ IsIn 0 xs) → (¬ IsIn 0 us) → xs ++ 0 ∷ ys ≡ us ++ 0 ∷ vs → (xs ≡ us) × (ys ≡ vs)
one_cut [] ys [] vs n m e = (refl, cc)
one_cut [] ys (u ∷ us) vs n m e = absurd (m (inl cc))
one_cut (x ∷ xs) ys [] vs n m e = absurd (n (inl cc))
one_cut (x ∷ xs) ys (u ∷ us) vs n m e =
    let head : x ≡ u = cc in
    let tails : xs ++ 0 ∷ ys ≡ us ++ 0 ∷ vs = cc in
    let rest = one_cut xs ys us vs (λ h. n (inr h)) (λ h. m (inr h)) tails in
    (ap (λ o. o ∷ xs) head ∙ ap (λ os. u ∷ os) rest.0, rest.1)

-- without a NUL there are no fields
pub no_fields : (message : List ℕ) → (¬ IsIn 0 message) → IsPlainResponse message Malformed
no_fields message none identity user password m =
    none (subst (IsIn 0) (sym m.parts) (in_middle identity (user ++ 0 ∷ password)))

module _ (message identity rest : List ℕ) (parts : message ≡ identity ++ 0 ∷ rest) (clean : ¬ IsIn 0 identity) where
  -- the fields after the first
  pub after_first : (i u p : List ℕ) → IsMessage i u p message → (identity ≡ i) × (rest ≡ u ++ 0 ∷ p)
  after_first i u p m = one_cut identity rest i (u ++ 0 ∷ p) clean m.no_nul_in_identity (sym parts ∙ m.parts)

  -- without a second NUL there are too few fields
  pub one_field : (¬ IsIn 0 rest) → IsPlainResponse message Malformed
  one_field none i u p m = none (subst (IsIn 0) (sym (after_first i u p m).1) (in_middle u p))

  module _ (user password : List ℕ) (more : rest ≡ user ++ 0 ∷ password) (named : ¬ IsIn 0 user) where
    -- the last fields
    pub last_fields : (i u p : List ℕ) → IsMessage i u p message → (identity ≡ i) × ((user ≡ u) × (password ≡ p))
    last_fields i u p m =
        let first = after_first i u p m in
        (first.0, one_cut user password u p named m.no_nul_in_user (sym more ∙ first.1))

    -- an empty field, or a third NUL
    pub no_user : user ≡ [] → IsPlainResponse message Malformed
    no_user e i u p m = m.has_user (sym (last_fields i u p m).1.0 ∙ e)

    pub no_password : password ≡ [] → IsPlainResponse message Malformed
    no_password e i u p m = m.has_password (sym (last_fields i u p m).1.1 ∙ e)

    pub third_nul : IsIn 0 password → IsPlainResponse message Malformed
    third_nul h i u p m = m.no_nul_in_password (subst (IsIn 0) (last_fields i u p m).1.1 h)

    -- three fields
    pub is_message : user ≢ [] → password ≢ [] → (¬ IsIn 0 password) → IsMessage identity user password message
    is_message has_user has_password no_nul = record {
      parts = parts ∙ ap (λ r. identity ++ 0 ∷ r) more;
      no_nul_in_identity = clean;
      no_nul_in_user = named;
      no_nul_in_password = no_nul;
      has_user = has_user;
      has_password = has_password;
    }

-- one more octet that is no NUL
pub clean_next : (xs : List ℕ) (i d : ℕ) → i < length xs → (get_or xs i d ≡ 0 → ⊥) → (IsIn 0 (take i xs) → ⊥) → IsIn 0 (take (i + 1) xs) → ⊥
clean_next xs i d l other clean h =
    let more : take (i + 1) xs ≡ take i xs ++ get_or xs i d ∷ [] = ap (λ n. take n xs) (add-one i) ∙ take-suc xs i d l in
    elim (in_cases 0 (get_or xs i d) (take i xs) (subst (λ (ys : List ℕ). IsIn 0 ys) more h)) [ inl k ↦ clean k | inr e ↦ other e ]

-- octets around a NUL
pub cut_parts : (xs : List ℕ) (i d : ℕ) → i < length xs → get_or xs i d ≡ 0 → xs ≡ take i xs ++ 0 ∷ drop (i + 1) xs
cut_parts xs i d l e =
    sym (take-append-drop i xs) ∙ ap (λ t. take i xs ++ t) (drop-cons xs i d l)
    ∙ ap (λ o. take i xs ++ o ∷ drop (suc i) xs) e ∙ ap (λ n. take i xs ++ 0 ∷ drop n xs) (sym (add-one i))
