use Rattle.std.specs.List.{cons_option}
use Rattle.std.proofs.Common.{◌≡◌, inl, inr, ℕ, Bool, zero, suc, ◌<◌, true, false, cond, ◌||◌, List, [], ◌∷◌, length, set, remove, get_or, refl, sym, ap, subst, ◌∙◌, arith, Option, Some, None}
use Rattle.std.proofs.lemmas.Bool.{cases_Bool, false≢true}
use Rattle.std.proofs.lemmas.Bool.Decides.{nat_tests}
use Rattle.tags_clocks.specs.declared.id.OpId.{OpId}
use Rattle.mailbox_rows.specs.declared.entry.ListingEntry.{ListingEntry}
use Rattle.mailbox_rows.specs.ListingEntries.{IsAt, Lacks}
use Rattle.crdt_ops.specs.SortedSets.{same_id}
use Rattle.uid_projection.specs.EntryMoves.{AreApart, has_entry, moved_entries, with_modseq}

-- ---- ids

pub same_true : (a b : OpId) → same_id a b ≡ true → a ≡ b
same_true a b h =
    let r : a.replica ≡ b.replica = grind (arith, nat_tests) in
    let n : a.number ≡ b.number = grind (arith, nat_tests) in
    λ k. record { replica = r k; number = n k }

pub same_own : (a : OpId) → same_id a a ≡ true
same_own a = grind (arith, nat_tests)

pub same_back : (a b : OpId) → same_id a b ≡ false → same_id b a ≡ false
same_back a b h =
    elim (cases_Bool (same_id b a)) [
      | inl t ↦ (let e = same_true b a t in absurd (false≢true (sym h ∙ subst (λ x. same_id x b ≡ true) e (same_own b))))
      | inr f ↦ f
    ]

-- ---- whether an origin has an entry

pub lacks_held : (g : OpId) (es : List ListingEntry) → Lacks g es → has_entry es g ≡ false
lacks_held g [] l = refl
lacks_held g (e ∷ es) l = λ k. l.0 k || lacks_held g es l.1 k

pub held_lacks : (g : OpId) (es : List ListingEntry) → has_entry es g ≡ false → Lacks g es
held_lacks g [] h = tt
held_lacks g (e ∷ es) h =
    elim (cases_Bool (same_id g e.origin)) [
      | inl t ↦ absurd (false≢true (sym h ∙ ap (λ b. b || has_entry es g) t))
      | inr f ↦ (f, held_lacks g es (sym (ap (λ b. b || has_entry es g) f) ∙ h))
    ]

or-true : (b : Bool) → (b || true) ≡ true
or-true true = refl
or-true false = refl

at_held : (g : OpId) (es : List ListingEntry) (n : ℕ) → n < length es → ((d : ListingEntry) → (get_or es n d).origin ≡ g) → has_entry es g ≡ true
at_held g [] n l h = absurd (omega (arith, l))
at_held g (e ∷ es) zero l h = ap (λ b. b || has_entry es g) (subst (λ x. same_id g x ≡ true) (sym (h e)) (same_own g))
at_held g (e ∷ es) (suc n) l h = ap (λ b. same_id g e.origin || b) (at_held g es n (omega (arith, l)) h) ∙ or-true (same_id g e.origin)

pub is_at_held : (g : OpId) (es : List ListingEntry) (n : ℕ) → IsAt g es n → has_entry es g ≡ true
is_at_held g es n h = at_held g es n h.within h.has_origin

-- ---- entries that move

-- nothing moves if no entry has the origin
pub moved_none : (g : OpId) (s : OpId → Bool) (m : ℕ) (es : List ListingEntry) → Lacks g es → es ≡ moved_entries (λ x. same_id x g) s m es
moved_none g s m [] l = refl
moved_none g s m (e ∷ es) l =
    let f : same_id e.origin g ≡ false = same_back g e.origin l.0 in
    λ k. cons_option (cond (sym f k) (cond (s e.origin) (Some (with_modseq m e)) None) (Some e)) (moved_none g s m es l.1 k)

other_origin : (g : OpId) (e : ListingEntry) (es : List ListingEntry) (n : ℕ) → Lacks e.origin es → n < length es → ((d : ListingEntry) → (get_or es n d).origin ≡ g) → same_id e.origin g ≡ false
other_origin g e es n l within is =
    elim (cases_Bool (same_id e.origin g)) [
      | inl t ↦ absurd (false≢true (sym (lacks_held e.origin es l) ∙ ap (has_entry es) (same_true e.origin g t) ∙ at_held g es n within is))
      | inr f ↦ f
    ]

-- the entry with the origin gets a mod-sequence
pub moved_renewed : (g : OpId) (m : ℕ) (es : List ListingEntry) (n : ℕ) (d : ListingEntry) → AreApart es → n < length es → ((x : ListingEntry) → (get_or es n x).origin ≡ g) → set es n (with_modseq m (get_or es n d)) ≡ moved_entries (λ x. same_id x g) (λ x. true) m es
moved_renewed g m [] n d a within is = absurd (omega (arith, within))
moved_renewed g m (e ∷ es) zero d a within is =
    let own : same_id e.origin g ≡ true = subst (λ x. same_id e.origin x ≡ true) (is e) (same_own e.origin) in
    let rest = moved_none g (λ x. true) m es (subst (λ x. Lacks x es) (is e) a.0) in
    λ k. cons_option (cond (sym own k) (Some (with_modseq m e)) (Some e)) (rest k)
moved_renewed g m (e ∷ es) (suc n) d a within is =
    let f = other_origin g e es n a.0 (omega (arith, within)) is in
    λ k. cons_option (cond (sym f k) (Some (with_modseq m e)) (Some e)) (moved_renewed g m es n d a.1 (omega (arith, within)) is k)

-- the entry with the origin is removed
pub moved_removed : (g : OpId) (m : ℕ) (es : List ListingEntry) (n : ℕ) → AreApart es → n < length es → ((x : ListingEntry) → (get_or es n x).origin ≡ g) → remove es n ≡ moved_entries (λ x. same_id x g) (λ x. false) m es
moved_removed g m [] n a within is = absurd (omega (arith, within))
moved_removed g m (e ∷ es) zero a within is =
    let own : same_id e.origin g ≡ true = subst (λ x. same_id e.origin x ≡ true) (is e) (same_own e.origin) in
    let rest = moved_none g (λ x. false) m es (subst (λ x. Lacks x es) (is e) a.0) in
    λ k. cons_option (cond {A = Option ListingEntry} (sym own k) None (Some e)) (rest k)
moved_removed g m (e ∷ es) (suc n) a within is =
    let f = other_origin g e es n a.0 (omega (arith, within)) is in
    λ k. cons_option (cond {A = Option ListingEntry} (sym f k) None (Some e)) (moved_removed g m es n a.1 (omega (arith, within)) is k)

-- the change to the entry at the origin's place
pub settled : (g : OpId) (m : ℕ) (b : Bool) (old new : List ListingEntry) (n : ℕ) → IsAt g old n → (b ≡ true → (d : ListingEntry) → new ≡ set old n (with_modseq m (get_or old n d))) → (b ≡ false → new ≡ remove old n) → AreApart old → new ≡ moved_entries (λ x. same_id x g) (λ x. b) m old
settled g m true old new n at stays removed a = stays refl (record { origin = g; uid = 0; modseq = 0 }) ∙ moved_renewed g m old n (record { origin = g; uid = 0; modseq = 0 }) a at.within at.has_origin
settled g m false old new n at stays removed a = removed refl ∙ moved_removed g m old n a at.within at.has_origin
