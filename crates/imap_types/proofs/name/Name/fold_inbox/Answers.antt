use Rattle.std.proofs.Common.{◌≡◌, ℕ, ◌∙◌, ap, sym, arith, true, cond, List, [], ◌∷◌, map, refl}
use Rattle.std.proofs.lemmas.Bool.Decides.{nat_tests}
use Rattle.std.proofs.lemmas.Slice.Eq.{bytes_eq-Decides}
use Rattle.std.specs.Char.{to_ascii_lowercase, to_ascii_uppercase}
use Rattle.imap_types.specs.Names.{inbox, is_inbox}
use Rattle.imap_types.proofs.name.Name.fold_inbox.Goals as goal

upper_of_lower : (c : ℕ) → to_ascii_uppercase (to_ascii_lowercase c) ≡ to_ascii_uppercase c
upper_of_lower c = grind (arith, nat_tests)

upper_of_lowers : (cs : List ℕ) → map to_ascii_uppercase (map to_ascii_lowercase cs) ≡ map to_ascii_uppercase cs
upper_of_lowers [] = refl
upper_of_lowers (c ∷ cs) = λ k. upper_of_lower c k ∷ upper_of_lowers cs k

upper_inbox : (cs : List ℕ) → is_inbox cs ≡ true → map to_ascii_uppercase cs ≡ inbox
upper_inbox cs h = sym (upper_of_lowers cs) ∙ ap (map to_ascii_uppercase) ((bytes_eq-Decides _ _).0 h)

pub returns : goal.returns
returns c =
    let e : is_inbox c.args.self ≡ true = sym (c.if-not-is_inbox.ensures {u = tt}) in
    let u : c.capitalize.new.octets.items ≡ inbox = c.capitalize.ensures ∙ ap (map to_ascii_uppercase) c.into_vec-octets.ensures ∙ upper_inbox c.args.self e in
    u ∙ sym (ap (λ b. cond b inbox c.args.self) e)
