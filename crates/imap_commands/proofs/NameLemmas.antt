use Rattle.std.proofs.Common.{◌≡◌, ◌↔◌, IsTrue, inl, inr, refl, sym, ℕ, ◌<◌, ◌≤◌, ◌==◌, Bool, true, false, not, List, length, arith}
use Rattle.std.specs.Prelude.{nat_lt}
use Rattle.std.proofs.lemmas.Bool.{and_from, and_parts, cases_Bool}
use Rattle.std.proofs.lemmas.Bool.Decides.{nat_tests}
use Rattle.std.proofs.lemmas.Slice.Eq.{bytes_eq-Decides}
use Rattle.std.proofs.lemmas.Str.{IsUtf8-from_is_utf8, is_utf8-from_IsUtf8}
use Rattle.imap_types.specs.Names.{IsLawfulName}
use Rattle.imap_commands.specs.Mailboxes.{is_lawful_name}

some_from_test : (n : ℕ) → not (n == 0) ≡ true → 0 < n
some_from_test n h = grind (arith, nat_tests)

test_from_some : (n : ℕ) → 0 < n → not (n == 0) ≡ true
test_from_some n h = grind (arith, nat_tests)

at_most_from_test : (n : ℕ) → not (nat_lt 255 n) ≡ true → n ≤ 255
at_most_from_test n h = grind (arith, nat_tests)

test_from_at_most : (n : ℕ) → n ≤ 255 → not (nat_lt 255 n) ≡ true
test_from_at_most n h = grind (arith, nat_tests)

-- the test of a name decides whether a mailbox may bear it
pub lawful_from_test : (name : List ℕ) → is_lawful_name name ≡ true → IsLawfulName name
unfolding is_lawful_name
lawful_from_test name h =
    let folded = and_parts _ _ h in
    let levels = and_parts _ _ folded.0 in
    let octets = and_parts _ _ levels.0 in
    let utf8 = and_parts _ _ octets.0 in
    let lengths = and_parts _ _ utf8.0 in
    record {
      not_empty = some_from_test (length name) lengths.0;
      short = at_most_from_test (length name) lengths.1;
      utf8 = IsUtf8-from_is_utf8 name utf8.1;
      octets = octets.1;
      levels = levels.1;
      folded = (bytes_eq-Decides _ _).0 folded.1;
    }

pub test_from_lawful : (name : List ℕ) → IsLawfulName name → is_lawful_name name ≡ true
unfolding is_lawful_name
test_from_lawful name h =
    let lengths = and_from _ _ (test_from_some (length name) h.not_empty) (test_from_at_most (length name) h.short) in
    let utf8 = and_from _ _ lengths (is_utf8-from_IsUtf8 name h.utf8) in
    let octets = and_from _ _ utf8 h.octets in
    let levels = and_from _ _ octets h.levels in
    and_from _ _ levels ((bytes_eq-Decides _ _).1 h.folded)

pub lawful_name_is : (name : List ℕ) → IsTrue (is_lawful_name name) ↔ IsLawfulName name
lawful_name_is name = (lawful_from_test name, test_from_lawful name)

-- each test that decides this equals `is_lawful_name`
pub lawful_by : (name : List ℕ) (b : Bool) → (IsTrue b ↔ IsLawfulName name) → b ≡ is_lawful_name name
lawful_by name true h = sym (test_from_lawful name (h.0 refl))
lawful_by name false h =
    elim (cases_Bool (is_lawful_name name)) [
      | inl t ↦ let e : false ≡ true = h.1 (lawful_from_test name t) in cc
      | inr f ↦ sym f
    ]
