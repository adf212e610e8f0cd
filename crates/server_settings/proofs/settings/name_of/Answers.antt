use Rattle.std.proofs.Common.{◌≡◌, sym, ◌∙◌, rules, tests, arith}
use Rattle.std.proofs.lemmas.Bool.{false≢true}
use Rattle.std.proofs.lemmas.Bool.Decides.{not_from_Decides}
use Rattle.std.proofs.lemmas.Iterator.Adapters.{YieldsList-from_bytes}
use Rattle.std.proofs.lemmas.Iterator.Search.{all_from_yields_List}
use Rattle.std.proofs.lemmas.Str.Pattern.{starts_char}
use Rattle.std.specs.Char.{is_ascii_digit}
use Rattle.server_settings.proofs.TextLemmas.{parsed_name, name_digits, name_read, name_start}
use Rattle.server_settings.proofs.settings.name_of.Goals.{then-not-all-via-then-not-all, then-not-all-via-else-not-all+then-starts_with}
use Rattle.server_settings.proofs.settings.name_of.Goals as goal

pub returns-then-not-all-clause-none : goal.returns-then-not-all-clause-none
returns-then-not-all-clause-none c = λ name is.
    let text = c.args.digits.now in
    elim c.then-not-all.branch [
      | then-not-all-via-then-not-all w ↦
          let all = all_from_yields_List is_ascii_digit _ _ c.all.result c.all.ensures.ran (YieldsList-from_bytes text c.bytes.ensures.rest) (λ x b q k. search (rules, tests)) in
          false≢true (sym w.if-not-all.true ∙ all ∙ name_digits text name is)
      | then-not-all-via-else-not-all+then-starts_with w ↦
          let start = starts_char 48 text w.starts_with.result w.starts_with.ensures.cases (omega arith) (omega arith) in
          name_start text name is (start.0 w.if-starts_with.true)
    ]

pub returns-in-Ok-eq0-clause-none : goal.returns-in-Ok-eq0-clause-none
returns-in-Ok-eq0-clause-none c = λ name is.
    let r = parsed_name c.args.digits.now name is c.parse.result c.parse.ensures.value.0 in
    let z = c.in-Ok-eq0.field-0-test in
    let o = c.in-Ok-eq0.is in
    let p = is.0 in
    let same : name ≡ c.in-Ok-eq0.field-0 = cc in
    omega arith

pub returns-in-Ok-clause-some : goal.returns-in-Ok-clause-some
returns-in-Ok-clause-some c =
    let text = c.args.digits.now in
    let all = all_from_yields_List is_ascii_digit _ _ c.all.result c.all.ensures.ran (YieldsList-from_bytes text c.bytes.ensures.rest) (λ x b q k. search (rules, tests)) in
    let start = starts_char 48 text c.starts_with.result c.starts_with.ensures.cases (omega arith) (omega arith) in
    name_read text c.parse.result c.in-Ok.name c.parse.ensures.value.0 (sym all ∙ c.if-not-all.false) (not_from_Decides _ start c.if-starts_with.false) c.in-Ok.is c.in-Ok.name-test.1

pub returns-in-Err-clause-none : goal.returns-in-Err-clause-none
returns-in-Err-clause-none c = λ name is.
    let r = parsed_name c.args.digits.now name is c.parse.result c.parse.ensures.value.0 in
    let o = c.in-Err.is in
    absurd cc
