-- How printed values are read.

use Rattle.std.specs.Prelude.{◌≡◌, ℕ, ◌<◌, ◌^◌, List, ◌++◌, length}
use Rattle.body_print.specs.Values.{Joined, Spaced, Value, text_of}
use Rattle.body_print.specs.Values.Joined.{JoinedFrom, NoJoined}
use Rattle.body_print.specs.Values.Spaced.{JoinedNext, NoSpaced, NumberNext}
use Rattle.body_print.specs.Values.Value.{ListValue, NilValue, TextValue}

-- All numbers and the lengths of all strings are below 2 ^ 64, as those of values in memory are.
abbrev mutual
  pub IsBounded : Value → Type 0
  IsBounded NilValue = Unit {0}
  IsBounded (TextValue octets) = length octets < 2 ^ 64
  IsBounded (ListValue joined spaced) = AreBounded joined × AreItemsBounded spaced

  pub AreBounded : Joined → Type 0
  AreBounded NoJoined = Unit {0}
  AreBounded (JoinedFrom value joined) = IsBounded value × AreBounded joined

  pub AreItemsBounded : Spaced → Type 0
  AreItemsBounded NoSpaced = Unit {0}
  AreItemsBounded (JoinedNext joined spaced) = AreBounded joined × AreItemsBounded spaced
  AreItemsBounded (NumberNext number spaced) = (number < 2 ^ 64) × AreItemsBounded spaced

-- A text begins with a printed value, and the rest follows it.
pub record IsReading (text : List ℕ) (value : Value) (rest : List ℕ) : Type 0 where
  pub bounded : IsBounded value
  pub text_is : text ≡ text_of value ++ rest

-- A text begins with this printed value and with no other.
pub record IsOnlyReading (text : List ℕ) (value : Value) (rest : List ℕ) : Type 0 where
  pub read : IsReading text value rest
  pub only : (other : Value) (more : List ℕ) → IsReading text other more
      → (other ≡ value) × (more ≡ rest)
