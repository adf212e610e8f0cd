use Rattle.std.proofs.Common.{◌≡◌, ℕ, zero, suc, Bool, true, false, List, [], ◌∷◌, Option, None, Some, refl, ap, ◌∙◌, subst, length, codes}
use Rattle.std.specs.Prelude.{if◌then◌else◌, is_some, slice_get}
use Rattle.std.specs.Option.{option_map_or}
use Rattle.std.specs.Str.{bytes_eq, chars}
use Rattle.clap.specs.Faults.{bundle_fault, bundle_step_fault, fault_of, flag_word_fault, flags_fault, is_simple_and_free, long_fault, option_fault, settle_fault, short_fault, turn_fault, walk_fault, word_fault}
use Rattle.clap.specs.Kinds.{Kinds, or_else}
use Rattle.clap.specs.Lexer.{long_of, short_of}
use Rattle.clap.specs.Simple.{App, Shape, built, new_app, with_rule}
use Rattle.clap.specs.ValueTests.{accepts}
use Rattle.clap.specs.Values.{IsUnsignedIn}
use Rattle.clap.specs.Walk.{Held, Outcome, Rule, Text, Walk, after_flag, after_step, arg_by_long, arg_by_short, bundle_met, bundle_step, long_or_other, nothing_held, short_or_plain, takes_values, walk, walk_from}
use Rattle.clap.specs.Walk.{option, plain, trailing}
use Rattle.clap.specs.declared.builder.value_parser.ValueParser.TheVariants.{Unsigned}
use Rattle.clap.specs.declared.error.kind.ErrorKind.TheVariants as kind
use Rattle.clap.proofs.OnLiterals.{clap_on_literals}
use Rattle.clap.proofs.ValueTestLemmas.{accepts-Accepts}
use Rattle.server_settings.specs.Options.{word_with_value}

-- ---- clap refuses each value that is no number

abbrev pub number_app : ℕ → App
number_app most = with_rule (new_app (codes "imap_server")) (record (word_with_value (codes "journal")) { parser = Some (Unsigned 0 most) })

both_empty : (a b : Kinds) → or_else a b ≡ [] → (a ≡ []) × (b ≡ [])
both_empty [] b e = (refl, e)
both_empty (k ∷ ks) b e = absurd cc

either : (t : Bool) (a b : Kinds) → (a ≡ [] → ⊥) → (b ≡ [] → ⊥) → (if t then a else b) ≡ [] → ⊥
either true a b p q e = p e
either false a b p q e = q e

one_value : (a : Bool) → or_else (if a then [] else kind.ValueValidation ∷ []) [] ≡ [] → a ≡ true
one_value true e = refl
one_value false e = absurd cc

module _ (most : ℕ) (text : List ℕ) where
  abbrev shape : Shape
  shape = (built (number_app most)).top

  -- where the walk is before the text
  abbrev held : Held
  held = record { rows = []; pending = Some (codes "journal", []); skip = 0 }

  abbrev between : Walk
  between = record { held = held; waiting = option (codes "journal"); position = 1; is_trailing = false; stopped = None }

  abbrev is_accepted : Bool
  is_accepted = accepts false (Unsigned 0 most) text

  -- `--journal` without a value is a fault, at whichever word comes next
  no_value : settle_fault shape.rules false held ≡ [] → ⊥
  no_value e = let bad : ◌≡◌ {A = Kinds} (kind.InvalidValue ∷ []) [] = e in cc

  no_option : (a : Rule) (v : Option Text) → option_fault shape.rules false a v held ≡ [] → ⊥
  no_option a (Some v) e = no_value e
  no_option a None e = no_value e

  no_long : (o : Option Rule) (v : Option Text) → long_fault shape.rules false o v held ≡ [] → ⊥
  no_long None v e = let bad : ◌≡◌ {A = Kinds} (kind.UnknownArgument ∷ []) [] = e in cc
  no_long (Some a) v e =
      either (takes_values a) _ _ (no_option a v) (either (is_some v) _ _ (λ b. let bad : ◌≡◌ {A = Kinds} (kind.TooManyValues ∷ []) [] = b in cc) (λ b. no_value b)) e

  no_short : (o : Option Rule) (rest : Text) (next : Held → Kinds) → short_fault shape.rules false o rest held next ≡ [] → ⊥
  no_short None rest next e = let bad : ◌≡◌ {A = Kinds} (kind.UnknownArgument ∷ []) [] = e in cc
  no_short (Some a) rest next e = either (takes_values a) _ _ (no_option a _) (λ b. no_value b) e

  -- there is no fault in `--journal` and its value after what the text is as a flag
  abbrev HasNoFaultAfter : Held × Outcome → Type 0
  HasNoFaultAfter met =
      let step = after_flag shape.rules (option (codes "journal")) text met.0 met.1 in
      settle_fault shape.rules false (after_step shape.rules text between step.0 step.1).held ≡ []

  by_char : (o : Option ℕ) (flags : Text) (next : Text → ℕ → Held → Kinds) (rest : Text → ℕ → Outcome → Held → Held × Outcome) → bundle_step_fault shape.rules false o flags 0 held next ≡ []
      → HasNoFaultAfter (bundle_step shape.rules o flags 0 plain held rest) → is_accepted ≡ true
  by_char None flags next rest w s = one_value is_accepted s
  by_char (Some x) flags next rest w s = absurd (no_short (arg_by_short shape.rules x) _ _ w)

  by_flags : (k : ℕ) (flags : Text) → flags_fault shape.rules false k flags 0 held ≡ [] → HasNoFaultAfter (bundle_met shape.rules k flags 0 plain held) → is_accepted ≡ true
  unfolding flags_fault bundle_met
  by_flags zero flags w s = one_value is_accepted s
  by_flags (suc k) flags w s = by_char (slice_get (chars flags) 0) flags _ _ w s

  by_short : (o : Option Text) → option_map_or (λ flags. bundle_fault shape.rules false flags held) o [] ≡ []
      → (let met = short_or_plain shape.rules (option (codes "journal")) text o held in settle_fault shape.rules false (after_step shape.rules text between met.0 met.1).held ≡ []) → is_accepted ≡ true
  by_short None w s = one_value is_accepted s
  by_short (Some flags) w s = by_flags (length flags) flags w s

  by_long : (o : Option (Text × Option Text)) → flag_word_fault shape.rules false o text held ≡ []
      → (let met = long_or_other shape.rules (option (codes "journal")) text o held in settle_fault shape.rules false (after_step shape.rules text between met.0 met.1).held ≡ []) → is_accepted ≡ true
  by_long (Some p) w s = absurd (no_long (arg_by_long shape.rules p.0) p.1 w)
  by_long None w s = by_short (short_of text) w s

  by_dashes : (b : Bool) → (if b then [] else flag_word_fault shape.rules false (long_of text) text held) ≡ []
      → (let met = if b then (held, trailing 1) else long_or_other shape.rules (option (codes "journal")) text (long_of text) held in settle_fault shape.rules false (after_step shape.rules text between met.0 met.1).held ≡ []) → is_accepted ≡ true
  by_dashes true w s = absurd (no_value s)
  by_dashes false w s = by_long (long_of text) w s

  abbrev words : List Text
  words = codes "--journal" ∷ text ∷ []

  no_fault : fault_of (number_app most) (codes "imap_server" ∷ words) ≡ [] → is_accepted ≡ true
  unfolding clap_on_literals
  no_fault e =
      let walks = both_empty (walk_fault shape [] (walk_from nothing_held) words) _ e in
      let below = both_empty _ _ walks.1 in
      let ends = both_empty (settle_fault shape.rules false (walk shape.rules [] nothing_held words).held) _ below.1 in
      let second = both_empty (turn_fault shape [] between text) [] walks.0 in
      let word = both_empty (word_fault shape [] false (option (codes "journal")) text held) _ second.0 in
      by_dashes (bytes_eq text (45 ∷ 45 ∷ [])) word.0 ends.0

  pub number_from_no_fault : fault_of (number_app most) (codes "imap_server" ∷ words) ≡ [] → IsUnsignedIn 0 most text
  number_from_no_fault e = accepts-Accepts false (Unsigned 0 most) text (no_fault e)

number_is_simple : (most : ℕ) → is_simple_and_free (number_app most) ≡ true
unfolding clap_on_literals
number_is_simple most = refl

-- if clap takes the words, the text is a number
pub number_from_words : (most : ℕ) (text : List ℕ) (app : App) → app ≡ number_app most → (is_simple_and_free app ≡ true → fault_of app (codes "imap_server" ∷ codes "--journal" ∷ text ∷ []) ≡ []) → IsUnsignedIn 0 most text
number_from_words most text app is h =
    number_from_no_fault most text (subst (λ a. fault_of a (codes "imap_server" ∷ codes "--journal" ∷ text ∷ []) ≡ []) is (h (ap is_simple_and_free is ∙ number_is_simple most)))
