use Rattle.std.proofs.Common.{◌≡◌, ◌⊎◌, inl, inr, ◌<◌, ◌≤◌, ◌+◌, ℕ, List, [], ◌∷◌, ◌++◌, Option, Some, None, Result, Ok, Err, IsTrue, refl, sym, ap, ◌∙◌, subst, append_assoc, append-nil, arith, length, length-append}
use Rattle.std.specs.Prelude.{IfErr, IfOk}
use Rattle.imap_connection.specs.Devices.{GivesOctets}
use Rattle.link_wire.specs.declared.line_cutter.CutFault.{CutFault}
use Rattle.link_wire.specs.declared.line_cutter.CutFault.TheVariants.{NoMemory, TooLong}
use Rattle.link_wire.specs.Digests.{has_no_lf}
use Rattle.link_wire.specs.LineCuts.{ContinuesLine, CutterState, EndsLine, IsLineWithin, IsOpenLine, IsTooLong, at_start}
use Rattle.link_runtime.specs.declared.handshake_fault.HandshakeFault.{HandshakeFault}
use Rattle.link_runtime.specs.HandshakeFaults.{fault_of_cut}
use Rattle.link_runtime.specs.LineInputs.{HasCut, IsCutRefused, IsLineRefused}

-- ---- octets of a source

pub gives_append : (a b c : Option (List ℕ)) (x y : List ℕ) → GivesOctets a x b → GivesOctets b y c → GivesOctets a (x ++ y) c
gives_append None b c x y h k = tt
gives_append (Some old) b c x y h k =
    let k' : GivesOctets (Some h.0) y c = subst (λ (o : Option (List ℕ)). GivesOctets o y c) h.1 k in
    (k'.0, k'.1, h.2 ∙ (ap (λ t. x ++ t) k'.2 ∙ sym (append_assoc x y k'.0)))

pub gives_nothing : (a : Option (List ℕ)) → GivesOctets a [] a
gives_nothing None = tt
gives_nothing (Some old) = (old, refl, refl)

-- ---- a line so far

-- Of a source octets were read, which with those read before them continue a line.
abbrev pub HasGiven : Option (List ℕ) → List ℕ → Option (List ℕ) → CutterState → Type 0
HasGiven left before now cutter = (given : List ℕ) × GivesOctets left given now × ContinuesLine (at_start 128) (before ++ given) cutter

pub given_start : (left : Option (List ℕ)) (before : List ℕ) (cutter : CutterState) → ContinuesLine (at_start 128) before cutter → HasGiven left before left cutter
given_start left before cutter h = ([], gives_nothing left, subst (λ (octets : List ℕ). ContinuesLine (at_start 128) octets cutter) (sym (append-nil before)) h)

pub given_more : (left : Option (List ℕ)) (before : List ℕ) (mid : Option (List ℕ)) (old : CutterState) (given : List ℕ) (now : Option (List ℕ)) (new : CutterState) → HasGiven left before mid old → GivesOctets mid given now → ContinuesLine old given new
    → HasGiven left before now new
given_more left before mid old given now new h g k = (
  h.0 ++ given,
  gives_append left mid now h.0 given h.1 g,
  record {
    open_line = k.open_line;
    limit = k.limit ∙ h.2.limit;
    line_is = k.line_is ∙ ap (λ (line : List ℕ). line ++ given) h.2.line_is ∙ append_assoc before h.0 given;
  },
)

pub given_line : (left : Option (List ℕ)) (before : List ℕ) (mid : Option (List ℕ)) (old : CutterState) (given : List ℕ) (now : Option (List ℕ)) (new : CutterState) (line rest : List ℕ) → HasGiven left before mid old → GivesOctets mid given now
    → EndsLine old given new line rest → (all : List ℕ) × GivesOctets left all now × (before ++ all ≡ line ++ 10 ∷ rest) × IsLineWithin 128 line
given_line left before mid old given now new line rest h g k = (
  h.0 ++ given,
  gives_append left mid now h.0 given h.1 g,
  sym (append_assoc before h.0 given) ∙ ap (λ (octets : List ℕ). octets ++ given) (sym h.2.line_is) ∙ k.stream_is,
  (k.no_lf, subst (λ (limit : ℕ). length line ≤ limit) h.2.limit k.within),
)

-- ---- no line

-- the octets so far and the piece are too many, or memory ran out
refused_after : (before given piece : List ℕ) (old : CutterState) (fault : HandshakeFault) → ContinuesLine (at_start 128) (before ++ given) old → IsCutRefused old ([] ++ piece) fault → IsCutRefused (at_start 128) (before ++ (given ++ piece)) fault
refused_after before given piece old fault h r = elim r [
  | inl k ↦
      let long : IsTooLong old piece = k.1 in
      inl (
        k.0,
        record {
          front = long.front;
          rest = long.rest;
          no_lf = long.no_lf;
          beyond = subst (λ (limit : ℕ). limit < length long.front) h.limit long.beyond;
          stream_is = sym (append_assoc before given piece) ∙ ap (λ (line : List ℕ). line ++ piece) (sym h.line_is) ∙ long.stream_is;
        },
      )
  | inr k ↦ inr k
]

pub refused_more : (left : Option (List ℕ)) (before : List ℕ) (mid : Option (List ℕ)) (old : CutterState) (now : Option (List ℕ)) (lost more : Type 0) (fault : HandshakeFault) → HasGiven left before mid old → (lost → more) → IsLineRefused old [] mid now lost fault
    → IsLineRefused (at_start 128) before left now more fault
refused_more left before mid old now lost more fault h up r = elim r [
  | inl k ↦ inl (h.0 ++ k.0, gives_append left mid now h.0 k.0 h.1 k.1, refused_after before h.0 k.0 old fault h.2 k.2)
  | inr k ↦ inr (up k.0, k.1)
]

pub refused_begun : (left : Option (List ℕ)) (before : List ℕ) (lost : Type 0) (fault : HandshakeFault) → IsCutRefused (at_start 128) before fault → IsLineRefused (at_start 128) before left left lost fault
refused_begun left before lost fault r = inl ([], gives_nothing left, subst (λ (octets : List ℕ). IsCutRefused (at_start 128) octets fault) (sym (append-nil before)) r)

-- a line has 128 octets at most
pub open_within : (left : Option (List ℕ)) (before : List ℕ) (now : Option (List ℕ)) (cutter : CutterState) → HasGiven left before now cutter → length cutter.line ≤ 128
open_within left before now cutter h = let w = h.2.open_line.within in let l = h.2.limit in omega (arith, w, l)

-- and more with each octet
pub longer : (old : CutterState) (piece : List ℕ) (new : CutterState) → ContinuesLine old piece new → length new.line ≡ length old.line + length piece
longer old piece new h = ap length h.line_is ∙ length-append old.line piece

-- a piece that the cutter refuses
pub cut_refused : (why : CutFault) (old : CutterState) (piece : List ℕ) (fault : HandshakeFault) → fault ≡ fault_of_cut why → (why ≡ TooLong → IsTooLong old piece) → IsCutRefused old piece fault
cut_refused TooLong old piece fault e h = inl (e, h refl)
cut_refused NoMemory old piece fault e h = inr e

-- what was read, cut
pub read_cut : {E : Type 0} (r : Result (Option (List ℕ)) E) (left now : Option (List ℕ)) (given : List ℕ) (old : CutterState) (before : List ℕ) (new : CutterState) (after : List ℕ) → GivesOctets left given now → 0 < length given → IfOk r (λ cut. HasCut old before given cut new after)
    → IfOk r (λ cut. (given : List ℕ) × GivesOctets left given now × HasCut old before given cut new after × (0 < length given))
read_cut (Ok cut) left now given old before new after g l h = (given, g, h, l)
read_cut (Err e) left now given old before new after g l h = tt

pub read_refused : {X : Type 0} (r : Result X HandshakeFault) (left now : Option (List ℕ)) (given : List ℕ) (old : CutterState) (lost : Type 0) → GivesOctets left given now → IfErr r (IsCutRefused old given) → IfErr r (IsLineRefused old [] left now lost)
read_refused (Ok x) left now given old lost g h = tt
read_refused (Err e) left now given old lost g h = inl (given, g, h)

-- ---- one piece

pub continues : (cut : Option (List ℕ)) (old : CutterState) (left piece : List ℕ) (new : CutterState) (after : List ℕ) → cut ≡ None → HasCut old left piece cut new after → ContinuesLine old piece new × (after ≡ left)
continues None old left piece new after e h = h
continues (Some line) old left piece new after e h = absurd cc

pub cut_line : (left : Option (List ℕ)) (before : List ℕ) (mid : Option (List ℕ)) (old : CutterState) (now : Option (List ℕ)) (new : CutterState) (cut : Option (List ℕ)) (line kept after : List ℕ) → HasGiven left before mid old → kept ≡ [] → cut ≡ Some line
    → ((given : List ℕ) × GivesOctets mid given now × HasCut old kept given cut new after × (0 < length given)) → (all : List ℕ) × GivesOctets left all now × (before ++ all ≡ line ++ 10 ∷ after) × IsLineWithin 128 line
cut_line left before mid old now new None line kept after h k e r = absurd cc
cut_line left before mid old now new (Some it) line kept after h k e r =
    let same : it ≡ line = cc in
    let whole = given_line left before mid old r.0 now new it r.2.0 h r.1 r.2.1 in
    let rest : after ≡ r.2.0 = r.2.2 ∙ ap (λ (octets : List ℕ). octets ++ r.2.0) k in (
      whole.0,
      whole.1,
      subst (λ (octets : List ℕ). before ++ whole.0 ≡ line ++ 10 ∷ octets) (sym rest) (subst (λ (l : List ℕ). before ++ whole.0 ≡ l ++ 10 ∷ r.2.0) same whole.2),
      subst (λ (l : List ℕ). IsLineWithin 128 l) same whole.3,
    )

pub err_more : {X : Type 0} (r : Result X HandshakeFault) (P Q : HandshakeFault → Type 0) → ((fault : HandshakeFault) → P fault → Q fault) → IfErr r P → IfErr r Q
err_more (Ok x) P Q f h = tt
err_more (Err e) P Q f h = f e h
