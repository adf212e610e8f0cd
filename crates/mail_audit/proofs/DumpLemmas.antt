use Rattle.std.proofs.Common.{◌≡◌, inr, ℕ, ◌+◌, ◌<◌, ◌≤◌, List, [], ◌∷◌, ◌++◌, length, length-append, refl, sym, ap, ◌∙◌, subst, append_assoc, append-nil, arith}
use Rattle.std.specs.List.{flat_map}
use Rattle.crdt_ops.specs.Form.{IsReplica}
use Rattle.crdt_ops.specs.declared.op.Op.{Op}
use Rattle.mail_audit.specs.Audits.{Dumped, IsNo, IsNoEnd, IsRightPart, Part, ended_line, part_text, text_of}
use Rattle.mail_audit.specs.DumpLines.{IsPhase}
use Rattle.mail_audit.specs.Dumps.{AreDumped, dump_line, dump_text, inside_text}
use Rattle.mail_audit.specs.AuditProgress.{AreAudited, IsOpen}
use Rattle.mail_audit.specs.declared.open_dump.OpenDump.{OpenDump}
use Rattle.mail_audit.specs.Sessions.{Session}
use Rattle.mail_audit.proofs.KnownSessionLemmas.{each_last, flat_map_last, audited_right, sent_of_dump}

flat_map_both : {X : Type 0} (f : X → List ℕ) (xs ys : List X) → flat_map f (xs ++ ys) ≡ flat_map f xs ++ flat_map f ys
flat_map_both f [] ys = refl
flat_map_both f (x ∷ xs) ys = ap (λ zs. f x ++ zs) (flat_map_both f xs ys) ∙ sym (append_assoc (f x) (flat_map f xs) (flat_map f ys))

-- a dump continues
pub open_more : (lines : List (List ℕ)) (sessions : List Session) (old new : OpenDump) (line : List ℕ) → (is_open : IsOpen lines sessions old) → new.first ≡ old.first → new.replica ≡ old.replica → IsNoEnd line → IsPhase (is_open.inside ++ line ∷ []) new.phase → IsOpen (lines ++ line ∷ []) sessions new
open_more lines sessions old new line is_open f r n p = record {
  front = is_open.front;
  inside = is_open.inside ++ line ∷ [];
  parts = is_open.parts;
  whole =
      ap (λ (ls : List (List ℕ)). ls ++ line ∷ []) is_open.whole
      ∙ append_assoc is_open.front (dump_line old.replica ∷ is_open.inside) (line ∷ [])
      ∙ ap (λ (q : ℕ). is_open.front ++ dump_line q ∷ (is_open.inside ++ line ∷ [])) (sym r);
  count = f ∙ is_open.count;
  named = subst IsReplica (sym r) is_open.named;
  audited = is_open.audited;
  not_ended = each_last IsNoEnd is_open.inside line is_open.not_ended n;
  phase = p;
}

-- a dump begins
pub open_first : (lines : List (List ℕ)) (parts : List Part) (sessions : List Session) (dump : OpenDump) (line : List ℕ) → AreAudited lines parts sessions → line ≡ dump_line dump.replica → IsReplica dump.replica → dump.first ≡ length lines + 1 → IsPhase [] dump.phase → IsOpen (lines ++ line ∷ []) sessions dump
open_first lines parts sessions dump line h e r f p = record {
  front = lines;
  inside = [];
  parts = parts;
  whole = ap (λ (l : List ℕ). lines ++ l ∷ []) e;
  count = f;
  named = r;
  audited = h;
  not_ended = tt;
  phase = p;
}

-- a dump ends
pub open_last : (lines : List (List ℕ)) (sessions : List Session) (dump : OpenDump) (line : List ℕ) (ops : List Op) → (is_open : IsOpen lines sessions dump) → AreDumped ops → text_of (is_open.inside ++ line ∷ []) ≡ inside_text ops → AreAudited (lines ++ line ∷ []) (is_open.parts ++ Dumped (dump_text dump.replica ops) ∷ []) sessions
open_last lines sessions dump line ops is_open dumped e = record {
  whole =
      let text = dump_text dump.replica ops in
      ap (λ (ls : List (List ℕ)). text_of (ls ++ line ∷ [])) is_open.whole
      ∙ ap text_of (append_assoc is_open.front (dump_line dump.replica ∷ is_open.inside) (line ∷ []))
      ∙ flat_map_both ended_line is_open.front (dump_line dump.replica ∷ (is_open.inside ++ line ∷ []))
      ∙ (λ i. is_open.audited.whole i ++ (ended_line (dump_line dump.replica) ++ e i))
      ∙ ap (λ (zs : List ℕ). flat_map part_text is_open.parts ++ zs) (append_assoc (dump_line dump.replica) (10 ∷ []) (inside_text ops))
      ∙ sym (flat_map_last part_text is_open.parts (Dumped text));
  right = each_last IsRightPart is_open.parts (Dumped (dump_text dump.replica ops)) is_open.audited.right (dump.replica, ops, is_open.named, dumped, refl);
  audited = λ session. sent_of_dump session (dump_text dump.replica ops) is_open.parts sessions (is_open.audited.audited session);
}

-- a dump is wrong
pub open_wrong : (lines more : List (List ℕ)) (sessions : List Session) (dump : OpenDump) (line : List ℕ) (number : ℕ) → (is_open : IsOpen lines sessions dump) → dump.first < number → number ≤ dump.first + 1 + length is_open.inside → IsNo (lines ++ line ∷ more) number
open_wrong lines more sessions dump line number is_open a b =
    let whole = ap (λ (ls : List (List ℕ)). ls ++ line ∷ more) is_open.whole ∙ append_assoc is_open.front (dump_line dump.replica ∷ is_open.inside) (line ∷ more) in
    let n = ap length whole in
    let m = length-append is_open.front (dump_line dump.replica ∷ (is_open.inside ++ line ∷ more)) in
    let k = length-append is_open.inside (line ∷ more) in
    let c = is_open.count in
    inr (record {
      front = is_open.front;
      inside = is_open.inside;
      back = line ∷ more;
      parts = is_open.parts;
      replica = dump.replica;
      whole = whole;
      named = is_open.named;
      right = audited_right is_open.front is_open.parts sessions is_open.audited;
      not_ended = is_open.not_ended;
      after_first = omega (arith, a, c);
      at_most = omega (arith, b, c);
      within = omega (arith, b, c, n, m, k);
    })

-- a dump is wrong, and the input ends
pub open_wrong_at_end : (lines : List (List ℕ)) (sessions : List Session) (dump : OpenDump) (number : ℕ) → (is_open : IsOpen lines sessions dump) → dump.first < number → number ≤ dump.first + length is_open.inside → IsNo lines number
open_wrong_at_end lines sessions dump number is_open a b =
    let n = ap length is_open.whole in
    let m = length-append is_open.front (dump_line dump.replica ∷ is_open.inside) in
    let c = is_open.count in
    inr (record {
      front = is_open.front;
      inside = is_open.inside;
      back = [];
      parts = is_open.parts;
      replica = dump.replica;
      whole = is_open.whole ∙ ap (λ (ls : List (List ℕ)). is_open.front ++ dump_line dump.replica ∷ ls) (sym (append-nil is_open.inside));
      named = is_open.named;
      right = audited_right is_open.front is_open.parts sessions is_open.audited;
      not_ended = is_open.not_ended;
      after_first = omega (arith, a, c);
      at_most = omega (arith, b, c);
      within = omega (arith, b, c, n, m);
    })
