use Rattle.std.proofs.Common.{◌≡◌, ◌↔◌, ℕ, true, false, List, [], ◌∷◌, ◌++◌, Option, Some, None, Result, Ok, Err, IfOk, IsTrue, Bool, refl, sym, ap, ◌∙◌, append_assoc, append-nil, arith, codes}
use Rattle.std.specs.Fmt.{decimal}
use Rattle.mail_script.proofs.FieldLemmas.{cut_none}
use Rattle.mail_script.specs.Fields.{IsId, IsReplica, id_text}
use Rattle.mail_script.specs.Outcomes.{join_text, outcome_text, result_text, settled_text}
use Rattle.mail_script.specs.declared.outcome_line.BrokenRule.TheVariants.{OwnEntry, UncoveredId, UnlawfulName, UnlawfulFlags, InboxDeleted, OldIdCount}
use Rattle.mail_script.specs.declared.outcome_line.DeliveryResult.{DeliveryResult}
use Rattle.mail_script.specs.declared.outcome_line.DeliveryResult.TheVariants.{Applied, Held, Repeat, Conflict, HeldFull, Exhausted, NoMemory as NoMemoryForIt}
use Rattle.mail_script.specs.declared.outcome_line.JoinResult.{JoinResult}
use Rattle.mail_script.specs.declared.outcome_line.JoinResult.TheVariants.{Done as DoneJoining, Own, Exhausted as ExhaustedByJoin, NoMemory as NoMemoryToJoin}
use Rattle.mail_script.specs.declared.outcome_line.OutcomeLine.{OutcomeLine}
use Rattle.mail_script.specs.declared.outcome_line.OutcomeLine.TheVariants.{Delivered, Forged, Unsound, Drained, Settled, Agreed, Joined, BadScript, CannotRead, NoMemory}
use Rattle.mail_script.specs.declared.outcome_line.SettleResult.{SettleResult}
use Rattle.mail_script.specs.declared.outcome_line.SettleResult.TheVariants.{Done, Conflict as ConflictOfTwo, Exhausted as ExhaustedInIt, NoMemory as NoMemoryToSettle}
use Rattle.tags_clocks.specs.declared.id.OpId.{OpId}
use Rattle.text_fields.proofs.FieldLemmas.{bound, cut_complete, decimal_lacks, id_complete, id_lacks, number_complete, replica_complete}
use Rattle.text_fields.specs.FieldReading.{◌>>=◌, cut_at, id_at, number_at, replica_at}
use Rattle.mail_audit.specs.ResultReading.{agreed_at, applied_at, counted_at, counted_by, delivered_at, drained_at, fields_at, forged_at, join_result_at, join_result_by, joined_at, joined_plainly_at, outcome_at, plain_at, replicas_at, result_at, result_by, settle_result_at, settle_result_by, settled_at, settled_plainly_at, unsound_at, valued_at}
use Rattle.mail_audit.specs.Results.{IsCount, IsDeliveryResult, IsJoinResult, IsReportable, IsResult, IsSettleResult}
use Rattle.mail_audit.specs.declared.results.AppliedCount.{AppliedCount}

-- The text of an outcome is read as that outcome.

counted_alone : (n : ℕ) → IsCount n → counted_at (decimal n) ≡ Some (record { count = n; stalled = false })
unfolding counted_at counted_by
counted_alone n h =
    ap (λ (cut : Option (List ℕ × List ℕ)). counted_by cut (decimal n)) (cut_none 32 (decimal n) (decimal_lacks 32 n refl h))
    ∙ bound (number_at 18446744073709551615 (decimal n)) _ n (number_complete 18446744073709551615 n (omega arith) (omega (arith, h)))

counted_stalled : (n : ℕ) → IsCount n → counted_at (decimal n ++ codes " stalled") ≡ Some (record { count = n; stalled = true })
unfolding counted_at counted_by
counted_stalled n h =
    ap (λ (cut : Option (List ℕ × List ℕ)). counted_by cut (decimal n ++ codes " stalled")) (cut_complete 32 (decimal n) (codes "stalled") (decimal_lacks 32 n refl h))
    ∙ bound (number_at 18446744073709551615 (decimal n)) _ n (number_complete 18446744073709551615 n (omega arith) (omega (arith, h)))

result_complete : (result : DeliveryResult) → IsDeliveryResult result → result_at (result_text result) ≡ Some result
unfolding result_at result_by plain_at valued_at
result_complete (Applied n true) h = bound (counted_at (decimal n ++ codes " stalled")) _ (record { count = n; stalled = true }) (counted_stalled n h)
result_complete (Applied n false) h =
    ap applied_at (append-nil (decimal n)) ∙ bound (counted_at (decimal n)) _ (record { count = n; stalled = false }) (counted_alone n h)
result_complete (Held true) h = refl
result_complete (Held false) h = refl
result_complete (Repeat true) h = refl
result_complete (Repeat false) h = refl
result_complete (Conflict id) h = bound (id_at (id_text id)) _ id (id_complete id h)
result_complete HeldFull h = refl
result_complete Exhausted h = refl
result_complete NoMemoryForIt h = refl

-- an id, a replica and a result, with the separators between them
to_parts : (id : OpId) (r : ℕ) (reported : List ℕ) → (id_text id ++ (32 ∷ (decimal r ++ codes ": "))) ++ reported ≡ id_text id ++ 32 ∷ (decimal r ++ 58 ∷ 32 ∷ reported)
to_parts id r reported = append_assoc (id_text id) (32 ∷ (decimal r ++ codes ": ")) reported ∙ ap (λ (xs : List ℕ). id_text id ++ 32 ∷ xs) (append_assoc (decimal r) (codes ": ") reported)

delivered_complete : (id : OpId) (r : ℕ) (result : DeliveryResult) → IsId id → IsReplica r → IsDeliveryResult result → delivered_at ((id_text id ++ (32 ∷ (decimal r ++ codes ": "))) ++ result_text result) ≡ Some (Delivered id r result)
unfolding delivered_at
delivered_complete id r result i s h =
    let reported = result_text result in
    let tail = decimal r ++ 58 ∷ 32 ∷ reported in
    ap delivered_at (to_parts id r reported)
    ∙ bound (cut_at 32 (id_text id ++ 32 ∷ tail)) _ (id_text id, tail) (cut_complete 32 (id_text id) tail (id_lacks 32 id refl refl i))
    ∙ bound (cut_at 58 tail) _ (decimal r, 32 ∷ reported) (cut_complete 58 (decimal r) (32 ∷ reported) (decimal_lacks 58 r refl (omega (arith, s.1))))
    ∙ bound (id_at (id_text id)) _ id (id_complete id i)
    ∙ bound (replica_at (decimal r)) _ r (replica_complete r s)
    ∙ bound (result_at reported) _ result (result_complete result h)

forged_complete : (id : OpId) (r : ℕ) (result : DeliveryResult) → IsId id → IsReplica r → IsDeliveryResult result → forged_at ((id_text id ++ (32 ∷ (decimal r ++ codes ": "))) ++ result_text result) ≡ Some (Forged id r result)
unfolding forged_at
forged_complete id r result i s h =
    let reported = result_text result in
    let tail = decimal r ++ 58 ∷ 32 ∷ reported in
    ap forged_at (to_parts id r reported)
    ∙ bound (cut_at 32 (id_text id ++ 32 ∷ tail)) _ (id_text id, tail) (cut_complete 32 (id_text id) tail (id_lacks 32 id refl refl i))
    ∙ bound (cut_at 58 tail) _ (decimal r, 32 ∷ reported) (cut_complete 58 (decimal r) (32 ∷ reported) (decimal_lacks 58 r refl (omega (arith, s.1))))
    ∙ bound (id_at (id_text id)) _ id (id_complete id i)
    ∙ bound (replica_at (decimal r)) _ r (replica_complete r s)
    ∙ bound (result_at reported) _ result (result_complete result h)

drained_by : (r : ℕ) (value : List ℕ) (c : AppliedCount) → IsReplica r → counted_at value ≡ Some c → drained_at (decimal r ++ (codes ": " ++ (codes "Applied " ++ value))) ≡ Some (Drained r c.count c.stalled)
unfolding drained_at
drained_by r value c s h =
    bound (cut_at 58 (decimal r ++ 58 ∷ 32 ∷ (codes "Applied " ++ value))) _ (decimal r, 32 ∷ (codes "Applied " ++ value)) (cut_complete 58 (decimal r) (32 ∷ (codes "Applied " ++ value)) (decimal_lacks 58 r refl (omega (arith, s.1))))
    ∙ bound (replica_at (decimal r)) _ r (replica_complete r s)
    ∙ bound (counted_at value) _ c h

settled_complete : (result : SettleResult) → IsSettleResult result → settled_at (settled_text result) ≡ Some (Settled result)
unfolding settled_at settle_result_at settle_result_by settled_plainly_at
settled_complete Done h = refl
settled_complete (ConflictOfTwo id) h = ap (λ (o : Option SettleResult). o >>= (λ result. Some (Settled result))) (bound (id_at (id_text id)) (λ id. Some (ConflictOfTwo id)) id (id_complete id h))
settled_complete ExhaustedInIt h = refl
settled_complete NoMemoryToSettle h = refl

-- two replicas and a result, with the separators between them
pair_parts : (r s : ℕ) (reported : List ℕ) → (decimal r ++ (32 ∷ (decimal s ++ codes ": "))) ++ reported ≡ decimal r ++ 32 ∷ (decimal s ++ 58 ∷ 32 ∷ reported)
pair_parts r s reported = append_assoc (decimal r) (32 ∷ (decimal s ++ codes ": ")) reported ∙ ap (λ (xs : List ℕ). decimal r ++ 32 ∷ xs) (append_assoc (decimal s) (codes ": ") reported)

agreed_by : (r s : ℕ) (reported : List ℕ) → agreed_at ((decimal r ++ (32 ∷ (decimal s ++ codes ": "))) ++ reported) ≡ agreed_at (decimal r ++ 32 ∷ (decimal s ++ 58 ∷ 32 ∷ reported))
agreed_by r s reported = ap agreed_at (pair_parts r s reported)

agreed_yes : (r s : ℕ) → IsReplica r → IsReplica s → agreed_at (decimal r ++ 32 ∷ (decimal s ++ 58 ∷ 32 ∷ codes "yes")) ≡ Some (Agreed r s true)
unfolding agreed_at
agreed_yes r s i j =
    bound (cut_at 32 (decimal r ++ 32 ∷ (decimal s ++ 58 ∷ 32 ∷ codes "yes"))) _ (decimal r, decimal s ++ 58 ∷ 32 ∷ codes "yes") (cut_complete 32 (decimal r) (decimal s ++ 58 ∷ 32 ∷ codes "yes") (decimal_lacks 32 r refl (omega (arith, i.1))))
    ∙ bound (cut_at 58 (decimal s ++ 58 ∷ 32 ∷ codes "yes")) _ (decimal s, 32 ∷ codes "yes") (cut_complete 58 (decimal s) (32 ∷ codes "yes") (decimal_lacks 58 s refl (omega (arith, j.1))))
    ∙ bound (replica_at (decimal r)) _ r (replica_complete r i)
    ∙ bound (replica_at (decimal s)) _ s (replica_complete s j)

agreed_no : (r s : ℕ) → IsReplica r → IsReplica s → agreed_at (decimal r ++ 32 ∷ (decimal s ++ 58 ∷ 32 ∷ codes "no")) ≡ Some (Agreed r s false)
unfolding agreed_at
agreed_no r s i j =
    bound (cut_at 32 (decimal r ++ 32 ∷ (decimal s ++ 58 ∷ 32 ∷ codes "no"))) _ (decimal r, decimal s ++ 58 ∷ 32 ∷ codes "no") (cut_complete 32 (decimal r) (decimal s ++ 58 ∷ 32 ∷ codes "no") (decimal_lacks 32 r refl (omega (arith, i.1))))
    ∙ bound (cut_at 58 (decimal s ++ 58 ∷ 32 ∷ codes "no")) _ (decimal s, 32 ∷ codes "no") (cut_complete 58 (decimal s) (32 ∷ codes "no") (decimal_lacks 58 s refl (omega (arith, j.1))))
    ∙ bound (replica_at (decimal r)) _ r (replica_complete r i)
    ∙ bound (replica_at (decimal s)) _ s (replica_complete s j)

join_result_complete : (result : JoinResult) → IsJoinResult result → join_result_at (join_text result) ≡ Some result
unfolding join_result_at join_result_by joined_plainly_at
join_result_complete DoneJoining h = refl
join_result_complete (Own id) h = bound (id_at (id_text id)) (λ id. Some (Own id)) id (id_complete id h)
join_result_complete ExhaustedByJoin h = refl
join_result_complete NoMemoryToJoin h = refl

joined_complete : (r s : ℕ) (result : JoinResult) → IsReplica r → IsReplica s → IsJoinResult result → joined_at ((decimal r ++ (32 ∷ (decimal s ++ codes ": "))) ++ join_text result) ≡ Some (Joined r s result)
unfolding joined_at
joined_complete r s result i j h =
    let reported = join_text result in
    let tail = decimal s ++ 58 ∷ 32 ∷ reported in
    ap joined_at (pair_parts r s reported)
    ∙ bound (cut_at 32 (decimal r ++ 32 ∷ tail)) _ (decimal r, tail) (cut_complete 32 (decimal r) tail (decimal_lacks 32 r refl (omega (arith, i.1))))
    ∙ bound (cut_at 58 tail) _ (decimal s, 32 ∷ reported) (cut_complete 58 (decimal s) (32 ∷ reported) (decimal_lacks 58 s refl (omega (arith, j.1))))
    ∙ bound (replica_at (decimal r)) _ r (replica_complete r i)
    ∙ bound (replica_at (decimal s)) _ s (replica_complete s j)
    ∙ bound (join_result_at reported) _ result (join_result_complete result h)

pub outcome_complete : (reported : OutcomeLine) → IsReportable reported → outcome_at (outcome_text reported) ≡ Some reported
unfolding outcome_at fields_at replicas_at unsound_at
outcome_complete (Delivered id r result) h = delivered_complete id r result h.0 h.1 h.2
outcome_complete (Forged id r result) h = forged_complete id r result h.0 h.1 h.2
outcome_complete (Unsound OwnEntry) h = refl
outcome_complete (Unsound UncoveredId) h = refl
outcome_complete (Unsound UnlawfulName) h = refl
outcome_complete (Unsound UnlawfulFlags) h = refl
outcome_complete (Unsound InboxDeleted) h = refl
outcome_complete (Unsound OldIdCount) h = refl
outcome_complete (Drained r n true) h = drained_by r (decimal n ++ codes " stalled") (record { count = n; stalled = true }) h.0 (counted_stalled n h.1)
outcome_complete (Drained r n false) h = drained_by r (decimal n ++ []) (record { count = n; stalled = false }) h.0 (ap counted_at (append-nil (decimal n)) ∙ counted_alone n h.1)
outcome_complete (Settled result) h = settled_complete result h
outcome_complete (Agreed r s true) h = agreed_by r s (codes "yes") ∙ agreed_yes r s h.0 h.1
outcome_complete (Agreed r s false) h = agreed_by r s (codes "no") ∙ agreed_no r s h.0 h.1
outcome_complete (Joined r s result) h = joined_complete r s result h.0 h.1 h.2
outcome_complete (BadScript line) h = absurd h
outcome_complete CannotRead h = absurd h
outcome_complete NoMemory h = absurd h

-- if a line is read as an outcome, it reports a result exactly when it is that outcome's text
pub result_if : {E : Type 0} (line : List ℕ) (reported : OutcomeLine) (result : Result Bool E) → Some reported ≡ outcome_at line → IsReportable reported → IfOk result (λ matches. IsTrue matches ↔ (line ≡ outcome_text reported)) → IfOk result (λ matches. IsTrue matches ↔ IsResult line)
result_if line reported (Err e) s p h = tt
result_if line reported (Ok matches) s p h = (
  λ t. (reported, p, h.0 t),
  λ r.
      let both : ◌≡◌ {A = Option OutcomeLine} (Some reported) (Some r.0) = s ∙ ap outcome_at r.2 ∙ outcome_complete r.0 r.1 in
      let same : reported ≡ r.0 = cc in
      h.1 (r.2 ∙ ap outcome_text (sym same)),
)

-- if a line is read as no outcome, it reports none
pub no_result : (line : List ℕ) → ◌≡◌ {A = Option OutcomeLine} None (outcome_at line) → IsTrue false ↔ IsResult line
no_result line s = (
  λ t. absurd (let k : false ≡ true = t in cc),
  λ r. absurd (let k : ◌≡◌ {A = Option OutcomeLine} None (Some r.0) = s ∙ ap outcome_at r.2 ∙ outcome_complete r.0 r.1 in cc),
)
