use Rattle.std.proofs.Common.{◌≡◌, arith, length, refl, sym}
use Rattle.op_log.proofs.RecoveryLemmas.{recovered_at_end, read_entry_more, committed_after_commit, committed_after_other, log_fault, unsound_line}
use Rattle.op_log.proofs.recovery.read_entries.Goals as goal

pub returns-in-Err-NotAnEntry-clause-fault : goal.returns-in-Err-NotAnEntry-clause-fault
returns-in-Err-NotAnEntry-clause-fault c =
    log_fault c.args.log.now _ c.in-Some.text.now c.line_fault.result
    (unsound_line c.args.log.now c.loop-text.rest.now c.in-Some.text.now c.in-Some.after.now c.loop-text.entries.items _ c.loop-text.invariant.way c.in-Some.ensures.0 c.in-Some.ensures.1
    (λ entry h e. let z = c.in-Err-NotAnEntry.ensures.only entry h e in absurd cc) refl)
    c.line_fault.ensures

pub loop-text-preserved-then-ends : goal.loop-text-preserved-then-ends
loop-text-preserved-then-ends c =
    let old = c.loop-text.entries.items in
    let new = c.push.new.self.items in
    let way = read_entry_more c.args.log.now c.loop-text.rest.now c.in-Some.text.now c.in-Some.after.now old new c.in-Ok.entry c.loop-text.invariant.way c.in-Some.ensures.0 c.in-Some.ensures.1
    c.in-Ok.ensures.sound.0 c.in-Ok.ensures.sound.1 c.in_ok-push.ensures.items in
    let long : c.len-count.result ≡ length new = omega (arith, c.len-count.ensures, c.push.new.self.ok.0) in
    record {
      way = way;
      kept = committed_after_commit c.args.log.now c.in-Some.after.now old new c.in-Ok.entry c.len-count.result _ way c.in_ok-push.ensures.items (sym c.if-ends.ensures) long refl;
    }

pub loop-text-preserved : goal.loop-text-preserved
loop-text-preserved c =
    let old = c.loop-text.entries.items in
    let new = c.push.new.self.items in
    record {
      way = read_entry_more c.args.log.now c.loop-text.rest.now c.in-Some.text.now c.in-Some.after.now old new c.in-Ok.entry c.loop-text.invariant.way c.in-Some.ensures.0 c.in-Some.ensures.1
          c.in-Ok.ensures.sound.0 c.in-Ok.ensures.sound.1 c.in_ok-push.ensures.items;
      kept = committed_after_other old new c.in-Ok.entry c.loop-text.count c.loop-text.octets c.loop-text.invariant.kept c.in_ok-push.ensures.items (sym c.if-ends.ensures);
    }

pub returns-clause-read : goal.returns-clause-read
returns-clause-read c =
    recovered_at_end c.args.log.now c.loop-text.rest.now c.loop-text.entries.items c.truncate.new.self.items c.loop-text.count c.loop-text.octets c.loop-text.invariant.way c.loop-text.invariant.kept
    c.in_default.ensures c.truncate.ensures.items
