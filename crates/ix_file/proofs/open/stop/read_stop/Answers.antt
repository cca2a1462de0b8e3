use Rattle.std.proofs.Common.{◌<◌, length, map, inl, inr, string_bytes, ⊎_elim, arith}
use Rattle.std.proofs.lemmas.Bool.Decides.{nat_tests}
use Rattle.std.proofs.lemmas.Result.{err_from_is_err_and}
use Rattle.ix_file.proofs.StopReading.{no_stop_term, stop_of_none, stop_more, no_stop}
use Rattle.ix_file.proofs.open.stop.read_stop.Goals as goal

pub loop-left-init : goal.loop-left-init
loop-left-init c = rw c.in_ok-terms.ensures.items (record { lawful = no_stop_term; read = stop_of_none c.args.section.now })

pub returns-in_err-left-clause-refused : goal.returns-in_err-left-clause-refused
returns-in_err-left-clause-refused c =
    let p = err_from_is_err_and c.from_residual-in_err-left.result c.from_residual-in_err-left.ensures.1 in
    let some : 0 < length c.loop-left.left.now = grind (arith, nat_tests, c.is_empty.ensures, c.loop-left-test.true) in
    rw (p.1, p.2)
    (⊎_elim inl
    (λ refused. inr (no_stop c.args.section.now (map string_bytes c.loop-left.terms.items) c.loop-left.left.now c.loop-left.invariant.read some refused))
    c.in_err-left.ensures.refused)

pub loop-left-preserved : goal.loop-left-preserved
loop-left-preserved c =
    let h = c.in_ok-left.ensures.term in
    record {
      lawful = c.in_ok-left.ensures.lawful;
      read = rw h.1 (stop_more c.args.section.now (map string_bytes c.loop-left.terms.items) h.0 c.loop-left.left.now c.in_ok-left.left.now c.loop-left.invariant.read h.2);
    }
