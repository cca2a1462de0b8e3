use Rattle.std.proofs.Common.{sym, subst, arith, IsUtf8, false-eqb}
use Rattle.std.proofs.lemmas.Bool.{eqb-true}
use Rattle.std.proofs.lemmas.Result.{err_from_is_err_and}
use Rattle.std.proofs.lemmas.Str.{IsUtf8-drop}
use Rattle.ix_query_text.proofs.LexemeLists.{at_start, at_end, after_turn, fault_here}
use Rattle.ix_query_text.proofs.Readings.{fails_at}
use Rattle.ix_query_text.proofs.lexeme.lexemes.Goals as goal

pub loop-rest-init : goal.loop-rest-init
loop-rest-init c = record { text = c.utf8.text; lexed = rw c.new-found.ensures.items (at_start c.args.text.now) }

pub returns-in_err-front : goal.returns-in_err-front
returns-in_err-front c =
    let p = err_from_is_err_and c.from_residual.result c.from_residual.ensures.1 in
    rw (p.1, p.2) (fails_at _ _ _ c.loop-rest.invariant.lexed.reading (fault_here _ _ _ _ (omega (arith, false-eqb _ 0 c.loop-rest-test.ensures)) c.in_err-front.ensures.reading))

pub loop-rest-preserved : goal.loop-rest-preserved
loop-rest-preserved c = record {
  text = subst IsUtf8 (sym c.split_at.ensures.back) (IsUtf8-drop _ _ c.loop-rest.invariant.text c.in_ok-front.ensures.cut);
  lexed = after_turn _ _ _ _ _ _ _ _ c.loop-rest.invariant.lexed (omega (arith, false-eqb _ 0 c.loop-rest-test.ensures)) c.in_ok-front.ensures.progress c.in_ok-front.ensures.cut.0 c.in_ok-front.ensures.reading c.in_ok-keep.ensures.kept c.split_at.ensures.back;
}

pub returns : goal.returns
returns c = at_end _ _ _ _ c.loop-rest.invariant.lexed (eqb-true _ 0 (sym c.loop-rest-test.ensures))
