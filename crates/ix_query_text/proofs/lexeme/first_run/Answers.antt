use Rattle.std.proofs.Common.{sym, ◌∙◌, subst}
use Rattle.std.specs.Prelude.{IsCharBoundary}
use Rattle.ix_query_text.proofs.Lexing.{run_cut, end_of_run}
use Rattle.ix_query_text.proofs.lexeme.first_run.Goals as goal

pub split_at-requires : goal.split_at-requires
split_at-requires c = subst (IsCharBoundary c.args.text.now) (sym (end_of_run _ _ _ _ c.as_bytes.ensures.value c.run_end.ensures c.unwrap_or-end.ensures)) (run_cut c.args.text.now)

pub returns-clause-len : goal.returns-clause-len
returns-clause-len c = c.split_at.ensures.front_len ∙ end_of_run _ _ _ _ c.as_bytes.ensures.value c.run_end.ensures c.unwrap_or-end.ensures

pub returns-clause-cut : goal.returns-clause-cut
returns-clause-cut c = subst (IsCharBoundary c.args.text.now) (sym (c.split_at.ensures.front_len ∙ end_of_run _ _ _ _ c.as_bytes.ensures.value c.run_end.ensures c.unwrap_or-end.ensures)) (run_cut c.args.text.now)
