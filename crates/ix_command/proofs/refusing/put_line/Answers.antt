-- After an error the pieces of the line before one of them are out, and a beginning of it.
use Rattle.std.proofs.Common.{sym, subst}
use Rattle.std.specs.Io.KnownBytes.{Appends}
use Rattle.ix_output.specs.Sinks.{AppendsFront}
use Rattle.ix_output.proofs.SinkLemmas.{appends_then, on_err_always}
use Rattle.ix_command.proofs.LineLemmas.{err_map, front_more, front_then, line_cut, ok_map}
use Rattle.ix_command.proofs.refusing.put_line.Goals as goal

pub returns-in_err-put_all-clause-front : goal.returns-in_err-put_all-clause-front
returns-in_err-put_all-clause-front g c =
    on_err_always _ (subst (AppendsFront _ _) (sym (line_cut c.args.head.now c.args.path.now c.args.tail.now c.utf8.head c.utf8.path))
    (front_more _ _ _ _ c.in_err-put_all.ensures.front))

pub returns-in_err-put_shown-clause-front : goal.returns-in_err-put_shown-clause-front
returns-in_err-put_shown-clause-front g c =
    on_err_always _ (subst (AppendsFront _ _) (sym (line_cut c.args.head.now c.args.path.now c.args.tail.now c.utf8.head c.utf8.path))
    (front_then _ _ _ _ _ c.in_ok-put_all.ensures.whole (front_more _ _ _ _ c.in_err-put_shown.ensures.front)))

pub returns-in_err-put_shown-2-clause-front : goal.returns-in_err-put_shown-2-clause-front
returns-in_err-put_shown-2-clause-front g c =
    on_err_always _ (subst (AppendsFront _ _) (sym (line_cut c.args.head.now c.args.path.now c.args.tail.now c.utf8.head c.utf8.path))
    (front_then _ _ _ _ _ c.in_ok-put_all.ensures.whole (front_then _ _ _ _ _ c.in_ok-put_shown.ensures.whole (front_more _ _ _ _ c.in_err-put_shown-2.ensures.front))))

pub returns-in_err-put_shown-3-clause-front : goal.returns-in_err-put_shown-3-clause-front
returns-in_err-put_shown-3-clause-front g c =
    on_err_always _ (subst (AppendsFront _ _) (sym (line_cut c.args.head.now c.args.path.now c.args.tail.now c.utf8.head c.utf8.path))
    (front_then _ _ _ _ _ c.in_ok-put_all.ensures.whole (front_then _ _ _ _ _ c.in_ok-put_shown.ensures.whole
    (front_then _ _ _ _ _ c.in_ok-put_shown-2.ensures.whole (front_more _ _ _ _ c.in_err-put_shown-3.ensures.front)))))

pub returns-clause-whole : goal.returns-clause-whole
returns-clause-whole g c =
    ok_map c.put_all-2.result (λ last. subst (Appends _ _) (sym (line_cut c.args.head.now c.args.path.now c.args.tail.now c.utf8.head c.utf8.path))
    (appends_then _ _ _ _ _ c.in_ok-put_all.ensures.whole (appends_then _ _ _ _ _ c.in_ok-put_shown.ensures.whole
    (appends_then _ _ _ _ _ c.in_ok-put_shown-2.ensures.whole (appends_then _ _ _ _ _ c.in_ok-put_shown-3.ensures.whole last))))) c.put_all-2.ensures.whole

pub returns-clause-front : goal.returns-clause-front
returns-clause-front g c =
    err_map c.put_all-2.result (λ last. subst (AppendsFront _ _) (sym (line_cut c.args.head.now c.args.path.now c.args.tail.now c.utf8.head c.utf8.path))
    (front_then _ _ _ _ _ c.in_ok-put_all.ensures.whole (front_then _ _ _ _ _ c.in_ok-put_shown.ensures.whole
    (front_then _ _ _ _ _ c.in_ok-put_shown-2.ensures.whole (front_then _ _ _ _ _ c.in_ok-put_shown-3.ensures.whole last))))) c.put_all-2.ensures.front
