-- After an error the pieces of a control character before one of them are out, and a beginning of it.
use Rattle.std.proofs.Common.{rules, ◌≡◌, true, sym, subst}
use Rattle.std.specs.Char.{is_control}
use Rattle.ix_output.specs.Sinks.{AppendsFront}
use Rattle.ix_output.proofs.SinkLemmas.{on_err_always}
use Rattle.ix_command.proofs.LineLemmas.{control_cut, err_map, front_more, front_then}
use Rattle.ix_command.proofs.refusing.put_char.Goals as goal

pub returns-in_err-put_all-clause-front : goal.returns-in_err-put_all-clause-front
returns-in_err-put_all-clause-front g c =
    let is : is_control c.args.c ≡ true = search rules in
    on_err_always _ (subst (AppendsFront _ _) (sym (control_cut c.args.c is)) (front_more _ _ _ _ c.in_err-put_all.ensures.front))

pub returns-in_err-put_digit-clause-front : goal.returns-in_err-put_digit-clause-front
returns-in_err-put_digit-clause-front g c =
    let is : is_control c.args.c ≡ true = search rules in
    on_err_always _ (subst (AppendsFront _ _) (sym (control_cut c.args.c is))
    (front_then _ _ _ _ _ c.in_ok-put_all.ensures.whole (front_more _ _ _ _ c.in_err-put_digit.ensures.front)))

pub returns-clause-front : goal.returns-clause-front
returns-clause-front g c =
    let is : is_control c.args.c ≡ true = search rules in
    err_map _ (λ front. subst (AppendsFront _ _) (sym (control_cut c.args.c is))
    (front_then _ _ _ _ _ c.in_ok-put_all.ensures.whole (front_then _ _ _ _ _ c.in_ok-put_digit.ensures.whole front))) c.put_digit-2.ensures.front
