-- At the end all characters of the text are out, and after an error those before one of them, and a beginning of it.
use Rattle.std.proofs.Common.{ap, sym, subst, ◌∙◌}
use Rattle.std.specs.Prelude.{flat_map}
use Rattle.std.specs.Io.KnownBytes.{Appends}
use Rattle.std.specs.Str.{chars}
use Rattle.std.proofs.lemmas.List.{map-id}
use Rattle.std.proofs.lemmas.Iterator.{YieldsList-from_chars}
use Rattle.std.proofs.lemmas.Iterator.Consumers.{YieldsList-end, YieldsList-so_far, YieldsList-turn}
use Rattle.ix_output.specs.Sinks.{AppendsFront}
use Rattle.ix_output.proofs.SinkLemmas.{on_err_always}
use Rattle.ix_command.specs.Refusals.{shown, shown_char}
use Rattle.ix_command.proofs.LineLemmas.{front_more, front_then, shown_cut}
use Rattle.ix_command.proofs.refusing.put_shown.Goals as goal

pub returns-in_err-put_char-clause-front : goal.returns-in_err-put_char-clause-front
unfolding shown
returns-in_err-put_char-clause-front g c =
    let whole = YieldsList-from_chars c.args.text.now c.utf8.text cc in
    let so_far = YieldsList-so_far whole c.loop-c.yielded _ c.loop-c.yielded_by in
    let turn = YieldsList-turn whole c.loop-c.yielded _ c.loop-c.yielded_by _ _ _ c.in-Some.is c.next.ensures.steps in
    let cut = shown_cut (chars c.args.text.now) c.loop-c.yielded _ so_far turn.0 turn.1 in
    on_err_always _ (subst (AppendsFront _ _) (sym cut.1) (front_then _ _ _ _ _ c.loop-c.invariant (front_more _ _ _ cut.0 c.in_err-put_char.ensures.front)))

pub returns-clause-whole : goal.returns-clause-whole
unfolding shown
returns-clause-whole g c =
    let all = YieldsList-end (YieldsList-from_chars c.args.text.now c.utf8.text cc) c.loop-c.yielded _ c.loop-c.yielded_by _ _ c.in-None.is c.next.ensures.steps in
    subst (Appends _ _) (ap (flat_map shown_char) (sym (map-id c.loop-c.yielded) ∙ all.0)) c.loop-c.invariant
