-- The front of what is held is taken.
use Rattle.std.proofs.Common.{take, sym, arith}
use Rattle.std.proofs.lemmas.List.{drop-drop, length-drop, length-take}
use Rattle.ix_run_text.specs.Inputs.{bytes_held, known_left}
use Rattle.ix_run_text.proofs.InputLemmas.{front_taken}
use Rattle.ix_run_text.proofs.input.Input.pass.Goals as goal

pub overflow_add-self : goal.overflow_add-self
unfolding bytes_held
overflow_add-self g c =
    let input = c.args.self.now in
    let few = c.requires in
    let within = input.within in
    omega (arith, few, within, length-drop input.start (take input.end input.buffer.items), length-take input.end input.buffer.items)

pub invariant_of-self : goal.invariant_of-self
unfolding bytes_held
invariant_of-self g c =
    let input = c.args.self.now in
    let few = c.requires in
    let within = input.within in
    let ordered = input.ordered in
    record {
      ordered = omega (arith, few, within, ordered, length-drop input.start (take input.end input.buffer.items), length-take input.end input.buffer.items);
      within = within;
      room = input.room;
    }

pub returns-clause-taken : goal.returns-clause-taken
unfolding known_left bytes_held
returns-clause-taken g c =
    let input = c.args.self.now in
    front_taken (g.R.Read.remaining input.reader) input.buffer.items input.start input.end c.args.count

pub returns-clause-held : goal.returns-clause-held
unfolding bytes_held
returns-clause-held g c =
    let input = c.args.self.now in
    sym (drop-drop c.args.count input.start (take input.end input.buffer.items))
