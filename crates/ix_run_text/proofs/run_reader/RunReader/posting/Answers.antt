-- The posting that is decoded is the first that is left.
use Rattle.std.proofs.Common.{List, ℕ, take, ap, sym, subst, arith}
use Rattle.ix_vbyte.specs.Walking.{ReadsPosting}
use Rattle.ix_run_text.specs.Inputs.{bytes_held}
use Rattle.ix_run_text.proofs.FirstPostings.{others_left, posting_begins, rest_held, rest_within, takes_first, took}
use Rattle.ix_run_text.proofs.ReadSteps.{term_at_hand}
use Rattle.ix_run_text.proofs.TakenLists.{ahead_taken, behind_taken, faces_taken}
use Rattle.ix_run_text.proofs.run_reader.RunReader.posting.Goals as goal

pub first_posting-posting-requires : goal.first_posting-posting-requires
first_posting-posting-requires g c = posting_begins c.args.self.now c.requires _ (ap (take c.args.self.now.bytes) c.held.ensures)

pub overflow_sub-self : goal.overflow_sub-self
overflow_sub-self g c = rest_within c.args.self.now c.requires _ (ap (take c.args.self.now.bytes) c.held.ensures) _ _ _ c.first_posting-posting.ensures

pub pass-requires : goal.pass-requires
pass-requires g c = (let within = c.args.self.now.held in omega (arith, within))

pub overflow_add-self : goal.overflow_add-self
overflow_add-self g c = (let fits = (took c.args.self.now c.requires _ (ap (take c.args.self.now.bytes) c.held.ensures) _ _ _ c.first_posting-posting.ensures).fits in omega (arith, fits))

pub invariant_of-self : goal.invariant_of-self
invariant_of-self g c =
    let self = c.args.self.now in
    let left = others_left self c.requires _ (ap (take self.bytes) c.held.ensures) _ _ _ c.first_posting-posting.ensures (bytes_held c.pass.new.self) c.pass.ensures.held in
    record {
      table = self.table;
      few_documents = self.few_documents;
      few_tokens = self.few_tokens;
      narrow = self.narrow;
      room = self.room;
      far = self.far;
      drained = λ not. absurd (not (term_at_hand self.place self.documents self.drained c.requires));
      held = rest_held self c.requires _ (ap (take self.bytes) c.held.ensures) _ _ _ c.first_posting-posting.ensures (bytes_held c.pass.new.self) c.pass.ensures.held;
      left = left;
    }

pub returns-clause-given : goal.returns-clause-given
returns-clause-given g c =
    let self = c.args.self.now in
    let list : List ℕ = take self.bytes c.held.result.now in
    let document = c.first_posting-posting.result.0.document in
    let rest = c.first_posting-posting.result.1.now in
    let reads = subst (λ (positions : List ℕ). ReadsPosting self.next list document positions rest) (sym c.in_ok-read_positions.ensures.ok) c.first_posting-posting.ensures in
    let takes =
    takes_first self c.requires list (ap (take self.bytes) c.held.ensures) document c.read_positions.new.positions.items rest reads g.R.Read.remaining c.pass.new.self c.pass.ensures.taken c.pass.ensures.held in
    record {
      yielded = λ postings entries may. ahead_taken takes postings entries may;
      given = λ finished entry read. behind_taken takes finished entry read;
    }

pub returns-clause-accepted : goal.returns-clause-accepted
returns-clause-accepted g c postings entries faces =
    let self = c.args.self.now in
    let list : List ℕ = take self.bytes c.held.result.now in
    let document = c.first_posting-posting.result.0.document in
    let rest = c.first_posting-posting.result.1.now in
    let reads = subst (λ (positions : List ℕ). ReadsPosting self.next list document positions rest) (sym c.in_ok-read_positions.ensures.ok) c.first_posting-posting.ensures in
    let takes =
    takes_first self c.requires list (ap (take self.bytes) c.held.ensures) document c.read_positions.new.positions.items rest reads g.R.Read.remaining c.pass.new.self c.pass.ensures.taken c.pass.ensures.held in
    let found = faces_taken takes postings entries faces in
    record { rest = found.0; parts = found.1.0; ahead = found.1.1 }
