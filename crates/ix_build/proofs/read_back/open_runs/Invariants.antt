use Rattle.std.proofs.Common.{◌≡◌, ◌≤◌, [], length, vec_len}
use Rattle.std.specs.Vec.{vec_capacity}
use Rattle.ix_build.specs.SavingMakers.{HasSaved}
use Rattle.ix_build.proofs.ReadBackLemmas.{AreReadOf}
use Rattle.ix_build.proofs.read_back.open_runs.Given as goal

abbrev pub invariant-loop-place : goal.invariant-loop-place
invariant-loop-place g l = record {
  read : AreReadOf g.T.Reader.Read.remaining (g.T.RunStore.back l.fn.store) l.heads l.readers.items;
  counted : vec_len l.readers ≡ l.place;
  room : length l.heads ≤ vec_capacity l.readers;
  store : HasSaved g.T.RunStore.places g.T.RunStore.refusals g.T.RunStore.back l.fn.store l.store [];
}
