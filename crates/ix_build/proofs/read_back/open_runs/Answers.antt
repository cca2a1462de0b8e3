use Rattle.std.proofs.Common.{◌≡◌, ℕ, [], length, map, refl, sym, subst, arith}
use Rattle.std.specs.Prelude.{Some, slice_get}
use Rattle.std.proofs.lemmas.Option.{slice_get_read}
use Rattle.ix_run.specs.Heads.{Heading, heading_of}
use Rattle.ix_build.specs.ReadBack.{IsReadBack}
use Rattle.ix_build.specs.SavingLaws.{counts_since, saved_both, saved_none}
use Rattle.ix_build.specs.Stores.{CountsMore}
use Rattle.ix_build.proofs.ReadBackLemmas.{AreReadOf, all_read, kept_at, none_read, one_read, read_before, reading_within}
use Rattle.ix_build.proofs.UnreadLemmas.{tells_not_given}
use Rattle.ix_build.proofs.read_back.open_runs.Goals as goal

pub loop-place-init : goal.loop-place-init
loop-place-init g c =
    let remaining = g.T.Reader.Read.remaining in
    let store = c.args.store.now in
    record {
      read = none_read remaining (g.T.RunStore.back store) c.args.heads.now c.in-Ok.readers.items c.in-Ok.ensures.items;
      counted = c.in-Ok.ensures.len;
      room = c.in-Ok.ensures.capacity;
      store = saved_none g.T.RunStore.places g.T.RunStore.refusals g.T.RunStore.back store;
    }

pub returns-in-Err-clause-refused : goal.returns-in-Err-clause-refused
returns-in-Err-clause-refused g c = reading_within c.loop-place.place (length c.args.heads.now) c.in-Err.error c.loop-place-test.true c.in-Err.ensures.refused

pub returns-in-Err-clause-caused : goal.returns-in-Err-clause-caused
returns-in-Err-clause-caused g c =
    let inv = c.loop-place.invariant in
    let refusals = g.T.RunStore.refusals in
    let back = g.T.RunStore.back in
    let heads = c.args.heads.now in
    let place = c.loop-place.place in
    let store = c.args.store.now in
    let here = c.loop-place.store in
    let new = c.open_run.new.store in
    let head = c.index-heads-place.result in
    let at : slice_get heads place ≡ Some head = slice_get_read heads _ place head refl c.loop-place-test.true c.index-heads-place.is in
    let Own : ℕ → Heading → Type 0 = λ k heading. (k ≡ place) × (heading ≡ heading_of head) in
    let Kept : ℕ → Heading → Type 0 = λ k heading. slice_get (map heading_of heads) k ≡ Some heading in
    tells_not_given g.T.Reader.Read.remaining (CountsMore (refusals here) (refusals new)) (CountsMore (refusals store) (refusals new)) Own Kept (back here) (back store)
    (counts_since (refusals store) (refusals here) (refusals new) inv.store.counted c.open_run.ensures.store.counted)
    (kept_at heads place head at)
    (λ k bytes. (inv.store.keeps k bytes).0)
    c.in-Err.error c.in-Err.ensures.caused

pub returns-in-Err-clause-store : goal.returns-in-Err-clause-store
returns-in-Err-clause-store g c =
    saved_both g.T.RunStore.places g.T.RunStore.refusals g.T.RunStore.back c.args.store.now c.loop-place.store c.open_run.new.store [] [] c.loop-place.invariant.store c.open_run.ensures.store

pub loop-place-preserved : goal.loop-place-preserved
loop-place-preserved g c =
    let inv = c.loop-place.invariant in
    let remaining = g.T.Reader.Read.remaining in
    let places = g.T.RunStore.places in
    let refusals = g.T.RunStore.refusals in
    let back = g.T.RunStore.back in
    let heads = c.args.heads.now in
    let readers = c.loop-place.readers.items in
    let head = c.index-heads-place.result in
    let reader = c.in-Ok-open_run.reader in
    let counted : length readers ≡ c.loop-place.place = let many = inv.counted in omega (arith, many, c.loop-place.readers.ok.0) in
    let at : slice_get heads c.loop-place.place ≡ Some head = slice_get_read heads _ c.loop-place.place head refl c.loop-place-test.true c.index-heads-place.is in
    let here = read_before remaining (back c.args.store.now c.loop-place.place) (back c.loop-place.store c.loop-place.place) (heading_of head) reader (λ bytes. inv.store.keeps c.loop-place.place bytes) c.in-Ok-open_run.ensures.read in
    let At : ℕ → Type 0 = λ k. slice_get heads k ≡ Some head in
    let Here : ℕ → Type 0 = λ k. IsReadBack remaining (back c.args.store.now k) (heading_of head) reader in
    let more = one_read remaining (back c.args.store.now) heads readers head reader (subst At (sym counted) at) inv.read (subst Here (sym counted) here) in
    record {
      read = subst (AreReadOf remaining (back c.args.store.now) heads) (sym c.push_reserved.ensures.items) more;
      counted = let many = inv.counted in omega (arith, many, c.push_reserved.ensures.len);
      room = let room = inv.room in omega (arith, room, c.push_reserved.ensures.capacity);
      store = saved_both places refusals back c.args.store.now c.loop-place.store c.open_run.new.store [] [] inv.store c.open_run.ensures.store;
    }

pub returns-clause-read : goal.returns-clause-read
returns-clause-read g c =
    let inv = c.loop-place.invariant in
    let readers = c.loop-place.readers in
    let many = inv.counted in
    all_read g.T.Reader.Read.remaining (g.T.RunStore.back c.args.store.now) c.args.heads.now readers.items (omega (arith, many, readers.ok.0, c.loop-place-test.false)) inv.read
