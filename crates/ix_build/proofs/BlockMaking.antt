-- What makers of blocks come back with: a run for each block, and no block refused.
use Rattle.std.proofs.Common.{◌≡◌, ℕ, suc, ◌+◌, ◌<◌, Bool, cond, List, [], ◌∷◌, length, All, Contains, refl, ap, subst, ◌∙◌, ⊎_elim, arith}
use Rattle.std.specs.Prelude.{Some, nat_eq, nat_lt, slice_get}
use Rattle.std.proofs.lemmas.Bool.Decides.{nat_tests}
use Rattle.std.proofs.lemmas.List.Elements.{All-contains, Contains-append_cases}
use Rattle.std.proofs.lemmas.List.Sums.{sum_by-cons}
use Rattle.ix_board.proofs.Closings.{got-All}
use Rattle.ix_board.proofs.SliceGets.{contains_cases}
use Rattle.ix_text.specs.Collections.{NamedText}
use Rattle.ix_run.specs.Runs.{RunValue}
use Rattle.ix_build.specs.declared.block_maker.BlockMaker.{BlockMaker}
use Rattle.ix_pool.specs.declared.maker.MakeError.TheVariants.{Refused}
use Rattle.ix_pool.specs.declared.maker.Asked.{Asked}
use Rattle.ix_pool.specs.Askings.{asking, asks, times_asked}
use Rattle.ix_build.specs.BlockMakers.{IsMakerOf}
use Rattle.ix_build.specs.BlockRuns.{GivesRun, IsRunOfBlock, RefusesNoBlock, StaysMakerOf}
use Rattle.ix_pool.specs.Outcomes.{IsMade, IsRefusedAt}
use Rattle.ix_pool.specs.Shares.{all_of, gained, new_askings}

abbrev pub asked_of : {V : Type 0} → BlockMaker V → List Asked
asked_of maker = maker.asked.items

abbrev weight : Bool → ℕ
weight passes = cond passes 1 0

weight_itself : (n : ℕ) → weight (nat_eq n n) ≡ 1
weight_itself n = grind (arith, nat_tests)

pub weight_within : (k n times : ℕ) → times ≡ weight (nat_lt k n) → 0 < times → k < n
weight_within k n times is some = grind (arith, nat_tests)

-- a place that was asked for is counted
pub counted_there : (askings : List Asked) (asked : Asked) → Contains askings asked → 0 < times_asked asked.place askings
counted_there [] asked c = absurd (let within = c.1 in omega (arith, within))
counted_there (first ∷ askings) asked c =
    let one : Asked → ℕ = λ a. weight (asks asked.place a) in
    let more = sum_by-cons one first askings in
    ⊎_elim
    (λ same. let here : one first ≡ 1 = ap one same ∙ weight_itself asked.place in omega (arith, more, here))
    (λ later. let rest = counted_there askings asked later in omega (arith, more, rest))
    (contains_cases first askings asked c)

-- an asking of all new ones is a new one of some maker
pub asked_of_one : {M : Type 0} (askings : M → List Asked) (before after : List M) (asked : Asked) → Contains (all_of (new_askings askings before after)) asked
    → (w : ℕ) × (old : M) × (new : M) × (slice_get before w ≡ Some old) × (slice_get after w ≡ Some new) × Contains (gained (askings old) (askings new)) asked
asked_of_one askings [] after asked c = absurd (let within = c.1 in omega (arith, within))
asked_of_one askings (old ∷ before) [] asked c = absurd (let within = c.1 in omega (arith, within))
asked_of_one askings (old ∷ before) (new ∷ after) asked c =
    ⊎_elim
    (λ here. (0, old, new, refl, refl, here))
    (λ later. let t = asked_of_one askings before after asked later in (suc t.0, t.1, t.2, t.3, t.4, t.5))
    (Contains-append_cases (gained (askings old) (askings new)) (all_of (new_askings askings before after)) asked c)

module _ {V : Type 0} (texts : List NamedText) (stop : List (List ℕ)) (bounds : List ℕ) (makers after : List (BlockMaker V)) (are : All (IsMakerOf texts stop bounds) makers) where
  -- each run is that of its block
  pub made_between : (count : ℕ) (runs : List RunValue) → IsMade asked_of GivesRun StaysMakerOf makers count after runs → (place : ℕ) (run : RunValue) → slice_get runs place ≡ Some run → IsRunOfBlock texts stop bounds place run
  made_between count runs made place run at =
      let is = made.made place run at in
      let maker = got-All (IsMakerOf texts stop bounds) makers is.w is.maker are is.numbered in
      let P : List NamedText → Type 0 = λ l. IsRunOfBlock l is.maker.stop.now is.maker.bounds.now place run in
      let Q : List (List ℕ) → Type 0 = λ l. IsRunOfBlock texts l is.maker.bounds.now place run in
      let R : List ℕ → Type 0 = λ l. IsRunOfBlock texts stop l place run in
      subst R maker.bounds_are (subst Q maker.stop_is (subst P maker.texts_are is.given))

  -- no block is refused
  pub none_refused : (count place : ℕ) → count + 1 ≡ length bounds → IsRefusedAt asked_of GivesRun StaysMakerOf makers count after place Refused → ⊥
  none_refused count place size refused =
      let shares = new_askings asked_of makers after in
      let asked = asking place (Some Refused) in
      let counted : 0 < times_asked place (all_of shares) = counted_there (all_of shares) asked refused.lowest.refused in
      let t = asked_of_one asked_of makers after asked refused.lowest.refused in
      let maker = got-All (IsMakerOf texts stop bounds) makers t.0 t.1 are t.3 in
      let later = refused.back.each t.0 t.1 t.2 t.3 t.4 in
      let none = All-contains (RefusesNoBlock t.1.bounds.now) (gained (asked_of t.1) (asked_of t.2)) asked later.goes_on.none_refused t.5 in
      let below : place < count = weight_within place count (times_asked place (all_of shares)) (refused.once place) counted in
      none (omega (arith, below, size, ap length maker.bounds_are)) refl
