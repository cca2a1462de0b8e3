-- The lowest place that was refused is the lowest one that no store saved.
use Rattle.std.proofs.Common.{◌≡◌, ℕ, ◌+◌, ◌<◌, ◌≤◌, cond, nat_eq, List, [], ◌∷◌, map, Contains, refl, sym, ap, ◌∙◌, arith, inl, inr}
use Rattle.std.specs.Prelude.{Option, Some, None, nat_lt}
use Rattle.std.specs.List.{count_by}
use Rattle.std.proofs.lemmas.Bool.Decides.{nat_tests}
use Rattle.std.proofs.lemmas.List.Sums.{sum_by-cons}
use Rattle.std.proofs.lemmas.Option.{none-some}
use Rattle.ix_board.proofs.SliceGets.{contains_cases, contains_there}
use Rattle.ix_pool.specs.declared.maker.MakeError.{MakeError}
use Rattle.ix_pool.specs.declared.maker.Asked.{Asked}
use Rattle.ix_pool.specs.Askings.{IsLowestRefused, asking, asks, times_asked}
use Rattle.ix_build.specs.SavingMakers.{made_places, with_place}
use Rattle.ix_pool.specs.Shares.{EachOnce, all_of}
use Rattle.ix_build.specs.Stores.{IsLowestUnsaved, is_place}
use Rattle.ix_build.proofs.SavedPlaces.{flat_made, made_asked}

asked_elsewhere : (k place : ℕ) → (place ≡ k → ⊥) → ◌≡◌ {A = ℕ} (cond (nat_eq place k) 1 0) 0
asked_elsewhere k place other = grind (arith, nat_tests)

asked_here : (k place : ℕ) → place ≡ k → ◌≡◌ {A = ℕ} (cond (nat_eq place k) 1 0) 1
asked_here k place same = grind (arith, nat_tests)

-- what was asked for at a place where none was refused was made
made_at : (place : ℕ) (askings : List Asked) → ((asked : Asked) → Contains askings asked → asked.place ≡ place → asked.error ≡ None)
    → count_by (is_place place) (made_places askings) ≡ times_asked place askings
made_at place [] none = refl
made_at place (asked ∷ askings) none = by asked.error (none asked (0, omega arith, refl)) (made_at place askings (λ a among. none a (contains_there asked askings a among)))
  where
    by : (error : Option MakeError) → (asked.place ≡ place → error ≡ None) → count_by (is_place place) (made_places askings) ≡ times_asked place askings
        → count_by (is_place place) (with_place error asked.place (made_places askings)) ≡ times_asked place (asked ∷ askings)
    by None own rest =
        let here = sum_by-cons (λ (other : ℕ). cond (is_place place other) 1 0) asked.place (made_places askings) in
        let more = sum_by-cons (λ (a : Asked). cond (asks place a) 1 0) asked askings in
        omega (arith, rest, here, more)
    by (Some error) own rest =
        let more = sum_by-cons (λ (a : Asked). cond (asks place a) 1 0) asked askings in
        let none = asked_elsewhere place asked.place (λ same. none-some error (sym (own same))) in
        omega (arith, rest, more, none)

-- what was refused once was asked for once more than made
refused_at : (place : ℕ) (error : MakeError) (askings : List Asked) → Contains askings (asking place (Some error))
    → count_by (is_place place) (made_places askings) + 1 ≤ times_asked place askings
refused_at place error [] among = absurd (let no = among.1 in omega (arith, no))
refused_at place error (asked ∷ askings) among = elim (contains_cases asked askings (asking place (Some error)) among) [ inl is ↦ here is | inr rest ↦ there asked.error (refused_at place error askings rest) ]
  where
    more : times_asked place (asked ∷ askings) ≡ cond (asks place asked) 1 0 + times_asked place askings
    more = sum_by-cons (λ (a : Asked). cond (asks place a) 1 0) asked askings

    here : asked ≡ asking place (Some error) → count_by (is_place place) (made_places (asked ∷ askings)) + 1 ≤ times_asked place (asked ∷ askings)
    here is =
        let unmade : made_places (asked ∷ askings) ≡ made_places askings = ap (λ (e : Option MakeError). with_place e asked.place (made_places askings)) (ap (λ (a : Asked). a.error) is) in
        let same = ap (count_by (is_place place)) unmade in
        let one = asked_here place asked.place (ap (λ (a : Asked). a.place) is) in
        let less = made_asked place askings in
        let all = more in omega (arith, same, one, less, all)

    there : (e : Option MakeError) → count_by (is_place place) (made_places askings) + 1 ≤ times_asked place askings
        → count_by (is_place place) (with_place e asked.place (made_places askings)) + 1 ≤ times_asked place (asked ∷ askings)
    there None rest =
        let one = sum_by-cons (λ (other : ℕ). cond (is_place place other) 1 0) asked.place (made_places askings) in
        let all = more in omega (arith, rest, one, all)
    there (Some other) rest = let all = more in omega (arith, rest, all)

below_one : (k n times : ℕ) → times ≡ cond (nat_lt k n) 1 0 → k < n → times ≡ 1
below_one k n times is within = grind (arith, nat_tests)

at_most_one : (k n times : ℕ) → times ≡ cond (nat_lt k n) 1 0 → times ≤ 1
at_most_one k n times is = grind (arith, nat_tests)

pub lowest_unsaved : (count : ℕ) (shares : List (List Asked)) (place : ℕ) (error : MakeError) → EachOnce count shares → place < count → IsLowestRefused (all_of shares) place error
    → IsLowestUnsaved (map made_places shares) place
lowest_unsaved count shares place error once within lowest = record {
  unsaved =
      let same = ap (count_by (is_place place)) (flat_made shares) in
      let less = refused_at place error (all_of shares) lowest.refused in
      let one = at_most_one place count (times_asked place (all_of shares)) (once place) in
      omega (arith, same, less, one);
  lower = λ other below.
      let same = ap (count_by (is_place other)) (flat_made shares) in
      same
      ∙ made_at other (all_of shares) (λ asked among is. not_refused other asked below is among asked.error refl)
      ∙ below_one other count (times_asked other (all_of shares)) (once other) (omega arith);
}
  where
    not_refused : (other : ℕ) (asked : Asked) → other < place → asked.place ≡ other → Contains (all_of shares) asked → (e : Option MakeError) → asked.error ≡ e → asked.error ≡ None
    not_refused other asked below is among None told = told
    not_refused other asked below is among (Some e) told =
        absurd (let above = lowest.lowest asked e among told in omega (arith, above, is, below))
