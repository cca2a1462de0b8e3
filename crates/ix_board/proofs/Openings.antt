-- The rule holds of a new board.
use Rattle.std.proofs.Common.{◌≡◌, ◌≢◌, ℕ, zero, suc, ◌+◌, ◌<◌, ◌≤◌, Bool, true, false, cond, ltb, List, [], ◌∷◌, map, refl, sym, ap, subst, ◌∙◌, arith}
use Rattle.std.proofs.lemmas.Option.{same_Some, slice_get_within}
use Rattle.std.proofs.lemmas.Bool.Decides.{nat_tests}
use Rattle.std.proofs.lemmas.List.{length-map, length-replicate}
use Rattle.std.specs.Prelude.{Option, Some, None, slice_get, replicate, nat_lt}
use Rattle.std.specs.List.{range_with_len}
use mathlib.Core.Option as maybe
use mathlib.Core.Option.{some-injective, some-ne-none}
use lib.ListN.{get_elem?}
use Rattle.atomic_table.specs.Table.{opening as table_opening}
use Rattle.ix_board.specs.declared.rule.Member.{Member}
use Rattle.ix_board.specs.declared.rule.Crew.{Crew}
use Rattle.ix_board.specs.Machine.{Place, open_place, held_by, place_at_first}
use Rattle.ix_board.specs.Crews.{member, fresh_members, all_hands, times_in}
use Rattle.ix_board.specs.Starts.{AreFirstWords}
use Rattle.ix_board.specs.Kept.{Shows, IsTrueOf, IsKept}
use Rattle.ix_board.proofs.SliceGets.{get-map_range, length-range}
use native.Mathlib.Decide.{ℕ_discrete}
use Rattle.ix_board.proofs.Counting.{if_same, if_other}
use Rattle.ix_board.proofs.Holders.{opening-get, place_in_run}

vacant_at : {A : Type 0} (a : A) (n k : ℕ) → k < n → get_elem? (map maybe.some (replicate n a)) k ≡ maybe.some (maybe.some a)
vacant_at a zero k h = absurd (omega arith)
vacant_at a (suc n) zero h = refl
vacant_at a (suc n) (suc k) h = vacant_at a n k (omega arith)

first_seat : {A : Type 0} (a b : A) (j : ℕ) → get_elem? (a ∷ []) j ≡ maybe.some b → (j ≡ 0) × (a ≡ b)
first_seat a b zero e = (refl, some-injective a b e)
first_seat a b (suc j) e = absurd (some-ne-none b (sym e))

module _ (P : Type 0) (count workers : ℕ) where
  fresh_at : (n i : ℕ) (m : Member P) → slice_get (fresh_members count 0 n) i ≡ Some m → (i < n) × (member i (nat_lt i count) [] ≡ m)
  fresh_at n i m e =
      let f : ℕ → Member P = λ w. member w (nat_lt w count) [] in
      let h : i < n = omega (arith, slice_get_within (fresh_members count 0 n) i m e, length-map (range_with_len 0 n) f, length-range 0 n) in
      let z : 0 + i ≡ i = omega arith in
      (h, ap f (sym z) ∙ same_Some (f (0 + i)) m (sym (get-map_range f 0 n i h) ∙ e))

  fresh_once : (k a n : ℕ) → (times_in {P = P} k (fresh_members count a n) ≤ 1) × (k < a → times_in {P = P} k (fresh_members count a n) ≡ 0)
  fresh_once k a zero = (omega arith, λ h. refl)
  fresh_once k a (suc n) =
      let r = fresh_once k (a + 1) n in
      let later = r.1 in (
        elim (ℕ_discrete a k) [
          | yes e ↦ omega (arith, later (omega arith), if_same a k e)
          | no ne ↦ omega (arith, r.0, if_other a k ne)
        ],
        λ h. let ne : a ≢ k = (λ e. omega arith) in omega (arith, later (omega arith), if_other a k ne),
      )

  first_shows : (words : List ℕ) (k : ℕ) (b : Bool) → AreFirstWords count workers words → k < count → ltb k workers ≡ b
      → Shows words (map maybe.some (replicate count None)) k (cond {A = Place P} b (held_by k) open_place)
  first_shows words k true first h is = (first.held k h (grind (arith, nat_tests)), tt)
  first_shows words k false first h is = (first.free k h (grind (arith, nat_tests)), vacant_at {A = Option P} None count k h)

  pub kept_at_first : (words : List ℕ) → AreFirstWords count workers words → IsKept {P = P} count workers (table_opening words (replicate count None) (all_hands count workers))
  kept_at_first words first =
      let homes = map maybe.some (replicate {A = Option P} count None) in
      record {
        run = [];
        owner = λ n. 0;
        possible = tt;
        words_are = first.words_are;
        homes_are = length-map (replicate {A = Option P} count None) maybe.some ∙ length-replicate {A = Option P} count None;
        each_place = λ k p e.
            let h : k < count = place_in_run count workers k [] p e in
            let is : place_at_first workers k ≡ p = same_Some (place_at_first workers k) p (sym (opening-get count workers k h) ∙ e) in
            let M : Place P → Type 0 = λ r. Shows words homes k r in
            subst M is (first_shows words k (ltb k workers) first h refl);
        strangers = λ w h. refl;
        each_member = λ j i v m e f.
            let V : Crew P → Type 0 = λ u. slice_get u.members i ≡ Some m → IsTrueOf count workers [] (λ n. 0) homes j u m in
            let seat = first_seat (all_hands count workers) v j e in
            subst V seat.1 (λ g.
            let at = fresh_at workers i m g in
            let M : Member P → Type 0 = λ d. IsTrueOf count workers [] (λ n. 0) homes j (all_hands count workers) d in
            subst M at.1 (record {
              count_is = refl;
              workers_is = refl;
              owned = sym seat.0;
              numbered = at.0;
              stepped = refl;
              owed = λ o. let h : i < count = grind (arith, nat_tests) in (refl, h, vacant_at {A = Option P} None count i h);
            })) f;
        apart = λ j v e k.
            let V : Crew P → Type 0 = λ u. times_in k u.members ≤ 1 in
            subst V (first_seat (all_hands count workers) v j e).1 (fresh_once k 0 workers).0;
      }
