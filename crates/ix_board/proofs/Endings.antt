-- What is known when a board is closed by a seat that steps for all its workers, of which none holds a place.
use Rattle.std.proofs.Common.{◌≡◌, ◌≢◌, ℕ, zero, suc, ◌<◌, ◌≤◌, ltb, ◌&&◌, List, [], ◌∷◌, map, length, refl, sym, ap, ◌∙◌, arith}
use Rattle.std.proofs.lemmas.Option.{none-some, same_Some}
use Rattle.std.proofs.lemmas.List.{length-map}
use Rattle.std.specs.Prelude.{Option, Some, None, slice_get}
use mathlib.Core.Option as maybe
use mathlib.Core.Option.{some-injective}
use mathlib.Core.Logic.{dite}
use native.Mathlib.Decide.{dec_lt}
use lib.ListN.{get_elem?}
use Rattle.atomic_table.specs.Table.{Final, Seen}
use Rattle.ix_board.specs.declared.rule.Member.{Member}
use Rattle.ix_board.specs.Machine.{Place, open_place, held_by, done_by, given_up_by, steps_by, held_after, first_held, piece_of, opening}
use Rattle.ix_board.specs.Laws.{left_by}
use Rattle.ix_board.specs.Crews.{crew}
use Rattle.ix_board.specs.Ends.{EndsWith}
use Rattle.ix_board.specs.Kept.{LiesWith, IsTrueOf, IsKept}
use Rattle.ix_board.proofs.SliceGets.{get-within}
use Rattle.ix_board.proofs.Counting.{Has, all_there}
use Rattle.ix_board.proofs.Runs.{length-places_after}
use Rattle.ix_board.proofs.Holders.{holders, length-opening, first_cases}
use Rattle.ix_board.proofs.Advances.{Table'}

same_by_get : {A : Type 0} (xs ys : List A) → length xs ≡ length ys → ((k : ℕ) → k < length ys → (a : A) × (get_elem? xs k ≡ maybe.some a) × (slice_get ys k ≡ Some a)) → xs ≡ ys
same_by_get [] [] len each = refl
same_by_get [] (y ∷ ys) len each = absurd (omega arith)
same_by_get (x ∷ xs) [] len each = absurd (omega arith)
same_by_get (x ∷ xs) (y ∷ ys) len each =
    let a = each 0 (omega arith) in
    let e : x ≡ y = some-injective x a.0 a.1 ∙ sym (same_Some y a.0 a.2) in
    let r = same_by_get xs ys (omega arith) (λ k h. each (suc k) (omega arith)) in
    (λ i. e i ∷ r i)

pub get-map : {A B : Type 0} (f : A → B) (xs : List A) (k : ℕ) (a : A) → slice_get xs k ≡ Some a → slice_get (map f xs) k ≡ Some (f a)
get-map f [] k a e = absurd (none-some a e)
get-map f (x ∷ xs) zero a e = ap (λ y. Some (f y)) (same_Some x a e)
get-map f (x ∷ xs) (suc k) a e = get-map f xs k a e

module _ (P : Type 0) (count workers : ℕ) where
  abbrev AreIdle : List (Member P) → Type 0
  AreIdle ms = (i : ℕ) (m : Member P) → slice_get ms i ≡ Some m → held_after (first_held count workers m.number) m.steps ≡ None

  nobody_holds : (s : Table' P count workers) (kept : IsKept count workers s) (id : ℕ) (ms : List (Member P)) → get_elem? s.views id ≡ maybe.some (crew count workers ms)
      → ((w : ℕ) → w < workers → Has ms w) → AreIdle ms
      → (w k : ℕ) → slice_get (left_by count workers kept.run) k ≢ Some (held_by w)
  nobody_holds s kept id ms at there idle w k e =
      let told = (holders count workers kept.run kept.possible).told w k e in
      dite (dec_lt w workers)
      (λ h.
      let d = there w h in
      let known = kept.each_member id d.0 (crew count workers ms) d.1 at d.2 in
      let told_d : held_after (first_held count workers d.1.number) d.1.steps ≡ Some k =
      ap (held_after (first_held count workers d.1.number)) (sym known.stepped) ∙ (ap (λ (v : ℕ). held_after (first_held count workers v) (steps_by v kept.run)) d.3 ∙ told) in
      none-some k (sym (idle d.0 d.1 d.2) ∙ told_d))
      (λ n.
      let h : workers ≤ w = omega arith in
      let first : first_held count workers w ≡ Some k = sym (ap (held_after (first_held count workers w)) (kept.strangers w h)) ∙ told in
      let c = first_cases count workers w k (ltb w count && ltb w workers) refl first in
      let l : w < workers = c.2 in
      absurd (omega arith))

  lies_home : (homes : List (maybe.Option (Option P))) (k : ℕ) (p : Place P) → ((w : ℕ) → p ≢ held_by w) → LiesWith homes k p → get_elem? homes k ≡ maybe.some (maybe.some (piece_of p))
  lies_home homes k open_place n l = l
  lies_home homes k (held_by w) n l = absurd (n w refl)
  lies_home homes k (done_by w x) n l = l
  lies_home homes k (given_up_by w) n l = l

  pub ends : (id : ℕ) (ms : List (Member P)) (words : List ℕ) (slots : List (Option P)) → length ms ≡ workers → AreIdle ms
      → Final (Seen (λ (s : Table' P count workers). IsKept count workers s) id (crew count workers ms)) words slots
      → EndsWith count workers ms slots
  ends id ms words slots len idle final =
      let s = final.0 in
      let kept = final.1.0 in
      let at = final.1.1 in
      let homes_len = final.3 in
      let back = final.4 in
      let b = left_by count workers kept.run in
      let known : (i : ℕ) (m : Member P) → slice_get ms i ≡ Some m → IsTrueOf count workers kept.run kept.owner s.homes id (crew count workers ms) m =
      (λ i m e. kept.each_member id i (crew count workers ms) m at e) in
      let once = kept.apart id (crew count workers ms) at in
      let there = all_there workers ms len once (λ i m e. (known i m e).numbered) in
      let nobody = nobody_holds s kept id ms at there idle in
      let b_len : length b ≡ count = length-places_after (opening count workers) kept.run ∙ length-opening P count workers in
      let m_len : length (map piece_of b) ≡ length b = length-map b piece_of in
      let s_len : length s.homes ≡ count = kept.homes_are in
      record {
        run = kept.run;
        possible = kept.possible;
        pieces =
            same_by_get slots (map piece_of b) (omega arith) (λ k h.
            let p = get-within b k (omega arith) in
            let free : (w : ℕ) → p.0 ≢ held_by w = (λ w e. nobody w k (p.1 ∙ ap Some e)) in
            let home = lies_home s.homes k p.0 free (kept.each_place k p.0 p.1).1 in
            (piece_of p.0, back k (piece_of p.0) home, get-map piece_of b k p.0 p.1));
        strangers = kept.strangers;
        steps = λ i m e. let t = known i m e in (t.numbered, t.stepped);
        once = once;
      }
