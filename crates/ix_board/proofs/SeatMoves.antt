-- How seats are dealt and gathered: the rule stays, and the run with it.
use Rattle.std.proofs.Common.{◌≡◌, ◌≢◌, ◌⊎◌, ℕ, zero, suc, ◌+◌, ◌≤◌, Bool, true, false, cond, eqb, List, [], ◌∷◌, ◌++◌, length, set, refl, sym, ap, subst, ◌∙◌, inl, inr, ⊎_elim, eq-eqb, ne_eqb, length-set, arith}
use Rattle.std.proofs.lemmas.Option.{none-some}
use Rattle.std.specs.Prelude.{Some, slice_get}
use mathlib.Core.Option as maybe
use mathlib.Core.Option.{some-injective, some-ne-none}
use native.Mathlib.Decide.{ℕ_discrete}
use lib.ListN.{get_elem?}
use Rattle.atomic_table.specs.Table.{Splits, Joins}
use Rattle.atomic_table.proofs.Lists.{at_set, set_else}
use Rattle.ix_board.specs.declared.rule.Member.{Member}
use Rattle.ix_board.specs.declared.rule.Crew.{Crew}
use Rattle.ix_board.specs.Crews.{crew, all_but_first, first_alone, both_crews, no_crew, times_in}
use Rattle.ix_board.specs.Kept.{IsTrueOf, IsKept}
use Rattle.ix_board.proofs.Counting.{found_in, not_in, times_in-append, if_same}
use Rattle.ix_board.proofs.Advances.{Table', only_one}

at_snoc : {A : Type 0} (l : List A) (a b : A) (j : ℕ) → get_elem? (l ++ a ∷ []) j ≡ maybe.some b → (get_elem? l j ≡ maybe.some b) ⊎ ((j ≡ length l) × (a ≡ b))
at_snoc [] a b zero e = inr (refl, some-injective a b e)
at_snoc [] a b (suc j) e = absurd (some-ne-none b (sym e))
at_snoc (x ∷ xs) a b zero e = inl e
at_snoc (x ∷ xs) a b (suc j) e = ⊎_elim (λ t. inl t) (λ t. inr (ap suc t.0, t.1)) (at_snoc xs a b j e)

get-append_cases : {A : Type 0} (xs ys : List A) (i : ℕ) (m : A) → slice_get (xs ++ ys) i ≡ Some m → ((k : ℕ) × (slice_get xs k ≡ Some m)) ⊎ ((k : ℕ) × (slice_get ys k ≡ Some m))
get-append_cases [] ys i m e = inr (i, e)
get-append_cases (x ∷ xs) ys zero m e = inl (0, e)
get-append_cases (x ∷ xs) ys (suc i) m e = ⊎_elim (λ t. inl (suc t.0, t.1)) (λ t. inr t) (get-append_cases xs ys i m e)

-- h, but at n it is a
abbrev moved : (ℕ → ℕ) → ℕ → ℕ → ℕ → ℕ
moved h n a k = cond (eqb k n) a (h k)

-- h, but a in place of b
abbrev merged : (ℕ → ℕ) → ℕ → ℕ → ℕ → ℕ
merged h a b k = cond (eqb (h k) b) a (h k)

one_at_most : (b : Bool) → cond b 1 0 + 0 ≤ 1
one_at_most true = omega arith
one_at_most false = omega arith

module _ (P : Type 0) (count workers : ℕ) where
  -- the first member of a crew gets a seat of its own
  pub deals : (id : ℕ) (first : Member P) (others : List (Member P))
      → Splits (λ (s : Table' P count workers). IsKept count workers s) id (crew count workers (first ∷ others)) (all_but_first (crew count workers (first ∷ others))) (first_alone (crew count workers (first ∷ others)))
  deals id first others s kept at =
      let v = crew count workers (first ∷ others) in
      let left = crew count workers others in
      let right = crew count workers (first ∷ []) in
      let owner' = moved kept.owner first.number (length s.views) in
      let one = kept.each_member id 0 v first at refl in
      let once = kept.apart id v at in
      let gone : times_in first.number others ≡ 0 =
      omega (arith, once first.number, if_same first.number first.number refl) in
      record {
        run = kept.run;
        owner = owner';
        possible = kept.possible;
        words_are = kept.words_are;
        homes_are = kept.homes_are;
        each_place = kept.each_place;
        strangers = kept.strangers;
        each_member = λ j i u m e f.
            ⊎_elim
            (λ old_seat.
            ⊎_elim
            (λ here.
            let V : Crew P → Type 0 = λ d. slice_get d.members i ≡ Some m → IsTrueOf count workers kept.run owner' s.homes j d m in
            subst V here.1 (λ g.
            let old = kept.each_member id (suc i) v m at g in
            let ne = not_in others first.number i m gone g in
            record {
              count_is = refl;
              workers_is = refl;
              owned = rw (ne_eqb m.number first.number ne) (old.owned ∙ sym here.0);
              numbered = old.numbered;
              stepped = old.stepped;
              owed = old.owed;
            }) f)
            (λ there.
            let old = kept.each_member j i u m there.1 f in
            let ne : m.number ≢ first.number = (λ x. there.0 (sym old.owned ∙ (ap kept.owner x ∙ one.owned))) in
            record {
              count_is = old.count_is;
              workers_is = old.workers_is;
              owned = rw (ne_eqb m.number first.number ne) old.owned;
              numbered = old.numbered;
              stepped = old.stepped;
              owed = old.owed;
            })
            (at_set s.views id j left u old_seat))
            (λ new_seat.
            let V : Crew P → Type 0 = λ d. slice_get d.members i ≡ Some m → IsTrueOf count workers kept.run owner' s.homes j d m in
            subst V new_seat.1 (λ g.
            let M : Member P → Type 0 = λ d. IsTrueOf count workers kept.run owner' s.homes j right d in
            subst M (only_one first i m g) (record {
              count_is = refl;
              workers_is = refl;
              owned = rw (eq-eqb first.number first.number refl) (sym (new_seat.0 ∙ length-set s.views id left));
              numbered = one.numbered;
              stepped = one.stepped;
              owed = one.owed;
            })) f)
            (at_snoc (set s.views id left) right u j e);
        apart = λ j u e k.
            let V : Crew P → Type 0 = λ d. times_in k d.members ≤ 1 in
            ⊎_elim
            (λ old_seat.
            ⊎_elim
            (λ here. subst V here.1 (omega (arith, once k)))
            (λ there. kept.apart j u there.1 k)
            (at_set s.views id j left u old_seat))
            (λ new_seat. subst V new_seat.1 (one_at_most (eqb first.number k)))
            (at_snoc (set s.views id left) right u j e);
      }

  -- a seat steps for the members of another seat too
  pub gathers : (id : ℕ) (ms : List (Member P)) (other : ℕ) (ns : List (Member P))
      → Joins (λ (s : Table' P count workers). IsKept count workers s) id (crew count workers ms) other (crew count workers ns) (both_crews (crew count workers ms) (crew count workers ns)) no_crew
  gathers id ms other ns s kept at apart_seats at_other =
      let v = crew count workers ms in
      let w = crew count workers ns in
      let both = crew count workers (ns ++ ms) in
      let other_at : get_elem? s.views other ≡ maybe.some w = sym (set_else s.views id other both apart_seats) ∙ at_other in
      let owner' = merged kept.owner id other in
      let not_other : id ≢ other = (λ e. apart_seats (sym e)) in
      record {
        run = kept.run;
        owner = owner';
        possible = kept.possible;
        words_are = kept.words_are;
        homes_are = kept.homes_are;
        each_place = kept.each_place;
        strangers = kept.strangers;
        each_member = λ j i u m e f.
            let V : Crew P → Type 0 = λ d. slice_get d.members i ≡ Some m → IsTrueOf count workers kept.run owner' s.homes j d m in
            ⊎_elim
            (λ spent. subst V spent.1 (λ g. absurd (none-some m g)) f)
            (λ live.
            ⊎_elim
            (λ here.
            subst V here.1 (λ g.
            ⊎_elim
            (λ t.
            let old = kept.each_member other t.0 w m other_at t.1 in
            record {
              count_is = refl;
              workers_is = refl;
              owned = rw (eq-eqb (kept.owner m.number) other old.owned) (sym here.0);
              numbered = old.numbered;
              stepped = old.stepped;
              owed = old.owed;
            })
            (λ t.
            let old = kept.each_member id t.0 v m at t.1 in
            let ne : kept.owner m.number ≢ other = (λ x. not_other (sym old.owned ∙ x)) in
            record {
              count_is = refl;
              workers_is = refl;
              owned = rw (ne_eqb (kept.owner m.number) other ne) (old.owned ∙ sym here.0);
              numbered = old.numbered;
              stepped = old.stepped;
              owed = old.owed;
            })
            (get-append_cases ns ms i m g)) f)
            (λ there.
            let old = kept.each_member j i u m there.1 f in
            let ne : kept.owner m.number ≢ other = (λ x. live.0 (sym old.owned ∙ x)) in
            record {
              count_is = old.count_is;
              workers_is = old.workers_is;
              owned = rw (ne_eqb (kept.owner m.number) other ne) old.owned;
              numbered = old.numbered;
              stepped = old.stepped;
              owed = old.owed;
            })
            (at_set s.views id j both u live.1))
            (at_set (set s.views id both) other j no_crew u e);
        apart = λ j u e k.
            let V : Crew P → Type 0 = λ d. times_in k d.members ≤ 1 in
            ⊎_elim
            (λ spent. subst V spent.1 (omega arith))
            (λ live.
            ⊎_elim
            (λ here.
            subst V here.1 (
            elim (ℕ_discrete (times_in k ns) 0) [
              | yes z ↦ omega (arith, times_in-append ns ms k, kept.apart id v at k)
              | no n ↦
                  elim (ℕ_discrete (times_in k ms) 0) [
                    | yes z ↦ omega (arith, times_in-append ns ms k, kept.apart other w other_at k)
                    | no n' ↦
                        let a = found_in ns k (omega arith) in
                        let b = found_in ms k (omega arith) in
                        let x = kept.each_member other a.0 w a.1 other_at a.2 in
                        let y = kept.each_member id b.0 v b.1 at b.2 in
                        absurd (not_other (sym y.owned ∙ (ap kept.owner (b.3 ∙ sym a.3) ∙ x.owned)))
                  ]
            ]))
            (λ there. kept.apart j u there.1 k)
            (at_set s.views id j both u live.1))
            (at_set (set s.views id both) other j no_crew u e);
      }
