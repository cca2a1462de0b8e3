-- Each step of a desk keeps the rule.
use Rattle.std.proofs.Common.{◌≡◌, ◌≢◌, ℕ, zero, suc, ◌<◌, ◌≤◌, false, List, [], ◌∷◌, ◌++◌, length, set, refl, sym, ap, subst, ◌∙◌, ⊎_elim, arith}
use Rattle.std.proofs.lemmas.Option.{none-some, same_Some}
use Rattle.std.specs.Prelude.{Option, Some, slice_get}
use mathlib.Core.Option as maybe
use lib.ListN.{get_elem?}
use Rattle.atomic_table.specs.Table.{State}
use Rattle.atomic_table.proofs.Lists.{at_set}
use Rattle.ix_board.specs.declared.step.Step.{Step}
use Rattle.ix_board.specs.declared.rule.Member.{Member}
use Rattle.ix_board.specs.declared.rule.Crew.{Crew}
use Rattle.ix_board.specs.Machine.{Place, held_by, after, May, steps_by, held_after, first_held, opening}
use Rattle.ix_board.specs.Laws.{left_by}
use Rattle.ix_board.specs.Crews.{member, desk_crew, times_in}
use Rattle.ix_board.specs.Kept.{Shows, IsTrueOf, IsKept}
use Rattle.ix_board.proofs.Runs.{MayRun-snoc, places_after-append, steps_by-snoc_same, steps_by-snoc_other}
use Rattle.ix_board.proofs.Holders.{holders, first_held_itself}

pub only_one : {A : Type 0} (a : A) (i : ℕ) (m : A) → slice_get (a ∷ []) i ≡ Some m → a ≡ m
only_one a zero m e = same_Some a m e
only_one a (suc i) m e = absurd (none-some m e)

module _ (P : Type 0) (count workers : ℕ) where
  abbrev pub Table' : Type 0
  Table' = State (Option P) (Crew P)

  abbrev pub Homes : Type 0
  Homes = List (maybe.Option (Option P))

  -- the desk n has the seat id, and has made these steps
  abbrev pub Sits : Table' → ℕ → ℕ → List (Step P) → Type 0
  Sits s id n steps = get_elem? s.views id ≡ maybe.some (desk_crew count workers n steps)

  -- what is known of the worker of a desk
  pub desk_member : (s : Table') (id n : ℕ) (steps : List (Step P)) (kept : IsKept count workers s) → Sits s id n steps
      → IsTrueOf count workers kept.run kept.owner s.homes id (desk_crew count workers n steps) (member n false steps)
  desk_member s id n steps kept at = kept.each_member id 0 (desk_crew count workers n steps) (member n false steps) at refl

  -- a worker that has made no step holds its first place
  pub holds_first : (s : Table') (kept : IsKept count workers s) (w : ℕ) → w < count → w < workers → steps_by w kept.run ≡ [] → slice_get (left_by count workers kept.run) w ≡ Some (held_by w)
  holds_first s kept w a b none =
      (holders count workers kept.run kept.possible).true_of w w (ap (held_after (first_held count workers w)) none ∙ first_held_itself count workers w a b)

  pub advance : (s : Table') (id n : ℕ) (steps : List (Step P)) (t : Step P) (words : List ℕ) (homes : Homes) (kept : IsKept count workers s) → Sits s id n steps
      → May (left_by count workers kept.run) n t
      → length words ≡ length s.words
      → length homes ≡ length s.homes
      → ((k : ℕ) (p : Place P) → slice_get (after (left_by count workers kept.run) n t) k ≡ Some p → Shows words homes k p)
      → ((k w : ℕ) → w ≢ n → slice_get (left_by count workers kept.run) k ≡ Some (held_by w) → get_elem? homes k ≡ get_elem? s.homes k)
      → IsKept count workers (record { words = words; homes = homes; views = set s.views id (desk_crew count workers n (steps ++ t ∷ [])) })
  advance s id n steps t words homes kept at may wl hl shows others =
      let me = desk_member s id n steps kept at in
      let new = desk_crew count workers n (steps ++ t ∷ []) in
      let run' = kept.run ++ (n, t) ∷ [] in
      record {
        run = run';
        owner = kept.owner;
        possible = MayRun-snoc (opening count workers) kept.run n t kept.possible may;
        words_are = wl ∙ kept.words_are;
        homes_are = hl ∙ kept.homes_are;
        each_place = λ k p e. shows k p (ap (λ (l : List (Place P)). slice_get l k) (sym (places_after-append (opening count workers) kept.run ((n, t) ∷ []))) ∙ e);
        strangers = λ w h.
            let ne : w ≢ n = (λ e. let l = me.numbered in omega arith) in
            steps_by-snoc_other w n kept.run t ne ∙ kept.strangers w h;
        each_member = λ j i v m e f.
            ⊎_elim
            (λ here.
            let V : Crew P → Type 0 = λ u. slice_get u.members i ≡ Some m → IsTrueOf count workers run' kept.owner homes j u m in
            subst V here.1 (λ g.
            let M : Member P → Type 0 = λ d. IsTrueOf count workers run' kept.owner homes j new d in
            subst M (only_one (member n false (steps ++ t ∷ [])) i m g) (record {
              count_is = refl;
              workers_is = refl;
              owned = me.owned ∙ sym here.0;
              numbered = me.numbered;
              stepped = steps_by-snoc_same n kept.run t ∙ ap (λ (l : List (Step P)). l ++ t ∷ []) me.stepped;
              owed = λ o. absurd (cc);
            })) f)
            (λ there.
            let old = kept.each_member j i v m there.1 f in
            let ne : m.number ≢ n = (λ x. there.0 (sym old.owned ∙ (ap kept.owner x ∙ me.owned))) in
            record {
              count_is = old.count_is;
              workers_is = old.workers_is;
              owned = old.owned;
              numbered = old.numbered;
              stepped = steps_by-snoc_other m.number n kept.run t ne ∙ old.stepped;
              owed = λ o.
                  let x = old.owed o in
                  let held = holds_first s kept m.number x.1 old.numbered (old.stepped ∙ x.0) in
                  (x.0, x.1, others m.number m.number ne held ∙ x.2);
            })
            (at_set s.views id j new v e);
        apart = λ j v e k.
            ⊎_elim
            (λ here.
            let V : Crew P → Type 0 = λ u. times_in k u.members ≤ 1 in
            subst V here.1 (kept.apart id (desk_crew count workers n steps) at k))
            (λ there. kept.apart j v there.1 k)
            (at_set s.views id j new v e);
      }
