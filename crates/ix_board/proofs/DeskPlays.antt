-- What a desk may do at one word, whatever the board is when it does it: claim or look, deliver, give up, and fetch its first slot.
use Rattle.std.proofs.Common.{◌≡◌, ◌≢◌, ℕ, ◌<◌, ◌≤◌, Bool, true, false, eqb, List, [], ◌∷◌, ◌++◌, length, set, refl, sym, ap, subst, ◌∙◌, ⊎_elim, length-set, get_or-set_same, get_or-set_other, arith}
use Rattle.std.proofs.lemmas.List.{set-get_or}
use Rattle.std.proofs.lemmas.Option.{none-some, same_Some}
use Rattle.std.specs.Prelude.{Option, Some, None, slice_get, slice_index}
use mathlib.Core.Option as maybe
use lib.ListN.{get_elem?}
use prog.Atomic.{either}
use Rattle.atomic_table.specs.Table.{step, Act, keeps, takes, gives, Valid, carried_after, stepped, Allows}
use Rattle.atomic_table.proofs.Lists.{at_set, set_here, set_else}
use Rattle.ix_board.specs.declared.step.Step.{Step}
use Rattle.ix_board.specs.declared.step.Step.TheVariants.{Claim, Deliver, GiveUp, Look}
use Rattle.ix_board.specs.declared.rule.Member.{Member}
use Rattle.ix_board.specs.declared.rule.Crew.{Crew}
use Rattle.ix_board.specs.Machine.{Place, open_place, held_by, done_by, given_up_by, after, May, HoldsNone, held_after, first_held, opening}
use Rattle.ix_board.specs.Laws.{left_by}
use Rattle.std.specs.Bool.{MatchBool}
use Rattle.ix_board.specs.Crews.{member, crew, with_step, desk_crew, Seated, ClaimsOrLooks, Delivers, GivesUp, Fetches, times_in}
use Rattle.ix_board.specs.Kept.{code_of, LiesWith, Shows, IsTrueOf, IsKept}
use Rattle.ix_board.proofs.SliceGets.{get-set_cases, get-within}
use Rattle.ix_board.proofs.Runs.{length-places_after}
use Rattle.ix_board.proofs.Holders.{holders, length-opening, place_in_run}
use native.Mathlib.Decide.{ℕ_discrete}
use Rattle.ix_board.proofs.Advances.{Table', Homes, Sits, desk_member, holds_first, only_one, advance}

module _ (P : Type 0) where
  lies_same : (homes homes' : Homes P 0 0) (k : ℕ) (p : Place P) → get_elem? homes' k ≡ get_elem? homes k → LiesWith homes k p → LiesWith homes' k p
  lies_same homes homes' k open_place e l = e ∙ l
  lies_same homes homes' k (held_by w) e l = tt
  lies_same homes homes' k (done_by w x) e l = e ∙ l
  lies_same homes homes' k (given_up_by w) e l = e ∙ l

  -- place k becomes p, with its word and its slot, and the others stay
  put : (b : List (Place P)) (words words' : List ℕ) (homes homes' : Homes P 0 0) (k : ℕ) (p : Place P)
      → ((j : ℕ) (q : Place P) → slice_get b j ≡ Some q → Shows words homes j q)
      → ((j : ℕ) → j ≢ k → slice_index words' j ≡ slice_index words j)
      → ((j : ℕ) → j ≢ k → get_elem? homes' j ≡ get_elem? homes j)
      → Shows words' homes' k p
      → (j : ℕ) (q : Place P) → slice_get (set b k p) j ≡ Some q → Shows words' homes' j q
  put b words words' homes homes' k p each same_words same_homes new j q e =
      ⊎_elim
      (λ here.
      let M : Place P → Type 0 = λ r. Shows words' homes' j r in
      let N : ℕ → Type 0 = λ i. Shows words' homes' i p in
      subst M here.1 (subst N (sym here.0) new))
      (λ there.
      let old = each j q there.1 in
      (same_words j there.0 ∙ old.0, lies_same homes homes' j q (same_homes j there.0) old.1))
      (get-set_cases b k j p q e)

module _ (P : Type 0) (count workers : ℕ) where
  -- ---- claim, or look

  module _ (s : Table' P count workers) (slots id n : ℕ) (steps : List (Step P)) (k : ℕ) (kept : IsKept count workers s) (at : Sits P count workers s id n steps) where
    abbrev Me : Seated P
    Me = (desk_crew count workers n steps, [])

    abbrev Tries : ℕ → Type 0
    Tries found = (w : Crew P) × (a : Act (Option P)) × Valid s.homes [] a × IsKept count workers (stepped s k (either (eqb found 0) 1 found) id [] w a)
        × ClaimsOrLooks (step slots k 0 1 maybe.none) Me found (w, carried_after [] a)

    claims_open : k < count → held_after (first_held count workers n) steps ≡ None → slice_get (left_by count workers kept.run) k ≡ Some open_place → Tries (slice_index s.words k)
    claims_open h free e =
        let b = left_by count workers kept.run in
        let me = desk_member P count workers s id n steps kept at in
        let shows = kept.each_place k open_place e in
        let in_words : k < length s.words = let l = kept.words_are in omega arith in
        let none_held : HoldsNone b n = (λ j hj.
        none-some j (sym free ∙ (ap (held_after (first_held count workers n)) (sym me.stepped) ∙ (holders count workers kept.run kept.possible).told n j hj))) in
        let words' = set s.words k 1 in
        let homes' = set s.homes k maybe.none in
        let new : Shows words' homes' k (held_by n) = (get_or-set_same s.words k 1 0 in_words, tt) in
        let shows' = put P b s.words words' s.homes homes' k (held_by n) kept.each_place (λ j ne. get_or-set_other s.words k j 1 0 ne) (λ j ne. set_else s.homes k j maybe.none ne) new in
        let others : (j w : ℕ) → w ≢ n → slice_get b j ≡ Some (held_by w) → get_elem? homes' j ≡ get_elem? s.homes j =
        (λ j w ne hj.
        let apart : j ≢ k = (λ x. let o : ◌≡◌ {A = Place P} open_place (held_by w) = same_Some open_place (held_by w) (sym e ∙ (ap (slice_get b) (sym x) ∙ hj)) in cc) in
        set_else s.homes k j maybe.none apart) in
        let kept' = advance P count workers s id n steps (Claim k) words' homes' kept at (e, none_held) (length-set s.words k 1) (length-set s.homes k maybe.none) shows' others in
        subst Tries (sym shows.0) (desk_crew count workers n (steps ++ Claim k ∷ []), takes k None, shows.1, kept', refl)

    looks_at : (p : Place P) (code : ℕ) → eqb code 0 ≡ false → slice_get (left_by count workers kept.run) k ≡ Some p → p ≢ open_place → slice_index s.words k ≡ code → Tries (slice_index s.words k)
    looks_at p code not_zero e taken is =
        let same : set s.words k code ≡ s.words = ap (set s.words k) (sym is) ∙ set-get_or s.words k 0 in
        let shows' : (j : ℕ) (q : Place P) → slice_get (left_by count workers kept.run) j ≡ Some q → Shows (set s.words k code) s.homes j q =
        (λ j q f. let W : List ℕ → Type 0 = λ ws. Shows ws s.homes j q in subst W (sym same) (kept.each_place j q f)) in
        let kept' = advance P count workers s id n steps (Look k) (set s.words k code) s.homes kept at (p, e, taken) (length-set s.words k code) refl shows' (λ j w ne hj. refl) in
        let Found : Bool → Type 0 =
        λ t. (w : Crew P) × (a : Act (Option P)) × Valid s.homes [] a × IsKept count workers (stepped s k (either t 1 code) id [] w a)
        × MatchBool t (◌≡◌ {A = Seated P} (w, carried_after [] a) (with_step (Claim k) (desk_crew count workers n steps), (k, None) ∷ [])) (◌≡◌ {A = Seated P} (w, carried_after [] a) (with_step (Look k) (desk_crew count workers n steps), [])) in
        let found : Found false = (desk_crew count workers n (steps ++ Look k ∷ []), keeps, tt, kept', refl) in
        subst Tries (sym is) (subst Found (sym not_zero) found)

    tries_at : (p : Place P) → k < count → held_after (first_held count workers n) steps ≡ None → slice_get (left_by count workers kept.run) k ≡ Some p → Tries (slice_index s.words k)
    tries_at open_place h free e = claims_open h free e
    tries_at (held_by w) h free e = looks_at (held_by w) 1 refl e (λ x. cc) (kept.each_place k (held_by w) e).0
    tries_at (done_by w x) h free e = looks_at (done_by w x) 2 refl e (λ y. cc) (kept.each_place k (done_by w x) e).0
    tries_at (given_up_by w) h free e = looks_at (given_up_by w) 3 refl e (λ x. cc) (kept.each_place k (given_up_by w) e).0

  pub claims_or_looks : (slots id n : ℕ) (steps : List (Step P)) (k : ℕ) → k < count → held_after (first_held count workers n) steps ≡ None
      → Allows (λ (s : Table' P count workers). IsKept count workers s) slots id (desk_crew count workers n steps, []) k (λ m. either (eqb m 0) 1 m) (ClaimsOrLooks (step slots k 0 1 maybe.none) (desk_crew count workers n steps, []))
  claims_or_looks slots id n steps k h free s kept len at fits =
      let b = left_by count workers kept.run in
      let p = get-within b k (omega (arith, length-places_after (opening {P = P} count workers) kept.run, length-opening P count workers)) in
      tries_at s slots id n steps k kept at p.0 h free p.1

  -- ---- deliver, or give up

  module _ (s : Table' P count workers) (id n : ℕ) (steps : List (Step P)) (k : ℕ) (kept : IsKept count workers s) (at : Sits P count workers s id n steps) (held : held_after (first_held count workers n) steps ≡ Some k) where
    -- the desk holds the place, on the board too
    holds_it : slice_get (left_by count workers kept.run) k ≡ Some (held_by n)
    holds_it =
        let me = desk_member P count workers s id n steps kept at in
        (holders count workers kept.run kept.possible).true_of n k (ap (held_after (first_held count workers n)) me.stepped ∙ held)

    -- the place becomes q by the step t, and its slot comes home with y
    finish : (t : Step P) (q : Place P) (y : Option P) → May (left_by count workers kept.run) n t
        → after (left_by count workers kept.run) n t ≡ set (left_by count workers kept.run) k q
        → ((homes : Homes P count workers) → get_elem? homes k ≡ maybe.some (maybe.some y) → LiesWith homes k q)
        → IsKept count workers (record { words = set s.words k (code_of q); homes = set s.homes k (maybe.some y); views = set s.views id (desk_crew count workers n (steps ++ t ∷ [])) })
    finish t q y may becomes lies =
        let b = left_by count workers kept.run in
        let h : k < count = place_in_run count workers k kept.run (held_by n) holds_it in
        let in_words : k < length s.words = let l = kept.words_are in omega arith in
        let in_homes : k < length s.homes = let l = kept.homes_are in omega arith in
        let words' = set s.words k (code_of q) in
        let homes' = set s.homes k (maybe.some y) in
        let new : Shows words' homes' k q = (get_or-set_same s.words k (code_of q) 0 in_words, lies homes' (set_here s.homes k (maybe.some y) in_homes)) in
        let shows' = put P b s.words words' s.homes homes' k q kept.each_place (λ j ne. get_or-set_other s.words k j (code_of q) 0 ne) (λ j ne. set_else s.homes k j (maybe.some y) ne) new in
        let others : (j w : ℕ) → w ≢ n → slice_get b j ≡ Some (held_by w) → get_elem? homes' j ≡ get_elem? s.homes j =
        (λ j w ne hj.
        let apart : j ≢ k = (λ x. let o : ◌≡◌ {A = Place P} (held_by n) (held_by w) = same_Some (held_by n) (held_by w) (sym holds_it ∙ (ap (slice_get b) (sym x) ∙ hj)) in ne (cc)) in
        set_else s.homes k j (maybe.some y) apart) in
        advance P count workers s id n steps t words' homes' kept at may (length-set s.words k (code_of q)) (length-set s.homes k (maybe.some y))
        (λ j p e. shows' j p (ap (λ (l : List (Place P)). slice_get l j) (sym becomes) ∙ e)) others

    word_is : slice_index s.words k ≡ 1
    word_is = (kept.each_place k (held_by n) holds_it).0

  pub delivers : (slots id n : ℕ) (steps : List (Step P)) (k : ℕ) (x : P) → held_after (first_held count workers n) steps ≡ Some k
      → Allows (λ (s : Table' P count workers). IsKept count workers s) slots id (desk_crew count workers n steps, (k, Some x) ∷ []) k (λ m. either (eqb m 1) 2 m) (Delivers (step slots k 1 2 maybe.none) (desk_crew count workers n steps, (k, Some x) ∷ []))
  delivers slots id n steps k x held s kept len at fits =
      let t = Deliver k x in
      let Ends : ℕ → Type 0 =
      λ found. (w : Crew P) × (a : Act (Option P)) × Valid s.homes ((k, Some x) ∷ []) a × IsKept count workers (stepped s k (either (eqb found 1) 2 found) id ((k, Some x) ∷ []) w a)
      × Delivers (step slots k 1 2 maybe.none) (desk_crew count workers n steps, (k, Some x) ∷ []) found (w, carried_after ((k, Some x) ∷ []) a) in
      let kept' = finish s id n steps k kept at held t (done_by n x) (Some x) (holds_it s id n steps k kept at held) refl (λ homes e. e) in
      subst Ends (sym (word_is s id n steps k kept at held)) (desk_crew count workers n (steps ++ t ∷ []), gives, tt, kept', refl)

  pub gives_up : (slots id n : ℕ) (steps : List (Step P)) (k : ℕ) → held_after (first_held count workers n) steps ≡ Some k
      → Allows (λ (s : Table' P count workers). IsKept count workers s) slots id (desk_crew count workers n steps, (k, None) ∷ []) k (λ m. either (eqb m 1) 3 m) (GivesUp (step slots k 1 3 maybe.none) (desk_crew count workers n steps, (k, None) ∷ []))
  gives_up slots id n steps k held s kept len at fits =
      let t = GiveUp k in
      let Ends : ℕ → Type 0 =
      λ found. (w : Crew P) × (a : Act (Option P)) × Valid s.homes ((k, None) ∷ []) a × IsKept count workers (stepped s k (either (eqb found 1) 3 found) id ((k, None) ∷ []) w a)
      × GivesUp (step slots k 1 3 maybe.none) (desk_crew count workers n steps, (k, None) ∷ []) found (w, carried_after ((k, None) ∷ []) a) in
      let kept' = finish s id n steps k kept at held t (given_up_by n) None (holds_it s id n steps k kept at held) refl (λ homes e. e) in
      subst Ends (sym (word_is s id n steps k kept at held)) (desk_crew count workers n (steps ++ t ∷ []), gives, tt, kept', refl)

  -- ---- fetch the slot of the first place

  abbrev Owed : ℕ → Seated P
  Owed n = (crew count workers (member n true [] ∷ []), [])

  pub fetches : (slots id n : ℕ) → n < count
      → Allows (λ (s : Table' P count workers). IsKept count workers s) slots id (Owed n) n (λ m. m) (Fetches (step slots n 0 0 maybe.none) (Owed n))
  fetches slots id n h s kept len at fits =
      let me = kept.each_member id 0 (crew count workers (member n true [] ∷ [])) (member n true []) at refl in
      let due = me.owed refl in
      let held = holds_first P count workers s kept n h me.numbered me.stepped in
      let homes' = set s.homes n maybe.none in
      let same : set s.words n (slice_index s.words n) ≡ s.words = set-get_or s.words n 0 in
      let new = desk_crew count workers n [] in
      let kept' : IsKept count workers (stepped s n (slice_index s.words n) id [] new (takes n None)) =
      record {
        run = kept.run;
        owner = kept.owner;
        possible = kept.possible;
        words_are = ap length same ∙ kept.words_are;
        homes_are = length-set s.homes n maybe.none ∙ kept.homes_are;
        each_place = λ k p e.
            let old = kept.each_place k p e in
            let W : List ℕ → Type 0 = λ ws. Shows ws homes' k p in
            subst W (sym same) (
            elim (ℕ_discrete k n) [
              | yes x ↦
                  let at_n : slice_get (left_by count workers kept.run) k ≡ Some (held_by n) = ap (slice_get (left_by count workers kept.run)) x ∙ held in
                  let pe : held_by n ≡ p = same_Some (held_by n) p (sym at_n ∙ e) in
                  let M : Place P → Type 0 = λ r. slice_index s.words k ≡ code_of r → Shows s.words homes' k r in
                  subst M pe (λ word. (word, tt)) old.0
              | no ne ↦ (old.0, lies_same P s.homes homes' k p (set_else s.homes n k maybe.none ne) old.1)
            ]);
        strangers = kept.strangers;
        each_member = λ j i v m e f.
            ⊎_elim
            (λ here.
            let V : Crew P → Type 0 = λ u. slice_get u.members i ≡ Some m → IsTrueOf count workers kept.run kept.owner homes' j u m in
            subst V here.1 (λ g.
            let M : Member P → Type 0 = λ d. IsTrueOf count workers kept.run kept.owner homes' j new d in
            subst M (only_one (member n false []) i m g) (record {
              count_is = refl;
              workers_is = refl;
              owned = me.owned ∙ sym here.0;
              numbered = me.numbered;
              stepped = me.stepped;
              owed = λ o. absurd (cc);
            })) f)
            (λ there.
            let old = kept.each_member j i v m there.1 f in
            let ne : m.number ≢ n = (λ x. there.0 (sym old.owned ∙ (ap kept.owner x ∙ me.owned))) in
            record {
              count_is = old.count_is;
              workers_is = old.workers_is;
              owned = old.owned;
              numbered = old.numbered;
              stepped = old.stepped;
              owed = λ o. let x = old.owed o in (x.0, x.1, set_else s.homes n m.number maybe.none ne ∙ x.2);
            })
            (at_set s.views id j new v e);
        apart = λ j v e k.
            ⊎_elim
            (λ here. let V : Crew P → Type 0 = λ u. times_in k u.members ≤ 1 in subst V here.1 (kept.apart id (crew count workers (member n true [] ∷ [])) at k))
            (λ there. kept.apart j v there.1 k)
            (at_set s.views id j new v e);
      } in
      (new, takes n None, due.2, kept', refl)
