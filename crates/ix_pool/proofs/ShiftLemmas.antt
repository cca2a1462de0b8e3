-- Shifts, as one more comes behind them.
use Rattle.std.proofs.Common.{◌≡◌, ℕ, Bool, false, List, [], ◌∷◌, ◌++◌, map, sym, ap, subst, ◌∙◌, append-nil}
use Rattle.std.specs.Prelude.{Option, flat_map}
use Rattle.std.proofs.lemmas.List.{map_push}
use Rattle.std.proofs.lemmas.List.Concat.{flat_map-cons}
use Rattle.std.proofs.lemmas.Grind.{flat_map-append}
use Rattle.std.proofs.lemmas.List.Elements.{All-push}
use Rattle.ix_board.specs.Desks.{DeskView}
use Rattle.ix_pool.specs.declared.worker.Refusal.{Refusal}
use Rattle.ix_pool.specs.declared.maker.Asked.{Asked}
use Rattle.ix_pool.specs.Lowest.{IsLowest}
use Rattle.ix_pool.specs.Working.{WholeStint}
use Rattle.ix_pool.specs.Shifts.{Shift, asked_in, HaveWorked}

module _ {M P : Type 0} (askings : M → List Asked) (gives : M → ℕ → P → Type 0) (follows : M → M → Type 0) where
  abbrev Work : Type 0
  Work = Shift askings gives follows

  abbrev All' : List M → List (DeskView P) → List M → List (DeskView P) → Option Refusal → Bool → Type 0
  All' ms ds ns es lowest stopped = HaveWorked askings gives follows ms ds ns es lowest stopped

  pushed : {B : Type 0} (f : Work → B) (shifts : List Work) (s : Work) (bs : List B) → map f shifts ≡ bs → map f (shifts ++ s ∷ []) ≡ bs ++ f s ∷ []
  pushed {B} f shifts s bs is = map_push f shifts s ∙ ap (λ (l : List B). l ++ f s ∷ []) is

  pub one_more : (ms : List M) (ds : List (DeskView P)) (ns : List M) (es : List (DeskView P)) (lowest : Option Refusal) (stopped : Bool)
      (m : M) (d : DeskView P) (n : M) (e : DeskView P) (its : Option Refusal) (it_stopped : Bool) (all : Option Refusal) (all_stopped : Bool)
      → All' ms ds ns es lowest stopped → WholeStint askings gives follows m d n e its it_stopped
      → ((a b : List Asked) → IsLowest a lowest → IsLowest b its → IsLowest (a ++ b) all)
      → (all_stopped ≡ false → (stopped ≡ false) × (it_stopped ≡ false))
      → All' (ms ++ m ∷ []) (ds ++ d ∷ []) (ns ++ n ∷ []) (es ++ e ∷ []) all all_stopped
  one_more ms ds ns es lowest stopped m d n e its it_stopped all all_stopped have whole joined none =
      let s : Work = record { maker = m; desk = d; new_maker = n; new_desk = e; lowest = its; stopped = it_stopped; work = whole } in
      let f : Work → List Asked = asked_in askings gives follows in
      let asked : flat_map f (have.shifts ++ s ∷ []) ≡ flat_map f have.shifts ++ whole.stint.asked =
      flat_map-append f have.shifts (s ∷ []) ∙ ap (λ (l : List Asked). flat_map f have.shifts ++ l) (flat_map-cons f s [] ∙ append-nil whole.stint.asked) in
      record {
        shifts = have.shifts ++ s ∷ [];
        makers_are = pushed (λ (t : Work). t.maker) have.shifts s ms have.makers_are;
        desks_are = pushed (λ (t : Work). t.desk) have.shifts s ds have.desks_are;
        new_makers_are = pushed (λ (t : Work). t.new_maker) have.shifts s ns have.new_makers_are;
        new_desks_are = pushed (λ (t : Work). t.new_desk) have.shifts s es have.new_desks_are;
        lowest_is = let I : List Asked → Type 0 = λ l. IsLowest l all in subst I (sym asked) (joined (flat_map f have.shifts) whole.stint.asked have.lowest_is whole.stint.lowest_is);
        none_stopped = λ e. All-push (λ (t : Work). t.stopped ≡ false) have.shifts s (have.none_stopped (none e).0) (none e).1;
      }
