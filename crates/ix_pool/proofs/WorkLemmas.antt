-- Stretches of a worker's work, and how two of them make one.
use Rattle.std.proofs.Common.{◌≡◌, ℕ, ◌<◌, List, [], ◌∷◌, ◌++◌, refl, sym, ap, subst, ◌∙◌, ⊎_elim, append_assoc, append-nil, arith, All}
use Rattle.std.specs.Prelude.{Option, Some, None, Ok, Err, Result, IfOk, IfErr, ◌↔◌}
use Rattle.std.proofs.lemmas.List.Elements.{All-append, All-nil, All-cons, Contains-push, Contains-push_cases}
use Rattle.ix_board.specs.declared.step.Step.{Step}
use Rattle.ix_board.specs.declared.step.Step.TheVariants.{Claim, Deliver, GiveUp, Look}
use Rattle.ix_board.specs.Desks.{BoardView, DeskView, with_steps, place_held}
use Rattle.ix_pool.specs.declared.maker.MakeError.{MakeError}
use Rattle.ix_pool.specs.declared.worker.Refusal.{Refusal}
use Rattle.ix_pool.specs.declared.maker.Asked.{Asked}
use Rattle.ix_pool.specs.Askings.{asking, first_place, NoneRefused, IsLowestRefused}
use Rattle.ix_pool.specs.Lowest.{IsLowest}
use Rattle.ix_pool.specs.Taking.{FinishNone, TakesPlace, FindsNone, HandsIn}
use Rattle.ix_pool.specs.Working.{Answers, Stint}
use Rattle.ix_pool.proofs.LowestLemmas.{none_refused-append, lowest_before}

then_first : (a b : List Asked) (before between after : Option ℕ) → ((k : ℕ) → before ≡ Some k → first_place a between ≡ Some k) → ((k : ℕ) → between ≡ Some k → first_place b after ≡ Some k)
    → (k : ℕ) → before ≡ Some k → first_place (a ++ b) after ≡ Some k
then_first [] b before between after one other k e = other k (one k e)
then_first (x ∷ a) b before between after one other k e = one k e

module _ {P : Type 0} where
  answers_none : (gives : ℕ → P → Type 0) (steps : List (Step P)) → FinishNone steps → Answers gives steps []
  answers_none gives [] none = tt
  answers_none gives (Claim k ∷ steps) none = answers_none gives steps none
  answers_none gives (Look k ∷ steps) none = answers_none gives steps none
  answers_none gives (Deliver k x ∷ steps) none = none
  answers_none gives (GiveUp k ∷ steps) none = none

  answers-append : (gives : ℕ → P → Type 0) (steps more : List (Step P)) (asked then_asked : List Asked) → Answers gives steps asked → Answers gives more then_asked → Answers gives (steps ++ more) (asked ++ then_asked)
  answers-append gives [] more [] then_asked one other = other
  answers-append gives [] more (a ∷ asked) then_asked one other = absurd one
  answers-append gives (Claim k ∷ steps) more asked then_asked one other = answers-append gives steps more asked then_asked one other
  answers-append gives (Look k ∷ steps) more asked then_asked one other = answers-append gives steps more asked then_asked one other
  answers-append gives (Deliver k x ∷ steps) more [] then_asked one other = absurd one
  answers-append gives (Deliver k x ∷ steps) more (a ∷ asked) then_asked one other = (one.0, one.1, answers-append gives steps more asked then_asked one.2 other)
  answers-append gives (GiveUp k ∷ steps) more [] then_asked one other = absurd one
  answers-append gives (GiveUp k ∷ steps) more (a ∷ asked) then_asked one other = (one.0, answers-append gives steps more asked then_asked one.1 other)

  answers_along : (gives others : ℕ → P → Type 0) → ((k : ℕ) (x : P) → gives k x → others k x) → (steps : List (Step P)) (asked : List Asked) → Answers gives steps asked → Answers others steps asked
  answers_along gives others to [] [] one = tt
  answers_along gives others to [] (a ∷ asked) one = one
  answers_along gives others to (Claim k ∷ steps) asked one = answers_along gives others to steps asked one
  answers_along gives others to (Look k ∷ steps) asked one = answers_along gives others to steps asked one
  answers_along gives others to (Deliver k x ∷ steps) [] one = one
  answers_along gives others to (Deliver k x ∷ steps) (a ∷ asked) one = (one.0, to k x one.1, answers_along gives others to steps asked one.2)
  answers_along gives others to (GiveUp k ∷ steps) [] one = one
  answers_along gives others to (GiveUp k ∷ steps) (a ∷ asked) one = (one.0, answers_along gives others to steps asked one.1)

  pub no_steps : (desk : DeskView P) → desk ≡ with_steps desk []
  no_steps desk = ap (λ (steps : List (Step P)). record { board = desk.board; number = desk.number; steps = steps }) (sym (append-nil desk.steps))

  pub more_steps : (desk mid new : DeskView P) (steps more : List (Step P)) → mid ≡ with_steps desk steps → new ≡ with_steps mid more → new ≡ with_steps desk (steps ++ more)
  more_steps desk mid new steps more one other =
      other ∙ (ap (λ (d : DeskView P). with_steps d more) one ∙ ap (λ (l : List (Step P)). record { board = desk.board; number = desk.number; steps = l }) (append_assoc desk.steps steps more))

  pub same_board : (desk new : DeskView P) (steps : List (Step P)) → new ≡ with_steps desk steps → new.board ≡ desk.board
  same_board desk new steps e = ap (λ (d : DeskView P). d.board) e

pub none_refused_of_none : NoneRefused []
none_refused_of_none asked c = let h : c.0 < 0 = c.1 in absurd (omega arith)

none_refused_of_one : (k : ℕ) → NoneRefused (asking k None ∷ [])
none_refused_of_one k asked c =
    ⊎_elim (λ none. none_refused_of_none asked none) (λ e. ap (λ (a : Asked). a.error) (sym e)) (Contains-push_cases [] (asking k None) asked c)

lowest_of_one : (k : ℕ) (error : MakeError) → IsLowestRefused (asking k (Some error) ∷ []) k error
lowest_of_one k error = record {
  refused = Contains-push [] (asking k (Some error));
  lowest = λ asked other c e.
      ⊎_elim
      (λ none. let h : none.0 < 0 = none.1 in absurd (omega arith))
      (λ is. let same : k ≡ asked.place = ap (λ (a : Asked). a.place) is in omega arith)
      (Contains-push_cases [] (asking k (Some error)) asked c);
}

joined_alone : (askings more : List Asked) (lowest : Option Refusal) → IsLowest askings lowest → NoneRefused more → IsLowest (askings ++ more) lowest
joined_alone askings more None one other = none_refused-append askings more one other
joined_alone askings more (Some r) one other = lowest_before askings more r one other

module _ {M P : Type 0} (askings : M → List Asked) (gives : M → ℕ → P → Type 0) (follows : M → M → Type 0)
    (itself : (m : M) → follows m m) (on : (l m n : M) → follows l m → follows m n → follows l n) where
  abbrev Spell : M → DeskView P → M → DeskView P → Option Refusal → Type 0
  Spell m d n e lowest = Stint askings gives follows m d n e lowest

  -- steps that end the work on no place, of a desk whose maker stays
  idle_stint : (m : M) (d e : DeskView P) (steps : List (Step P)) → e ≡ with_steps d steps → FinishNone steps → ((k : ℕ) → place_held d ≡ Some k → place_held e ≡ Some k) → Spell m d m e None
  idle_stint m d e steps is none held = record {
    steps = steps;
    asked = [];
    desk_is = is;
    grown = sym (append-nil (askings m));
    answers = answers_none (gives m) steps none;
    below = All-nil (λ (a : Asked). a.place < d.board.count);
    first = held;
    keeps = λ k x. (λ h. h, λ h. h);
    goes_on = itself m;
    lowest_is = none_refused_of_none;
  }

  -- before any work
  pub no_stint : (m : M) (d : DeskView P) → Spell m d m d None
  no_stint m d = idle_stint m d d [] (no_steps d) tt (λ k e. e)

  -- two stretches, one after the other
  pub then_stint : (m : M) (d : DeskView P) (n : M) (e : DeskView P) (p : M) (f : DeskView P) (lowest more all : Option Refusal) → Spell m d n e lowest → Spell n e p f more
      → ((a b : List Asked) → IsLowest a lowest → IsLowest b more → IsLowest (a ++ b) all) → Spell m d p f all
  then_stint m d n e p f lowest more all one other joined =
      let board : e.board ≡ d.board = same_board d e one.steps one.desk_is in
      let Below : BoardView → Type 0 = λ b. All (λ (a : Asked). a.place < b.count) other.asked in
      record {
        steps = one.steps ++ other.steps;
        asked = one.asked ++ other.asked;
        desk_is = more_steps d e f one.steps other.steps one.desk_is other.desk_is;
        grown = other.grown ∙ (ap (λ (l : List Asked). l ++ other.asked) one.grown ∙ append_assoc (askings m) one.asked other.asked);
        answers = answers-append (gives m) one.steps other.steps one.asked other.asked one.answers (answers_along (gives n) (gives m) (λ k x. (one.keeps k x).0) other.steps other.asked other.answers);
        below = All-append (λ (a : Asked). a.place < d.board.count) one.asked other.asked one.below (subst Below board other.below);
        first = then_first one.asked other.asked (place_held d) (place_held e) (place_held f) one.first other.first;
        keeps = λ k x. (λ h. (one.keeps k x).0 ((other.keeps k x).0 h), λ h. (other.keeps k x).1 ((one.keeps k x).1 h));
        goes_on = on m n p one.goes_on other.goes_on;
        lowest_is = joined one.asked other.asked one.lowest_is other.lowest_is;
      }

  -- room is made for a maker, whose desk stays
  pub reserved_stint : (m n : M) (d : DeskView P) → askings n ≡ askings m → ((k : ℕ) (x : P) → gives n k x ↔ gives m k x) → follows m n → Spell m d n d None
  reserved_stint m n d same keeps goes_on = record {
    steps = [];
    asked = [];
    desk_is = no_steps d;
    grown = same ∙ sym (append-nil (askings m));
    answers = tt;
    below = All-nil (λ (a : Asked). a.place < d.board.count);
    first = λ k e. e;
    keeps = keeps;
    goes_on = goes_on;
    lowest_is = none_refused_of_none;
  }

  -- the desk comes to a place
  pub took_stint : (m : M) (d e : DeskView P) (place : ℕ) → TakesPlace d e place → Spell m d m e None
  took_stint m d e place takes = idle_stint m d e takes.steps takes.desk_is takes.finish_none (λ k own. takes.held ∙ ap Some (sym (takes.same k own)))

  -- the desk finds that no place is open
  pub found_none_stint : (m : M) (d e : DeskView P) → FindsNone d e → Spell m d m e None
  found_none_stint m d e finds = idle_stint m d e finds.steps finds.desk_is finds.finish_none (λ k own. absurd (finds.free k own))

  -- the maker is asked for the place that its desk holds, and what comes of it is handed in
  pub made_stint : (m n : M) (d e : DeskView P) (place : ℕ) (made : Result P MakeError) (refusal : Option Refusal) → place_held d ≡ Some place → place < d.board.count
      → IfOk made (λ x. askings n ≡ askings m ++ asking place None ∷ []) → IfErr made (λ error. askings n ≡ askings m ++ asking place (Some error) ∷ []) → IfOk made (gives m place)
      → ((k : ℕ) (x : P) → gives n k x ↔ gives m k x) → follows m n → HandsIn d e place made refusal → Spell m d n e refusal
  made_stint m n d e place (Ok x) refusal held below asked refused given keeps goes_on handed = record {
    steps = Deliver place x ∷ [];
    asked = asking place None ∷ [];
    desk_is = handed.0;
    grown = asked;
    answers = (refl, given, tt);
    below = All-cons (λ (a : Asked). a.place < d.board.count) (asking place None) [] below (All-nil (λ (a : Asked). a.place < d.board.count));
    first = λ k own. sym held ∙ own;
    keeps = keeps;
    goes_on = goes_on;
    lowest_is = subst (IsLowest (asking place None ∷ [])) (sym handed.2) (none_refused_of_one place);
  }
  made_stint m n d e place (Err error) refusal held below asked refused given keeps goes_on handed = record {
    steps = GiveUp place ∷ [];
    asked = asking place (Some error) ∷ [];
    desk_is = handed.0;
    grown = refused;
    answers = ((error, refl), tt);
    below = All-cons (λ (a : Asked). a.place < d.board.count) (asking place (Some error)) [] below (All-nil (λ (a : Asked). a.place < d.board.count));
    first = λ k own. sym held ∙ own;
    keeps = keeps;
    goes_on = goes_on;
    lowest_is = subst (IsLowest (asking place (Some error) ∷ [])) (sym handed.2) (lowest_of_one place error);
  }

  -- a further stretch in which nothing was refused
  pub then_unrefused : (m : M) (d : DeskView P) (n : M) (e : DeskView P) (p : M) (f : DeskView P) (lowest : Option Refusal) → Spell m d n e lowest → Spell n e p f None → Spell m d p f lowest
  then_unrefused m d n e p f lowest one other = then_stint m d n e p f lowest None lowest one other (λ a b. joined_alone a b lowest)
